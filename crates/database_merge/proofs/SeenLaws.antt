-- The view of all records.
use Rattle.std.proofs.Common.{◌≡◌, ◌∙◌, ◌<◌, ℕ, List, [], ◌∷◌, ◌++◌, ◌+◌, ap, sym, get_or, length, map, take}
use Rattle.std.specs.Prelude.{All, IfOk, Result, Ok, Err}
use Rattle.std.specs.List.{AllByRecursion}
use Rattle.std.proofs.lemmas.Bool.{lt-ltb}
use Rattle.std.proofs.lemmas.List.Elements.{All-from_recursion, recursion_from_All}
use Rattle.pdb_values.specs.declared.record.Record.{Record}
use Rattle.conduit_rules.specs.ById.{id_bound}
use Rattle.conduit_rules.specs.Views.{slow_seen, slow_view}
use Rattle.conduit_rules.specs.declared.view.Seen.{Seen}
use Rattle.record_merge.specs.Merging.{AreBounded}
use Rattle.mirrors.specs.Entries.{AreBounded as AreSeenBounded, ordered}
use Rattle.mirrors.proofs.NewsLaws.{split_at}
use Rattle.std.proofs.lemmas.List.{map-append}
use Rattle.pdb_files.proofs.WriteLaws.{all_behind}
use Rattle.mirrors.proofs.ShownLaws.{ordered-slow}

-- the entries of all records in their order are the view, by a name that code can cite
pub ordered_map : (records : List Record) → ordered (map slow_seen records) ≡ slow_view records
ordered_map records = ordered-slow records

bounded_by : (records : List Record) → AllByRecursion (λ (entry : Seen). entry.id < id_bound) (map slow_seen records) → AreBounded records
bounded_by [] all = tt
bounded_by (r ∷ records) all = (lt-ltb r.id id_bound all.0, bounded_by records all.1)

pub bounded_seen : (records : List Record) → All (λ (entry : Seen). entry.id < id_bound) (map slow_seen records) → AreBounded records
bounded_seen records all = bounded_by records (recursion_from_All (λ (entry : Seen). entry.id < id_bound) (map slow_seen records) all)

-- one entry more
pub seen_more : (records : List Record) (k : ℕ) (r : Record) (seen new : List Seen) (s : Seen) → k < length records → r ≡ get_or records k r
    → s ≡ slow_seen r → new ≡ seen ++ s ∷ [] → seen ≡ map slow_seen (take k records) → new ≡ map slow_seen (take (k + 1) records)
seen_more records k r seen new s within is shows push before =
    push ∙ ap (λ xs. xs ++ s ∷ []) before ∙ ap (λ x. map slow_seen (take k records) ++ x ∷ []) shows
    ∙ sym (ap (map slow_seen) (split_at records k r within is).next ∙ map-append slow_seen (take k records) (r ∷ []))

pub bounded_more : (seen : List Seen) (s : Seen) → AreSeenBounded seen → s.id < id_bound → AreSeenBounded (seen ++ s ∷ [])
bounded_more seen s all one =
    let P : Seen → Type 0 = λ entry. entry.id < id_bound in
    All-from_recursion P (seen ++ s ∷ []) (all_behind P seen s (recursion_from_All P seen all) one)

pub if_ok_any : {A E P : Type 0} (result : Result A E) → P → IfOk result (λ _. P)
if_ok_any (Ok a) is = is
if_ok_any (Err e) is = tt
