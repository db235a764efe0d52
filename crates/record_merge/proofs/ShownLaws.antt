-- What a slow and a fast reading show of the records, and the merged records after either.
use Rattle.std.proofs.Common.{◌≡◌, ℕ, ◌&&◌, List, [], ◌∷◌, ◌++◌, refl, ap, ◌∙◌, sym, arith, Option, Some, None, Bool, true, false, not, if◌then◌else◌, nat_lt}
use Rattle.std.proofs.Common.{option_to_list}
use Rattle.std.specs.Option.{option_map}
use Rattle.std.proofs.lemmas.Bool.Decides.{nat_tests}
use Rattle.pdb_values.specs.Records.{is_live}
use Rattle.pdb_values.specs.declared.record.Record.{Record}
use Rattle.palm_device.specs.Soundness.{ids_of, AreIds}
use Rattle.conduit_rules.specs.ById.{id_bound, each_below}
use Rattle.conduit_rules.specs.States.{SideState, held_where, held, record_held, first, BaseState, base_at}
use Rattle.conduit_rules.specs.Views.{first_seen, seen_where, view_held, slow_seen, slow_view, fast_seen, fast_view, unread_where, IsHonest}
use Rattle.conduit_rules.specs.Choices.{Choice}
use Rattle.conduit_rules.specs.Plans.{replaced_rows}
use Rattle.conduit_rules.specs.declared.view.Seen.{Seen}
use Rattle.conduit_rules.proofs.ViewLaws.{view_held-fast, any_view, slow_held, fast_id}
use Rattle.conduit_rules.proofs.AgreedLaws.{RowsDiffer}
use Rattle.record_merge.specs.Writes.{after, numbered, replaces, giving, clearing, AreFree}
use Rattle.record_merge.specs.Merging.{merged_records, is_held_live, AreShown, ShowsNoOther, AreBounded}
use Rattle.record_merge.proofs.PutLaws.{differ-ids}
use Rattle.record_merge.proofs.AfterLaws.{after-all}

-- ---- what views show of records whose ids are those of records

pub bounded-none : (records : List Record) (i : ℕ) → AreBounded records → nat_lt i id_bound ≡ false → first i records ≡ None
bounded-none [] i bounded over = refl
bounded-none (r ∷ records) i bounded over = grind (arith, nat_tests, bounded.0, over, bounded-none records i bounded.1 over)

beyond : (b : Bool) (f : Record → Seen) (o : Option Record) → (b ≡ false → o ≡ None) → (if b then option_map f o else None) ≡ option_map f o
beyond b f o none = grind arith

shown_where : (f : Record → Seen) (records : List Record) (i : ℕ) → ((r : Record) → (f r).id ≡ r.id) → AreBounded records
    → first_seen i (each_below (λ j. option_to_list (option_map f (first j records))) id_bound) ≡ option_map f (first i records)
shown_where f records i keeps bounded = any_view f records i keeps ∙ beyond (nat_lt i id_bound) f (first i records) (bounded-none records i bounded)

-- a slow view shows what the records hold, under any id
pub slow_shows : (records : List Record) → AreBounded records → (i : ℕ) → view_held (slow_view records) i ≡ held records i
slow_shows records bounded i = ap seen_where (shown_where slow_seen records i (λ r. refl) bounded) ∙ slow_held (first i records)

-- so does a fast one where the records are honest
pub fast_shows : (base records : List Record) → AreBounded records → IsHonest base records → (i : ℕ)
    → view_held (fast_view base records) i ≡ held records i
fast_shows base records bounded honest i = by (nat_lt i id_bound) refl
  where
    by : (b : Bool) → nat_lt i id_bound ≡ b → view_held (fast_view base records) i ≡ held records i
    by true is = view_held-fast base records i is honest
    by false is = ap seen_where (shown_where (fast_seen base) records i (fast_id base) bounded)
        ∙ ap (λ o. seen_where (option_map (fast_seen base) o)) (bounded-none records i bounded is) ∙ sym (ap held_where (bounded-none records i bounded is))

-- ---- live is shown as live

pub live_held : (r : Record) → is_held_live (record_held r) ≡ is_live r
live_held r = grind arith

live_by : (p : Bool) (b : BaseState) (r : Record) → (not r.dirty && not r.deleted) ≡ p
    → is_held_live (seen_where (Some (if p then unread_where b r else slow_seen r))) ≡ is_live r
live_by p b r passed = grind arith

-- where each first record of its id is shown as live where it is live
abbrev pub LivesShow : (ℕ → SideState) → List Record → Type 0
LivesShow h records = (i : ℕ) (r : Record) → first i records ≡ Some r → is_held_live (h i) ≡ is_live r

-- then they are shown as what they are
pub are-shown : (h : ℕ → SideState) (records : List Record) → RowsDiffer records → AreBounded records → LivesShow h records → AreShown h records
are-shown h [] differ bounded lives = tt
are-shown h (x ∷ records) differ bounded lives =
    (bounded.0, lives x.id x (grind (arith, nat_tests)), are-shown h records differ.1 bounded.1 (λ i r e. lives i r (later i r e)))
  where
    later : (i : ℕ) (r : Record) → first i records ≡ Some r → first i (x ∷ records) ≡ Some r
    later i r e = grind (arith, nat_tests, e, differ.0)

-- a slow reading, and a fast one whether or not the records are honest
pub slow-shown : (records : List Record) → RowsDiffer records → AreBounded records → AreShown (view_held (slow_view records)) records
slow-shown records differ bounded =
    are-shown (view_held (slow_view records)) records differ bounded (λ i r e. ap is_held_live (slow_shows records bounded i ∙ ap held_where e) ∙ live_held r)

pub fast-shown : (base records : List Record) → RowsDiffer records → AreBounded records → AreShown (view_held (fast_view base records)) records
fast-shown base records differ bounded = are-shown (view_held (fast_view base records)) records differ bounded (λ i r e.
    ap (λ o. is_held_live (seen_where o)) (shown_where (fast_seen base) records i (fast_id base) bounded ∙ ap (option_map (fast_seen base)) e)
    ∙ live_by (not r.dirty && not r.deleted) (base_at base false r.id) r refl)

pub slow-no_other : (records : List Record) → AreBounded records → ShowsNoOther (view_held (slow_view records)) records
slow-no_other records bounded i none = slow_shows records bounded i ∙ ap held_where none

pub fast-no_other : (base records : List Record) → AreBounded records → ShowsNoOther (view_held (fast_view base records)) records
fast-no_other base records bounded i none = grind (arith, shown_where (fast_seen base) records i (fast_id base) bounded)

-- ---- carried out after a slow reading, and after a fast one

pub after-all_slow : (ch : Choice) (given : List ℕ) (records : List Record) → AreIds (ids_of records) → AreBounded records
    → AreFree (numbered given ch.adds) (after (replaces (replaced_rows ch.keep (view_held (slow_view records)))) records)
    → after (giving ch (view_held (slow_view records)) given ++ clearing ch (view_held (slow_view records))) records ≡ merged_records ch
    (view_held (slow_view records)) given records
after-all_slow ch given records ids bounded free =
    after-all ch (view_held (slow_view records)) given records (differ-ids records ids) (slow-shown records (differ-ids records ids) bounded)
    (slow-no_other records bounded) free

pub after-all_fast : (ch : Choice) (given : List ℕ) (base records : List Record) → AreIds (ids_of records) → AreBounded records
    → AreFree (numbered given ch.adds) (after (replaces (replaced_rows ch.keep (view_held (fast_view base records)))) records)
    → after (giving ch (view_held (fast_view base records)) given ++ clearing ch (view_held (fast_view base records))) records ≡ merged_records ch
    (view_held (fast_view base records)) given records
after-all_fast ch given base records ids bounded free =
    after-all ch (view_held (fast_view base records)) given records (differ-ids records ids) (fast-shown base records (differ-ids records ids) bounded)
    (fast-no_other base records bounded) free
