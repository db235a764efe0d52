-- Rows grow by one, and are settled in rising ids.
use Rattle.std.proofs.Common.{◌≡◌, ◌∙◌, ◌<◌, ◌+◌, ◌==◌, ap, refl, sym, eqb-true, lt-ltb, ℕ, Bool, true, false, List, []}
use Rattle.std.proofs.Common.{◌∷◌, ◌++◌, map, take, length, get_or, append_assoc, arith}
use Rattle.std.proofs.lemmas.List.{length-take-le, map-append}
use Rattle.std.specs.Prelude.{Option, Some, nat_lt, option_to_list, if◌then◌else◌}
use Rattle.session_plan.proofs.PlanWords.{ContentValue, IsPlan, Plan}
use Rattle.pdb_values.specs.declared.record.Record.{Record}
use Rattle.conduit_rules.specs.ById.{at, each_id, id_bound, with_id}
use Rattle.conduit_rules.specs.Choices.{Sides, choice_for}
use Rattle.conduit_rules.specs.Views.{first_seen}
use Rattle.conduit_rules.specs.declared.action.Action.{Action}
use Rattle.conduit_rules.specs.declared.view.Seen.{Seen}
use Rattle.conduit_rules.proofs.ByIdLaws.{each_below-same}
use Rattle.conduit_rules.proofs.PlanLaws.{at-each_below, at-append}
use Rattle.record_merge.specs.Merging.{gone_record, merged_base, merged_rows, row_at, settled_record}
use Rattle.record_merge.specs.Writes.{numbered}
use Rattle.mirrors.specs.Entries.{ordered}
use Rattle.mirrors.proofs.NewsLaws.{split_at}
use Rattle.session_plan.proofs.SeenCountLaws.{map-each_below}
use Rattle.session_plan.specs.Rows.{planned_base, planned_rows, row_entries, row_seen}

pub rows_on : (old now new : List Seen) (es more : List (ℕ × ContentValue)) (e : ℕ × ContentValue) → new ≡ now ++ row_seen e ∷ []
    → now ≡ old ++ map row_seen es → more ≡ es ++ e ∷ [] → new ≡ old ++ map row_seen more
rows_on old now new es more e is before grows =
    rw (is, before, grows) (simp (append_assoc, map-append))

-- ---- numbers

pub numbered-push : (gs : List ℕ) (cs : List ContentValue) (g : ℕ) (c : ContentValue) → length gs ≡ length cs
    → numbered (gs ++ g ∷ []) (cs ++ c ∷ []) ≡ numbered gs cs ++ (g, c) ∷ []
numbered-push [] [] g c same = refl
numbered-push [] (d ∷ cs) g c same = absurd (omega arith)
numbered-push (h ∷ gs) [] g c same = absurd (omega arith)
numbered-push (h ∷ gs) (d ∷ cs) g c same = ap (λ es. (h, d) ∷ es) (numbered-push gs cs g c (omega arith))

pub numbered_more : (gs : List ℕ) (cs : List ContentValue) (k g : ℕ) (c : ContentValue) → length gs ≡ length cs → k < length cs → g ≡ get_or gs k g
    → c ≡ get_or cs k c → numbered (take (k + 1) gs) (take (k + 1) cs) ≡ numbered (take k gs) (take k cs) ++ (g, c) ∷ []
numbered_more gs cs k g c same within g_is c_is =
    let one = split_at gs k g (omega arith) g_is in
    let two = split_at cs k c within c_is in
    rw (one.next, two.next)
    (numbered-push (take k gs) (take k cs) g c (length-take-le k gs (omega arith) ∙ sym (length-take-le k cs (omega arith))))

-- ---- in rising ids

abbrev settled_seen : Seen → Record
settled_seen seen = settled_record (seen.id, seen.content)

settled_by : (b : Bool) (i : ℕ) (e : ℕ × ContentValue) (found : Option Seen) (there : Option ContentValue) → (b ≡ true → e.0 ≡ i)
    → map settled_seen (option_to_list found) ≡ map settled_record (with_id i there)
    → map settled_seen (option_to_list (if b then Some (row_seen e) else found)) ≡ map settled_record (with_id i (if b then Some e.1 else there))
settled_by true i e found there same later = ap (λ n. settled_record (n, e.1) ∷ []) (same refl)
settled_by false i e found there same later = later

settled_at : (i : ℕ) (es : List (ℕ × ContentValue))
    → map settled_seen (option_to_list (first_seen i (map row_seen es))) ≡ map settled_record (with_id i (at i es))
settled_at i [] = refl
settled_at i (e ∷ es) = settled_by (e.0 == i) i e (first_seen i (map row_seen es)) (at i es) (λ is. eqb-true e.0 i is) (settled_at i es)

pub settled-ordered : (es : List (ℕ × ContentValue))
    → map (λ (seen : Seen). settled_record (seen.id, seen.content)) (ordered (map row_seen es)) ≡ map settled_record (each_id (λ i. with_id i (at i es)))
settled-ordered es =
    map-each_below settled_seen (λ i. option_to_list (first_seen i (map row_seen es))) id_bound
    ∙ each_below-same (λ i. map settled_seen (option_to_list (first_seen i (map row_seen es)))) (λ i. map settled_record (with_id i (at i es))) id_bound
    (λ i less. settled_at i es)
    ∙ sym (map-each_below settled_record (λ i. with_id i (at i es)) id_bound)

-- ---- from a plan

merged_at : (a : Action) (s : Sides) (plan : Plan) (given : List ℕ) (i : ℕ) → IsPlan a s plan → i < id_bound
    → with_id i (at i (row_entries plan given)) ≡ with_id i (row_at (choice_for a s) given i)
merged_at a s plan given i is less =
    let below : nat_lt i id_bound ≡ true = lt-ltb i id_bound less in
    let keep : ℕ → Option ContentValue = (choice_for a s).keep in
    let kept : at i plan.kept.items ≡ keep i = rw (is.kept, at-each_below keep id_bound i, below) in
    rw (at-append i plan.kept.items (numbered given plan.adds.items), kept, is.adds)

pub rows-merged : (a : Action) (s : Sides) (plan : Plan) (given : List ℕ) → IsPlan a s plan → planned_rows plan given ≡ merged_rows (choice_for a s) given
rows-merged a s plan given is =
    ap (map settled_record) (each_below-same (λ i. with_id i (at i (row_entries plan given))) (λ i. with_id i (row_at (choice_for a s) given i)) id_bound
    (λ i less. merged_at a s plan given i is less))

pub base-merged : (a : Action) (s : Sides) (plan : Plan) (given : List ℕ) → IsPlan a s plan
    → planned_base plan given ≡ merged_base (choice_for a s) s.handheld given
base-merged a s plan given is =
    ap (λ rows. rows ++ map gone_record plan.gone.items) (rows-merged a s plan given is)
    ∙ ap (λ gone. merged_rows (choice_for a s) given ++ map gone_record gone) is.gone
