-- An ended session leaves the same on both sides of each database that it showed whole.
use Rattle.std.proofs.lemmas.Grind.{common_steps}
use Rattle.std.proofs.Common.{append-nil, ◌≡◌, ◌∙◌, ◌<◌, ◌++◌, refl, ap, sym, subst, ℕ, suc, false, List, [], ◌∷◌, length, map, filter, arith}
use Rattle.std.specs.Prelude.{None, not}
use Rattle.std.specs.List.{AllByRecursion}
use Rattle.std.proofs.lemmas.Bool.Decides.{nat_tests}
use Rattle.std.proofs.lemmas.List.{take_all}
use Rattle.pdb_values.specs.Contents.{ContentValue}
use Rattle.pdb_values.specs.Records.{is_live}
use Rattle.pdb_values.specs.declared.record.Record.{Record}
use Rattle.palm_device.specs.FreshIds.{is_among}
use Rattle.palm_device.specs.Records.{clean}
use Rattle.palm_device.specs.Soundness.{AreIds, ids_of}
use Rattle.conduit_rules.specs.ById.{at, each_id, id_bound, with_id}
use Rattle.conduit_rules.specs.Plans.{purged_ids}
use Rattle.conduit_rules.specs.States.{held}
use Rattle.conduit_rules.specs.declared.action.Action.{Action}
use Rattle.conduit_rules.proofs.AgreedLaws.{RowsDiffer}
use Rattle.conduit_rules.proofs.PlanLaws.{IsRisingFrom, at-each_below, has, ids_of as row_ids, rising-with_id}
use Rattle.record_merge.specs.Merging.{merged_records, merged_rows, row_at, settled_record}
use Rattle.record_merge.specs.Writes.{Write, after, clearing, giving}
use Rattle.record_merge.proofs.AfterLaws.{after-append, after-clearing}
use Rattle.record_merge.proofs.HeldLaws.{sides-equal}
use Rattle.record_merge.proofs.PutLaws.{differ-ids}
use Rattle.session_plan.specs.Tasks.{Meeting, task_of}
use Rattle.front_laws.specs.Meetings.{IsActive, action_at, found_of, holding_after, ids_at}
use Rattle.front_laws.specs.Repeats.{Finding, GotAllIds, GotIds, IsRead, chosen, ended, shown}
use Rattle.front_laws.proofs.CommitLaws.{no_zero}
use Rattle.front_laws.proofs.MeetingLaws.{reading-shows}
use Rattle.front_laws.proofs.NewsLaws.{whole-is}
use Rattle.front_laws.proofs.SoundLaws.{read-commit}
use Rattle.front_laws.proofs.WholeLaws.{holds-end}
use Rattle.front_laws.specs.Equal.{AreUnmarked, HasEqualSides, IsShownWhole, IsUnmarked}
use Rattle.front_laws.specs.Sound.{IsSoundMeeting}
use Rattle.front_laws.proofs.ReadyLaws.{handheld-sound}

-- ---- the desktop's rows

among-rising : (i low : ℕ) (is : List ℕ) (end : ℕ) → i < low → IsRisingFrom low is end → is_among i is ≡ false
among-rising i low [] end l rising = refl
among-rising i low (j ∷ is) end l rising = grind (arith, nat_tests, among-rising i (suc j) is end)

ids-rising : (low : ℕ) (is : List ℕ) (end : ℕ) → 0 < low → IsRisingFrom low is end → AreIds is
ids-rising low [] end l rising = tt
ids-rising low (i ∷ is) end l rising =
    (omega (arith, l, rising.0), among-rising i (suc i) is end (omega arith) rising.1, ids-rising (suc i) is end (omega arith) rising.1)

ids-from_zero : (is : List ℕ) (end : ℕ) → is_among 0 is ≡ false → IsRisingFrom 0 is end → AreIds is
ids-from_zero [] end none rising = tt
ids-from_zero (i ∷ is) end none rising =
    (grind (arith, nat_tests), among-rising i (suc i) is end (omega arith) rising.1, ids-rising (suc i) is end (omega arith) rising.1)

among-at : (i : ℕ) (es : List (ℕ × ContentValue)) → at i es ≡ None → is_among i (row_ids es) ≡ false
among-at i [] none = refl
among-at i (e ∷ es) none = grind (arith, nat_tests, among-at i es)

ids-settled : (es : List (ℕ × ContentValue)) → ids_of (map settled_record es) ≡ row_ids es
ids-settled [] = refl
ids-settled (e ∷ es) = ap (λ is. e.0 ∷ is) (ids-settled es)

all-settled : (es : List (ℕ × ContentValue)) → AllByRecursion IsUnmarked (map settled_record es)
all-settled [] = tt
all-settled (e ∷ es) = ((refl, refl), all-settled es)

rows-unmarked : (a : Action) {x : Finding} (given : List ℕ) → IsRead x → GotIds a x given → AreUnmarked (merged_rows (chosen a x) given)
rows-unmarked a {x} given read got =
    let es = each_id (λ i. with_id i (row_at (chosen a x) given i)) in
    let none : at 0 es ≡ None = at-each_below (row_at (chosen a x) given) id_bound 0 ∙ no_zero a given read got in
    record {
      ids = subst AreIds (sym (ids-settled es)) (ids-from_zero (row_ids es) id_bound (among-at 0 es none) (rising-with_id (row_at (chosen a x) given) id_bound));
      each = all-settled es;
    }

-- ---- the handheld's records

unmarked-clean : (records : List Record) → AllByRecursion IsUnmarked (map clean (filter is_live records))
unmarked-clean [] = tt
unmarked-clean (r ∷ records) = grind (arith, common_steps, unmarked-clean records)

-- behind all of its writes they are live and clean
unmarked-after : (ws : List Write) (a : Action) (x : Finding) → RowsDiffer (after ws x.records)
    → AllByRecursion IsUnmarked (after (ws ++ clearing (chosen a x) (shown x)) x.records)
unmarked-after ws a x differ =
    subst (AllByRecursion IsUnmarked)
    (sym (after-append ws (clearing (chosen a x) (shown x)) x.records ∙ after-clearing (chosen a x) (shown x) (after ws x.records) differ))
    (unmarked-clean (filter (λ r. not (has r.id (purged_ids (chosen a x).keep (shown x)))) (after ws x.records)))

records-unmarked : (a : Action) {x : Finding} (given : List ℕ) → IsRead x → GotIds a x given
    → AreUnmarked (merged_records (chosen a x) (shown x) given x.records)
records-unmarked a {x} given read got =
    let ws = giving (chosen a x) (shown x) given in
    let clears = clearing (chosen a x) (shown x) in
    let differ : RowsDiffer (after ws x.records) = differ-ids (after ws x.records)
    (subst (λ (vs : List Write). AreIds (ids_of (after vs x.records))) (append-nil ws) (read-commit a x given 0 read got).ids) in
    let ids : AreIds (ids_of (after (ws ++ clears) x.records)) =
    subst (λ (vs : List Write). AreIds (ids_of (after (ws ++ vs) x.records))) (take_all (length clears) clears (omega arith))
    (read-commit a x given (length clears) read got).ids in
    subst AreUnmarked (whole-is (chosen a x) (shown x) given x.records (differ-ids x.records read.ids) read.bounded read.shows got)
    (record { ids = ids; each = unmarked-after ws a x differ })

-- ---- both sides

pub ended-equal : (a : Action) {x : Finding} (given : List ℕ) → IsRead x → GotIds a x given → HasEqualSides (ended a x given)
ended-equal a {x} given read got =
    let differ = differ-ids x.records read.ids in
    record {
      handheld = records-unmarked a given read got;
      desktop = rows-unmarked a given read got;
      same = λ id. subst (λ (records : List Record). held records id ≡ held (merged_rows (chosen a x) given) id)
          (whole-is (chosen a x) (shown x) given x.records differ read.bounded read.shows got)
          (sides-equal (chosen a x) (shown x) given x.records differ read.bounded read.shows got id);
    }

pub holds-equal : (meeting : Meeting) (given name : List ℕ) → IsSoundMeeting meeting → IsActive meeting name → IsShownWhole meeting name
    → GotAllIds (action_at meeting name) (found_of meeting name) (ids_at meeting given name) → HasEqualSides (holding_after meeting given name)
holds-equal meeting given name sound is whole got =
    let own = handheld-sound sound (task_of meeting name) refl in
    let read = reading-shows meeting (task_of meeting name) own.ids own.bounded whole in
    subst HasEqualSides (sym (holds-end meeting given name is)) (ended-equal (action_at meeting name) (ids_at meeting given name) read got.got)
