-- A session that isn't refused costs the desktop no live row by a handheld that is a stranger, or lost a database.
use Rattle.std.proofs.lemmas.Bool.{or_parts}
use Rattle.std.proofs.lemmas.Bool.Decides.{nat_tests}
use Rattle.std.proofs.lemmas.List.Sums.{sum_by-cons}
use Rattle.std.proofs.Common.{◌≡◌, ◌∙◌, ◌+◌, ◌<◌, ◌||◌, ◌&&◌, ◌++◌, refl, ap, sym, subst, arith, ℕ, zero, suc, Bool, true, false, not, List, [], ◌∷◌, length, map, sum_by}
use Rattle.std.specs.Prelude.{◌==◌, if◌then◌else◌}
use Rattle.std.specs.List.{AllByRecursion, list_any}
use Rattle.pdb_values.specs.Contents.{ContentValue}
use Rattle.pdb_values.specs.Records.{is_live}
use Rattle.pdb_values.specs.declared.record.Record.{Record}
use Rattle.conduit_rules.specs.Choices.{Choice}
use Rattle.conduit_rules.specs.Contents.{same_content}
use Rattle.conduit_rules.specs.Plans.{kept_rows}
use Rattle.conduit_rules.specs.declared.action.Action.{Action}
use Rattle.conduit_rules.specs.declared.action.Action.TheVariants.{Sync}
use Rattle.conduit_rules.proofs.ContentLaws.{same_content-same}
use Rattle.record_merge.specs.Merging.{is_archived, merged_entries, one_copy_behind, settled_record}
use Rattle.record_merge.specs.Writes.{numbered}
use Rattle.record_merge.proofs.ArchiveLaws.{copies-stand, is_equal, same_entry}
use Rattle.record_merge.proofs.CountLaws.{new-free, sum-rows}
use Rattle.session_plan.specs.Losses.{is_among, is_lost, is_strange, stays}
use Rattle.session_plan.specs.Tasks.{Meeting, task_of}
use Rattle.front_laws.specs.Again.{LosesNone}
use Rattle.front_laws.specs.Equal.{IsShownWhole}
use Rattle.front_laws.specs.Losses.{LeavesEach, MightLose, has_left, has_lost, loses_rows}
use Rattle.front_laws.specs.Meetings.{IsActive, action_at, found_of, holding_after, ids_at}
use Rattle.front_laws.specs.Repeats.{Ending, Finding, GotAllIds, IsRead, chosen, ended, shown}
use Rattle.front_laws.specs.Sound.{IsSoundMeeting}
use Rattle.front_laws.proofs.LossLaws.{lost-sync, none-of}
use Rattle.front_laws.proofs.MeetingLaws.{reading-shows}
use Rattle.front_laws.proofs.ReadyLaws.{handheld-sound}
use Rattle.front_laws.proofs.WholeLaws.{holds-end}

-- ---- counts of a content

-- 1 for an entry that has it
abbrev weight : ContentValue → ℕ × ContentValue → ℕ
weight c e = if same_content e.1 c then 1 else 0

weighed : (b : Bool) (n m : ℕ) → n ≡ (if b then 1 else 0) + m → b ≡ true → 0 < n
weighed b n m sum is = let P : ℕ → Type 0 = λ k. k ≡ 1 in let one : P (if b then 1 else 0) = rw is refl in omega (arith, sum, one)

heavier : (n m : ℕ) (b : Bool) → n ≡ (if b then 1 else 0) + m → 0 < m → 0 < n
heavier n m b sum some = omega (arith, sum, some)

counted-among : (c : ContentValue) (es : List (ℕ × ContentValue)) → is_among es c ≡ true → 0 < sum_by (weight c) es
counted-among c [] is = absurd cc
counted-among c (e ∷ es) is = by (same_content e.1 c) refl is (counted-among c es)
  where
    sum : sum_by (weight c) (e ∷ es) ≡ weight c e + sum_by (weight c) es
    sum = sum_by-cons (weight c) e es

    by : (b : Bool) → same_content e.1 c ≡ b → (b || is_among es c) ≡ true → (is_among es c ≡ true → 0 < sum_by (weight c) es)
        → 0 < sum_by (weight c) (e ∷ es)
    by true here is rest = weighed (same_content e.1 c) (sum_by (weight c) (e ∷ es)) (sum_by (weight c) es) sum here
    by false other is rest = heavier (sum_by (weight c) (e ∷ es)) (sum_by (weight c) es) (same_content e.1 c) sum (rest is)

among-counted : (c : ContentValue) (es : List (ℕ × ContentValue)) → 0 < sum_by (weight c) es → is_among es c ≡ true
among-counted c [] some = absurd (omega (arith, some))
among-counted c (e ∷ es) some = by (same_content e.1 c) refl (among-counted c es)
  where
    sum : sum_by (weight c) (e ∷ es) ≡ weight c e + sum_by (weight c) es
    sum = sum_by-cons (weight c) e es

    by : (b : Bool) → same_content e.1 c ≡ b → (0 < sum_by (weight c) es → is_among es c ≡ true) → (b || is_among es c) ≡ true
    by true here rest = refl
    by false other rest = rest (let none : weight c e ≡ 0 = rw other refl in omega (arith, some, sum, none))

counted-adds : (c : ContentValue) (given : List ℕ) (adds : List ContentValue) → length given ≡ length adds
    → list_any (λ new. same_content new c) adds ≡ true → is_among (numbered given adds) c ≡ true
counted-adds c [] [] same is = absurd cc
counted-adds c [] (a ∷ adds) same is = absurd cc
counted-adds c (g ∷ given) [] same is = absurd cc
counted-adds c (g ∷ given) (a ∷ adds) same is = by (same_content a c) is (counted-adds c given adds (omega (arith, same)))
  where
    by : (b : Bool) → (b || list_any (λ new. same_content new c) adds) ≡ true
        → (list_any (λ new. same_content new c) adds ≡ true → is_among (numbered given adds) c ≡ true)
        → (b || is_among (numbered given adds) c) ≡ true
    by true is rest = refl
    by false is rest = rest is

-- ---- the archive

some-entry : (c : ContentValue) (es : List (ℕ × ContentValue)) → is_among es c ≡ true
    → (e : ℕ × ContentValue) × (same_content e.1 c ≡ true) × (is_archived e es ≡ true)
some-entry c [] is = absurd cc
some-entry c (e ∷ es) is = by (same_content e.1 c) refl is (some-entry c es)
  where
    own : is_equal e e ≡ true
    own = let same = same_content-same e.1 in grind (arith, nat_tests, same)

    or_true : (b d : Bool) → d ≡ true → (b || d) ≡ true
    or_true true d is = refl
    or_true false d is = is

    by : (b : Bool) → same_content e.1 c ≡ b → (b || is_among es c) ≡ true
        → (is_among es c ≡ true → (x : ℕ × ContentValue) × (same_content x.1 c ≡ true) × (is_archived x es ≡ true))
        → (x : ℕ × ContentValue) × (same_content x.1 c ≡ true) × (is_archived x (e ∷ es) ≡ true)
    by true here is rest = (e, here, rw own refl)
    by false other is rest = let found = rest is in (found.0, found.1, or_true (is_equal e found.0) (is_archived found.0 es) found.2)

among-archived : (c : ContentValue) (e : ℕ × ContentValue) (es : List (ℕ × ContentValue)) → same_content e.1 c ≡ true → is_archived e es ≡ true
    → is_among es c ≡ true
among-archived c e [] has is = absurd cc
among-archived c e (x ∷ es) has is = by (is_equal x e) refl is (among-archived c e es has)
  where
    or_true : (b d : Bool) → d ≡ true → (b || d) ≡ true
    or_true true d is = refl
    or_true false d is = is

    by : (b : Bool) → is_equal x e ≡ b → (b || is_archived e es) ≡ true → (is_archived e es ≡ true → is_among es c ≡ true)
        → (same_content x.1 c || is_among es c) ≡ true
    by true same is rest = let own = ap (λ (y : ℕ × ContentValue). same_content y.1 c) (same_entry x e same) ∙ has in rw own refl
    by false other is rest = or_true (same_content x.1 c) (is_among es c) (rest is)

-- one copy of each entry has the contents of all
among-copies : (c : ContentValue) (es : List (ℕ × ContentValue)) → is_among es c ≡ true → is_among (one_copy_behind [] es) c ≡ true
among-copies c es is =
    let found = some-entry c es is in
    among-archived c found.0 (one_copy_behind [] es) found.1 (copies-stand found.0 [] es ∙ found.2)

-- ---- what is left

abbrev has_row : ContentValue → Record → Bool
has_row c row = is_live row && same_content row.content c

settled-has : (c : ContentValue) (es : List (ℕ × ContentValue)) → list_any (has_row c) (map settled_record es) ≡ is_among es c
settled-has c [] = refl
settled-has c (e ∷ es) = ap (λ b. same_content e.1 c || b) (settled-has c es)

module _ (x : Finding) (given : List ℕ) (read : IsRead x) (got : GotAllIds Sync x given) (c : ContentValue) where
  sum : sum_by (weight c) (merged_entries (chosen Sync x) given)
      ≡ sum_by (weight c) (kept_rows (chosen Sync x).keep) + sum_by (weight c) (numbered given (chosen Sync x).adds)
  sum = sum-rows (weight c) (chosen Sync x) given (new-free (chosen Sync x) (shown x) given x.records read.shows got.got)

  merged-kept : is_among (kept_rows (chosen Sync x).keep) c ≡ true → is_among (merged_entries (chosen Sync x) given) c ≡ true
  merged-kept is =
      let some = counted-among c (kept_rows (chosen Sync x).keep) is in
      among-counted c (merged_entries (chosen Sync x) given) (omega (arith, sum, some))

  merged-adds : list_any (λ new. same_content new c) (chosen Sync x).adds ≡ true → is_among (merged_entries (chosen Sync x) given) c ≡ true
  merged-adds is =
      let some = counted-among c (numbered given (chosen Sync x).adds) (counted-adds c given (chosen Sync x).adds got.each is) in
      among-counted c (merged_entries (chosen Sync x) given) (omega (arith, sum, some))

  stays-left : stays (kept_rows (chosen Sync x).keep) (chosen Sync x).adds (x.archive ++ (chosen Sync x).archive) c ≡ true
      → has_left (ended Sync x given) c ≡ true
  stays-left is =
      let es = merged_entries (chosen Sync x) given in
      let all = x.archive ++ (chosen Sync x).archive in
      ap (λ b. b || is_among (one_copy_behind [] all) c) (settled-has c es)
      ∙ by (is_among (kept_rows (chosen Sync x).keep) c) (list_any (λ new. same_content new c) (chosen Sync x).adds) (is_among all c)
      (is_among es c) (is_among (one_copy_behind [] all) c) merged-kept merged-adds (among-copies c all) is
    where
      by : (kept added old live archived : Bool) → (kept ≡ true → live ≡ true) → (added ≡ true → live ≡ true) → (old ≡ true → archived ≡ true)
          → (kept || (added || old)) ≡ true → (live || archived) ≡ true
      by kept added old live archived one two three is = grind arith

-- ---- each live row

not_lost : (alive stay : Bool) → (alive && not stay) ≡ false → alive ≡ true → stay ≡ true
not_lost alive stay none is = grind arith

each-left : (x : Finding) (given : List ℕ) → IsRead x → GotAllIds Sync x given → (rows : List Record)
    → list_any (is_lost (kept_rows (chosen Sync x).keep) (chosen Sync x).adds (x.archive ++ (chosen Sync x).archive)) rows ≡ false
    → AllByRecursion (λ (row : Record). is_live row ≡ true → has_left (ended Sync x given) row.content ≡ true) rows
each-left x given read got [] none = tt
each-left x given read got (r ∷ rows) none =
    let ch = chosen Sync x in
    let all = x.archive ++ ch.archive in
    let parts = or_parts (is_lost (kept_rows ch.keep) ch.adds all r) (list_any (is_lost (kept_rows ch.keep) ch.adds all) rows) none in (
      (λ alive. stays-left x given read got r.content (not_lost (is_live r) (stays (kept_rows ch.keep) ch.adds all r.content) parts.0 alive)),
      each-left x given read got rows parts.1,
    )

none_lost : (may loses : Bool) → (may && loses) ≡ false → may ≡ true → loses ≡ false
none_lost may loses none is = grind arith

pub leaves-each : (meeting : Meeting) (given name : List ℕ) → IsSoundMeeting meeting → IsActive meeting name → IsShownWhole meeting name
    → GotAllIds (action_at meeting name) (found_of meeting name) (ids_at meeting given name) → LosesNone meeting → MightLose meeting name
    → LeavesEach meeting given name
leaves-each meeting given name sound is whole got none might =
    let x = found_of meeting name in
    let ids = ids_at meeting given name in
    let own = handheld-sound sound (task_of meeting name) refl in
    let read = reading-shows meeting (task_of meeting name) own.ids own.bounded whole in
    let all_got : GotAllIds Sync x ids = subst (λ a. GotAllIds a x ids) might.sync got in
    let keeps : loses_rows x ≡ false = none_lost (is_strange meeting name || has_lost x) (loses_rows x)
    (lost-sync meeting name (none-of meeting name none is) might.sync) might.may in
    let end : holding_after meeting given name ≡ ended Sync x ids = holds-end meeting given name is ∙ ap (λ a. ended a x ids) might.sync in
    subst (λ (e : Ending). AllByRecursion (λ (row : Record). is_live row ≡ true → has_left e row.content ≡ true) x.rows) (sym end)
    (each-left x ids read all_got x.rows keeps)
