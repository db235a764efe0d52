-- Which frames came, by the cursors, over each step.
use Rattle.line_steps.proofs.Names.{rules, ◌≡◌, ℕ, zero, suc, ◌+◌, ◌≤◌, Bool, true, false, ◌&&◌, leb, List, [], ◌∷◌, ◌++◌, length, map, Some, refl, sym, ap}
use Rattle.line_steps.proofs.Names.{subst, ◌∙◌, arith, inl, inr, slice_get, if◌then◌else◌, cases_Bool, both_ways, cond-false, slice_get_within, map-append}
use Rattle.line_steps.proofs.Names.{length-map, length-append, RuleValue, fate_by, End, Handheld, Desktop, Frame, FateValue, fate_value, arrives, comes}
use Rattle.line_steps.proofs.Names.{data_comes, is_end, Talk, frame_value, Apart, CameByCursor, PassesFrame, heard, same_end, talking_passes, came-push-one}
use Rattle.line_steps.proofs.Names.{OthersStay, came-same, same-leb, leb-above, leb-below, came-takes, Half, Wire, AddsFrame, AddsOne, AddsTwo, AllBy, took_count}
use Rattle.line_steps.proofs.Names.{landed, marked, sent_of, past_now, side_of, Holds, MovesReader, SamePlace, Stays, Delivers, cursors, cursor_of, Talks, RecordsFrames}
use Rattle.line_steps.proofs.Names.{KeepsAll}
use Rattle.line_steps.proofs.CountingLaws.{counted_moves}
use Rattle.line_steps.proofs.AddingLaws.{by_one, by_two}
use Rattle.line_steps.proofs.FrameLaws.{past_at, length-past}
use Rattle.line_steps.proofs.HoldsLaws.{course_comes, moved}
use Rattle.line_steps.proofs.MarkingLaws.{length-marked}
use Rattle.line_steps.proofs.StoryLaws.{heard_past}
use Rattle.line_steps.proofs.TalkedLaws.{x_heard_now, y_heard_now, at_own, at_other, cursor_own, cursor_moves, talking_now}
use Rattle.line_laws.proofs.RunningLaws.{no_data}

-- ---- a frame is sent

each_cursor : (X : End) {own other size : ℕ} → own ≤ size → other ≤ size → (Z : End) → cursors X own other Z ≤ size
each_cursor X own_in other_in Z = search rules

came_added : {cursor : End → ℕ} {given : FateValue} {old new : List Frame} → ((Z : End) → cursor Z ≤ length old) → AddsFrame given old new
    → CameByCursor 1 cursor (map frame_value old) → CameByCursor 1 cursor (map frame_value new)
came_added {cursor} {old} {new} inside more came =
    let e : map frame_value old ++ frame_value more.frame ∷ [] ≡ map frame_value new =
    sym (map-append frame_value old (more.frame ∷ [])) ∙ ap (map frame_value) (sym more.is) in
    subst (CameByCursor 1 cursor) e (came-push-one 1 cursor (map frame_value old) (frame_value more.frame) came more.came_is
    (omega (arith, inside more.frame.from, length-map old frame_value)))

module _ {cursor : End → ℕ} {given : FateValue} {old new : List Frame} where
  came_one : ((Z : End) → cursor Z ≤ length old) → AddsOne given old new → CameByCursor 1 cursor (map frame_value old)
      → CameByCursor 1 cursor (map frame_value new)
  came_one inside (inl same) came = subst (λ fs. CameByCursor 1 cursor (map frame_value fs)) (sym same) came
  came_one inside (inr more) came = came_added inside more came

  came_two : {other : FateValue} → ((Z : End) → cursor Z ≤ length old) → AddsTwo given other old new → CameByCursor 1 cursor (map frame_value old)
      → CameByCursor 1 cursor (map frame_value new)
  came_two inside (inl one) came = came_one inside one came
  came_two inside (inr two) came =
      let size : length two.0 ≡ length old + 1 = ap length two.1.is ∙ length-append old (two.1.frame ∷ []) in
      came_added (λ Z. omega (arith, inside Z, size)) two.2 (came_added inside two.1 came)

-- both ends have their cursors within the frames
within : {wire : Wire} {x y : Half} → Holds wire x y → (Z : End) → cursor_of x y Z ≤ length wire.frames.items
within {wire} {x} holds = each_cursor x.end
    (omega (arith, holds.line.core.there.cur_in, length-past wire.frames.items holds.go))
    (omega (arith, holds.line.core.back.cur_in, length-past wire.frames.items holds.go))

pub same_cursors : (x y later_x later_y : Half) → SamePlace x later_x → SamePlace y later_y → cursor_of x y ≡ cursor_of later_x later_y
same_cursors x y later_x later_y x_same y_same = search rules

module _ {script : List RuleValue} {given : FateValue} {wire new : Wire} {x y later_x later_y : Half} where
  pub recorded_two : {other : FateValue} → Holds wire x y → given ≡ fate_by script (length wire.frames.items + 1)
      → other ≡ fate_by script (length wire.frames.items + 1 + 1)
      → AddsTwo given other wire.frames.items new.frames.items → SamePlace x later_x → SamePlace y later_y → RecordsFrames script wire x y
      → RecordsFrames script new later_x later_y
  recorded_two holds is next adds x_same y_same was = record {
    by = by_two script is next adds was.by;
    came = subst (λ c. CameByCursor 1 c (map frame_value new.frames.items)) (same_cursors x y later_x later_y x_same y_same)
        (came_two (within holds) adds was.came);
  }

  pub recorded_one : Holds wire x y → given ≡ fate_by script (length wire.frames.items + 1) → AddsOne given wire.frames.items new.frames.items
      → SamePlace x later_x → SamePlace y later_y → RecordsFrames script wire x y → RecordsFrames script new later_x later_y
  recorded_one holds is adds x_same y_same =
      recorded_two holds is refl (inl adds) x_same y_same

-- ---- a frame is taken off the line

others_stay : (X : End) (own other : ℕ) → OthersStay X (cursors X own other) (cursors X (own + 1) other)
others_stay Handheld own other Handheld apart = absurd cc
others_stay Handheld own other Desktop apart = refl
others_stay Desktop own other Handheld apart = refl
others_stay Desktop own other Desktop apart = absurd cc

by_marked : (script : List RuleValue) (number n : ℕ) (frames : List Frame) → AllBy script number frames → AllBy script number (marked n frames)
by_marked script number n [] all = tt
by_marked script number zero (frame ∷ later) all = all
by_marked script number (suc n) (frame ∷ later) all = (all.0, all.1, by_marked script (number + 1) n later all.2)

passes : (X : End) (n : ℕ) (frames : List Frame) {frame : Frame} → slice_get frames n ≡ Some frame → is_end X frame.from ≡ true
    → arrives (fate_value frame.fate) ≡ true → PassesFrame X n (map frame_value frames) (map frame_value (marked n frames))
passes X n [] here mine comes_here = absurd cc
passes X zero (first ∷ later) {frame} here mine comes_here =
    let same : frame ≡ first = cc in (
      ap (λ f. f.from) (sym same) ∙ same_end X frame.from mine,
      ap (λ b. record (frame_value first) { came = b } ∷ map frame_value later)
          (sym (ap (λ f. arrives (fate_value f.fate)) (sym same) ∙ comes_here)),
    )
passes X (suc n) (first ∷ later) here mine comes_here = (map frame_value (marked n later), refl, passes X n later here mine comes_here)

pub recorded_next : {script : List RuleValue} {given : FateValue} {wire new : Wire} {x y later_y : Half} → Holds wire x y → Delivers x.end wire x.taken
    → given ≡ fate_by script (length wire.frames.items + 1) → AddsOne given (marked x.taken wire.frames.items) new.frames.items
    → SamePlace y later_y → RecordsFrames script wire x y → RecordsFrames script new (moved x) later_y
recorded_next {script} {wire} {new} {x} {y} holds next is adds y_same was =
    let old = wire.frames.items in
    let size = length-marked x.taken old in
    let cursor = cursors x.end (x.taken + 1) y.taken in
    let taken = came-takes 1 x.taken (map frame_value old) (map frame_value (marked x.taken old)) (others_stay x.end x.taken y.taken)
    (omega (arith, cursor_own x.end x.taken y.taken))
    (omega (arith, cursor_own x.end (x.taken + 1) y.taken))
    (passes x.end x.taken old next.here next.from_is (sym (course_comes (fate_value next.frame.fate)) ∙ next.comes_here)) was.came in
    record {
      by = by_one script (is ∙ ap (λ n. fate_by script (n + 1)) (sym size)) adds (by_marked script 1 x.taken old was.by);
      came = subst (λ c. CameByCursor 1 c (map frame_value new.frames.items)) (ap (λ n. cursors x.end (x.taken + 1) n) (sym y_same.1))
          (came_one (each_cursor x.end (omega (arith, slice_get_within old x.taken next.frame next.here, size))
          (omega (arith, holds.line.core.back.cur_in, length-past old holds.go, size))) adds taken);
    }

-- ---- a frame is passed that doesn't come, or is the other end's

came_past : (number : ℕ) {X : End} {cursor later : End → ℕ} (n : ℕ) (frames : List Frame) {frame : Frame} → OthersStay X cursor later
    → cursor X + 1 ≡ number + n → later X ≡ number + n → slice_get frames n ≡ Some frame
    → (is_end X frame.from && arrives (fate_value frame.fate)) ≡ false → CameByCursor number cursor (map frame_value frames)
    → CameByCursor number later (map frame_value frames)
came_past number n [] others at_it next here gone was = absurd cc
came_past number {X} {cursor} {later} zero (first ∷ frames) {frame} others at_it next here gone was =
    let same : frame ≡ first = cc in (
      was.0 ∙ elim (cases_Bool (arrives (fate_value first.fate))) [
        | inl comes_here ↦
            let other : is_end X first.from ≡ false = go (is_end X first.from) (arrives (fate_value first.fate)) comes_here
            (ap (λ f. is_end X f.from && arrives (fate_value f.fate)) (sym same) ∙ gone) in
            ap (λ k. arrives (fate_value first.fate) && leb number k) (sym (others first.from other))
        | inr away ↦ ap (λ b. b && leb number (cursor first.from)) away ∙ sym (ap (λ b. b && leb number (later first.from)) away)
      ],
      came-same cursor later (map frame_value frames) (λ Z k le. same-leb X k others (leb-above (omega (arith, le, next)) (omega (arith, le, at_it))) Z) was.1,
    ) where
      go : (a b : Bool) → b ≡ true → (a && b) ≡ false → a ≡ false
      go false b is none = refl
      go true b is none = absurd (both_ways _ none is)
came_past number {X} {cursor} {later} (suc n) (first ∷ frames) {frame} others at_it next here gone was =
    let same = same-leb X number others (leb-below (omega (arith, next)) (omega (arith, at_it))) first.from in (
      was.0 ∙ ap (λ b. arrives (fate_value first.fate) && b) (sym same),
      came_past (number + 1) {X = X} {cursor = cursor} {later = later} n frames {frame = frame} others (omega (arith, at_it))
          (omega (arith, next)) here gone was.1,
    )

pub recorded_past : {script : List RuleValue} {wire : Wire} {x y later_y : Half} {frame : Frame} → slice_get wire.frames.items x.taken ≡ Some frame
    → (is_end x.end frame.from && arrives (fate_value frame.fate)) ≡ false → SamePlace y later_y
    → RecordsFrames script wire x y → RecordsFrames script wire (moved x) later_y
recorded_past {wire} {x} {y} here gone y_same was = record {
  by = was.by;
  came = subst (λ c. CameByCursor 1 c (map frame_value wire.frames.items)) (ap (λ n. cursors x.end (x.taken + 1) n) (sym y_same.1))
      (came_past 1 x.taken wire.frames.items (others_stay x.end x.taken y.taken) (omega (arith, cursor_own x.end x.taken y.taken))
      (omega (arith, cursor_own x.end (x.taken + 1) y.taken)) here gone was.came);
}

pub recorded_turned : {script : List RuleValue} {wire : Wire} {x y : Half} → Apart x.end y.end → RecordsFrames script wire x y → RecordsFrames script wire y x
recorded_turned apart was = search rules

-- ---- by what a call promises

pub recorded_own : {script : List RuleValue} {given : FateValue} {wire new : Wire} {x y later_x later_y : Half} → Holds wire x y → Delivers x.end wire x.taken
    → given ≡ fate_by script (length wire.frames.items + 1) → AddsOne given (marked x.taken wire.frames.items) new.frames.items
    → later_x ≡ moved x → Stays y later_y → RecordsFrames script wire x y → RecordsFrames script new later_x later_y
recorded_own {script} {new} {later_y} holds next is adds passed stays was =
    subst (λ h. RecordsFrames script new h later_y) (sym passed) (recorded_next holds next is adds (stays.end_is, stays.taken_is) was)

pub recorded_other : {script : List RuleValue} {given : FateValue} {wire new : Wire} {x y later_x later_y : Half} → Holds wire y x → Delivers y.end wire y.taken
    → given ≡ fate_by script (length wire.frames.items + 1) → AddsOne given (marked y.taken wire.frames.items) new.frames.items
    → later_y ≡ moved y → Stays x later_x → RecordsFrames script wire x y → RecordsFrames script new later_x later_y
recorded_other {x} {later_x} {later_y} holds next is adds passed stays was =
    let later : Apart later_y.end later_x.end = subst (λ X. Apart later_y.end X) (sym stays.end_is) (subst (λ h. Apart h.end x.end) (sym passed) holds.apart) in
    recorded_turned later (recorded_own holds next is adds passed stays (recorded_turned (record { there = holds.apart.back; back = holds.apart.there }) was))

-- ---- over skipped frames

talks_past : {talk : Talk} {wire : Wire} {x y : Half} {frame : Frame} → Holds wire x y → slice_get wire.frames.items x.taken ≡ Some frame
    → (is_end x.end frame.from && arrives (fate_value frame.fate)) ≡ false → Talks talk wire x y → Talks talk wire (moved x) y
talks_past {wire} {x} {y} {frame} holds here gone talks =
    let sent = sent_of frame in
    let away : data_comes x.end sent ≡ false = no_data (is_end x.end frame.from) sent.is_data (comes sent.course)
    (ap (λ b. is_end x.end frame.from && b) (course_comes (fate_value frame.fate)) ∙ gone) in
    record {
      fx = holds.fx;
      fy = holds.fy;
      there = holds.line.core.there.follows;
      back = holds.line.core.back.follows;
      talking = talking_passes holds.apart
          (cursor_own x.end x.taken y.taken) (cursor_moves x.taken y.taken holds.apart.there) (past_at wire.frames.items x.taken holds.go here)
          away (talking_now holds talks);
      x_heard = at_own x.end y.end (x.taken + 1) y.taken (past_now wire.frames.items) holds.fx (side_of x)
          (heard_past x.end (past_now wire.frames.items) x.taken holds.fx (side_of x) (past_at wire.frames.items x.taken holds.go here)
          away (x_heard_now holds talks));
      y_heard = at_other x.end y.end (x.taken + 1) y.taken (past_now wire.frames.items) holds.fy (side_of y) holds.apart.there (y_heard_now holds talks);
    }

took_past : {wire : Wire} {x y : Half} {frame : Frame} → Holds wire x y → slice_get wire.frames.items x.taken ≡ Some frame
    → (is_end x.end frame.from && arrives (fate_value frame.fate)) ≡ false → took_count wire (moved x) ≡ took_count wire x
took_past {wire} {x} {frame} holds here gone =
    let sent = sent_of frame in
    let away : data_comes x.end sent ≡ false = no_data (is_end x.end frame.from) sent.is_data (comes sent.course)
    (ap (λ b. is_end x.end frame.from && b) (course_comes (fate_value frame.fate)) ∙ gone) in
    ap (λ p. length (heard x.end p)) (past_at wire.frames.items x.taken holds.go here) ∙ ap length (cond-false _ _ _ away)

pub skip_keeps : {wire : Wire} {x0 y0 x y new : Half} {frame : Frame} → Holds wire x y → KeepsAll wire x0 y0 x y
    → slice_get wire.frames.items x.taken ≡ Some frame → (is_end x.end frame.from && arrives (fate_value frame.fate)) ≡ false → MovesReader y new
    → new.reader.tally ≡ (if is_end x.end frame.from then landed (frame_value frame) y.reader.tally else y.reader.tally) → KeepsAll wire x0 y0 (moved x) new
skip_keeps {wire} {x} holds keeps here gone read tally = record {
  talks = λ talk talks. subst (λ h. Talks talk wire (moved x) h) (sym read) (talks_past holds here gone (keeps.talks talk talks));
  took = took_past holds here gone ∙ keeps.took;
  recorded = λ script was. recorded_past here gone (ap (λ h. h.end) read, ap (λ h. h.taken) read) (keeps.recorded script was);
  counted = λ was. counted_moves here tally (ap (λ h. h.end) read, ap (λ h. h.taken) read) (keeps.counted was);
}

pub keeps_all : {wire : Wire} {x y : Half} → KeepsAll wire x y x y
keeps_all = search rules
