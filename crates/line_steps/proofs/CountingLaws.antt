-- What the readers count, over each step.
use Rattle.line_steps.proofs.Names.{IsFrameAt}
use Rattle.line_steps.proofs.Names.{rules, ◌≡◌, ℕ, zero, suc, ◌+◌, ◌%◌, ◌<◌, ◌≤◌, Bool, true, false, ◌||◌, List, [], ◌∷◌, ◌++◌, length, take, drop, Some, refl}
use Rattle.line_steps.proofs.Names.{sym, ap, subst, ◌∙◌, arith, inl, inr, slice_get, if◌then◌else◌, cond-true, cond-false, length-append, length-take}
use Rattle.line_steps.proofs.Names.{length-drop, slice_get_within, raised, scan, packet_at, TallyValue, End, Frame, FateValue, Untouched, Lost, Late, Cut, Hit}
use Rattle.line_steps.proofs.Names.{Noise, Unplug, fate_value, arrives, landing, xored, hit_at, strange_bytes, ends_run, BearsFragment, fragment_in, is_end}
use Rattle.line_steps.proofs.Names.{FrameValue, frame_value, Half, Wire, AddsOne, AddsTwo, landed, counts, Lands, CountsTaken, Holds, SamePlace, Stays, Delivers}
use Rattle.line_steps.proofs.Names.{counted, tally_after, marked, Marks}
use Rattle.trace_text.specs.Fates.{Abort}
use Rattle.line_steps.proofs.FrameLaws.{length-past}
use Rattle.line_steps.proofs.HoldsLaws.{moved}
use Rattle.line_steps.proofs.MarkingLaws.{marked_at, length-marked}
use Rattle.line_steps.proofs.BytesLaws.{packet_of, scan_again}
use Rattle.line_steps.proofs.XorLaws.{length-xored}

-- ---- one frame

twice : (n a b : ℕ) → raised (raised n a) b ≡ raised n (a + b)
twice n a b = omega arith

once : (n : ℕ) → raised (raised n 0) 0 ≡ raised n 0
once n = omega arith

hit_length : (place : ℕ) (xs bytes : List ℕ) → length (hit_at place xs bytes) ≡ length bytes
hit_length place xs bytes =
    let k = place % length bytes in
    omega (arith, length-append (take k bytes) (xored xs (drop k bytes)), length-xored xs (drop k bytes), length-take k bytes, length-drop k bytes)

-- no packet in what was left
or_right : (a : Bool) {b : Bool} → (a || b) ≡ false → b ≡ false
or_right false none = none
or_right true none = absurd cc

none_scanned : (given : FateValue) (bytes : List ℕ) → ends_run given bytes ≡ false → scan (strange_bytes given bytes) ≡ []
none_scanned given bytes goes = search rules

strange_length : (given : FateValue) (bytes : List ℕ) → 0 < length bytes → arrives given ≡ false
    → length (strange_bytes given bytes) ≡ landing given (length bytes)
strange_length Untouched bytes some away = absurd cc
strange_length Lost bytes some away = refl
strange_length Late bytes some away = absurd cc
strange_length (Cut count) bytes some away = omega (arith, length-take (count % length bytes) bytes, some)
strange_length (Hit place xs) bytes some away = hit_length place xs bytes
strange_length (Noise noise) bytes some away = absurd cc
strange_length Unplug bytes some away = refl
strange_length Abort bytes some away = refl

-- where it doesn't arrive
pub landed_away : (frame : FrameValue) (tally : TallyValue) → arrives frame.fate ≡ false → 0 < length frame.bytes → ends_run frame.fate frame.bytes ≡ false
    → tally_after tally (strange_bytes frame.fate frame.bytes) ≡ landed frame tally
landed_away frame tally away some goes =
    let size = strange_length frame.fate frame.bytes some away in
    let none : counted tally.packets (scan (strange_bytes frame.fate frame.bytes)) ≡ tally.packets =
    ap (counted tally.packets) (none_scanned frame.fate frame.bytes goes) in
    let packets : counted tally.packets (scan (strange_bytes frame.fate frame.bytes)) ≡ (if arrives frame.fate then raised tally.packets 1 else tally.packets) =
    none ∙ sym (cond-false _ _ _ away) in
    λ i. record { bytes = raised tally.bytes (size i); packets = packets i }

arrives_length : (given : FateValue) (bytes : List ℕ) → arrives given ≡ true → length (strange_bytes given bytes) + length bytes ≡ landing given (length bytes)
arrives_length Untouched bytes here = omega arith
arrives_length Lost bytes here = absurd cc
arrives_length Late bytes here = omega arith
arrives_length (Cut count) bytes here = absurd cc
arrives_length (Hit place xs) bytes here = absurd cc
arrives_length (Noise noise) bytes here = omega arith
arrives_length Unplug bytes here = absurd cc
arrives_length Abort bytes here = absurd cc

-- where it does, with a packet
pub landed_here : {frame : FrameValue} (tally : TallyValue) → arrives frame.fate ≡ true → BearsFragment frame → ends_run frame.fate frame.bytes ≡ false
    → tally_after (tally_after tally (strange_bytes frame.fate frame.bytes)) frame.bytes ≡ landed frame tally
landed_here {frame} tally here bears goes =
    let strange = strange_bytes frame.fate frame.bytes in
    let bytes : raised (raised tally.bytes (length (strange_bytes frame.fate frame.bytes))) (length frame.bytes)
    ≡ raised tally.bytes (landing frame.fate (length frame.bytes)) =
    twice tally.bytes (length strange) (length frame.bytes) ∙ ap (raised tally.bytes) (arrives_length frame.fate frame.bytes here) in
    let found : scan frame.bytes ≡ packet_of (packet_at frame.bytes).id (fragment_in frame) ∷ [] = ap scan bears.is ∙ scan_again bears.fragment in
    let none : counted tally.packets (scan (strange_bytes frame.fate frame.bytes)) ≡ tally.packets =
    ap (counted tally.packets) (none_scanned frame.fate frame.bytes goes) in
    let packets : counted (counted tally.packets (scan (strange_bytes frame.fate frame.bytes))) (scan frame.bytes)
    ≡ (if arrives frame.fate then raised tally.packets 1 else tally.packets) =
    ap (counted (counted tally.packets (scan strange))) found ∙ (ap (λ n. raised n 1) none ∙ sym (cond-true _ _ _ here)) in
    λ i. record { bytes = bytes i; packets = packets i }

-- ---- frames

pub counts_step : (X : End) (n : ℕ) (frames : List Frame) {frame : Frame} (tally : TallyValue) → slice_get frames n ≡ Some frame
    → counts X (suc n) frames tally ≡ (if is_end X frame.from then landed (frame_value frame) (counts X n frames tally) else counts X n frames tally)
counts_step X n [] tally here = absurd cc
counts_step X zero (one ∷ later) {frame} tally here =
    (let same : one ≡ frame = cc in ap (λ f. if is_end X f.from then landed (frame_value f) tally else tally) same)
counts_step X (suc n) (one ∷ later) tally here = counts_step X n later (if is_end X one.from then landed (frame_value one) tally else tally) here

pub counts_push : (X : End) (n : ℕ) (frames : List Frame) (frame : Frame) (tally : TallyValue) → n ≤ length frames
    → counts X n (frames ++ frame ∷ []) tally ≡ counts X n frames tally
counts_push X zero frames frame tally inside = refl
counts_push X (suc n) [] frame tally inside = absurd (omega arith)
counts_push X (suc n) (one ∷ later) frame tally inside =
    counts_push X n later frame (if is_end X one.from then landed (frame_value one) tally else tally) (omega arith)

pub counts_marked : (X : End) (n k : ℕ) (frames : List Frame) (tally : TallyValue) → counts X n (marked k frames) tally ≡ counts X n frames tally
counts_marked X zero k frames tally = refl
counts_marked X (suc n) k [] tally = refl
counts_marked X (suc n) zero (one ∷ later) tally = refl
counts_marked X (suc n) (suc k) (one ∷ later) tally = counts_marked X n k later (if is_end X one.from then landed (frame_value one) tally else tally)

-- ---- both ends

abbrev none_yet : TallyValue
none_yet = record { bytes = 0; packets = 0 }

-- the cursor of x goes past a frame
pub counted_moves : {wire : Wire} {x y later_y : Half} {frame : Frame} → slice_get wire.frames.items x.taken ≡ Some frame
    → later_y.reader.tally ≡ (if is_end x.end frame.from then landed (frame_value frame) y.reader.tally else y.reader.tally) → SamePlace y later_y
    → CountsTaken wire x y → CountsTaken wire (moved x) later_y
counted_moves {wire} {x} {y} {later_y} {frame} here tally y_same was =
    let next : suc x.taken ≡ x.taken + 1 = omega arith in
    record {
      by_y = tally ∙ (ap (λ t. if is_end x.end frame.from then landed (frame_value frame) t else t) was.by_y
          ∙ (sym (counts_step x.end x.taken wire.frames.items none_yet here) ∙ ap (λ n. counts x.end n wire.frames.items none_yet) next));
      by_x = was.by_x ∙ (ap (λ Y. counts Y y.taken wire.frames.items none_yet) (sym y_same.0)
          ∙ ap (λ n. counts later_y.end n wire.frames.items none_yet) (sym y_same.1));
    }

counts_one : (X : End) {n : ℕ} {given : FateValue} {old new : List Frame} → n ≤ length old → AddsOne given old new
    → counts X n old none_yet ≡ counts X n new none_yet
counts_one X {n} inside (inl same) = ap (λ fs. counts X n fs none_yet) (sym same)
counts_one X {n} {old} inside (inr more) = sym (counts_push X n old more.frame none_yet inside) ∙ ap (λ fs. counts X n fs none_yet) (sym more.is)

counts_two : (X : End) {n : ℕ} {given other : FateValue} {old new : List Frame} → n ≤ length old → AddsTwo given other old new
    → counts X n old none_yet ≡ counts X n new none_yet
counts_two X inside (inl one) = counts_one X inside one
counts_two X {old} inside (inr two) =
    counts_one X inside (inr two.1)
    ∙ counts_one X (omega (arith, inside, ap length two.1.is, length-append old (two.1.frame ∷ []))) (inr two.2)

-- what a reader counted stays where it is while frames are added
abbrev pub SameReader : Half → Half → Type 0
SameReader old new = new.reader ≡ old.reader

pub counted_two : {given other : FateValue} {wire new : Wire} {x y later_x later_y : Half} → Holds wire x y
    → AddsTwo given other wire.frames.items new.frames.items → SamePlace x later_x → SamePlace y later_y → SameReader x later_x → SameReader y later_y
    → CountsTaken wire x y → CountsTaken new later_x later_y
counted_two {wire} {new} {x} {y} {later_x} {later_y} holds adds x_same y_same x_reader y_reader was =
    let size = length-past wire.frames.items holds.go in
    record {
      by_y = ap (λ r. r.tally) y_reader ∙ (was.by_y ∙ (counts_two x.end (omega (arith, holds.line.core.there.cur_in, size)) adds
          ∙ (ap (λ X. counts X x.taken new.frames.items none_yet) (sym x_same.0) ∙ ap (λ n. counts later_x.end n new.frames.items none_yet) (sym x_same.1))));
      by_x = ap (λ r. r.tally) x_reader ∙ (was.by_x ∙ (counts_two y.end (omega (arith, holds.line.core.back.cur_in, size)) adds
          ∙ (ap (λ Y. counts Y y.taken new.frames.items none_yet) (sym y_same.0) ∙ ap (λ n. counts later_y.end n new.frames.items none_yet) (sym y_same.1))));
    }

-- the next frame of x is taken, marked, and answered
pub counted_own : {given : FateValue} {wire new : Wire} {x y later_x later_y : Half} → Holds wire x y → Delivers x.end wire x.taken
    → AddsOne given (marked x.taken wire.frames.items) new.frames.items → later_x ≡ moved x → Stays y later_y → Lands x.taken wire y later_y
    → CountsTaken wire x y → CountsTaken new later_x later_y
counted_own {wire} {new} {x} {y} {later_y} holds next adds passed stays lands was =
    let old = wire.frames.items in
    let size = length-marked x.taken old in
    let inside = slice_get_within old x.taken next.frame next.here in
    let tally : later_y.reader.tally ≡ (if is_end x.end next.frame.from then landed (frame_value next.frame) y.reader.tally else y.reader.tally) =
    lands next.frame next.here ∙ sym (cond-true _ _ _ next.from_is) in
    let here = counted_moves {later_y = later_y} next.here tally (stays.end_is, stays.taken_is) was in
    subst (λ h. CountsTaken new h later_y) (sym passed) (record {
      by_y = here.by_y ∙ (sym (counts_marked x.end (x.taken + 1) x.taken old none_yet) ∙ counts_one x.end (omega (arith, inside, size)) adds);
      by_x = here.by_x ∙ (sym (counts_marked later_y.end later_y.taken x.taken old none_yet)
          ∙ counts_one later_y.end (omega (arith, stays.taken_is, holds.line.core.back.cur_in, length-past old holds.go, size)) adds);
    })

pub counted_turned : {wire : Wire} {x y : Half} → CountsTaken wire x y → CountsTaken wire y x
counted_turned was = record { by_y = was.by_x; by_x = was.by_y }

pub counted_other : {given : FateValue} {wire new : Wire} {x y later_x later_y : Half} → Holds wire y x → Delivers y.end wire y.taken
    → AddsOne given (marked y.taken wire.frames.items) new.frames.items → later_y ≡ moved y → Stays x later_x → Lands y.taken wire x later_x
    → CountsTaken wire x y → CountsTaken new later_x later_y
counted_other holds next adds passed stays lands was =
    counted_turned (counted_own holds next adds passed stays lands (counted_turned was))

-- what was heard of a frame that comes
pub lands_marked : {wire mid : Wire} {n : ℕ} (old new : Half) → Marks n wire mid → Lands n mid old new → Lands n wire old new
lands_marked {wire} {n} old new marks lands frame here =
    lands (record frame { came = true }) (ap (λ fs. slice_get fs n) marks.frames_are ∙ marked_at wire.frames.items n here)

pub heard_lands : {X : End} {wire : Wire} {n : ℕ} {found : Frame} (old new : Half) → Delivers X wire n → slice_get wire.frames.items n ≡ Some found
    → (arrives (fate_value found.fate) ≡ true → new.reader.tally ≡ landed (frame_value found) old.reader.tally) → Lands n wire old new
heard_lands old new next there tally frame here = search rules

pub lent_lands : {X : End} {wire : Wire} {n : ℕ} {lent : FrameValue} (old new : Half) → Delivers X wire n → (it : IsFrameAt wire.frames.items n lent)
    → (arrives lent.fate ≡ true → new.reader.tally ≡ landed lent old.reader.tally) → Lands n wire old new
lent_lands old new next it tally = heard_lands old new next it.here
    (λ here. tally (ap (λ v. arrives v.fate) it.is ∙ here) ∙ ap (λ v. landed v old.reader.tally) it.is)

pub lands_same : (n : ℕ) (wire : Wire) (old mid new : Half) → new.reader ≡ mid.reader → Lands n wire old mid → Lands n wire old new
lands_same n wire old mid new same lands frame here = search rules
