-- The data frames that came, gathered frame by frame.
use Rattle.std.proofs.Common.{◌≡◌, ℕ, ◌+◌, ◌-◌, ◌<◌, true, false, ◌&&◌, List, [], ◌∷◌, ◌++◌, length, map, get_or, refl, sym, ap, ◌∙◌, arith, inl, inr}
use Rattle.std.specs.Prelude.{reverse, if◌then◌else◌}
use Rattle.std.specs.List.{AllByRecursion}
use Rattle.std.proofs.lemmas.Bool.{cond-true, cond-false, cases_Bool}
use Rattle.std.proofs.lemmas.List.{reverse-append, get_or-map, length-map}
use Rattle.padp_link.specs.declared.fragment.PadpKind.{PadpKind}
use Rattle.padp_link.specs.declared.fragment.PadpKind.TheVariants.{Data, Ack, Tickle, Abort}
use Rattle.trace_text.specs.declared.frame.End.{End}
use Rattle.trace_text.specs.declared.frame.Frame.{Frame}
use Rattle.trace_text.specs.Fates.{FateValue, ends_run}
use Rattle.trace_text.specs.Faults.{late_of, newest}
use Rattle.trace_text.specs.Frames.{BearsFragment, MayBear, is_abort, fragment_in, sent_in, add_frame, past_behind, past_of, came_in}
use Rattle.trace_text.specs.Past.{PastFrame, is_data_of}
use Rattle.trace_text.specs.Proper.{AreNumbered}
use Rattle.trace_text.specs.TraceLines.{FrameValue, frame_value}
use Rattle.trace_check.specs.Acking.{data_came}
use Rattle.trace_check.specs.Messages.{fates_in}
use Rattle.trace_check.specs.declared.came.DataCame.{DataCame}
use Rattle.trace_check.proofs.CameLaws.{came_now}
use Rattle.trace_check.proofs.EndingLaws.{EndAtLast, numbered-end}

-- what holds behind the first frames, of which these are left
pub record Collected (X : End) (frames : List FrameValue) (place number late : ℕ) (data_frames : List DataCame) (left : List FrameValue) : Type 0 where
  pub past : List PastFrame
  pub all : past_of frames ≡ past_behind past left
  pub counted : length past ≡ place
  pub number_is : number ≡ place
  pub late_is : late ≡ newest (late_of X) past
  pub are : reverse data_frames ≡ data_came X (came_in frames) past
  pub bear : AllByRecursion BearsFragment left
  pub ends : EndAtLast left

pub collected-first : (X : End) (frames : List FrameValue) → AreNumbered 1 (fates_in frames) frames → AllByRecursion BearsFragment frames
    → Collected X frames 0 0 0 [] frames
collected-first X frames numbered bear = record {
  past = [];
  all = refl;
  counted = refl;
  number_is = refl;
  late_is = refl;
  are = refl;
  bear = bear;
  ends = numbered-end 1 (fates_in frames) frames numbered;
}

-- a frame that says nothing is an abort, which is the last one
aborts-by : (frame : FrameValue) → ((past : List PastFrame) → add_frame frame past ≡ past) → is_abort (fragment_in frame).kind ≡ true
aborts-by frame adds = elim (cases_Bool (is_abort (fragment_in frame).kind)) [
  | inl aborts ↦ aborts
  | inr goes ↦ (let e = sym (cond-false _ [] (sent_in frame ∷ []) goes) ∙ adds [] in absurd cc)
]

abort-ends : (kind : PadpKind) (given : FateValue) (bytes : List ℕ) → is_abort kind ≡ true → MayBear given kind → ends_run given bytes ≡ true
abort-ends Data given bytes aborts may = absurd cc
abort-ends Ack given bytes aborts may = absurd cc
abort-ends Tickle given bytes aborts may = absurd may
abort-ends Abort given bytes aborts may = ap (λ g. ends_run g bytes) may

pub collected-last : {X : End} {frames : List FrameValue} {place number late : ℕ} {data_frames : List DataCame} (frame : FrameValue) {left : List FrameValue}
    → Collected X frames place number late data_frames (frame ∷ left) → ((past : List PastFrame) → add_frame frame past ≡ past)
    → reverse data_frames ≡ data_came X (came_in frames) (past_of frames)
collected-last {X} {frames} frame {left} so adds =
    let none : left ≡ [] = so.ends.0 (abort-ends (fragment_in frame).kind frame.fate frame.bytes (aborts-by frame adds) so.bear.0.kind) in
    so.are ∙ ap (data_came X (came_in frames)) (sym (so.all ∙ (ap (λ p. past_behind p left) (adds so.past) ∙ ap (past_behind so.past) none)))

-- a frame came where its mark says so
pub came-at : (xs : List Frame) (place : ℕ) (x : Frame) → place < length xs → x ≡ get_or xs place x → came_in (map frame_value xs) (place + 1) ≡ x.came
came-at xs place x inside is =
    let index : place + 1 - 1 ≡ place = omega arith in
    let long : place < length (map frame_value xs) = omega (arith, inside, length-map xs frame_value) in
    ap (λ k. get_or (map (λ f. f.came) (map frame_value xs)) k false) index
    ∙ (get_or-map (λ f. f.came) (map frame_value xs) place (frame_value x) false long
    ∙ (ap (λ (f : FrameValue). f.came) (get_or-map frame_value xs place x (frame_value x) inside) ∙ ap (λ (f : Frame). f.came) (sym is)))

module _ {X : End} {frames : List FrameValue} {place number late : ℕ} {data_frames : List DataCame} (frame : FrameValue) {left : List FrameValue} (sent : PastFrame)
    (so : Collected X frames place number late data_frames (frame ∷ left)) (adds : (past : List PastFrame) → add_frame frame past ≡ sent ∷ past)
    (came_is : came_in frames (place + 1) ≡ frame.came) where
  came_here : came_in frames (length so.past + 1) ≡ frame.came
  came_here = ap (λ n. came_in frames (n + 1)) so.counted ∙ came_is

  newest_is : (if late_of X sent then number + 1 else late) ≡ newest (late_of X) (sent ∷ so.past)
  newest_is =
      ap (λ n. if late_of X sent then n + 1 else late) (so.number_is ∙ sym so.counted) ∙ ap (λ n. if late_of X sent then length so.past + 1 else n) so.late_is

  -- data that came
  pub collected-came : (is_data_of X sent && frame.came) ≡ true
      → Collected X frames (place + 1) (number + 1) (if late_of X sent then number + 1 else late)
      (data_frames ++ record { number = number + 1; key = sent.key; late = if late_of X sent then number + 1 else late } ∷ []) left
  collected-came now = record {
    past = sent ∷ so.past;
    all = so.all ∙ ap (λ p. past_behind p left) (adds so.past);
    counted = omega (arith, so.counted);
    number_is = omega (arith, so.number_is);
    late_is = newest_is;
    are = reverse-append data_frames (record { number = number + 1; key = sent.key; late = if late_of X sent then number + 1 else late } ∷ [])
        ∙ (ap (λ xs. record { number = number + 1; key = sent.key; late = if late_of X sent then number + 1 else late } ∷ xs) so.are
        ∙ (ap (λ n. record { number = n + 1; key = sent.key; late = if late_of X sent then number + 1 else late } ∷ data_came X (came_in frames) so.past)
        (so.number_is ∙ sym so.counted)
        ∙ (ap (λ n. record { number = length so.past + 1; key = sent.key; late = n } ∷ data_came X (came_in frames) so.past) newest_is
        ∙ sym (cond-true _ (came_now X sent so.past ∷ data_came X (came_in frames) so.past) (data_came X (came_in frames) so.past)
        (ap (λ b. is_data_of X sent && b) came_here ∙ now)))));
    bear = so.bear.1;
    ends = so.ends.1;
  }

  -- anything else
  pub collected-other : (is_data_of X sent && frame.came) ≡ false
      → Collected X frames (place + 1) (number + 1) (if late_of X sent then number + 1 else late) data_frames left
  collected-other none = record {
    past = sent ∷ so.past;
    all = so.all ∙ ap (λ p. past_behind p left) (adds so.past);
    counted = omega (arith, so.counted);
    number_is = omega (arith, so.number_is);
    late_is = newest_is;
    are = so.are ∙ sym (cond-false _ (came_now X sent so.past ∷ data_came X (came_in frames) so.past) (data_came X (came_in frames) so.past)
        (ap (λ b. is_data_of X sent && b) came_here ∙ none));
    bear = so.bear.1;
    ends = so.ends.1;
  }
