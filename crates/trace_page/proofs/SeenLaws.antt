-- What the page knows of the frames so far goes on frame by frame.
use Rattle.std.proofs.lemmas.Grind.{common_steps}
use Rattle.std.proofs.Common.{◌≡◌, ℕ, ◌+◌, Bool, true, false, List, [], ◌∷◌, ◌++◌, Some, refl, sym, ap, ◌∙◌}
use Rattle.std.specs.Prelude.{if◌then◌else◌}
use Rattle.padp_link.specs.declared.fragment.PadpKind.{PadpKind}
use Rattle.padp_link.specs.declared.fragment.PadpKind.TheVariants.{Data, Ack, Tickle, Abort}
use Rattle.padp_link.specs.declared.piece.Key.{Key}
use Rattle.trace_text.specs.declared.frame.End.{End}
use Rattle.trace_text.specs.declared.frame.End.TheVariants.{Handheld, Desktop}
use Rattle.trace_text.specs.Frames.{add_frame, course_of, is_abort, is_data_kind, past_behind, sent_in}
use Rattle.trace_text.specs.Past.{FrameCourse, PastFrame, add, first, is_newest_key, is_repeat, keys, run, said, same_key}
use Rattle.trace_text.specs.TraceLines.{FrameValue}
use Rattle.trace_page.specs.Bearings.{borne}
use Rattle.trace_page.specs.Pages.{front_of, times}
use Rattle.trace_page.specs.Seen.{is_newest, seen_after, seen_of, side_in, side_of, times_by}
use Rattle.trace_page.specs.declared.seen.Seen.{Seen}
use Rattle.trace_page.specs.declared.seen.Side.{Side}
use Rattle.std.proofs.Common.{suc, ◌<◌, ◌≤◌, length, map, take, drop, get_or, add-one, arith, append_assoc}
use Rattle.std.proofs.Math.Seq.{drop-cons}
use Rattle.std.proofs.lemmas.List.{map-append, take_more}
use Rattle.std.specs.Prelude.{slice_index}
use Rattle.line_laws.proofs.PastLaws.{same_key-true}
use Rattle.trace_text.specs.declared.frame.Frame.{Frame}
use Rattle.trace_text.specs.Frames.{past_of}
use Rattle.trace_text.specs.TraceLines.{frame_value}
use Rattle.trace_page.specs.Pages.{counted, row, rows}
use Rattle.trace_page.specs.Rows.{row_text}
use Rattle.trace_page.specs.declared.bearing.Bearing.{Bearing}
use Rattle.trace_check.proofs.TalkingLaws.{add-short}

-- the newest key behind one more
first-add : (key : Key) (keys : List Key) → first (add (Some key) keys) ≡ Some key
first-add key [] = refl
first-add key (newest ∷ older) = first-same (same_key key newest) refl
  where
    first-same : (b : Bool) → same_key key newest ≡ b → first (if b then newest ∷ older else key ∷ newest ∷ older) ≡ Some key
    first-same true is = ap Some (sym (same_key-true is))
    first-same false is = refl

newest-is : (key : Key) (keys : List Key) → is_newest_key key keys ≡ is_newest key (first keys)
newest-is key [] = refl
newest-is key (newest ∷ older) = refl

-- an end behind a data frame of its own
own : (key : Key) (keys : List Key) (count front : ℕ)
    → (let s : Side = record { newest = first (add (Some key) keys); run = if is_newest_key key keys then count + 1 else 1; front = front } in s)
    ≡ record { newest = Some key; run = if is_newest key (first keys) then count + 1 else 1; front = front }
own key keys count front =
    ap (λ newest. let s : Side = record { newest = newest; run = if is_newest_key key keys then count + 1 else 1; front = front } in s) (first-add key keys)
    ∙ ap (λ is. let s : Side = record { newest = Some key; run = if is then count + 1 else 1; front = front } in s) (newest-is key keys)

module _ (key : Key) (bytes : List ℕ) (course : FrameCourse) (length error : ℕ) (past : List PastFrame) where
  seen_kind : (kind : PadpKind) (X : End)
      → seen_of (if is_abort kind then past else (let s : PastFrame = record { from = X; is_data = is_data_kind kind; key = key; bytes = bytes; course = course } in s) ∷ past)
      ≡ seen_after X (record { key = key; kind = kind; length = length; front = slice_index bytes 0; error = error }) (seen_of past)
  unfolding seen_of
  seen_kind Abort Handheld = refl
  seen_kind Abort Desktop = refl
  seen_kind Ack Handheld = refl
  seen_kind Ack Desktop = refl
  seen_kind Tickle Handheld = refl
  seen_kind Tickle Desktop = refl
  seen_kind Data Handheld =
      ap (λ side. let s : Seen = record { handheld = side; desktop = side_of Desktop past } in s) (own key (said Handheld past) (run Handheld past) _)
  seen_kind Data Desktop =
      ap (λ side. let s : Seen = record { handheld = side_of Handheld past; desktop = side } in s) (own key (said Desktop past) (run Desktop past) _)

  times_kind : (kind : PadpKind) (X : End)
      → (if is_repeat X (record { from = X; is_data = is_data_kind kind; key = key; bytes = bytes; course = course }) past then run X past + 1 else 0)
      ≡ times_by (side_in X (seen_of past)) (record { key = key; kind = kind; length = length; front = slice_index bytes 0; error = error })
  unfolding seen_of
  times_kind Abort Handheld = refl
  times_kind Abort Desktop = refl
  times_kind Ack Handheld = refl
  times_kind Ack Desktop = refl
  times_kind Tickle Handheld = refl
  times_kind Tickle Desktop = refl
  times_kind Data Handheld = ap (λ is. if is then run Handheld past + 1 else 0) (newest-is key (said Handheld past))
  times_kind Data Desktop = ap (λ is. if is then run Desktop past + 1 else 0) (newest-is key (said Desktop past))

-- what is known behind one more frame
pub seen-add : (frame : FrameValue) (past : List PastFrame) → seen_of (add_frame frame past) ≡ seen_after frame.from (borne frame.bytes) (seen_of past)
unfolding borne
seen-add frame past = seen_kind _ _ (course_of frame.fate) _ _ past _ frame.from

-- which sending it is, by what is known
pub times-is : (frame : FrameValue) (past : List PastFrame) → times past frame ≡ times_by (side_in frame.from (seen_of past)) (borne frame.bytes)
unfolding borne times
times-is frame past =
    times_kind _ (sent_in frame).bytes (course_of frame.fate) (borne frame.bytes).length (borne frame.bytes).error past _ frame.from

pub front-is : (X : End) (past : List PastFrame) → front_of X past ≡ (side_in X (seen_of past)).front
unfolding seen_of
front-is Handheld past = refl
front-is Desktop past = refl

-- ---- one frame more

-- the frames before a place, the newest first
abbrev pub past_at : List Frame → ℕ → List PastFrame
past_at frames i = past_of (map frame_value (take i frames))

-- those from it on
abbrev pub rest_at : List Frame → ℕ → List FrameValue
rest_at frames i = map frame_value (drop i frames)

past_behind-append : (past : List PastFrame) (frames : List FrameValue) (frame : FrameValue)
    → past_behind past (frames ++ frame ∷ []) ≡ add_frame frame (past_behind past frames)
past_behind-append past [] frame = refl
past_behind-append past (older ∷ frames) frame = past_behind-append (add_frame older past) frames frame

pub past-more : (frames : List Frame) (i : ℕ) (frame : Frame) → i < length frames → frame ≡ get_or frames i frame
    → past_at frames (i + 1) ≡ add_frame (frame_value frame) (past_at frames i)
past-more frames i frame inside is =
    ap (λ fs. past_of (map frame_value fs)) (take_more frames i frame inside)
    ∙ ap past_of (map-append frame_value (take i frames) (get_or frames i frame ∷ []))
    ∙ past_behind-append [] (map frame_value (take i frames)) (frame_value (get_or frames i frame))
    ∙ ap (λ f. add_frame (frame_value f) (past_at frames i)) (sym is)

pub rest-more : (frames : List Frame) (i : ℕ) (frame : Frame) → i < length frames → frame ≡ get_or frames i frame
    → rest_at frames i ≡ frame_value frame ∷ rest_at frames (i + 1)
rest-more frames i frame inside is =
    let rest : drop i frames ≡ frame ∷ drop (i + 1) frames =
    rw add-one (drop-cons frames i frame inside ∙ ap (λ (head : Frame). head ∷ drop (suc i) frames) (sym is)) in
    ap (map frame_value) rest

run-few : (X : End) (past : List PastFrame) → run X past ≤ length past
run-few X [] = omega arith
run-few X (frame ∷ past) = few _ _ (run-few X past)
  where
    few : (b c : Bool) → run X past ≤ length past → (if b then run X past + 1 else (if c then 1 else run X past)) ≤ suc (length past)
    few true c older = omega (arith, older)
    few false true older = omega arith
    few false false older = omega (arith, older)

past-few : (past : List PastFrame) (frames : List FrameValue) → length (past_behind past frames) ≤ length past + length frames
past-few past [] = omega arith
past-few past (frame ∷ later) =
    let one = add-short frame past in
    let all = past-few (add_frame frame past) later in
    omega (arith, one, all)

side-few : (X : End) (past : List PastFrame) → (side_in X (seen_of past)).run ≤ length past
unfolding seen_of
side-few Handheld past = run-few Handheld past
side-few Desktop past = run-few Desktop past

-- there are no more repeats than frames
pub run-at : (X : End) (frames : List Frame) (i : ℕ) → i ≤ length frames → (side_in X (seen_of (past_at frames i))).run ≤ i
run-at X frames i inside =
    let one = side-few X (past_at frames i) in
    let all = past-few [] (map frame_value (take i frames)) in
    let counted : length (map frame_value (take i frames)) ≤ i = grind (arith, common_steps) in
    omega (arith, one, all, counted)

-- the rows from a place on
pub rows-more : (text : List ℕ) (frames : List Frame) (i : ℕ) (frame : Frame) → i < length frames → frame ≡ get_or frames i frame
    → (text ++ row (past_at frames i) (frame_value frame)) ++ rows (past_at frames (i + 1)) (rest_at frames (i + 1))
    ≡ text ++ rows (past_at frames i) (rest_at frames i)
rows-more text frames i frame inside is =
    let past = past_at frames i in
    let value = frame_value frame in
    let behind : text ++ (row past value ++ rows (past_at frames (i + 1)) (rest_at frames (i + 1)))
    ≡ text ++ rows past (value ∷ rest_at frames (i + 1)) =
    ap (λ past'. text ++ (row past value ++ rows past' (rest_at frames (i + 1)))) (past-more frames i frame inside is) in
    let left : text ++ rows past (value ∷ rest_at frames (i + 1)) ≡ text ++ rows past (rest_at frames i) =
    ap (λ left. text ++ rows past left) (sym (rest-more frames i frame inside is)) in
    append_assoc text (row past value) (rows (past_at frames (i + 1)) (rest_at frames (i + 1))) ∙ (behind ∙ left)

-- what is counted from a place on
pub counted-more : (p : ℕ → FrameValue → Bool) (frames : List Frame) (i : ℕ) (frame : Frame) → i < length frames → frame ≡ get_or frames i frame
    → (if p (times (past_at frames i) (frame_value frame)) (frame_value frame) then 1 else 0) + counted p (past_at frames (i + 1)) (rest_at frames (i + 1))
    ≡ counted p (past_at frames i) (rest_at frames i)
counted-more p frames i frame inside is =
    let past = past_at frames i in
    let value = frame_value frame in
    let behind : (if p (times past value) value then 1 else 0) + counted p (past_at frames (i + 1)) (rest_at frames (i + 1))
    ≡ (if p (times past value) value then 1 else 0) + counted p (add_frame value past) (rest_at frames (i + 1)) =
    ap (λ past'. (if p (times past value) value then 1 else 0) + counted p past' (rest_at frames (i + 1))) (past-more frames i frame inside is) in
    let left : counted p past (value ∷ rest_at frames (i + 1)) ≡ counted p past (rest_at frames i) =
    ap (λ left. counted p past left) (sym (rest-more frames i frame inside is)) in
    behind ∙ left

module _ (frames : List Frame) (i : ℕ) (frame : Frame) (seen : Seen) (bearing : Bearing) where
  -- what is known behind the frame at a place
  pub seen-more : i < length frames → frame ≡ get_or frames i frame → seen ≡ seen_of (past_at frames i) → bearing ≡ borne frame.bytes.items
      → seen_after frame.from bearing seen ≡ seen_of (past_at frames (i + 1))
  seen-more inside is known bears =
      ap (λ b. seen_after frame.from b seen) bears ∙ (ap (λ s. seen_after frame.from (borne frame.bytes.items) s) known
      ∙ (sym (seen-add (frame_value frame) (past_at frames i)) ∙ ap seen_of (sym (past-more frames i frame inside is))))

  -- which sending it is
  pub times-at : seen ≡ seen_of (past_at frames i) → bearing ≡ borne frame.bytes.items
      → times_by (side_in frame.from seen) bearing ≡ times (past_at frames i) (frame_value frame)
  times-at known bears =
      ap (λ b. times_by (side_in frame.from seen) b) bears ∙ (ap (λ s. times_by (side_in frame.from s) (borne frame.bytes.items)) known
      ∙ sym (times-is (frame_value frame) (past_at frames i)))

  -- the row of the frame at a place
  pub row-at : i < length frames → frame ≡ get_or frames i frame → seen ≡ seen_of (past_at frames i) → bearing ≡ borne frame.bytes.items → (count front : ℕ)
      → count ≡ times_by (side_in frame.from seen) bearing → front ≡ (side_in frame.from (seen_after frame.from bearing seen)).front
      → row_text count front (frame_value frame) bearing ≡ row (past_at frames i) (frame_value frame)
  row-at inside is known bears count front counted fronted =
      let value = frame_value frame in
      let past = past_at frames i in
      let front_is : front ≡ front_of frame.from (add_frame value past) =
      fronted ∙ (ap (λ s. (side_in frame.from s).front) (seen-more inside is known bears) ∙ (sym (front-is frame.from (past_at frames (i + 1)))
      ∙ ap (λ p. front_of frame.from p) (past-more frames i frame inside is))) in
      ap (λ n. row_text n front value bearing) (counted ∙ times-at known bears) ∙ (ap (λ n. row_text (times past value) n value bearing) front_is
      ∙ ap (λ b. row_text (times past value) (front_of frame.from (add_frame value past)) value b) bears)
