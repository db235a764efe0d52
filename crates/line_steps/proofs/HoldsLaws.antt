-- The steps over the values of the program.
use Rattle.line_steps.proofs.Names.{common_steps, rules, ◌≡◌, ℕ, ◌+◌, ◌<◌, ◌≤◌, Bool, true, false, ◌&&◌, [], length, Some, refl, sym, ap, subst, ◌∙◌, arith}
use Rattle.line_steps.proofs.Names.{slice_get, ReaderValue, Frame, FateValue, Untouched, Lost, Late, Cut, Hit, Noise, Unplug, fate_value, arrives, comes}
use Rattle.line_steps.proofs.Names.{course_of, is_end, frame_value, running_skips, Half, Wire, IsHalf, Goes, Holds, MovesCursor, MovesReader}
use Rattle.trace_text.specs.Fates.{Abort}
use Rattle.line_steps.proofs.FrameLaws.{past_at, length-past, go_at}

pub course_comes : (given : FateValue) → comes (course_of given) ≡ arrives given
course_comes Untouched = refl
course_comes Lost = refl
course_comes Late = refl
course_comes (Cut count) = refl
course_comes (Hit place bytes) = refl
course_comes (Noise bytes) = refl
course_comes Unplug = refl
course_comes Abort = refl

-- x's next frame was taken off
abbrev pub moved : Half → Half
moved x = record x { taken = x.taken + 1 }

abbrev pub with_reader : Half → ReaderValue → Half
with_reader y reader = record y { reader = reader }

-- a reader that took a gap
pub reads : {half : Half} {reader : ReaderValue} → IsHalf half → reader.held ≡ [] → IsHalf (with_reader half reader)
reads is_half gap = search rules

pub skipped : {wire : Wire} {x y : Half} {frame : Frame} {reader : ReaderValue} → Holds wire x y → x.taken < length wire.frames.items
    → slice_get wire.frames.items x.taken ≡ Some frame
    → (is_end x.end frame.from && arrives (fate_value frame.fate)) ≡ false → reader.held ≡ [] → Holds wire (moved x) (with_reader y reader)
skipped {wire} {x} {frame} holds inside here gone gap =
    let frames = wire.frames.items in
    let away = ap (λ b. is_end x.end frame.from && b) (course_comes (fate_value frame.fate)) ∙ gone in
    record {
      apart = holds.apart;
      fx = holds.fx;
      fy = holds.fy;
      go = holds.go;
      x_half = record { length_is = holds.x_half.length_is; gap = holds.x_half.gap };
      y_half = reads holds.y_half gap;
      line = running_skips holds.line
          (omega (arith, inside, length-past frames holds.go)) (past_at frames x.taken holds.go here) away;
    }

-- what the loop over skipped frames keeps
abbrev pub Skips : Wire → Half → Half → Half → Half → Type 0
Skips wire x0 y0 x y = Holds wire x y × MovesCursor x0 x × MovesReader y0 y × (x.taken ≤ length wire.frames.items)

pub skip_step : {wire : Wire} (x0 y0 : Half) {x y new : Half} {frame : Frame} → Skips wire x0 y0 x y → x.taken < length wire.frames.items
    → slice_get wire.frames.items x.taken ≡ Some frame
    → (is_end x.end frame.from && arrives (fate_value frame.fate)) ≡ false → MovesReader y new → new.reader.held ≡ [] → Skips wire x0 y0 (moved x) new
skip_step {wire} x0 y0 {x} {new} skips inside here gone read gap = (
  subst (λ (h : Half). Holds wire (moved x) h) (sym read) (skipped skips.0 inside here gone gap),
  ap (λ (h : Half). record h { taken = x.taken + 1 }) skips.1,
  read ∙ ap (λ (h : Half). record h { reader = new.reader }) skips.2,
  omega (arith, inside),
)

-- a frame of the line: it goes on, and has bytes
pub going : {wire : Wire} {x y : Half} (n : ℕ) {frame : Frame} → Holds wire x y → slice_get wire.frames.items n ≡ Some frame → Goes (1 + n) (frame_value frame)
going {wire} n holds here = go_at 1 wire.frames.items n holds.go here

pub has_bytes : {number : ℕ} (frame : Frame) → Goes number (frame_value frame) → 0 < length frame.bytes.items
has_bytes frame goes = grind (arith, common_steps)

pub and_none : (a : Bool) {b : Bool} → b ≡ false → (a && b) ≡ false
and_none true none = none
and_none false none = refl
