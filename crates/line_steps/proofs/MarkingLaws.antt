-- A frame is marked: nothing else of it changes, nor of what is told of the line.
use Rattle.line_steps.proofs.Names.{◌≡◌, ℕ, zero, suc, ◌⊎◌, ◌+◌, ◌<◌, ◌≤◌, true, List, [], ◌∷◌, length, map, Some, refl, sym, ap, subst, ◌∙◌, slice_get}
use Rattle.line_steps.proofs.Names.{Frame, add_frame, past_behind, piece_count, PastFrame, said, acked, at, Talk, frame_value, LineAt, measure, Half, Wire}
use Rattle.line_steps.proofs.Names.{Heard, marked, Marks, past_now, side_of, AllGo, Holds, AllTaken, Delivers, cursor_of, TellsTalk, Talks, Underway}
use Rattle.line_steps.proofs.Names.{StillUnderway, work_left}

-- ---- frames

pub marked_at : (frames : List Frame) (n : ℕ) {frame : Frame} → slice_get frames n ≡ Some frame
    → slice_get (marked n frames) n ≡ Some (record frame { came = true })
marked_at [] n here = absurd cc
marked_at (first ∷ later) zero {frame} here = (let same : first ≡ frame = cc in ap (λ (f : Frame). Some (record f { came = true })) same)
marked_at (first ∷ later) (suc n) here = marked_at later n here

pub length-marked : (n : ℕ) (frames : List Frame) → length (marked n frames) ≡ length frames
length-marked n [] = refl
length-marked zero (frame ∷ later) = refl
length-marked (suc n) (frame ∷ later) = ap suc (length-marked n later)

pub past_marked : (past : List PastFrame) (n : ℕ) (frames : List Frame)
    → past_behind past (map frame_value (marked n frames)) ≡ past_behind past (map frame_value frames)
past_marked past n [] = refl
past_marked past zero (frame ∷ later) = refl
past_marked past (suc n) (frame ∷ later) = past_marked (add_frame (frame_value frame) past) n later

go_marked : (number n : ℕ) (frames : List Frame) → AllGo number frames → AllGo number (marked n frames)
go_marked number n [] go = go
go_marked number zero (frame ∷ later) go = (
  record {
    number_is = go.0.number_is;
    bears = record { is = go.0.bears.is; fragment = go.0.bears.fragment; kind = go.0.bears.kind };
    goes_on = go.0.goes_on;
  },
  go.1,
)
go_marked number (suc n) (frame ∷ later) go = (go.0, go_marked (number + 1) n later go.1)

-- ---- the line

module _ {n : ℕ} {wire new : Wire} where
  pub past-marks : Marks n wire new → past_now new.frames.items ≡ past_now wire.frames.items
  past-marks marks = ap past_now marks.frames_are ∙ past_marked [] n wire.frames.items

  pub holds_marked : {x y : Half} → Marks n wire new → Holds wire x y → Holds new x y
  holds_marked {x} {y} marks holds = record {
    apart = holds.apart;
    fx = holds.fx;
    fy = holds.fy;
    go = subst (AllGo 1) (sym marks.frames_are) (go_marked 1 n wire.frames.items holds.go);
    x_half = holds.x_half;
    y_half = holds.y_half;
    line = subst (λ r. LineAt x.end y.end (past_now new.frames.items) x.taken y.taken r (side_of x) (side_of y) x.receiver y.receiver holds.fx holds.fy
        x.sender.tries y.sender.tries) (sym marks.released_is)
        (subst (λ p. LineAt x.end y.end p x.taken y.taken wire.released (side_of x) (side_of y) x.receiver y.receiver holds.fx holds.fy x.sender.tries
        y.sender.tries) (sym (past-marks marks)) holds.line);
  }

  pub delivers_marked : {X : _} → Marks n wire new → Delivers X wire n → Delivers X new n
  delivers_marked marks next = record {
    frame = record next.frame { came = true };
    here = ap (λ fs. slice_get fs n) marks.frames_are ∙ marked_at wire.frames.items n next.here;
    from_is = next.from_is;
    comes_here = next.comes_here;
    free = λ late. subst (λ r. n + 1 ≤ r) (sym marks.released_is) (next.free late);
  }

  work-marked : (x y : Half) → Marks n wire new → work_left new x y ≡ work_left wire x y
  work-marked x y marks = ap (λ p. measure x.end y.end p x.taken y.taken (side_of x) (side_of y) x.sender.tries y.sender.tries) (past-marks marks)

  pub less-marked : (x y : Half) (later : Wire) (later_x later_y : Half) → Marks n wire new → work_left later later_x later_y < work_left new x y
      → work_left later later_x later_y < work_left wire x y
  less-marked x y later later_x later_y marks less = subst (λ k. work_left later later_x later_y < k) (work-marked x y marks) less

  underway_marked : {x y : Half} → Marks n wire new → Underway wire x y → Underway new x y
  underway_marked {x} {y} marks it = record {
    waits = it.waits;
    due = subst (λ p. (length (acked y.end p) < length (said x.end p)) ⊎ (x.sender.acknowledged + 1 < piece_count (length x.message)))
        (sym (past-marks marks)) it.due;
  }

  taken_marked : {x y : Half} → Marks n wire new → AllTaken wire x y → AllTaken new x y
  taken_marked {x} {y} marks it = record {
    all = subst (λ p. length (said x.end p) ≤ length (acked y.end p)) (sym (past-marks marks)) it.all;
    idle = it.idle;
    last = it.last;
    knows = λ over. subst (λ p. length (said x.end p) ≤ length (acked y.end (at y.taken p))) (sym (past-marks marks)) (it.knows over);
  }

  pub talks_marked : {talk : Talk} (x y : Half) → Marks n wire new → Talks talk wire x y → Talks talk new x y
  talks_marked {talk} x y marks talks = subst (λ p. TellsTalk x.end y.end talk (cursor_of x y) p (side_of x) (side_of y)) (sym (past-marks marks)) talks

  pub still_marked : {heard : Heard} {x y : Half} {later : Wire} {later_x later_y : Half} → Marks n wire new → StillUnderway heard new x y later later_x later_y
      → StillUnderway heard wire x y later later_x later_y
  still_marked {x} {y} marks still = record {
    own = λ it. still.own (underway_marked marks it);
    other = λ it. still.other (underway_marked marks it);
    own_taken = λ waits it. still.own_taken waits (taken_marked marks it);
    other_taken = λ waits it. still.other_taken waits (taken_marked marks it);
    talks = λ talk talks. still.talks talk (talks_marked x y marks talks);
  }
