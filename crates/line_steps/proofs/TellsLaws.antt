-- What the frames of a line tell both ends.
use Rattle.line_steps.proofs.Names.{◌≡◌, ℕ, ◌≤◌, false, List, [], ◌∷◌, ◌++◌, length, map, reverse, sym, ap, subst, ◌∙◌, arith, inl, inr, append-nil, map-append}
use Rattle.line_steps.proofs.Names.{length-map, End, Frame, past_of, came_in, spoken, session_parts, at, IdMessage, IsStoryOf, IsStory, Talk, messages_of}
use Rattle.line_steps.proofs.Names.{frame_value, Side, CameByCursor, heard, left, Speech, IsByCursor, came_in-is, unsaid-none, RuleValue, Half, Wire, Stop}
use Rattle.line_steps.proofs.Names.{Halt, NoMemory, Stopped, Down, is_aborted, EndsWith, HaltsBy, TellsOf, HaltedTells, TurnTellsAll, past_now, side_of}
use Rattle.line_steps.proofs.Names.{HeardOf, TookMessages, cursor_of, RecordsFrames}
use Rattle.line_steps.proofs.FrameLaws.{length-past}
use Rattle.line_steps.proofs.ProperLaws.{whole_go, last_by}
use Rattle.line_steps.proofs.TalkedLaws.{cursor_own, cursor_other, x_heard_as, y_heard_as}
use Rattle.line_steps.proofs.TookLaws.{taken_heard, took_tells, all_told}

-- which frames came, by the cursors
by_end : (cursor : End → ℕ) {frames : List Frame} {stop : Stop} → EndsWith stop frames → CameByCursor 1 cursor (map frame_value frames)
    → IsByCursor cursor (came_in (map frame_value frames)) (past_now frames)
by_end cursor {frames} {stop} it came =
    let list : map frame_value frames ≡ map frame_value it.before ++ frame_value it.last ∷ [] =
    ap (map frame_value) it.is ∙ map-append frame_value it.before (it.last ∷ []) in
    let size : length (past_now it.before) ≡ length (map frame_value it.before) = length-past it.before it.go ∙ sym (length-map it.before frame_value) in
    subst (λ fs. IsByCursor cursor (came_in fs) (past_of fs)) (sym list)
    (last_by cursor (map frame_value it.before) (frame_value it.last) (is_aborted stop) it.aborts (whole_go 1 it.before it.go)
    (subst (CameByCursor 1 cursor) list came) size)

by_halt : (halt : Halt) (cursor : End → ℕ) (frames : List Frame) → HaltsBy halt cursor frames → CameByCursor 1 cursor (map frame_value frames)
    → IsByCursor cursor (came_in (map frame_value frames)) (past_now frames)
by_halt NoMemory cursor frames by came = came_in-is cursor (map frame_value frames) (whole_go 1 frames by) came
by_halt (Stopped stop) cursor frames by came = by_end cursor by came
by_halt (Down end) cursor frames by came = came_in-is cursor (map frame_value frames) (whole_go 1 frames by.0) came

-- so what was taken is told by the frames
is_told : {X : End} (cursor : End → ℕ) (frames : List Frame) {story : List IdMessage} → IsByCursor cursor (came_in (map frame_value frames)) (past_now frames)
    → cursor X ≤ length (past_now frames) → IsStoryOf (reverse (heard X (at (cursor X) (past_now frames)))) story
    → IsStory X (map frame_value frames) story
is_told cursor frames {story} is inside told =
    subst (λ ps. IsStoryOf (reverse ps) story) (sym (taken_heard cursor (past_now frames) is inside)) told

-- so do those of a line that halted
pub halted_story : (halt : Halt) {script : List RuleValue} {wire : Wire} {x y : Half} (X : End) {story : List IdMessage}
    → HaltsBy halt (cursor_of x y) wire.frames.items → RecordsFrames script wire x y → cursor_of x y X ≤ length (past_now wire.frames.items)
    → IsStoryOf (reverse (heard X (at (cursor_of x y X) (past_now wire.frames.items)))) story → IsStory X (map frame_value wire.frames.items) story
halted_story halt {wire} {x} {y} X by recorded inside told =
    is_told (cursor_of x y) wire.frames.items (by_halt halt (cursor_of x y) wire.frames.items by recorded.came) inside told

told_of : {X : End} {talk : Talk} (cursor : End → ℕ) (frames : List Frame) → IsByCursor cursor (came_in (map frame_value frames)) (past_now frames)
    → cursor X ≤ length (past_now frames) → TookMessages X talk (past_now frames) (cursor X)
    → TellsOf X (messages_of X talk) (map frame_value frames)
told_of cursor frames is inside took = elim (took_tells took) [
  | inl whole ↦ inl (is_told cursor frames is inside whole)
  | inr but ↦ inr (but.0, is_told cursor frames is inside but.1)
]

pub halted_tells : HaltedTells
halted_tells halt script talk wire x y by spoke recorded =
    let is = by_halt halt (cursor_of x y) wire.frames.items by recorded.came in
    (told_of (cursor_of x y) wire.frames.items is spoke.x_in spoke.x_took, told_of (cursor_of x y) wire.frames.items is spoke.y_in spoke.y_took)

-- ---- where all was said and taken

all_said : {X Y : End} {talk : Talk} {cursor : End → ℕ} (frames : List Frame) {side : Side} → Speech X Y talk cursor (past_now frames) side → left side ≡ 0
    → HeardOf X (past_now frames) (cursor X) false side
    → reverse (heard X (at (cursor X) (past_now frames))) ≡ session_parts 0 (messages_of X talk)
all_said {X} frames {side} speech none was =
    ap (λ ps. reverse ps) was ∙ (sym (append-nil (reverse (spoken X (past_now frames))))
    ∙ (ap (λ ps. reverse (spoken X (past_now frames)) ++ ps) (sym (unsaid-none side none)) ∙ speech.says))

pub turn_tells_all : TurnTellsAll
turn_tells_all script talk wire x y turn talks recorded =
    let cursor = cursor_of x y in
    let line = turn.settled.line in
    let apart = turn.settled.apart in
    let frames = wire.frames.items in
    let is = by_halt NoMemory (cursor_of x y) wire.frames.items turn.settled.go recorded.came in
    let x_heard = subst (λ n. HeardOf x.end (past_now wire.frames.items) n false (side_of x)) (sym (cursor_own x.end x.taken y.taken))
    (x_heard_as wire x y false line.core.there.follows talks) in
    let y_heard = subst (λ n. HeardOf y.end (past_now wire.frames.items) n false (side_of y)) (sym (cursor_other x.end y.end x.taken y.taken apart.there))
    (y_heard_as wire x y false apart.there line.core.back.follows talks) in (
      is_told cursor frames is (omega (arith, cursor_own x.end x.taken y.taken, line.core.there.cur_in))
          (all_told 0 (messages_of x.end talk) (all_said frames talks.talking.x_speech (omega (arith, turn.idle)) x_heard)),
      is_told cursor frames is (omega (arith, cursor_other x.end y.end x.taken y.taken apart.there, line.core.back.cur_in))
          (all_told 0 (messages_of y.end talk) (all_said frames talks.talking.y_speech (omega (arith, turn.last)) y_heard)),
    )
