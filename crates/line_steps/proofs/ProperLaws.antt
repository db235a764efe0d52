-- The frames of a line are a proper trace, while it runs and where it halted.
use Rattle.line_steps.proofs.Names.{◌≡◌, ℕ, ◌+◌, ◌≤◌, Bool, true, false, List, [], ◌∷◌, ◌++◌, length, map, refl, sym, ap, subst, ◌∙◌, inl, inr, AllByRecursion}
use Rattle.line_steps.proofs.Names.{both_ways, cond-true, map-append, length-map, RuleValue, fate_by, End, Handheld, Desktop, Frame, FateValue, BearsFragment}
use Rattle.line_steps.proofs.Names.{fragment_in, is_abort, past_of, came_in, PastFrame, AcksAreFor, AreNumbered, DataIsAcked, SpeaksProperly, IsProper}
use Rattle.line_steps.proofs.Names.{data_that_came, Talk, FrameValue, frame_value, came_by, CameByCursor, IsNoAbort, Grows, begins-grow, acks-grow}
use Rattle.line_steps.proofs.Names.{data_that_came-taken, data_that_came-by, all-push, IsByCursor, grows-by, came_in-is, come-in-order, came-still, Stop, Halt}
use Rattle.line_steps.proofs.Names.{NoMemory, Stopped, Down, AllBy, other_end, is_aborted, EndsWith, HaltsBy, HasProperPast, RunningIsProper, HaltedIsProper, past_now}
use Rattle.line_steps.proofs.Names.{AllGo, cursor_of}
use Rattle.line_steps.proofs.FrameLaws.{behind_push, length-past, not_abort}
use Rattle.line_steps.proofs.HaltedLaws.{spoken_now}
use Rattle.line_steps.proofs.HaltingLaws.{other_is}

-- ---- what each end said, by what came in the frames

speaks_came : {X Y : End} {talk : Talk} (cursor : End → ℕ) {came : ℕ → Bool} {past : List PastFrame} → IsByCursor cursor came past → cursor X ≤ length past
    → SpeaksProperly X Y talk (came_by cursor past) past → SpeaksProperly X Y talk came past
speaks_came {X} {Y} {talk} cursor {came} {past} is inside was = record {
  says = was.says;
  ten = was.ten;
  begins = begins-grow X Y talk past grows was.begins;
  acked = go was.acked;
} where
  grows : Grows (came_by cursor past) came past
  grows = grows-by cursor past is

  same : data_that_came X came past ≡ data_that_came X (came_by cursor past) past
  same = data_that_came-taken cursor past is inside ∙ sym (data_that_came-by cursor past inside)

  go : DataIsAcked X Y (came_by cursor past) past → DataIsAcked X Y came past
  go (inl all) = inl (subst (AcksAreFor Y came past) (sym same) (acks-grow Y past (data_that_came X (came_by cursor past) past) grows all))
  go (inr but) = inr (record { last = but.last; older = but.older; is = same ∙ but.is; acked = acks-grow Y past but.older grows but.acked })

spoken_proper : {script : ℕ → FateValue} {talk : Talk} {cursor : End → ℕ} {frames : List FrameValue} → AreNumbered 1 script frames
    → AllByRecursion BearsFragment frames → CameByCursor 1 cursor frames → IsByCursor cursor (came_in frames) (past_of frames)
    → HasProperPast Handheld Desktop talk cursor (past_of frames) → IsProper script talk frames
spoken_proper {cursor} {frames} numbered bear came is spoken = record {
  numbered = numbered;
  bear = bear;
  come = come-in-order cursor 1 frames came;
  faults = spoken.faults;
  handheld = speaks_came cursor is spoken.x_in spoken.x_speaks;
  desktop = speaks_came cursor is spoken.y_in spoken.y_speaks;
}

-- ---- frames with which the run goes on

numbered_go : (script : List RuleValue) (number : ℕ) (frames : List Frame) → AllBy script number frames → AllGo number frames
    → AreNumbered number (fate_by script) (map frame_value frames)
numbered_go script number [] all go = tt
numbered_go script number (frame ∷ later) all go =
    (all.0, all.1, λ ends. absurd (both_ways _ go.0.goes_on ends), numbered_go script (number + 1) later all.2 go.1)

bear_go : (number : ℕ) (frames : List Frame) → AllGo number frames → AllByRecursion BearsFragment (map frame_value frames)
bear_go number [] go = tt
bear_go number (frame ∷ later) go = (go.0.bears, bear_go (number + 1) later go.1)

pub whole_go : (number : ℕ) (frames : List Frame) → AllGo number frames → AllByRecursion IsNoAbort (map frame_value frames)
whole_go number [] go = tt
whole_go number (frame ∷ later) go = (not_abort go.0, whole_go (number + 1) later go.1)

going_proper : (script : List RuleValue) {talk : Talk} {cursor : End → ℕ} (frames : List Frame) → AllBy script 1 frames → AllGo 1 frames
    → CameByCursor 1 cursor (map frame_value frames) → HasProperPast Handheld Desktop talk cursor (past_now frames)
    → IsProper (fate_by script) talk (map frame_value frames)
going_proper script {cursor} frames all go came spoken =
    spoken_proper (numbered_go script 1 frames all go) (bear_go 1 frames go) came
    (came_in-is cursor (map frame_value frames) (whole_go 1 frames go) came) spoken

-- ---- frames with the last of which the run ends

numbered_last : (script : List RuleValue) (number : ℕ) (before : List Frame) (last : Frame) → AllBy script number (before ++ last ∷ []) → AllGo number before
    → AreNumbered number (fate_by script) (map frame_value before ++ frame_value last ∷ [])
numbered_last script number [] last all go = (all.0, all.1, λ ends. refl, tt)
numbered_last script number (frame ∷ later) last all go =
    (all.0, all.1, λ ends. absurd (both_ways _ go.0.goes_on ends), numbered_last script (number + 1) later last all.2 go.1)

came_before : (number : ℕ) (cursor : End → ℕ) (before : List FrameValue) (last : FrameValue) → CameByCursor number cursor (before ++ last ∷ [])
    → CameByCursor number cursor before
came_before number cursor [] last came = tt
came_before number cursor (frame ∷ later) last came = (came.0, came_before (number + 1) cursor later last came.1)

pub last_by : (cursor : End → ℕ) (before : List FrameValue) (last : FrameValue) (aborts : Bool) → is_abort (fragment_in last).kind ≡ aborts
    → AllByRecursion IsNoAbort before → CameByCursor 1 cursor (before ++ last ∷ []) → length (past_of before) ≡ length before
    → IsByCursor cursor (came_in (before ++ last ∷ [])) (past_of (before ++ last ∷ []))
last_by cursor before last false is whole came same = came_in-is cursor (before ++ last ∷ []) (all-push IsNoAbort before whole is) came
last_by cursor before last true is whole came same =
    let past_is : past_of (before ++ last ∷ []) ≡ past_of before = behind_push [] before last ∙ cond-true _ _ _ is in
    subst (λ p. IsByCursor cursor (came_in (before ++ last ∷ [])) p) (sym past_is)
    (came-still cursor before last (past_of before) same (came_in-is cursor before whole (came_before 1 cursor before last came)))

ended_proper : (script : List RuleValue) {talk : Talk} {cursor : End → ℕ} {frames : List Frame} {stop : Stop} → EndsWith stop frames → AllBy script 1 frames
    → CameByCursor 1 cursor (map frame_value frames) → HasProperPast Handheld Desktop talk cursor (past_now frames)
    → IsProper (fate_by script) talk (map frame_value frames)
ended_proper script {talk} {cursor} {frames} {stop} it all came spoken =
    let list : map frame_value frames ≡ map frame_value it.before ++ frame_value it.last ∷ [] =
    ap (map frame_value) it.is ∙ map-append frame_value it.before (it.last ∷ []) in
    let came_last = subst (CameByCursor 1 cursor) list came in
    let whole = whole_go 1 it.before it.go in
    let size : length (past_now it.before) ≡ length (map frame_value it.before) = length-past it.before it.go ∙ sym (length-map it.before frame_value) in
    subst (IsProper (fate_by script) talk) (sym list)
    (spoken_proper (numbered_last script 1 it.before it.last (subst (AllBy script 1) it.is all) it.go)
    (all-push BearsFragment (map frame_value it.before) (bear_go 1 it.before it.go) it.bears)
    came_last (last_by cursor (map frame_value it.before) (frame_value it.last) (is_aborted stop) it.aborts whole came_last size)
    (subst (λ fs. HasProperPast Handheld Desktop talk cursor (past_of fs)) list spoken))

-- ---- a line

halts_proper : (halt : Halt) (script : List RuleValue) {talk : Talk} {cursor : End → ℕ} (frames : List Frame) → HaltsBy halt cursor frames
    → AllBy script 1 frames → CameByCursor 1 cursor (map frame_value frames) → HasProperPast Handheld Desktop talk cursor (past_now frames)
    → IsProper (fate_by script) talk (map frame_value frames)
halts_proper NoMemory script frames by all came spoken = going_proper script frames all by came spoken
halts_proper (Stopped stop) script frames by all came spoken = ended_proper script by all came spoken
halts_proper (Down end) script frames by all came spoken = going_proper script frames all by.0 came spoken

pub halted_is_proper : HaltedIsProper
halted_is_proper halt script talk wire x y handheld desktop by spoke recorded =
    halts_proper halt script wire.frames.items by recorded.by recorded.came
    (subst (λ X. HasProperPast X Desktop talk (cursor_of x y) (past_now wire.frames.items)) handheld
    (subst (λ Y. HasProperPast x.end Y talk (cursor_of x y) (past_now wire.frames.items)) desktop spoke))

pub running_is_proper : RunningIsProper
running_is_proper script talk wire x y handheld holds talks recorded =
    let desktop : y.end ≡ Desktop = other_is x.end y.end holds.apart ∙ ap other_end handheld in
    halted_is_proper NoMemory script talk wire x y handheld desktop holds.go (spoken_now holds talks) recorded
