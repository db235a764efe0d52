-- The walk over the frames: what is known of both ends goes on with each, and so do the two answers.
use Rattle.line_laws.proofs.Names.{◌≡◌, ℕ, zero, suc, ◌+◌, ◌-◌, ◌<◌, ◌≤◌, Bool, true, false, not, ◌&&◌, List, [], ◌∷◌, length, drop, map}
use Rattle.line_laws.proofs.Names.{refl, sym, ap, subst, ◌∙◌, arith, inl, inr, cases_Bool, cases_lt, cond-true, cond-false, and_parts, and_from, both_ways, nat_eq}
use Rattle.line_laws.proofs.Names.{End, Handheld, Desktop, PastFrame, is_end, first, said, is_data_of, is_repeat, pieces_before, messages_of, Talk}
use Rattle.line_laws.proofs.Names.{FrameValue, past_behind, past_of, came_in, sent_in, AreNumbered, AllByRecursion}
use Rattle.line_laws.proofs.Names.{slice_index_or, FateValue, IsKnown, AnswersReached}
use Rattle.std.proofs.Common.{◌||◌, eqb, get_or}
use Rattle.std.proofs.lemmas.Bool.{eqb-true, eq-eqb}
use Rattle.std.specs.Prelude.{◌↔◌}
use Rattle.trace_text.specs.Past.{is_newest_key}
use Rattle.trace_text.specs.Frames.{BearsFragment, MayBear, is_abort, add_frame, fragment_in}
use Rattle.trace_text.specs.Fates.{ends_run}
use Rattle.trace_text.specs.Proper.{SaysMessages}
use Rattle.trace_text.specs.Fates as fate
use Rattle.padp_link.specs.declared.fragment.PadpKind.{PadpKind}
use Rattle.padp_link.specs.declared.fragment.PadpKind.TheVariants.{Data, Ack, Tickle, Abort}
use Rattle.line_laws.proofs.PastLaws.{is_end-same}
use Rattle.trace_text.specs.TraceLines.{frame_value}
use Rattle.trace_text.specs.declared.frame.Frame.{Frame}
use Rattle.trace_check.specs.Judging.{Keeps}
use Rattle.trace_check.specs.Messages.{talk_in, fates_in}
use Rattle.trace_check.specs.declared.rule.Rule.TheVariants.{A, B, D, E, F}
use Rattle.trace_check.specs.declared.notice.Notice.{Notice}
use Rattle.trace_check.proofs.StartLaws.{says-back, new_part, session-length}
use Rattle.trace_check.proofs.BothLaws.{side-speaks, side-hears, repeat-after, key-newest}
use Rattle.trace_check.proofs.JudgeLaws.{known_by, by_known, answered, has-answer, side-is}
use Rattle.trace_check.specs.Notices.{IsNotice, IsNoticeOf}
use Rattle.trace_check.specs.Sides.{IsSide, is_key, no_side}
use Rattle.trace_check.specs.BothEnds.{AreSides, BothValue, both_after, both_by, other_end, side_of}
use Rattle.trace_check.specs.Turns.{BothAnswer, BothKnow, IsWalked, answers_after, has_answer, is_known, is_new, knows_after}

-- ---- one frame

or_cases : (a b : Bool) → (not a || b) ≡ true → a ≡ true → b ≡ true
or_cases true b is yes_it = is
or_cases false b is yes_it = absurd cc

or_from : (a b : Bool) → (a ≡ true → b ≡ true) → (not a || b) ≡ true
or_from true b is = is refl
or_from false b is = refl

module _ (talk : Talk) (came : ℕ → Bool) (frame : PastFrame) (past : List PastFrame) (notice : Notice) (both : BothValue) (says : IsNotice notice frame came past)
    (are : AreSides talk came past both) where
  sides_after : (X : End) → frame.from ≡ X → SaysMessages X talk (frame ∷ past) → AreSides talk came (frame ∷ past) (both_by X notice both)
  sides_after Handheld from messages = record {
    handheld = side-speaks Handheld Desktop talk came frame past notice refl from says both.handheld messages are.handheld;
    desktop = side-hears Handheld Desktop talk came frame past notice refl from says both.handheld both.desktop are.handheld are.desktop;
    repeat_is = repeat-after Handheld Desktop talk came frame past notice refl from says both.handheld are.handheld both.repeat are.repeat_is;
  }
  sides_after Desktop from messages = record {
    handheld = side-hears Desktop Handheld talk came frame past notice refl from says both.desktop both.handheld are.desktop are.handheld;
    desktop = side-speaks Desktop Handheld talk came frame past notice refl from says both.desktop messages are.desktop;
    repeat_is = repeat-after Desktop Handheld talk came frame past notice refl from says both.desktop are.desktop both.repeat are.repeat_is;
  }

  pub both-after : ((X : End) → SaysMessages X talk (frame ∷ past)) → AreSides talk came (frame ∷ past) (both_after notice both)
  both-after messages =
      subst (λ X. AreSides talk came (frame ∷ past) (both_by X notice both)) (sym says.from_is) (sides_after frame.from refl (messages frame.from))

  -- a new fragment of the end that sends the frame
  module _ (X : End) (from : frame.from ≡ X) where
    mine : IsSide X (other_end X) talk came past (side_of X both)
    mine = side-is X talk came past both are

    key_test : is_key notice.key (side_of X both).key ≡ is_newest_key frame.key (said X past)
    key_test = ap (is_key notice.key) mine.key_is ∙ (ap (λ k. is_key k (first (said X past))) says.key_is ∙ key-newest frame.key (said X past))

    from_mine : is_end X frame.from ≡ true
    from_mine = ap (is_end X) from ∙ is_end-same X

    new_test : is_new notice (side_of notice.from both) ≡ (frame.is_data && not (is_newest_key frame.key (said X past)))
    new_test =
        ap (λ Z. is_new notice (side_of Z both)) (says.from_is ∙ from)
        ∙ (ap (λ b. b && not (is_key notice.key (side_of X both).key)) says.is_data_is ∙ ap (λ b. frame.is_data && not b) key_test)

    not_true : (b : Bool) → not b ≡ true → b ≡ false
    not_true true is = absurd cc
    not_true false is = refl

    new_parts : is_new notice (side_of notice.from both) ≡ true
        → (is_data_of X frame ≡ true) × (is_repeat X frame past ≡ false) × (is_newest_key frame.key (said X past) ≡ false)
    new_parts new =
        let parts = and_parts frame.is_data (not (is_newest_key frame.key (said X past))) (sym new_test ∙ new) in
        let fresh = not_true (is_newest_key frame.key (said X past)) parts.1 in
        let data_is : is_data_of X frame ≡ true = and_from _ _ from_mine parts.0 in
        (data_is, ap (λ b. b && is_newest_key frame.key (said X past)) data_is ∙ fresh, fresh)

    new_from : is_data_of X frame ≡ true → is_repeat X frame past ≡ false → is_new notice (side_of notice.from both) ≡ true
    new_from is new =
        let fresh : is_newest_key frame.key (said X past) ≡ false = sym (ap (λ b. b && is_newest_key frame.key (said X past)) is) ∙ new in
        new_test ∙ and_from _ _ (and_parts (is_end X frame.from) frame.is_data is).1 (ap not fresh)

    some_said : (eqb (length (side_of X both).arrivals) 0 ≡ true → ⊥) → 0 < length (said X past)
    some_said some = elim (cases_lt 0 (length (said X past))) [
      | inl more ↦ more
      | inr none ↦ absurd (some (eq-eqb _ _ (omega (arith, none, mine.said_all))))
    ]

    known_or : knows_after notice both ≡ (not (is_new notice (side_of notice.from both)) || nat_eq (length (side_of X both).arrivals) 0 || is_known X both)
    known_or = ap (λ Z. not (is_new notice (side_of notice.from both)) || nat_eq (length (side_of Z both).arrivals) 0 || is_known Z both) (says.from_is ∙ from)

    or_second : (a b c : Bool) → (not a || b || c) ≡ true → a ≡ true → (b ≡ true → ⊥) → c ≡ true
    or_second true true c is it none = absurd (none refl)
    or_second true false c is it none = is
    or_second false b c is it none = absurd cc

    second_from : (a b c : Bool) → (a ≡ true → (b ≡ true → ⊥) → c ≡ true) → (not a || b || c) ≡ true
    second_from true true c is = refl
    second_from true false c is = is refl (λ e. cc)
    second_from false true c is = refl
    second_from false false c is = refl

    pub knows_forth : knows_after notice both ≡ true → is_data_of X frame ≡ true → is_repeat X frame past ≡ false → 0 < length (said X past)
        → IsKnown X (other_end X) talk came past
    knows_forth knows is new some =
        known_by X talk came past both are some
        (or_second _ _ _ (sym known_or ∙ knows) (new_from is new) (λ e. omega (arith, eqb-true _ _ e, mine.said_all, some)))

    pub knows_back : (is_data_of X frame ≡ true → is_repeat X frame past ≡ false → 0 < length (said X past) → IsKnown X (other_end X) talk came past)
        → knows_after notice both ≡ true
    knows_back knows =
        known_or
        ∙ second_from _ _ _
        (λ new none. let parts = new_parts new in
        let some = some_said none in by_known X talk came past both are some (knows parts.0 parts.1 some))

    answers_or : answers_after notice both ≡ (not (is_new notice (side_of notice.from both)) || has_answer X both)
    answers_or = ap (λ Z. not (is_new notice (side_of notice.from both)) || has_answer Z both) (says.from_is ∙ from)

    pub answers_forth : answers_after notice both ≡ true → is_data_of X frame ≡ true → is_repeat X frame past ≡ false → AnswersReached X talk came past
    answers_forth answers is new = answered X talk came past both are (or_cases _ _ (sym answers_or ∙ answers) (new_from is new))

    pub answers_back : SaysMessages X talk (frame ∷ past)
        → (is_data_of X frame ≡ true → is_repeat X frame past ≡ false → AnswersReached X talk came past) → answers_after notice both ≡ true
    answers_back messages answers =
        answers_or
        ∙ or_from _ _
        (λ new. let parts = new_parts new in
        let it = new_part X frame past talk messages parts.0 parts.2 in
        has-answer X talk came past both are (omega (arith, it.2, session-length 0 (messages_of X talk))) (answers parts.0 parts.1))

  -- the other end says nothing
  silent : (X : End) → frame.from ≡ X → is_data_of (other_end X) frame ≡ true → ⊥
  silent Handheld from is =
      let e : is_end Desktop frame.from ≡ false = ap (is_end Desktop) from in
      let t = and_parts (is_end Desktop frame.from) frame.is_data is in
      both_ways _ e t.0
  silent Desktop from is =
      let e : is_end Handheld frame.from ≡ false = ap (is_end Handheld) from in
      let t = and_parts (is_end Handheld frame.from) frame.is_data is in
      both_ways _ e t.0

  pub know_next : (X : End) → frame.from ≡ X → (knows : Bool) → knows ≡ true ↔ BothKnow talk came past
      → (knows && knows_after notice both) ≡ true ↔ BothKnow talk came (frame ∷ past)
  know_next Handheld from knows is = (
    λ now. let parts = and_parts knows _ now in
        let before = is.0 parts.0 in
        ((knows_forth Handheld from parts.1, before.0), (λ it. absurd (silent Handheld from it), before.1)),
    λ now. and_from _ _ (is.1 (now.0.1, now.1.1)) (knows_back Handheld from now.0.0),
  )
  know_next Desktop from knows is = (
    λ now. let parts = and_parts knows _ now in
        let before = is.0 parts.0 in
        ((λ it. absurd (silent Desktop from it), before.0), (knows_forth Desktop from parts.1, before.1)),
    λ now. and_from _ _ (is.1 (now.0.1, now.1.1)) (knows_back Desktop from now.1.0),
  )

  pub answer_next : (X : End) → frame.from ≡ X → SaysMessages X talk (frame ∷ past) → (answers : Bool) → answers ≡ true ↔ BothAnswer talk came past
      → (answers && answers_after notice both) ≡ true ↔ BothAnswer talk came (frame ∷ past)
  answer_next Handheld from messages answers is = (
    λ now. let parts = and_parts answers _ now in
        let before = is.0 parts.0 in
        ((answers_forth Handheld from parts.1, before.0), (λ it. absurd (silent Handheld from it), before.1)),
    λ now. and_from _ _ (is.1 (now.0.1, now.1.1)) (answers_back Handheld from messages now.0.0),
  )
  answer_next Desktop from messages answers is = (
    λ now. let parts = and_parts answers _ now in
        let before = is.0 parts.0 in
        ((λ it. absurd (silent Desktop from it), before.0), (answers_forth Desktop from parts.1, before.1)),
    λ now. and_from _ _ (is.1 (now.0.1, now.1.1)) (answers_back Desktop from messages now.1.0),
  )

-- ---- the whole walk

side_none : (X Y : End) (talk : Talk) (came : ℕ → Bool) → IsSide X Y talk came [] no_side
side_none X Y talk came = record {
  starts_are = record {
    begun = 0;
    there = omega arith;
    counted = refl;
    places = none;
    inside = omega arith;
    behind = λ some. absurd (omega (arith, some));
  };
  said_all = refl;
  arrivals_are = λ j less. absurd (omega (arith, less));
  key_is = refl;
  ack_is = refl;
  late_is = refl;
} where
  none : (k : ℕ) → k ≤ 0 → get_or (0 ∷ []) k 0 ≡ pieces_before (messages_of X talk) k
  none zero inside = refl
  none (suc k) inside = absurd (omega arith)

says_behind : (X : End) (talk : Talk) (later : List FrameValue) (past : List PastFrame) → SaysMessages X talk (past_behind past later) → SaysMessages X talk past
says_behind X talk [] past says = says
says_behind X talk (frame ∷ later) past says = elim (cases_Bool (is_abort (fragment_in frame).kind)) [
  | inl abort ↦
      says_behind X talk later past (subst (λ p. SaysMessages X talk (past_behind p later)) (cond-true _ _ _ abort) says)
  | inr other ↦
      says-back X (sent_in frame) past talk
      (says_behind X talk later (sent_in frame ∷ past) (subst (λ p. SaysMessages X talk (past_behind p later)) (cond-false _ _ _ other) says))
]

messages-say : (frames : List FrameValue) → Keeps D frames → (X : End) → SaysMessages X (talk_in frames) (past_of frames)
messages-say frames keeps Handheld = keeps.handheld
messages-say frames keeps Desktop = keeps.desktop

drop-next : (frames : List FrameValue) (index : ℕ) {frame : FrameValue} {later : List FrameValue} → drop index frames ≡ frame ∷ later
    → slice_index_or (map (λ (f : FrameValue). f.came) frames) index false ≡ frame.came
drop-next [] zero {frame} is = absurd cc
drop-next [] (suc index) {frame} is = absurd cc
drop-next (first ∷ rest) zero {frame} is = (let e : first ≡ frame = cc in ap (λ (f : FrameValue). f.came) e)
drop-next (first ∷ rest) (suc index) {frame} is = drop-next rest index is

notice-is : (notice : Notice) (frames : List FrameValue) (frame : FrameValue) (later : List FrameValue) (index : ℕ) (past : List PastFrame) → length past ≡ index
    → drop index frames ≡ frame ∷ later → IsNoticeOf notice frame (index + 1) → IsNotice notice (sent_in frame) (came_in frames) past
notice-is notice frames frame later index past counted here says = record {
  from_is = says.from_is;
  is_data_is = says.is_data_is;
  key_is = says.key_is;
  late_is = says.late_is;
  number_is = says.number_is ∙ ap (λ n. n + 1) (sym counted);
  came_is = says.came_is
      ∙ (sym (drop-next frames index here)
      ∙ ap (λ n. slice_index_or (map (λ (f : FrameValue). f.came) frames) n false) (let e : index ≡ length past + 1 - 1 = omega (arith, counted) in e));
}

-- one frame more
pub walk_goes : (frames : List FrameValue) (index : ℕ) (frame : FrameValue) (later : List FrameValue) (notice : Notice) (both : BothValue)
    (knows answers : Bool) → Keeps D frames → IsWalked frames index both knows answers → drop index frames ≡ frame ∷ later → drop (index + 1) frames ≡ later
    → is_abort (fragment_in frame).kind ≡ false → IsNoticeOf notice frame (index + 1)
    → IsWalked frames (index + 1) (both_after notice both) (knows && knows_after notice both) (answers && answers_after notice both)
walk_goes frames index frame later notice both knows answers keeps was here behind no_abort says =
    let past = was.past in
    let sent = sent_in frame in
    let it = notice-is notice frames frame later index past was.counted here says in
    let rest : past_behind (sent ∷ past) later ≡ past_of frames =
    ap (λ p. past_behind p later) (sym (cond-false (is_abort (fragment_in frame).kind) past (sent ∷ past) no_abort))
    ∙ (ap (past_behind past) (sym here) ∙ was.rest_is) in
    let messages : (X : End) → SaysMessages X (talk_in frames) (sent ∷ past) =
    λ X. says_behind X (talk_in frames) later (sent ∷ past) (subst (SaysMessages X (talk_in frames)) (sym rest) (messages-say frames keeps X)) in
    record {
      past = sent ∷ past;
      rest_is = ap (past_behind (sent ∷ past)) behind ∙ rest;
      counted = omega (arith, was.counted);
      are = both-after (talk_in frames) (came_in frames) sent past notice both it was.are messages;
      knows_is = know_next (talk_in frames) (came_in frames) sent past notice both it was.are sent.from refl knows was.knows_is;
      answers_is = answer_next (talk_in frames) (came_in frames) sent past notice both it was.are sent.from refl (messages sent.from) answers was.answers_is;
    }

-- all frames were walked
pub record IsJudged (frames : List FrameValue) (knows answers : Bool) : Type 0 where
  pub knows_is : knows ≡ true ↔ Keeps E frames
  pub answers_is : answers ≡ true ↔ Keeps F frames

judged : (frames : List FrameValue) (index : ℕ) (both : BothValue) (knows answers : Bool) (was : IsWalked frames index both knows answers)
    → was.past ≡ past_of frames → IsJudged frames knows answers
judged frames index both knows answers was all = record {
  knows_is = subst (λ p. knows ≡ true ↔ BothKnow (talk_in frames) (came_in frames) p) all was.knows_is;
  answers_is = subst (λ p. answers ≡ true ↔ BothAnswer (talk_in frames) (came_in frames) p) all was.answers_is;
}

pub walk_ends : (frames : List FrameValue) (index : ℕ) (both : BothValue) (knows answers : Bool) → IsWalked frames index both knows answers
    → drop index frames ≡ [] → IsJudged frames knows answers
walk_ends frames index both knows answers was none =
    judged frames index both knows answers was (ap (past_behind was.past) (sym none) ∙ was.rest_is)

-- ---- an abort is the last frame

abort-fate : (given : FateValue) (kind : PadpKind) → MayBear given kind → is_abort kind ≡ true → given ≡ fate.Abort
abort-fate given Data may is = absurd cc
abort-fate given Ack may is = absurd cc
abort-fate given Tickle may is = absurd cc
abort-fate given Abort may is = may

pub bears-next : (frames : List FrameValue) (index : ℕ) {frame : FrameValue} {later : List FrameValue} → AllByRecursion BearsFragment frames
    → drop index frames ≡ frame ∷ later → BearsFragment frame
bears-next [] zero all is = absurd cc
bears-next [] (suc index) all is = absurd cc
bears-next (first ∷ rest) zero {frame} all is = (let e : first ≡ frame = cc in subst BearsFragment e all.0)
bears-next (first ∷ rest) (suc index) all is = bears-next rest index all.1 is

ends-last : (frames : List FrameValue) (number index : ℕ) (script : ℕ → FateValue) {frame : FrameValue} {later : List FrameValue}
    → AreNumbered number script frames → drop index frames ≡ frame ∷ later → ends_run frame.fate frame.bytes ≡ true → later ≡ []
ends-last [] number zero script all is ends = absurd cc
ends-last [] number (suc index) script all is ends = absurd cc
ends-last (first ∷ rest) number zero script {frame} {later} all is ends =
    let e : first ≡ frame = cc in
    let same : rest ≡ later = cc in
    sym same ∙ all.2 (ap (λ (f : FrameValue). ends_run f.fate f.bytes) e ∙ ends)
ends-last (first ∷ rest) number (suc index) script all is ends = ends-last rest (number + 1) index script all.3 is ends

pub walk_aborts : (frames : List FrameValue) (index : ℕ) (frame : FrameValue) (later : List FrameValue) (both : BothValue) (knows answers : Bool)
    → Keeps A frames → Keeps B frames → IsWalked frames index both knows answers → drop index frames ≡ frame ∷ later
    → is_abort (fragment_in frame).kind ≡ true → IsJudged frames knows answers
walk_aborts frames index frame later both knows answers numbered bear was here abort =
    let bears = bears-next frames index bear here in
    let given : frame.fate ≡ fate.Abort = abort-fate frame.fate (fragment_in frame).kind bears.kind abort in
    let ends : ends_run frame.fate frame.bytes ≡ true = ap (λ f. ends_run f frame.bytes) given in
    let none : later ≡ [] = ends-last frames 1 index (fates_in frames) numbered here ends in
    judged frames index both knows answers was
    (sym (cond-true (is_abort (fragment_in frame).kind) was.past (sent_in frame ∷ was.past) abort)
    ∙ (ap (past_behind (add_frame frame was.past)) (sym none) ∙ (ap (past_behind was.past) (sym here) ∙ was.rest_is)))

-- the frame at an index of the program's frames
pub drop_at : (frames : List Frame) (index : ℕ) (frame : Frame) → index < length frames → frame ≡ get_or frames index frame
    → drop index (map frame_value frames) ≡ frame_value frame ∷ drop (index + 1) (map frame_value frames)
drop_at [] index frame less is = absurd (omega arith)
drop_at (first ∷ rest) zero frame less is = ap (λ f. frame_value f ∷ map frame_value rest) (sym is)
drop_at (first ∷ rest) (suc index) frame less is =
    let next : suc index + 1 ≡ suc (index + 1) = omega arith in
    drop_at rest index frame (omega arith) is ∙ ap (λ n. frame_value frame ∷ drop n (map frame_value (first ∷ rest))) (sym next)
