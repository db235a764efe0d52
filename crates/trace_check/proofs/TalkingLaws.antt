-- What both ends may say next is what the rule of messages asks, frame by frame.
use Rattle.std.proofs.Common.{◌≡◌, ℕ, zero, suc, ◌+◌, ◌<◌, ◌≤◌, Bool, true, false, ◌&&◌, List, [], ◌∷◌, length, refl, sym, ap, subst, ◌∙◌, arith, inl, inr}
use Rattle.std.specs.Prelude.{reverse, if◌then◌else◌, ◌↔◌}
use Rattle.std.specs.Bool.{MatchBool}
use Rattle.std.specs.List.{AllByRecursion}
use Rattle.std.proofs.lemmas.Bool.{cond-true, cond-false, cases_Bool}
use Rattle.std.proofs.lemmas.Bool.Decides.{when_true, when_false}
use Rattle.std.proofs.lemmas.List.{length-reverse}
use Rattle.cmp_hello.specs.declared.hello.HelloKind.TheVariants.{Wake, Init}
use Rattle.trace_text.specs.declared.frame.End.{End}
use Rattle.trace_text.specs.declared.frame.End.TheVariants.{Handheld, Desktop}
use Rattle.trace_text.specs.Faults.{is_faulty, newest}
use Rattle.trace_text.specs.Frames.{BearsFragment, sent_in, add_frame, is_abort, fragment_in, past_behind, past_of}
use Rattle.trace_text.specs.Parts.{Part, part_of, add_part, spoken, session_parts}
use Rattle.trace_text.specs.Past.{PastFrame, is_end, same_key, is_data_of}
use Rattle.trace_text.specs.Proper.{SaysMessages}
use Rattle.trace_text.specs.TraceLines.{FrameValue}
use Rattle.line_laws.proofs.PastLaws.{is_end-same}
use Rattle.trace_check.specs.Judging.{SayMessages}
use Rattle.trace_check.specs.Messages.{messages_in, parts_in, talk_in, whole_count}
use Rattle.trace_check.specs.Standings.{start, next, next_by, standing_behind, wholes_at}
use Rattle.trace_check.specs.Speaking.{SaysNext, IsSpeaker, SpeaksSo, HasFault}
use Rattle.trace_check.specs.Talking.{greeting_of, speaker_of, with_speaker, EndSays, Says, IsTalking, TalksSo, HasRoom}
use Rattle.trace_check.specs.declared.speaker.Speaker.{Speaker}
use Rattle.trace_check.specs.declared.standing.Standing.{Standing}
use Rattle.trace_check.specs.declared.talking.Talking.{Talking}
use Rattle.trace_check.proofs.GreetingLaws.{first-said, said-greets}
use Rattle.trace_check.proofs.SpeakingLaws.{other-speaker, other-so, other-fault, next-says, says-next, so-before}
use Rattle.trace_check.proofs.StandingLaws.{wholes_in-standing, said-first}
use Rattle.trace_check.proofs.TalkLaws.{talk_in-messages}

-- ---- at first

-- ---- one frame more

-- both behind one frame more
abbrev pub counted_on : PastFrame → Talking → Talking
counted_on frame talking = record {
  handheld = talking.handheld;
  desktop = talking.desktop;
  count = talking.count + 1;
  fault = if is_faulty frame.course then talking.count + 1 else talking.fault;
}

data_is : (X : End) (frame : PastFrame) → frame.from ≡ X → frame.is_data ≡ true → is_data_of X frame ≡ true
data_is X frame from is = ap (λ b. b && frame.is_data) (ap (is_end X) from ∙ is_end-same X) ∙ is

no_data : (X : End) (frame : PastFrame) → frame.is_data ≡ false → is_data_of X frame ≡ false
no_data X frame other = ap (λ b. is_end X frame.from && b) other ∙ none (is_end X frame.from)
  where
    none : (b : Bool) → (b && false) ≡ false
    none true = refl
    none false = refl

-- what holds of each end behind the frame
record Turns (X : End) (frame : PastFrame) (past : List PastFrame) (speaker : Speaker) : Type 0 where
  is : IsSpeaker X (frame ∷ past) speaker
  so : SpeaksSo (greeting_of X) X (frame ∷ past)
  fault : HasFault X frame past

turns-other : (X : End) (frame : PastFrame) (past : List PastFrame) (speaker : Speaker) → is_data_of X frame ≡ false → IsSpeaker X past speaker
    → SpeaksSo (greeting_of X) X past → Turns X frame past speaker
turns-other X frame past speaker other is so = record {
  is = other-speaker X frame past speaker other is;
  so = other-so (greeting_of X) X frame past other so;
  fault = other-fault X frame past other;
}

turns-both : (frame : PastFrame) (past : List PastFrame) (old new : Talking) → IsTalking past old → TalksSo past → new.count ≡ old.count → new.fault ≡ old.fault
    → ((X : End) → Turns X frame past (speaker_of X new)) → IsTalking (frame ∷ past) (counted_on frame new) × TalksSo (frame ∷ past)
turns-both frame past old new is so count fault turns = (
  record {
    speaker = speakers;
    count_is = omega (arith, count, is.count_is);
    fault_is = ap (λ n. if is_faulty frame.course then n + 1 else new.fault) (count ∙ is.count_is)
        ∙ ap (λ n. if is_faulty frame.course then length past + 1 else n) (fault ∙ is.fault_is);
  },
  record { speaks = λ X. (turns X).so; faults = (λ X. (turns X).fault, so.faults) },
)
  where
    speakers : (X : End) → IsSpeaker X (frame ∷ past) (speaker_of X (counted_on frame new))
    speakers Handheld = (turns Handheld).is
    speakers Desktop = (turns Desktop).is

-- the end that sends says it, the other one stays
spread : (from : End) (frame : PastFrame) (past : List PastFrame) (old : Talking) (speaker : Speaker) → Turns from frame past speaker
    → ((X : End) → is_end X from ≡ false → Turns X frame past (speaker_of X old)) → (X : End) → Turns X frame past (speaker_of X (with_speaker from speaker old))
spread Handheld frame past old speaker own other Handheld = own
spread Handheld frame past old speaker own other Desktop = other Desktop refl
spread Desktop frame past old speaker own other Handheld = other Handheld refl
spread Desktop frame past old speaker own other Desktop = own

turns-said : (frame : PastFrame) (past : List PastFrame) (old : Talking) (speaker : Speaker) → frame.is_data ≡ true → IsTalking past old
    → TalksSo past → EndSays frame.from old (part_of frame) speaker → (X : End) → Turns X frame past (speaker_of X (with_speaker frame.from speaker old))
turns-said frame past old speaker data_frame is so says = spread frame.from frame past old speaker own other
  where
    own : Turns frame.from frame past speaker
    own =
        let from = frame.from in
        let number : old.count + 1 ≡ length past + 1 = omega (arith, is.count_is) in
        let it = next-says (greeting_of from) from frame past (speaker_of from old) speaker (data_is from frame refl data_frame) (is.speaker from) (so.speaks from)
        (subst (λ n. SaysNext (greeting_of from) (speaker_of from old) (part_of frame) (length past + 1) n speaker) is.fault_is
        (subst (λ n. SaysNext (greeting_of from) (speaker_of from old) (part_of frame) n old.fault speaker) number says)) in
        record { is = it.0; so = it.1; fault = it.2 }

    other : (X : End) → is_end X frame.from ≡ false → Turns X frame past (speaker_of X old)
    other X apart = turns-other X frame past (speaker_of X old) (ap (λ b. b && frame.is_data) apart) (is.speaker X) (so.speaks X)

with-count : (X : End) (speaker : Speaker) (old : Talking) → (with_speaker X speaker old).count ≡ old.count
with-count Handheld speaker old = refl
with-count Desktop speaker old = refl

with-fault : (X : End) (speaker : Speaker) (old : Talking) → (with_speaker X speaker old).fault ≡ old.fault
with-fault Handheld speaker old = refl
with-fault Desktop speaker old = refl

-- what was said keeps the rule
pub talks-on : (frame : PastFrame) (past : List PastFrame) (old new : Talking) → IsTalking past old → TalksSo past → Says frame old new
    → IsTalking (frame ∷ past) (counted_on frame new) × TalksSo (frame ∷ past)
talks-on frame past old new is so says = elim (cases_Bool frame.is_data) [
  | inl data_frame ↦
      let it = when_true _ _ data_frame says in
      subst (λ t. IsTalking (frame ∷ past) (counted_on frame t) × TalksSo (frame ∷ past)) (sym it.2)
      (turns-both frame past old (with_speaker frame.from it.0 old) is so (with-count frame.from it.0 old) (with-fault frame.from it.0 old)
      (turns-said frame past old it.0 data_frame is so it.1))
  | inr other ↦
      let it = when_false _ _ other says in
      subst (λ t. IsTalking (frame ∷ past) (counted_on frame t) × TalksSo (frame ∷ past)) (sym it)
      (turns-both frame past old old is so refl refl (λ X. turns-other X frame past (speaker_of X old) (no_data X frame other) (is.speaker X) (so.speaks X)))
]

-- what can't be said breaks it
pub talks-not : (frame : PastFrame) (past : List PastFrame) (old : Talking) → IsTalking past old → frame.is_data ≡ true
    → ((speaker : Speaker) → EndSays frame.from old (part_of frame) speaker → ⊥) → TalksSo (frame ∷ past) → ⊥
talks-not frame past old is data_frame none so =
    let from = frame.from in
    let number : length past + 1 ≡ old.count + 1 = omega (arith, is.count_is) in
    let it = says-next (greeting_of from) from frame past (speaker_of from old) (data_is from frame refl data_frame) (is.speaker from) (so.speaks from) (so.faults.0 from) in
    none it.0
    (subst (λ n. SaysNext (greeting_of from) (speaker_of from old) (part_of frame) n old.fault it.0) number
    (subst (λ n. SaysNext (greeting_of from) (speaker_of from old) (part_of frame) (length past + 1) n it.0) (sym is.fault_is) it.1))

-- what the end that sends may say
pub said-in : (X : End) (frame : PastFrame) (old : Talking) (may : Bool) (speaker : Speaker) → frame.from ≡ X → frame.is_data ≡ true
    → MatchBool may (EndSays X old (part_of frame) speaker) ((new : Speaker) → EndSays X old (part_of frame) new → ⊥)
    → MatchBool may (Says frame old (with_speaker X speaker old))
    ((frame.is_data ≡ true) × ((new : Speaker) → EndSays frame.from old (part_of frame) new → ⊥))
said-in X frame old true speaker from data_frame says =
    let says_here = subst (λ Y. EndSays Y old (part_of frame) speaker) (sym from) says in
    let is : with_speaker X speaker old ≡ with_speaker frame.from speaker old = ap (λ Y. with_speaker Y speaker old) (sym from) in
    let Said : Type 0 =
    (next : Speaker) × EndSays frame.from old (part_of frame) next × (with_speaker X speaker old ≡ with_speaker frame.from next old) in
    let said : Said = (speaker, says_here, is) in
    subst (λ b. MatchBool b Said (with_speaker X speaker old ≡ old)) (sym data_frame) said
said-in X frame old false speaker from data_frame none =
    (data_frame, λ new says. none new (subst (λ Y. EndSays Y old (part_of frame) new) from says))

-- the frame is taken
pub talks-take : (frame : PastFrame) (past : List PastFrame) (old said new : Talking) (may : Bool) → IsTalking past old → TalksSo past
    → MatchBool may (Says frame old said) ((frame.is_data ≡ true) × ((speaker : Speaker) → EndSays frame.from old (part_of frame) speaker → ⊥))
    → new ≡ counted_on frame said → MatchBool may (IsTalking (frame ∷ past) new × TalksSo (frame ∷ past)) (TalksSo (frame ∷ past) → ⊥)
talks-take frame past old said new true is so says after =
    subst (λ t. IsTalking (frame ∷ past) t × TalksSo (frame ∷ past)) (sym after) (talks-on frame past old said is so says)
talks-take frame past old said new false is so none after = talks-not frame past old is none.0 none.1

-- ---- room

begun-few : (old : Standing) (parts : List Part) → (standing_behind old parts).begun ≤ old.begun + length parts
begun-few old [] = omega arith
begun-few old (part ∷ later) = omega (arith, begun-few (next old part) later, one_more old.wanted old part)
  where
    one_more : (wanted : ℕ) (old : Standing) (part : Part) → (next_by wanted old part).begun ≤ old.begun + 1
    one_more zero old part = omega arith
    one_more (suc wanted) old part = omega arith

spoken-few : (X : End) (past : List PastFrame) → length (spoken X past) ≤ length past
spoken-few X [] = omega arith
spoken-few X (frame ∷ past) = elim (cases_Bool (is_data_of X frame)) [
  | inl mine ↦ omega (arith, spoken-few X past, add-few (part_of frame) (spoken X past), ap length (cond-true (is_data_of X frame) (add_part (part_of frame) (spoken X past)) (spoken X past) mine))
  | inr other ↦ omega (arith, spoken-few X past, ap length (cond-false (is_data_of X frame) (add_part (part_of frame) (spoken X past)) (spoken X past) other))
]
  where
    add-few : (part : Part) (older : List Part) → length (add_part part older) ≤ length older + 1
    add-few part [] = omega arith
    add-few part (newest ∷ older) = elim (cases_Bool (same_key part.key newest.key)) [
      | inl same ↦ omega (arith, ap length (cond-true (same_key part.key newest.key) (newest ∷ older) (part ∷ newest ∷ older) same))
      | inr differ ↦ omega (arith, ap length (cond-false (same_key part.key newest.key) (newest ∷ older) (part ∷ newest ∷ older) differ))
    ]

pub talking-room : (past : List PastFrame) (talking : Talking) → IsTalking past talking → length past < 4294967295 → HasRoom talking
talking-room past talking is few = record {
  count = omega (arith, is.count_is, few);
  begun = λ X. (
      let here = ap (λ s. s.begun) (is.speaker X).standing_is in
      omega (arith, here, begun-few start (reverse (spoken X past)), length-reverse (spoken X past), spoken-few X past, is.count_is));
}

-- ---- all frames

-- what was said before keeps the rule too
pub talks-before : (frame : PastFrame) (past : List PastFrame) → TalksSo (frame ∷ past) → TalksSo past
talks-before frame past so = record { speaks = λ X. so-before (greeting_of X) X frame past (so.speaks X); faults = so.faults.1 }

talks-behind : (past : List PastFrame) (frames : List FrameValue) → TalksSo (past_behind past frames) → TalksSo past
talks-behind past [] so = so
talks-behind past (frame ∷ later) so = add-before (is_abort (fragment_in frame).kind) refl (talks-behind (add_frame frame past) later so)
  where
    add-before : (aborts : Bool) → is_abort (fragment_in frame).kind ≡ aborts → TalksSo (add_frame frame past) → TalksSo past
    add-before true is so = subst TalksSo (cond-true _ past (sent_in frame ∷ past) is) so
    add-before false is so = talks-before (sent_in frame) past (subst TalksSo (cond-false _ past (sent_in frame ∷ past) is) so)

says-all : (X : End) (frames : List FrameValue) → SpeaksSo (greeting_of X) X (past_of frames)
    → SaysMessages X (talk_in frames) (past_of frames)
says-all X frames so =
    let found = said-first (greeting_of X) (parts_in X frames) so.says in
    record { rest = found.0; is = found.1 ∙ ap (session_parts 0) (sym (talk_in-messages X frames)) }

-- the rule of messages is kept exactly where both keep it in all frames
pub talks-so : (frames : List FrameValue) → TalksSo (past_of frames) ↔ SayMessages frames
talks-so frames = (
  λ so. record {
    handheld = says-all Handheld frames (so.speaks Handheld);
    desktop = says-all Desktop frames (so.speaks Desktop);
    handheld_ten = (so.speaks Handheld).ten;
    desktop_ten = (so.speaks Desktop).ten;
    faults = so.faults;
    wake = said-greets Wake (parts_in Handheld frames) (so.speaks Handheld).says;
    init = said-greets Init (parts_in Desktop frames) (so.speaks Desktop).says;
  },
  λ says. record { speaks = speaks says; faults = says.faults },
)
  where
    speaks : SayMessages frames → (X : End) → SpeaksSo (greeting_of X) X (past_of frames)
    speaks says Handheld =
        record { says = first-said Wake (parts_in Handheld frames) says.handheld.rest (messages_in (parts_in Handheld frames)) says.handheld.is says.wake; ten = says.handheld_ten }
    speaks says Desktop =
        record { says = first-said Init (parts_in Desktop frames) says.desktop.rest (messages_in (parts_in Desktop frames)) says.desktop.is says.init; ten = says.desktop_ten }

-- ---- the walk

-- what holds behind the first frames, of which these are left
pub record Talked (frames : List FrameValue) (place : ℕ) (talking : Talking) (left : List FrameValue) : Type 0 where
  pub past : List PastFrame
  pub all : past_of frames ≡ past_behind past left
  pub short : length past ≤ place
  pub is : IsTalking past talking
  pub so : TalksSo past
  pub bear : AllByRecursion BearsFragment left

pub add-short : (frame : FrameValue) (past : List PastFrame) → length (add_frame frame past) ≤ length past + 1
add-short frame past = elim (cases_Bool (is_abort (fragment_in frame).kind)) [
  | inl aborts ↦ omega (arith, ap length (cond-true (is_abort (fragment_in frame).kind) past (sent_in frame ∷ past) aborts))
  | inr goes ↦ omega (arith, ap length (cond-false (is_abort (fragment_in frame).kind) past (sent_in frame ∷ past) goes))
]

pub talked-not : {frames : List FrameValue} {place : ℕ} {old : Talking} {frame : FrameValue} {left : List FrameValue}
    → (talked : Talked frames place old (frame ∷ left)) → (TalksSo (add_frame frame talked.past) → ⊥) → SayMessages frames → ⊥
talked-not {frames} {frame} {left} talked breaks says =
    breaks (talks-behind (add_frame frame talked.past) left (subst TalksSo talked.all ((talks-so frames).1 says)))

-- the whole messages of an end
pub talked-wholes : (X : End) {frames : List FrameValue} {place : ℕ} {talking : Talking} → Talked frames place talking []
    → wholes_at (speaker_of X talking).standing ≡ whole_count X frames
talked-wholes X {frames} talked =
    ap wholes_at (talked.is.speaker X).standing_is
    ∙ (ap (λ past. wholes_at (standing_behind start (reverse (spoken X past)))) (sym talked.all) ∙ sym (wholes_in-standing (parts_in X frames)))

pub talked-keeps : {frames : List FrameValue} {place : ℕ} {talking : Talking} → Talked frames place talking [] → SayMessages frames
talked-keeps {frames} talked = (talks-so frames).0 (subst TalksSo (sym talked.all) talked.so)
