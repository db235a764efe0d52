-- A proper trace by itself, and the rules that make it one.
use Rattle.std.specs.Prelude.{◌≡◌, ◌↔◌, ℕ, ◌-◌, ◌<◌, Bool, true, false, List, [], ◌∷◌, length}
use Rattle.std.specs.List.{AllByRecursion}
use Rattle.cmp_hello.specs.declared.hello.HelloKind.TheVariants.{Wake, Init}
use Rattle.trace_text.specs.declared.frame.End.{End}
use Rattle.trace_text.specs.declared.frame.End.TheVariants.{Handheld, Desktop}
use Rattle.trace_text.specs.Fates.{FateValue}
use Rattle.trace_text.specs.Faults.{RepeatsHaveFaults}
use Rattle.trace_text.specs.Frames.{BearsFragment, past_of, came_in}
use Rattle.trace_text.specs.Past.{PastFrame, said, is_data_of, is_repeat}
use Rattle.trace_text.specs.Proper.{IsProper, AreNumbered, ComeInOrder, SaysMessages, AtMostTen, IsKnown, AnswersReached, DataIsAcked}
use Rattle.trace_text.specs.Talks.{Talk}
use Rattle.trace_text.specs.TraceLines.{FrameValue}
use Rattle.trace_check.specs.Messages.{fates_in, talk_in, whole_count, IfFirst, IsGreeting, Greets}
use Rattle.trace_check.specs.declared.rule.Rule.{Rule}
use Rattle.trace_check.specs.declared.rule.Rule.TheVariants.{A, B, C, D, E, F, G}
use Rattle.trace_check.specs.declared.rule.Verdict.{Verdict}
use Rattle.trace_check.specs.declared.rule.Verdict.TheVariants.{Proper, Not}

-- a proper trace: it is one by the fates and the messages that it says itself, and both ends begin
-- with their greetings
pub record IsProperTrace (frames : List FrameValue) : Type 0 where
  pub proper : IsProper (fates_in frames) (talk_in frames) frames
  pub wake : Greets Wake Handheld frames
  pub init : Greets Init Desktop frames

-- each new fragment of X goes out once X knows that the one before it was taken
abbrev pub KnowsBefore : End → End → Talk → (ℕ → Bool) → List PastFrame → Type 0
KnowsBefore X Y talk came [] = Unit {0}
KnowsBefore X Y talk came (frame ∷ past) =
    (is_data_of X frame ≡ true → is_repeat X frame past ≡ false → 0 < length (said X past)
    → IsKnown X Y talk came past)
    × KnowsBefore X Y talk came past

-- each new fragment of X goes out once what its message answers was taken
abbrev pub AnswersInTurn : End → Talk → (ℕ → Bool) → List PastFrame → Type 0
AnswersInTurn X talk came [] = Unit {0}
AnswersInTurn X talk came (frame ∷ past) =
    (is_data_of X frame ≡ true → is_repeat X frame past ≡ false → AnswersReached X talk came past)
    × AnswersInTurn X talk came past

-- what both ends say are the fragments of their messages, greetings first, none too often, and
-- again only for a fault
pub record SayMessages (frames : List FrameValue) : Type 0 where
  pub handheld : SaysMessages Handheld (talk_in frames) (past_of frames)
  pub desktop : SaysMessages Desktop (talk_in frames) (past_of frames)
  pub handheld_ten : AtMostTen Handheld (past_of frames)
  pub desktop_ten : AtMostTen Desktop (past_of frames)
  pub faults : RepeatsHaveFaults (past_of frames)
  pub wake : Greets Wake Handheld frames
  pub init : Greets Init Desktop frames

-- the frames keep a rule
abbrev pub Keeps : Rule → List FrameValue → Type 0
Keeps A frames = AreNumbered 1 (fates_in frames) frames
Keeps B frames = AllByRecursion BearsFragment frames
Keeps C frames = ComeInOrder frames
Keeps D frames = SayMessages frames
Keeps E frames =
    KnowsBefore Handheld Desktop (talk_in frames) (came_in frames) (past_of frames)
    × KnowsBefore Desktop Handheld (talk_in frames) (came_in frames) (past_of frames)
Keeps F frames =
    AnswersInTurn Handheld (talk_in frames) (came_in frames) (past_of frames)
    × AnswersInTurn Desktop (talk_in frames) (came_in frames) (past_of frames)
Keeps G frames =
    DataIsAcked Handheld Desktop (came_in frames) (past_of frames)
    × DataIsAcked Desktop Handheld (came_in frames) (past_of frames)

-- the place of a rule in their order
abbrev pub place_of : Rule → ℕ
place_of A = 0
place_of B = 1
place_of C = 2
place_of D = 3
place_of E = 4
place_of F = 5
place_of G = 6

-- the frames break this rule, and keep each before it
pub record IsFirstBroken (rule : Rule) (frames : List FrameValue) : Type 0 where
  pub broken : ¬ (Keeps rule frames)
  pub kept : (other : Rule) → place_of other < place_of rule → Keeps other frames

-- what a trace is: proper, with the whole messages behind the greetings, or not by its first broken
-- rule
abbrev pub IsVerdict : List FrameValue → Verdict → Type 0
IsVerdict frames (Proper requests replies) =
    IsProperTrace frames × (requests ≡ whole_count Desktop frames - 1)
    × (replies ≡ whole_count Handheld frames - 1)
IsVerdict frames (Not rule) = IsFirstBroken rule frames

-- the rules are the definition
abbrev pub HasSevenRules : Type 0
HasSevenRules =
    (frames : List FrameValue) → IsProperTrace frames ↔ ((rule : Rule) → Keeps rule frames)

-- a trace has one verdict
abbrev pub HasOneVerdict : Type 0
HasOneVerdict =
    (frames : List FrameValue) (x y : Verdict) → IsVerdict frames x → IsVerdict frames y → x ≡ y

-- what is proper by some fates is proper by those that its frames say
abbrev pub SaysItsFates : Type 0
SaysItsFates =
    (script : ℕ → FateValue) (talk : Talk) (frames : List FrameValue) → IsProper script talk frames
    → IsProper (fates_in frames) talk frames

-- what is proper by some messages is proper by those that its frames say
abbrev pub SaysItsMessages : Type 0
SaysItsMessages =
    (script : ℕ → FateValue) (talk : Talk) (frames : List FrameValue) → IsProper script talk frames
    → IsProper script (talk_in frames) frames

-- what is proper by some fates, and by messages that begin with the greetings, is a proper trace by
-- itself
abbrev pub SpeaksForItself : Type 0
SpeaksForItself =
    (script : ℕ → FateValue) (talk : Talk) (frames : List FrameValue) → IsProper script talk frames
    → IfFirst (IsGreeting Wake) talk.handheld
    → IfFirst (IsGreeting Init) talk.desktop → IsProperTrace frames
