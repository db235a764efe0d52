-- What both ends said so far, and what a frame adds to it.
use Rattle.std.specs.Prelude.{◌≡◌, ◌+◌, ◌<◌, ◌≤◌, Bool, List, length}
use Rattle.std.specs.Bool.{MatchBool}
use Rattle.cmp_hello.specs.declared.hello.HelloKind.{HelloKind}
use Rattle.cmp_hello.specs.declared.hello.HelloKind.TheVariants.{Wake, Init}
use Rattle.trace_text.specs.declared.frame.End.{End}
use Rattle.trace_text.specs.declared.frame.End.TheVariants.{Handheld, Desktop}
use Rattle.trace_text.specs.Faults.{faulted, newest, RepeatsHaveFaults}
use Rattle.trace_text.specs.Parts.{Part, part_of}
use Rattle.trace_text.specs.Past.{PastFrame}
use Rattle.trace_check.specs.Speaking.{SaysNext, IsSpeaker, SpeaksSo}
use Rattle.trace_check.specs.declared.speaker.Speaker.{Speaker}
use Rattle.trace_check.specs.declared.talking.Talking.{Talking}

-- the greeting that an end begins with
abbrev pub greeting_of : End → HelloKind
greeting_of Handheld = Wake
greeting_of Desktop = Init

-- an end among both
abbrev pub speaker_of : End → Talking → Speaker
speaker_of Handheld talking = talking.handheld
speaker_of Desktop talking = talking.desktop

-- both, where one of them became this
abbrev pub with_speaker : End → Speaker → Talking → Talking
with_speaker Handheld speaker old = record {
  handheld = speaker;
  desktop = old.desktop;
  count = old.count;
  fault = old.fault;
}
with_speaker Desktop speaker old = record {
  handheld = old.handheld;
  desktop = speaker;
  count = old.count;
  fault = old.fault;
}

-- an end says this part next, and becomes this
abbrev pub EndSays : End → Talking → Part → Speaker → Type 0
EndSays X old part new =
    SaysNext (greeting_of X) (speaker_of X old) part (old.count + 1) old.fault new

-- both, when this was said, if it is data
abbrev pub Says : PastFrame → Talking → Talking → Type 0
Says frame old new =
    MatchBool frame.is_data
    ((speaker : Speaker) × EndSays frame.from old (part_of frame) speaker
    × (new ≡ with_speaker frame.from speaker old)) (new ≡ old)

-- both are so behind these frames
pub record IsTalking (past : List PastFrame) (talking : Talking) : Type 0 where
  pub speaker : (X : End) → IsSpeaker X past (speaker_of X talking)
  pub count_is : talking.count ≡ length past
  pub fault_is : talking.fault ≡ newest faulted past

-- what both said in these frames keeps the rule
pub record TalksSo (past : List PastFrame) : Type 0 where
  pub speaks : (X : End) → SpeaksSo (greeting_of X) X past
  pub faults : RepeatsHaveFaults past

-- from a past that keeps the rule they went on to a longer one that does, or it doesn't
abbrev pub GoesOnOrNot : Bool → List PastFrame → List PastFrame → Talking → Talking → Type 0
GoesOnOrNot passed past longer old new =
    IsTalking past old → TalksSo past
    → MatchBool passed (IsTalking longer new × TalksSo longer) (¬ (TalksSo longer))

-- there is room for one frame more
pub record HasRoom (talking : Talking) : Type 0 where
  pub count : talking.count < 4294967295
  pub begun : (X : End) → (speaker_of X talking).standing.begun ≤ talking.count
