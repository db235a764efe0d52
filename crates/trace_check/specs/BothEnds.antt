-- What is known of both ends behind some frames, and how it goes on with the next.
use Rattle.std.specs.Prelude.{◌≡◌, ℕ, Bool, ◌&&◌, List, Option, if◌then◌else◌}
use Rattle.std.specs.Bool.{then_some}
use Rattle.trace_text.specs.declared.frame.End.{End}
use Rattle.trace_text.specs.declared.frame.End.TheVariants.{Handheld, Desktop}
use Rattle.trace_text.specs.Faults.{newest_repeat}
use Rattle.trace_text.specs.Past.{PastFrame}
use Rattle.trace_text.specs.Talks.{Talk}
use Rattle.trace_check.specs.Sides.{SideValue, side_value, IsSide, is_key, with_fragment, with_repeat, with_ack}
use Rattle.trace_check.specs.declared.both.Both.{Both}
use Rattle.trace_check.specs.declared.notice.Notice.{Notice}

-- what is known of both ends, and the newest repeat, or 0
pub record BothValue : Type 0 where
  pub handheld : SideValue
  pub desktop : SideValue
  pub repeat : ℕ

-- the same, wherever its lists lie
abbrev pub both_value : Both → BothValue
both_value both = record {
  handheld = side_value both.handheld;
  desktop = side_value both.desktop;
  repeat = both.repeat;
}

-- what is known of an end
abbrev pub side_of : End → BothValue → SideValue
side_of Handheld both = both.handheld
side_of Desktop both = both.desktop

-- the other end
abbrev pub other_end : End → End
other_end Handheld = Desktop
other_end Desktop = Handheld

-- that is known behind this past
pub record AreSides (talk : Talk) (came : ℕ → Bool) (past : List PastFrame) (both : BothValue)
    : Type 0 where
  pub handheld : IsSide Handheld Desktop talk came past both.handheld
  pub desktop : IsSide Desktop Handheld talk came past both.desktop
  pub repeat_is : both.repeat ≡ newest_repeat past

-- the newest late frame of the end that sends the frame, behind it
abbrev pub late_after : Notice → SideValue → ℕ
late_after notice side = if notice.late then notice.number else side.late

-- the arrival of the frame, if it came
abbrev pub arrival_of : Notice → SideValue → Option ℕ
arrival_of notice side = then_some notice.came (late_after notice side)

-- what is known of the end that sends the frame, behind it
abbrev pub speaker_after : Notice → SideValue → SideValue
speaker_after notice side =
    let later = record side { late = late_after notice side } in
    let arrival = arrival_of notice side in
    let again = is_key notice.key side.key in
    let spoke = if again then with_repeat arrival later
    else with_fragment notice.key arrival later in
    if notice.is_data then spoke else later

-- and of the other end, where this is known of the one that sends
abbrev pub hearer_after : Notice → SideValue → SideValue → SideValue
hearer_after notice speaker side =
    if notice.is_data then side else with_ack notice.key (arrival_of notice speaker) side

-- the newest repeat behind the frame
abbrev pub repeat_after : Notice → SideValue → ℕ → ℕ
repeat_after notice speaker repeat =
    if notice.is_data && is_key notice.key speaker.key then notice.number else repeat

-- both ends behind a frame by this end
abbrev pub both_by : End → Notice → BothValue → BothValue
both_by Handheld notice both = record {
  handheld = speaker_after notice both.handheld;
  desktop = hearer_after notice both.handheld both.desktop;
  repeat = repeat_after notice both.handheld both.repeat;
}
both_by Desktop notice both = record {
  handheld = hearer_after notice both.desktop both.handheld;
  desktop = speaker_after notice both.desktop;
  repeat = repeat_after notice both.desktop both.repeat;
}

-- both ends behind a frame
abbrev pub both_after : Notice → BothValue → BothValue
both_after notice both = both_by notice.from notice both
