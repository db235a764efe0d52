-- What a talk holds beside its folder, as plain parts, and the hand that is made of such parts.
use Rattle.std.specs.Prelude.{◌≡◌, Bool, ◌&&◌, nat_lt, [], replicate}
use Rattle.padp_end.specs.Parts.{SameEndParts, are_end_parts, end_of}
use Rattle.palm_device.specs.Devices.{Device, with_handles}
use Rattle.device_stream.specs.Hands.{Hand}
use Rattle.device_stream.specs.declared.parts.TalkParts.{TalkParts}

-- The hand of these parts over the databases and the user of a device. Of what it performed and
-- replied it has no text: these are so many of no bytes.
abbrev pub hand_of : Device → TalkParts → Hand
hand_of device parts = record {
  device = with_handles device parts.handles;
  end = end_of parts.end;
  performed = replicate parts.number [];
  replies = replicate parts.number [];
  greeted = parts.greeted;
  over = parts.over;
}

-- These are the parts of a talk: those of an end, and a number of requests that is less than a
-- round of transactions. Any handles are a device's: where it has no database of the name that is
-- open under one, its functions answer as if that were closed, and where the record index is behind
-- the last record, there is no next one.
abbrev pub are_talk_parts : TalkParts → Bool
are_talk_parts parts = are_end_parts parts.end && nat_lt parts.number 253

-- the parts of two talks are the same
pub record SameTalkParts (x y : TalkParts) : Type 0 where
  pub end_is : SameEndParts x.end y.end
  pub handles_are : y.handles ≡ x.handles
  pub number_is : y.number ≡ x.number
  pub greeted_is : y.greeted ≡ x.greeted
  pub over_is : y.over ≡ x.over
