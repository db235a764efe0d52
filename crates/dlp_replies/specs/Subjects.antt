-- The groups in which replies are written.
use Rattle.std.specs.Prelude.{◌≡◌, true, false}
use Rattle.dlp_replies.specs.Frames.{Frame, Alone}
use Rattle.dlp_replies.specs.ReplyValues.{ReplyValue, ReadNextModifiedRec, ReadRecord, WriteRecord, ReadResource}

-- no argument
abbrev pub IsAlone : Frame → Type 0
IsAlone (Alone number) = Unit {0}
IsAlone frame = true ≡ false

-- one record or resource
abbrev pub IsOfEntry : ReplyValue → Type 0
IsOfEntry (ReadNextModifiedRec id index size attributes category bytes) = Unit {0}
IsOfEntry (ReadRecord id index size attributes category bytes) = Unit {0}
IsOfEntry (WriteRecord id) = Unit {0}
IsOfEntry (ReadResource kind id index size bytes) = Unit {0}
IsOfEntry value = true ≡ false
