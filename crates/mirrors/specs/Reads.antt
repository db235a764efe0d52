-- A whole reading of an open database: the number of its entries, then each record by its index.
use Rattle.std.specs.Prelude.{ℕ, zero, suc, List, [], ◌∷◌, ◌++◌, Option, None, Some, Result, Ok, Err}
use Rattle.palm_device.specs.Devices.{Device}
use Rattle.dlp_replies.specs.declared.fault.ReplyFault.{ReplyFault}
use Rattle.dlp_replies.specs.ReplyReading.{reply_at}
use Rattle.dlp_replies.specs.ReplyValues.{ReplyValue}
use Rattle.dlp_commands.specs.Talks.{Talk}
use Rattle.conduit_rules.specs.declared.view.Seen.{Seen}
use Rattle.desktop_session.specs.Acts.{Act, acted}
use Rattle.desktop_session.specs.Answers.{count_of}
use Rattle.desktop_session.specs.Requests.{counting, reading_at}
use Rattle.mirrors.specs.Entries.{ordered, seen_in}

-- the records at so many indexes from 0 on
unfoldable pub reads : ℕ → ℕ → List Act
reads handle zero = []
reads handle (suc count) = reads handle count ++ reading_at handle count ∷ []

-- the number of entries, then each record
abbrev pub slow_reads : ℕ → ℕ → List Act
slow_reads handle count = counting handle ∷ reads handle count

-- the number in a reply; a refusal and any other reply have none
abbrev pub entries_in : Result ReplyValue ReplyFault → ℕ
entries_in (Ok value) = count_of value
entries_in (Err fault) = 0

-- the number of entries that the device tells
abbrev pub entries_told : Device → ℕ → ℕ
entries_told device handle = entries_in (reply_at 0x2B (acted (counting handle) device).0)

-- the same, where a device is told
abbrev pub entries_of : Option Talk → ℕ → ℕ
entries_of None handle = 0
entries_of (Some talk) handle = entries_told talk.device handle

-- the entries of the records that the device lends at so many indexes
unfoldable pub seen_below : Device → ℕ → ℕ → List Seen
seen_below device handle zero = []
seen_below device handle (suc count) =
    seen_below device handle count
    ++ seen_in (reply_at 0x20 (acted (reading_at handle count) device).0)

-- what a whole reading shows of the device's records
abbrev pub slow_shown : Device → ℕ → List Seen
slow_shown device handle = ordered (seen_below device handle (entries_told device handle))
