-- What the calls on an open database ask.
use Rattle.std.specs.Prelude.{ℕ, List, Option, Ok}
use Rattle.dlp_requests.specs.RequestValues.{RequestValue}
use Rattle.dlp_replies.specs.ReplyReading.{reply_at}
use Rattle.dlp_commands.specs.DeviceSteps.{function_number}
use Rattle.desktop_session.specs.Answers.{count_of, or_none, record_of, said_in}
use Rattle.desktop_session.specs.Inquiries.{Asks, Ends, Inquiry, asks_for, ◌>>=◌}
use Rattle.desktop_session.specs.Lent.{LentValue}
use Rattle.desktop_session.specs.Requests.{counting, reading_at, reading_next, reading_of}
use Rattle.desktop_session.specs.Wholes.{whole_reply}

-- one request, and the bytes of its reply, where that is whole
abbrev pub asks_whole : RequestValue → Inquiry (List ℕ)
asks_whole request =
    Asks request (λ reply. Ends (Ok (whole_reply (function_number request) reply)))

-- the record that is lent
abbrev pub asks_record : RequestValue → Inquiry LentValue
asks_record request = do
  bytes ← asks_whole request
  Ends (said_in (function_number request) record_of (reply_at (function_number request) bytes))

-- how many entries there are; the record at an index
abbrev pub counts : ℕ → Inquiry ℕ
counts handle = asks_for (counting handle).asks count_of

abbrev pub lends_at : ℕ → ℕ → Inquiry LentValue
lends_at handle index = asks_record (reading_at handle index).asks

-- the record of an id, and the next changed one; nothing where error 5 says so
abbrev pub asks_some_record : RequestValue → Inquiry (Option LentValue)
asks_some_record request = do
  bytes ← asks_whole request
  Ends (or_none (said_in (function_number request) record_of
      (reply_at (function_number request) bytes)))

abbrev pub lends_of : ℕ → ℕ → Inquiry (Option LentValue)
lends_of handle id = asks_some_record (reading_of handle id).asks

abbrev pub lends_next : ℕ → Inquiry (Option LentValue)
lends_next handle = asks_some_record (reading_next handle).asks
