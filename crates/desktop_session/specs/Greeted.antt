-- What a session asks at its beginning.
use Rattle.std.specs.Prelude.{ℕ, zero, suc, ◌&&◌, not, nat_lt, if◌then◌else◌, List, [], ◌++◌, map, Option, None, Some, Result, Ok}
use Rattle.pdb_values.specs.Heads.{has_bit}
use Rattle.pdb_values.specs.declared.head.DbHead.{DbHead}
use Rattle.pdb_values.specs.declared.user.Marks.{Marks}
use Rattle.pdb_values.specs.declared.user.UserInfo.{UserInfo}
use Rattle.dlp_replies.specs.declared.fault.ReplyFault.{ReplyFault}
use Rattle.dlp_replies.specs.ReplyValues.{ReplyValue}
use Rattle.desktop_session.specs.declared.fault.SessionFault.{SessionFault}
use Rattle.desktop_session.specs.declared.seat.UserWish.{UserWish}
use Rattle.desktop_session.specs.Answers.{list_of, mapped, no_more, or_none, said_in, user_of}
use Rattle.desktop_session.specs.Greetings.{user_by}
use Rattle.desktop_session.specs.Inquiries.{Ends, Inquiry, asks_read, asks_for, ◌>>=◌}
use Rattle.desktop_session.specs.Requests.{beginning, listing, reading_user}
use Rattle.desktop_session.specs.Starts.{index_behind}

-- the user, who is to have a slot
abbrev pub asks_user : List Marks → UserWish → Inquiry UserInfo
asks_user marks wish =
    asks_read reading_user.asks (λ read. user_by marks wish (said_in 0x10 user_of read))

-- that the conduits begin
abbrev pub asks_conduits : Inquiry (Unit {0})
asks_conduits = asks_for beginning.asks no_more

-- the user, and then that the conduits begin
abbrev pub greets : List Marks → UserWish → Inquiry UserInfo
greets marks wish = do
  user ← asks_user marks wish
  done ← asks_conduits
  Ends (Ok user)

-- ---- the databases

-- where a list goes on that was asked for from a start on: behind the last index, where the flag
-- says that more follow
abbrev pub list_behind : ℕ → ℕ → ℕ → Option ℕ
list_behind start last flags =
    if has_bit 0x80 flags && not (nat_lt last start) then index_behind last else None

-- the heads behind those before, and where the list goes on
abbrev pub with_page : ℕ → List DbHead → Option (ℕ × ℕ × List (ℕ × DbHead))
    → List DbHead × Option ℕ
with_page start heads None = (heads, None)
with_page start heads (Some (last, flags, entries)) =
    (heads ++ map (λ entry. entry.1) entries, list_behind start last flags)

-- what a reply from a start on makes of the heads before it, and where the list goes on; error 5
-- says that none is left
abbrev pub page : ℕ → List DbHead → Result ReplyValue ReplyFault
    → Result (List DbHead × Option ℕ) SessionFault
page start heads read = mapped (with_page start heads) (or_none (said_in 0x16 list_of read))

abbrev pub asks_page : ℕ → List DbHead → Inquiry (List DbHead × Option ℕ)
asks_page start heads = asks_read (listing start).asks (page start heads)

-- it goes on there, or these are all
abbrev pub lists_on : Option ℕ → List DbHead → (ℕ → Inquiry (List DbHead)) → Inquiry (List DbHead)
lists_on None heads more = Ends (Ok heads)
lists_on (Some next) heads more = more next

-- the heads from a start on, behind these; each start is above the one before, so that a number of
-- requests is never reached that is more than there are starts
unfoldable pub lists_from : ℕ → ℕ → List DbHead → Inquiry (List DbHead)
lists_from zero start heads = Ends (Ok heads)
lists_from (suc most) start heads = do
  found ← asks_page start heads
  lists_on found.1 found.0 (λ next. lists_from most next found.0)

abbrev pub lists_all : Inquiry (List DbHead)
lists_all = lists_from 65536 0 []
