-- How a session begins: the user is read, the desktop's slot for it is found, and the conduits
-- begin.
use Rattle.std.specs.Prelude.{◌≡◌, ℕ, List, [], ◌∷◌, Option, None, IfSome, IsOk, Result, Ok, Err, slice_index}
use Rattle.pdb_values.specs.declared.slot.Slot.{Slot}
use Rattle.pdb_values.specs.declared.slot.Slot.TheVariants as slot
use Rattle.pdb_values.specs.declared.user.Marks.{Marks}
use Rattle.pdb_values.specs.declared.user.UserInfo.{UserInfo}
use Rattle.dlp_replies.specs.ReplyReading.{reply_at}
use Rattle.dlp_commands.specs.declared.link.LinkFault.{LinkFault}
use Rattle.dlp_commands.specs.Talks.{Talk}
use Rattle.desktop_session.specs.declared.fault.SessionFault.{SessionFault}
use Rattle.desktop_session.specs.declared.fault.SessionFault.TheVariants as session
use Rattle.desktop_session.specs.Acts.{acted, text}
use Rattle.desktop_session.specs.Answers.{answer_by, no_more, said_in, user_of}
use Rattle.desktop_session.specs.Requests.{beginning, reading_user}
use Rattle.desktop_session.specs.Seats.{numbers_of, seat_for}
use Rattle.desktop_session.specs.Stops.{Does, Stops}
use Rattle.desktop_session.specs.declared.seat.UserWish.{UserWish}

-- a user without a slot ends the session: the desktop doesn't know it, or has no room for it
abbrev pub user_with : List Marks → UserInfo → Slot → Result UserInfo SessionFault
user_with marks user (slot.Old place) = Ok user
user_with marks user slot.New = Ok user
user_with marks user slot.Refused = Err (session.OtherUser user.user (slice_index (numbers_of marks) 0))
user_with marks user slot.Full = Err session.TooManyUsers

-- what the reply with the user says, by the desktop's slots
abbrev pub user_by : List Marks → UserWish → Result UserInfo SessionFault → Result UserInfo SessionFault
user_by marks wish (Err fault) = Err fault
user_by marks wish (Ok user) = user_with marks user (seat_for marks wish user)

-- the user, where the second reply is no error
abbrev pub begun_by : Result UserInfo SessionFault → Result (Unit {0}) SessionFault
    → Result UserInfo SessionFault
begun_by (Err fault) second = Err fault
begun_by (Ok user) (Err fault) = Err fault
begun_by (Ok user) (Ok done) = Ok user

-- what a greeting answers by the bytes of both replies
abbrev pub greeted : List Marks → UserWish → List ℕ → List ℕ → Result UserInfo SessionFault
greeted marks wish first second =
    begun_by (user_by marks wish (said_in 0x10 user_of (reply_at 0x10 first)))
    (said_in 0x2E no_more (reply_at 0x2E second))

-- A greeting answered the fault of the link, or what both replies say. Where the link has no fault,
-- the first reply is the device's to ReadUserInfo, and the second, which is asked for where the
-- user has a slot, its reply to OpenConduit.
pub record AnswersGreeting (marks : List Marks) (wish : UserWish) (talk : Option Talk)
    (fault : Option LinkFault) (answer : Result UserInfo SessionFault) : Type 0 where
  pub first : List ℕ
  pub second : List ℕ
  pub is : answer ≡ answer_by fault (greeted marks wish first second)
  pub told : fault ≡ None → IfSome talk (λ talk. first ≡ (acted reading_user talk.device).0)
  pub begun : fault ≡ None
      → IfSome talk (λ talk. second ≡ (acted beginning (acted reading_user talk.device).1).0)

-- the device's reply to ReadUserInfo bears a user that has a slot
abbrev pub HasSlot : List Marks → UserWish → Option Talk → Type 0
HasSlot marks wish talk =
    IfSome talk
    (λ talk. IsOk
    (user_by marks wish (said_in 0x10 user_of (reply_at 0x10 (acted reading_user talk.device).0))))

-- a greeting asked for the user alone, which was answered unless the link has a fault
pub record AsksUser {L : Type 0} (talk : L → Option Talk) (since : L → L → Type 0)
    (fault : L → Option LinkFault) (downs : L → ℕ) (old new : L) : Type 0 where
  pub stops : Stops talk since fault downs (text reading_user ∷ []) old new
  pub does : fault new ≡ None → Does talk (reading_user ∷ []) old new
