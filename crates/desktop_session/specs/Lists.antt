-- Lists that come in several replies: the databases of a handheld, and the ids of a database's
-- records.
use Rattle.std.specs.Prelude.{◌≡◌, ◌≤◌, ◌<◌, ◌==◌, ℕ, zero, suc, ◌+◌, ◌-◌, ◌*◌, ◌/◌, ◌⊎◌, Bool, true, false, List, [], ◌∷◌, ◌++◌, map, Option, None, Some, IfOk}
use Rattle.std.specs.Prelude.{IfSome, OnOk, Result, Ok, Err}
use Rattle.pdb_values.specs.Heads.{has_bit}
use Rattle.pdb_values.specs.declared.head.DbHead.{DbHead}
use Rattle.palm_device.specs.Devices.{Device}
use Rattle.dlp_replies.specs.declared.fault.ReplyFault.{ReplyFault}
use Rattle.dlp_replies.specs.ReplyReading.{reply_at}
use Rattle.dlp_replies.specs.ReplyValues as reply
use Rattle.dlp_replies.specs.ReplyValues.{ReplyValue}
use Rattle.dlp_commands.specs.declared.link.LinkFault.{LinkFault}
use Rattle.dlp_commands.specs.declared.link.LinkFault.TheVariants as link
use Rattle.dlp_commands.specs.Talks.{Talk}
use Rattle.desktop_session.specs.declared.fault.SessionFault.{SessionFault}
use Rattle.desktop_session.specs.declared.fault.SessionFault.TheVariants as session
use Rattle.desktop_session.specs.Acts.{Act, acted, text}
use Rattle.desktop_session.specs.Answers.{ids_of}
use Rattle.desktop_session.specs.Requests.{listing, listing_ids}
use Rattle.desktop_session.specs.Sessions.{SessionValue}
use Rattle.desktop_session.specs.Stops.{Does, Stops}

-- ---- databases, one request for each start from 0 on

-- so many requests
unfoldable pub listings : ℕ → List Act
listings zero = []
listings (suc count) = listings count ++ listing count ∷ []

-- the heads in a reply; a refusal and any other reply have none
abbrev pub heads_in : Result ReplyValue ReplyFault → List DbHead
heads_in (Ok (reply.ReadDbList last flags entries)) = map (λ entry. entry.1) entries
heads_in (Ok other) = []
heads_in (Err fault) = []

-- more follow behind a reply: its flag 0x80 says so
abbrev pub has_more : Result ReplyValue ReplyFault → Bool
has_more (Ok (reply.ReadDbList last flags entries)) = has_bit 0x80 flags
has_more (Ok other) = false
has_more (Err fault) = false

-- the device's reply from a start on
abbrev pub list_reply : Device → ℕ → Result ReplyValue ReplyFault
list_reply device start = reply_at 0x16 (acted (listing start) device).0

-- of so many requests, each but the last was replied to with more to follow
abbrev pub MoreFollow : Device → ℕ → Type 0
MoreFollow device count =
    (k : ℕ) → k + 1 < count → has_more (list_reply device k) ≡ true

-- and the last one with no more, unless it was the 65,536th
abbrev pub NoneFollow : Device → ℕ → Type 0
NoneFollow device count =
    (count ≡ 65536) ⊎ (has_more (list_reply device (count - 1)) ≡ false)

-- the heads in the replies to so many requests
unfoldable pub heads_listed : Device → ℕ → List DbHead
heads_listed device zero = []
heads_listed device (suc count) = heads_listed device count ++ heads_in (list_reply device count)

-- ---- ids, 8,000 a request

-- so many requests
unfoldable pub id_listings : ℕ → ℕ → List Act
id_listings handle zero = []
id_listings handle (suc parts) = id_listings handle parts ++ listing_ids handle (8000 * parts) ∷ []

-- how many requests so many ids take
abbrev pub id_parts : ℕ → ℕ
id_parts count = (count + 7999) / 8000

-- these requests
abbrev pub id_reads : ℕ → ℕ → List Act
id_reads handle count = id_listings handle (id_parts count)

-- the request behind so many
abbrev pub id_listing : ℕ → ℕ → Act
id_listing handle = λ parts. listing_ids handle (8000 * parts)

-- the ids in a reply
abbrev pub ids_in : Result ReplyValue ReplyFault → List ℕ
ids_in (Ok value) = ids_of value
ids_in (Err fault) = []

-- the ids in the replies to so many requests
unfoldable pub ids_listed : Device → ℕ → ℕ → List ℕ
ids_listed device handle zero = []
ids_listed device handle (suc parts) =
    ids_listed device handle parts
    ++ ids_in (reply_at 0x31 (acted (listing_ids handle (8000 * parts)) device).0)

-- the ids in the replies to the requests that so many ids take
abbrev pub ids_read : Device → ℕ → ℕ → List ℕ
ids_read device handle count = ids_listed device handle (id_parts count)

-- these are the ids, where a device is told
abbrev pub AreIdsRead : Option Talk → ℕ → ℕ → List ℕ → Type 0
AreIdsRead talk handle count ids = IfSome talk (λ talk. ids ≡ ids_read talk.device handle count)

-- ---- causes

-- a reply that was read is this refusal
abbrev pub Refuses : ℕ → Result ReplyValue ReplyFault → Type 0
Refuses code (Ok (reply.Refused number other)) = other ≡ code
Refuses code (Ok other) = ⊥
Refuses code (Err fault) = ⊥

-- the cause of a refusal, by the link's fault and the last reply
abbrev pub HasCause : Option LinkFault → Result ReplyValue ReplyFault → SessionFault → Type 0
HasCause fault read session.Down = fault ≡ Some link.Down
HasCause fault read (session.Refused function code) = (fault ≡ None) × Refuses code.0 read
HasCause fault read (session.BadReply function broken) = (fault ≡ None) × (read ≡ Err broken)
HasCause fault read session.NoMemory = Unit {0}
HasCause fault read (session.OtherUser handheld desktop) = ⊥
HasCause fault read session.TooManyUsers = ⊥

-- the cause of a refusal, by the last reply as one to one of these functions
abbrev pub HasCauseIn : List ℕ → Option LinkFault → List ℕ → SessionFault → Type 0
HasCauseIn [] fault reply cause = ⊥
HasCauseIn (function ∷ []) fault reply cause = HasCause fault (reply_at function reply) cause
HasCauseIn (function ∷ other ∷ functions) fault reply cause =
    HasCause fault (reply_at function reply) cause
    ⊎ HasCauseIn (other ∷ functions) fault reply cause

-- a refusal, or a reply that is none, is told with this function
abbrev pub IsToldOf : ℕ → SessionFault → Type 0
IsToldOf number (session.Refused function code) = function ≡ number
IsToldOf number (session.BadReply function broken) = function ≡ number
IsToldOf number other = Unit {0}

-- the device's reply to one of so many requests
pub record HasReplied (most : ℕ) (asks : ℕ → Act) (device : Device) (bytes : List ℕ) : Type 0 where
  pub place : ℕ
  pub below : place < most
  pub is : bytes ≡ (acted (asks place) device).0

-- a refusal is by the device's reply to one of so many requests, where the link tells its device
-- and has no fault
abbrev pub IsByReplyTo : {L : Type 0} → (L → Option Talk) → (L → Option LinkFault) → ℕ → (ℕ → Act)
    → SessionValue L → SessionValue L → Type 0
IsByReplyTo talk fault most asks old new =
    fault new.link ≡ None
    → IfSome (talk old.link) (λ talk. HasReplied most asks talk.device new.reply)

-- a refusal is not by error 5, which says that there is none, or that none is left
abbrev pub IsNotMissing : SessionFault → Type 0
IsNotMissing (session.Refused function code) = (code.0 == 5) ≡ false
IsNotMissing other = Unit {0}

-- ---- what a list of the databases did

-- Requests went out in order, each but the first where the reply before it said that more follow,
-- and at most 65,536. Where it was done, each was answered, the heads are those in the replies, and
-- the last one said that no more follow, unless it was the 65,536th.
pub record Lists {L : Type 0} (talk : L → Option Talk) (since : L → L → Type 0)
    (fault : L → Option LinkFault) (downs : L → ℕ) (old new : L)
    (answer : Result (List DbHead) SessionFault) : Type 0 where
  pub count : ℕ
  pub some : 0 < count
  pub few : count ≤ 65536
  pub stops : Stops talk since fault downs (map text (listings count)) old new
  pub more : IfSome (talk old) (λ talk. MoreFollow talk.device count)
  pub does : OnOk answer (Does talk (listings count) old new)
  pub heads : IfOk answer
      (λ heads. IfSome (talk old) (λ talk. heads ≡ heads_listed talk.device count))
  pub last : OnOk answer (IfSome (talk old) (λ talk. NoneFollow talk.device count))
