-- Where a list goes on behind each reply, whatever the replies say: a handheld's indices may have
-- gaps, and then a reply has the first database at or above the start; and a reply may have fewer
-- ids than were asked for, or some that came before.
use Rattle.std.specs.Prelude.{◌≡◌, ◌≤◌, ◌<◌, ◌%◌, ◌⊎◌, ◌&&◌, ◌++◌, ◌+◌, ℕ, true, false, List, [], length, take, slice_index, Option, None, Some, IfSome, Result, Ok, Err}
use Rattle.std.specs.Prelude.{nat_lt, not, if◌then◌else◌}
use Rattle.pdb_values.specs.Heads.{has_bit}
use Rattle.pdb_values.specs.declared.head.DbHead.{DbHead}
use Rattle.palm_device.specs.FreshIds.{is_among}
use Rattle.dlp_replies.specs.declared.fault.ReplyFault.{ReplyFault}
use Rattle.dlp_replies.specs.ReplyValues as reply
use Rattle.dlp_replies.specs.ReplyValues.{ReplyValue}
use Rattle.dlp_replies.specs.ReplyReading.{reply_at}
use Rattle.dlp_commands.specs.Talks.{Talk}
use Rattle.desktop_session.specs.Acts.{acted}
use Rattle.desktop_session.specs.Answers.{count_of, said_in}
use Rattle.desktop_session.specs.Lists.{heads_in, ids_in}
use Rattle.desktop_session.specs.Requests.{counting}

-- the index behind this one, where there is one
abbrev pub index_behind : ℕ → Option ℕ
index_behind last = if nat_lt last 65535 then Some (last + 1) else None

-- Where a list goes on behind a reply to a request for the databases from a start on: behind the
-- last index that the reply names, where its flag 0x80 says that more follow. One below the start
-- ends the list.
abbrev pub next_start : ℕ → Result ReplyValue ReplyFault → Option ℕ
next_start start (Ok (reply.ReadDbList last flags entries)) =
    if has_bit 0x80 flags && not (nat_lt last start) then index_behind last else None
next_start start (Ok other) = None
next_start start (Err fault) = None

-- these heads came in replies to requests for the databases, the first from 0 on and each other one
-- from where the list goes on behind the reply before it; and it goes on here
pub data ListedTo : ℕ → List DbHead → Type 0 where
  Begun : ListedTo 0 []
  GoesOn : {start next : ℕ} {heads : List DbHead} → ListedTo start heads
      → (read : Result ReplyValue ReplyFault) → next_start start read ≡ Some next
      → ListedTo next (heads ++ heads_in read)

-- these heads are all: the list goes on nowhere behind this reply
pub record IsListedUpTo (read : Result ReplyValue ReplyFault) (heads : List DbHead) : Type 0 where
  pub start : ℕ
  pub before : List DbHead
  pub listed : ListedTo start before
  pub ends : next_start start read ≡ None
  pub is : heads ≡ before ++ heads_in read

-- the count is the one that the device tells of the open database, where a device is told
abbrev pub IsCounted : Option Talk → ℕ → ℕ → Type 0
IsCounted talk handle count =
    IfSome talk
    (λ talk. said_in 0x2B count_of (reply_at 0x2B (acted (counting handle) talk.device).0)
    ≡ Ok count)

-- ---- ids that come once

-- each id from a place on is none of those before it
abbrev pub AreNewFrom : ℕ → List ℕ → Type 0
AreNewFrom place ids =
    (k : ℕ) → place ≤ k → k < length ids → is_among (slice_index ids k) (take k ids) ≡ false

-- an id from a place on is one of those before it
pub record ComesTwice (place : ℕ) (ids : List ℕ) : Type 0 where
  pub at : ℕ
  pub behind : place ≤ at
  pub within : at < length ids
  pub again : is_among (slice_index ids at) (take at ids) ≡ true

-- These are the ids up to those in this reply. Where those before it are no replies of 8,000, which
-- is the most that is asked for, each of its ids is new.
pub record AreIdsUpTo (read : Result ReplyValue ReplyFault) (ids : List ℕ) : Type 0 where
  pub before : List ℕ
  pub is : ids ≡ before ++ ids_in read
  pub new : (length before % 8000 ≡ 0) ⊎ AreNewFrom (length before) ids
