-- Records that come whole: a reply tells the size of one beside its bytes.
use Rattle.std.specs.Prelude.{◌≡◌, ℕ, Bool, true, List, [], length, Option, None, Result, Ok, Err, nat_le, if◌then◌else◌}
use Rattle.dlp_replies.specs.declared.fault.ReplyFault.{ReplyFault}
use Rattle.dlp_replies.specs.ReplyReading.{reply_at}
use Rattle.dlp_replies.specs.ReplyValues as reply
use Rattle.dlp_replies.specs.ReplyValues.{ReplyValue}
use Rattle.dlp_commands.specs.declared.link.LinkFault.{LinkFault}
use Rattle.desktop_session.specs.Acts.{Act}
use Rattle.desktop_session.specs.Sessions.{SessionValue}
use Rattle.desktop_session.specs.Tellings.{number_of}

-- a record has all the bytes of the size that its reply tells; no other reply has one
abbrev pub is_whole : Result ReplyValue ReplyFault → Bool
is_whole (Ok (reply.ReadRecord id index size attributes category bytes)) =
    nat_le size (length bytes)
is_whole (Ok (reply.ReadNextModifiedRec id index size attributes category bytes)) =
    nat_le size (length bytes)
is_whole (Ok other) = true
is_whole (Err fault) = true

-- a reply to a function that isn't whole is taken for none
abbrev pub whole_reply : ℕ → List ℕ → List ℕ
whole_reply number bytes = if is_whole (reply_at number bytes) then bytes else []

-- what a session has of a reply to an act is whole, where its link has no fault
abbrev pub HasWhole : {L : Type 0} → (L → Option LinkFault) → Act → SessionValue L → Type 0
HasWhole fault one now =
    fault now.link ≡ None → is_whole (reply_at (number_of one) now.reply) ≡ true
