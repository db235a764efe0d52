-- What is lent is followed: the reply where it is whole, and what is made of it.
use Rattle.std.proofs.Common.{◌≡◌, ◌++◌, refl, sym, subst, List, [], ℕ}
use Rattle.std.specs.Prelude.{Option, Some, None, Result, Ok, Err}
use Rattle.dlp_requests.specs.RequestValues.{RequestValue}
use Rattle.dlp_replies.specs.ReplyReading.{reply_at}
use Rattle.dlp_replies.specs.ReplyValues.{ReplyValue}
use Rattle.dlp_commands.specs.declared.link.Link.{Ghosts}
use Rattle.dlp_commands.specs.declared.link.LinkFault.{LinkFault}
use Rattle.dlp_commands.specs.DeviceSteps.{function_number}
use Rattle.dlp_commands.specs.Tries.{Try}
use Rattle.desktop_session.specs.declared.fault.SessionFault.{SessionFault}
use Rattle.desktop_session.specs.Answers.{answer_by, mapped, said_in}
use Rattle.desktop_session.specs.Faults.{fault_of}
use Rattle.desktop_session.specs.Following.{Follows}
use Rattle.desktop_session.specs.Inquiries.{Ends, Inquiry, asks_bytes, asks_for, ◌>>=◌}
use Rattle.desktop_session.specs.Lendings.{asks_whole}
use Rattle.desktop_session.specs.Wholes.{whole_reply}
use Rattle.desktop_session.proofs.FollowLaws.{Reaches, follows_call, follows_done, follows_ended, reaches_none, reaches_then}

module _ {L : Type 0} {link : Ghosts L} (heard_none : (a : L) → link.heard a [] a)
    (heard_more : (a b c : L) (first next : List Try) → link.heard a first b → link.heard b next c → link.heard a (first ++ next) c)
    (request : RequestValue) where
  begun : (old : L) → Reaches link (asks_whole request) (asks_bytes request >>= (λ reply. Ends (Ok (whole_reply (function_number request) reply)))) old old
  unfolding ◌>>=◌
  begun old = reaches_none heard_none (asks_whole request) old

  pub follows_kept : {reply kept : List ℕ} {old new : L} → Follows link (asks_bytes request) old new (Ok reply)
      → kept ≡ whole_reply (function_number request) reply → Follows link (asks_whole request) old new (Ok kept)
  follows_kept {old} {new} goes is =
      subst (λ (bytes : List ℕ). Follows link (asks_whole request) old new (Ok bytes)) (sym is) (follows_done (reaches_then heard_more _ (begun old) goes))

  pub follows_unkept : {cause : SessionFault} {old new : L} → Follows link (asks_bytes request) old new (Err cause)
      → Follows link (asks_whole request) old new (Err cause)
  follows_unkept {old} goes = follows_ended heard_more _ (begun old) goes

  by_fault : {A : Type 0} (make : List ℕ → Result A SessionFault) (reply : List ℕ) (fault : Option LinkFault) (asked : Result (Unit {0}) SessionFault)
      {old new : L}
      → Follows link (asks_whole request) old new (mapped (λ done. reply) asked) → asked ≡ answer_by fault (Ok tt)
      → Follows link (asks_whole request >>= (λ bytes. Ends (make bytes))) old new (answer_by fault (make reply))
  by_fault make reply None asked {old} {new} goes is =
      follows_done (reaches_then heard_more _ (reaches_none heard_none _ old)
      (subst (λ (r : Result (Unit {0}) SessionFault). Follows link (asks_whole request) old new (mapped (λ done. reply) r)) is goes))
  by_fault make reply (Some fault) asked {old} {new} goes is =
      follows_ended heard_more _ (reaches_none heard_none _ old)
      (subst (λ (r : Result (Unit {0}) SessionFault). Follows link (asks_whole request) old new (mapped (λ done. reply) r)) is goes)

  pub follows_lent : {A : Type 0} (make : List ℕ → Result A SessionFault) (reply : List ℕ) (asked : Result (Unit {0}) SessionFault) {old new : L}
      → Follows link (asks_whole request) old new (mapped (λ done. reply) asked) → asked ≡ answer_by (link.fault new) (Ok tt)
      → Follows link (asks_whole request >>= (λ bytes. Ends (make bytes))) old new (answer_by (link.fault new) (make reply))
  follows_lent make reply asked {new} goes is = by_fault make reply (link.fault new) asked goes is

  -- the same of what is taken from any reply
  pub follows_said : {A : Type 0} (take : ReplyValue → A) (reply : List ℕ) (asked : Result (Unit {0}) SessionFault) {old new : L}
      → Follows link (asks_bytes request) old new (mapped (λ done. reply) asked) → asked ≡ answer_by (link.fault new) (Ok tt)
      → Follows link (asks_for request take) old new
      (answer_by (link.fault new) (said_in (function_number request) take (reply_at (function_number request) reply)))
  follows_said take reply asked goes is =
      follows_call heard_none heard_more request (said_in (function_number request) take) reply _ asked goes is refl
