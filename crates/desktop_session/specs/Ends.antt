-- How a session is left: its link, and what it answered.
use Rattle.std.specs.Prelude.{◌≡◌, ℕ, List, Option, None, IfSome, Result, Ok, Err}
use Rattle.pdb_values.specs.declared.user.UserInfo.{UserInfo}
use Rattle.dlp_replies.specs.ReplyReading.{reply_at}
use Rattle.dlp_commands.specs.declared.link.LinkFault.{LinkFault}
use Rattle.dlp_commands.specs.Talks.{Talk}
use Rattle.desktop_session.specs.declared.ending.Ended.{Ended}
use Rattle.desktop_session.specs.declared.ending.Halted.{Halted}
use Rattle.desktop_session.specs.declared.fault.SessionFault.{SessionFault}
use Rattle.desktop_session.specs.Acts.{acted}
use Rattle.desktop_session.specs.Answers.{answer_by, no_more, said_in}
use Rattle.desktop_session.specs.Requests.{ending}
use Rattle.desktop_session.specs.Sessions.{SessionValue}

-- the link of a session that began, or that stopped
abbrev pub link_begun : {L : Type 0} → Result (SessionValue L) (Halted L) → L
link_begun (Ok linked) = linked.link
link_begun (Err halted) = halted.link

-- the user of a session that began, or why it stopped
abbrev pub user_begun : {L : Type 0} → Result (SessionValue L) (Halted L)
    → Result UserInfo SessionFault
user_begun (Ok linked) = Ok linked.user
user_begun (Err halted) = Err halted.cause

-- the link of a session that ended, or that stopped
abbrev pub link_ended : {L : Type 0} → Result (Ended L) (Halted L) → L
link_ended (Ok ended) = ended.link
link_ended (Err halted) = halted.link

-- that it ended, or why it stopped
abbrev pub end_of : {L : Type 0} → Result (Ended L) (Halted L) → Result (Unit {0}) SessionFault
end_of (Ok ended) = Ok tt
end_of (Err halted) = Err halted.cause

-- An ending answered the fault of the link, or what the reply says, which is the device's to
-- EndOfSync where the link has no fault.
pub record AnswersEnding (talk : Option Talk) (fault : Option LinkFault)
    (answer : Result (Unit {0}) SessionFault) : Type 0 where
  pub reply : List ℕ
  pub is : answer ≡ answer_by fault (said_in 0x2F no_more (reply_at 0x2F reply))
  pub told : fault ≡ None → IfSome talk (λ talk. reply ≡ (acted ending talk.device).0)
