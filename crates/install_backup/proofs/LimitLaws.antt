-- What a session stops for but for the making of a database is no want of room for it.
use Rattle.std.proofs.Common.{◌≡◌, refl, subst, sym, ℕ, Bool, false}
use Rattle.std.specs.Prelude.{◌==◌, Option, Some, None, IfErr, Result, Ok, Err}
use Rattle.dlp_replies.specs.ReplyReading.{reply_at}
use Rattle.dlp_replies.specs.ReplyValues as reply
use Rattle.dlp_replies.specs.ReplyValues.{ReplyValue}
use Rattle.dlp_replies.specs.declared.fault.ReplyFault.{ReplyFault}
use Rattle.dlp_commands.specs.declared.link.LinkFault.TheVariants as link_fault
use Rattle.desktop_session.specs.declared.fault.SessionFault.TheVariants as session
use Rattle.desktop_session.specs.Answers.{or_false}
use Rattle.desktop_session.specs.Lists.{IsToldOf}
use Rattle.desktop_session.specs.Tellings.{number_of}
use Rattle.desktop_session.proofs.LastLaws.{by_removed}
use Rattle.session_parts.proofs.LinkWords.{Act, AsksOne, LinkFault, SessionFault, SessionValue, Talk, answer_by, no_more, said_in}
use Rattle.install_backup.specs.Rooms.{IsNoLimit}

-- what is told of another function is none
pub other_told : (number : ℕ) (cause : SessionFault) → (number == 0x18) ≡ false → IsToldOf number cause → IsNoLimit cause
other_told number (session.Refused function code) other told = rw (told, other) refl
other_told number (session.BadReply function broken) other told = tt
other_told number session.Down other told = tt
other_told number session.NoMemory other told = tt
other_told number (session.OtherUser handheld desktop) other told = tt
other_told number session.TooManyUsers other told = tt

said_told : {A : Type 0} (number : ℕ) (take : ReplyValue → A) (read : Result ReplyValue ReplyFault) → IfErr (said_in number take read) (IsToldOf number)
said_told number take (Err broken) = refl
said_told number take (Ok (reply.Refused function code)) = refl
said_told number take (Ok value) = tt

answer_told : {A : Type 0} (number : ℕ) (fault : Option LinkFault) (said : Result A SessionFault) → IfErr said (IsToldOf number)
    → IfErr (answer_by fault said) (IsToldOf number)
answer_told number None said told = told
answer_told number (Some link_fault.Down) said told = tt
answer_told number (Some link_fault.NoMemory) said told = tt

-- the answer to a request of another function
pub other_said : {A : Type 0} (number : ℕ) (fault : Option LinkFault) (take : ReplyValue → A) (read : Result ReplyValue ReplyFault) (answer : Result A SessionFault)
    → (number == 0x18) ≡ false → answer ≡ answer_by fault (said_in number take read) → IfErr answer IsNoLimit
other_said number fault take read (Ok x) other is = tt
other_said number fault take read (Err cause) other is =
    other_told number cause other
    (subst (λ r. IfErr r (IsToldOf number)) (sym is) (answer_told number fault (said_in number take read) (said_told number take read)))

-- the answer to one that may find none
pub other_removed : {L : Type 0} {talk : L → Option Talk} {since : L → L → Type 0} {fault : L → Option LinkFault} {downs : L → ℕ} {one : Act}
    {old new : SessionValue L} (cause : SessionFault) → (number_of one == 0x18) ≡ false → AsksOne talk since fault downs one old new
    → ◌≡◌ {A = Result Bool SessionFault} (Err cause) (answer_by (fault new.link) (or_false (said_in (number_of one) no_more (reply_at (number_of one) new.reply))))
    → IsNoLimit cause
other_removed {fault = fault} {one = one} {new = new} cause other asked is =
    let said = said_in (number_of one) no_more (reply_at (number_of one) new.reply) in
    other_said (number_of one) (fault new.link) no_more (reply_at (number_of one) new.reply) (Err cause) other
    (by_removed (fault new.link) said cause is)
