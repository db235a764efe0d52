-- What a reply lends, where it lends something.
use Rattle.std.proofs.Common.{◌≡◌, ℕ, Bool, true, false, [], ◌∷◌, rules}
use Rattle.std.specs.Prelude.{Option, Some, None, IfOk, Result, Ok, Err, if◌then◌else◌}
use Rattle.dlp_replies.specs.declared.error_code.ErrorCode.{ErrorCode}
use Rattle.dlp_replies.specs.declared.fault.ReplyFault.{ReplyFault}
use Rattle.dlp_replies.specs.ReplyValues.{ReplyValue}
use Rattle.dlp_commands.specs.declared.link.LinkFault.{LinkFault}
use Rattle.desktop_session.specs.declared.fault.SessionFault.{SessionFault}
use Rattle.desktop_session.specs.declared.fault.SessionFault.TheVariants as session
use Rattle.desktop_session.specs.Answers.{answer_by, or_none, record_of, said_in}
use Rattle.desktop_session.specs.Lent.{LentValue}
use Rattle.mirrors.specs.Entries.{seen_in, seen_of}
use Rattle.mirrors.proofs.EntryLaws.{IsShort}

no_lent : (b : Bool) (function : ℕ) (code : ErrorCode) {lent : LentValue}
    → ◌≡◌ {A = Result (Option LentValue) SessionFault} (if b then Ok None else Err (session.Refused function code)) (Ok (Some lent)) → ⊥
no_lent true function code is = cc
no_lent false function code is = cc

pub found_short : (function : ℕ) (fault : Option LinkFault) (read : Result ReplyValue ReplyFault) {lent : LentValue} → IfOk read (λ value. IsShort (record_of value))
    → answer_by fault (or_none (said_in function record_of read)) ≡ Ok (Some lent) → IsShort lent
found_short function fault read short is = search (rules, no_lent)

pub found_seen : (function : ℕ) (fault : Option LinkFault) (read : Result ReplyValue ReplyFault) {lent : LentValue}
    → answer_by fault (or_none (said_in function record_of read)) ≡ Ok (Some lent) → seen_in read ≡ seen_of lent ∷ []
found_seen function fault read is = search (rules, no_lent)
