-- What a reply with ids says.
use Rattle.std.proofs.Common.{◌≡◌, ℕ, List}
use Rattle.std.specs.Prelude.{Result, Ok, Err}
use Rattle.dlp_replies.specs.declared.fault.ReplyFault.{ReplyFault}
use Rattle.dlp_replies.specs.ReplyValues.{ReplyValue}
use Rattle.desktop_session.specs.Answers.{ids_of, said_in}
use Rattle.desktop_session.specs.Lists.{ids_in}
use Rattle.std.proofs.Common.{rules}

value_said : (value : ReplyValue) {ids : List ℕ} → said_in 0x31 ids_of (Ok value) ≡ Ok ids → ids ≡ ids_of value
value_said value is = search (rules)

pub ids_said : (read : Result ReplyValue ReplyFault) {ids : List ℕ} → said_in 0x31 ids_of read ≡ Ok ids → ids ≡ ids_in read
ids_said (Ok value) is = value_said value is
ids_said (Err fault) is = cc
