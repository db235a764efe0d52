-- An end that sent and took nothing.
use Rattle.std.specs.Prelude.{◌≡◌, [], None}
use Rattle.trace_text.specs.declared.frame.End.{End}
use Rattle.line_steps.specs.declared.half.Half.{Half}

pub record IsNew (half : Half) (end : End) : Type 0 where
  pub end_is : half.end ≡ end
  pub sender_is : half.sender ≡ record { id = 0; length = 0; acknowledged = 1; tries = 0 }
  pub message_is : half.message ≡ []
  pub receiver_is : half.receiver ≡ record { awaited = None; pieces = []; last = None }
  pub reader_is : half.reader ≡ record { held = []; tally = record { bytes = 0; packets = 0 } }
  pub taken_is : half.taken ≡ 0
