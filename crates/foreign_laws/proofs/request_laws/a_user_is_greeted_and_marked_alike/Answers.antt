use Rattle.foreign_laws.proofs.AskTwins.{twin_ends, twin_marks}
use Rattle.foreign_laws.proofs.PartTwins.{twin_greets}
use Rattle.foreign_laws.proofs.request_laws.a_user_is_greeted_and_marked_alike.Goals as goal

pub returns : goal.returns
returns c = record { greets = twin_greets; marks = twin_marks; ends = twin_ends }
