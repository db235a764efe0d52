use Rattle.line_world.proofs.Names.{Ok, sym, ap, ◌∙◌, request_value, asks_id}
use Rattle.line_world.proofs.given.asks_new.Goals as goal

pub returns-in-WriteRecord : goal.returns-in-WriteRecord
returns-in-WriteRecord c = sym (ap asks_id c.in-Ok.ensures.exact ∙ ap (λ r. asks_id (Ok (request_value r))) c.in-WriteRecord.is)
