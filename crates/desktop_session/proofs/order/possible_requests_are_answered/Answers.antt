use Rattle.desktop_session.proofs.OrderLaws.{order_answered, possible_answered}
use Rattle.desktop_session.proofs.order.possible_requests_are_answered.Goals as goal

pub returns : goal.returns
returns c = record { one = possible_answered; each = order_answered }
