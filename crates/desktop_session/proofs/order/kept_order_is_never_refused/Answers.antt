use Rattle.desktop_session.proofs.OrderLaws.{found_in_order, removed_in_order, said_in_order}
use Rattle.desktop_session.proofs.order.kept_order_is_never_refused.Goals as goal

pub returns : goal.returns
returns g c = record {
  said = λ one old new take is. said_in_order g.L.Link.talk g.L.Link.since g.L.Link.fault g.L.Link.downs one old new take is.asked is.order;
  found = λ one old new take is. found_in_order g.L.Link.talk g.L.Link.since g.L.Link.fault g.L.Link.downs one old new take is.asked is.order;
  removed = λ one old new is. removed_in_order g.L.Link.talk g.L.Link.since g.L.Link.fault g.L.Link.downs one old new is.asked is.order;
}
