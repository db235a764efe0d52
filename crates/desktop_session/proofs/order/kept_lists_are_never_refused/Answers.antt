use Rattle.desktop_session.proofs.ListOrderLaws.{ids_in_order, list_in_order}
use Rattle.desktop_session.proofs.order.kept_lists_are_never_refused.Goals as goal

pub returns : goal.returns
returns g c = record {
  databases = λ old new said cause tells stop. list_in_order g.L.Link.talk g.L.Link.fault old new said cause tells.is tells.proper stop.replied
      stop.caused;
  ids = λ old new handle count cause tells few stop. ids_in_order g.L.Link.talk g.L.Link.fault old new tells.said handle count cause tells.tells.is
      tells.tells.proper tells.byte few tells.records stop.replied stop.caused;
}
