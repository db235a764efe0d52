use Rattle.desktop_session.proofs.LastLaws.{error_refused, last_found, last_refused_by, last_removed}
use Rattle.desktop_session.proofs.laws.refusals_are_the_last_reply.Goals as goal

pub returns : goal.returns
returns g c = record {
  said = λ one old new take asked cause other. last_refused_by {talk = g.L.Link.talk} {since = g.L.Link.since} {fault = g.L.Link.fault} {downs = g.L.Link.downs}
      take cause other asked;
  refused = λ one old new take asked cause. error_refused {talk = g.L.Link.talk} {since = g.L.Link.since} {fault = g.L.Link.fault} {downs = g.L.Link.downs}
      take cause asked;
  found = λ one old new take asked cause. last_found {talk = g.L.Link.talk} {since = g.L.Link.since} {fault = g.L.Link.fault} {downs = g.L.Link.downs}
      take cause asked;
  removed = λ one old new asked cause. last_removed {talk = g.L.Link.talk} {since = g.L.Link.since} {fault = g.L.Link.fault} {downs = g.L.Link.downs}
      cause asked;
}
