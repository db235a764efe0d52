-- No message was had, or the handheld was greeted.
use Rattle.std.proofs.Common.{refl, map}
use Rattle.desktop_session.specs.Acts.{text}
use Rattle.desktop_session.proofs.StopLaws.{fell_none, stops_none}
use Rattle.session_parts.specs.Meets.{greeting}
use Rattle.install_backup.proofs.HelloLaws.{hello_later, hello_other}
use Rattle.install_backup.proofs.MarkLaws.{user_answered}
use Rattle.install_backup.proofs.greeting.hello.Goals as goal

pub returns-in-Err-clause-stops : goal.returns-in-Err-clause-stops
returns-in-Err-clause-stops g c =
    rw c.in-Err.ensures.err (stops_none g.L.Link.talk g.L.Link.since g.L.Link.fault g.L.Link.downs (map text greeting) c.args.link c.args.link
    refl (g.met.L.Link.since_itself c.args.link) (fell_none g.L.Link.fault g.L.Link.downs c.args.link))

pub returns-in-Ok-clause-user : goal.returns-in-Ok-clause-user
returns-in-Ok-clause-user g c =
    user_answered g.L.Link.talk g.L.Link.fault c.args.link _ c.hello.result c.in-Ok.ensures.ok
    (rw (c.unclaimed.ensures, c.none.ensures) at c.hello.ensures.greeted)

pub returns-in-Ok-clause-cause : goal.returns-in-Ok-clause-cause
returns-in-Ok-clause-cause g c =
    hello_later g.L.Link.talk g.L.Link.fault _ c.hello.result (rw (c.unclaimed.ensures, c.none.ensures) at c.hello.ensures.greeted) c.hello.ensures.last

pub returns-in-Ok-clause-others : goal.returns-in-Ok-clause-others
returns-in-Ok-clause-others g c =
    hello_other g.L.Link.talk g.L.Link.fault _ c.hello.result (rw (c.unclaimed.ensures, c.none.ensures) at c.hello.ensures.greeted)
