-- What is lent is followed.
use Rattle.std.proofs.Common.{refl, rules, subst, sym}
use Rattle.desktop_session.specs.Answers.{resource_of}
use Rattle.desktop_session.specs.Asking.{lends_resource}
use Rattle.desktop_session.specs.Following.{Follows}
use Rattle.desktop_session.specs.Lent.{lent_resource}
use Rattle.desktop_session.specs.Loans.{answered_with}
use Rattle.desktop_session.specs.Requests.{reading_resource}
use Rattle.desktop_session.specs.Sessions.{SessionValue}
use Rattle.desktop_session.proofs.AnswerLaws.{gives_failed, gives_said}
use Rattle.desktop_session.proofs.LendFollows.{follows_said}
use Rattle.desktop_session.proofs.open_db.OpenDb.resource_at.Goals as goal

pub returns-in-Err : goal.returns-in-Err
returns-in-Err g c = (
  (
    refl,
    λ last. tt,
    (
      refl,
      refl,
      rw c.handle-handle.ensures.same at c.in-Err.ensures.asked,
      gives_failed lent_resource _ _ _ c.in-Err.ensures.fault,
      follows_said g.met.L.Link.heard_none g.met.L.Link.heard_more
          (reading_resource c.args.self.now.handle c.args.index).asks resource_of c.ask_resource.new.self.reply _
          (rw c.handle-handle.ensures.same at c.in-Err.ensures.follows) c.in-Err.ensures.fault,
    ),
  ),
  record { rests = tt },
)

pub returns : goal.returns
returns g c = (
  (
    refl,
    λ last. tt,
    (
      refl,
      refl,
      search rules,
      search (rules, gives_said),
      subst (λ (now : SessionValue g.row.L.Denot). Follows g.L.Link (lends_resource c.args.self.now.handle c.args.index) c.args.self.now.linked.now.link now.link
          (answered_with g.L.Link.fault 0x23 resource_of now)) (sym c.linked.view_is)
          (follows_said g.met.L.Link.heard_none g.met.L.Link.heard_more
          (reading_resource c.args.self.now.handle c.args.index).asks resource_of c.ask_resource.new.self.reply _
          (rw c.handle-handle.ensures.same at c.in-Ok.ensures.follows) c.in-Ok.ensures.fault),
    ),
  ),
  record { rests = tt },
)
