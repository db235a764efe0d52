-- What is lent is followed.
use Rattle.std.proofs.Common.{refl, rules, subst, sym}
use Rattle.std.specs.Option.{option_map}
use Rattle.dlp_replies.specs.ReplyReading.{reply_at}
use Rattle.desktop_session.specs.Answers.{or_none, record_of, said_in}
use Rattle.desktop_session.specs.Lendings.{lends_next}
use Rattle.desktop_session.specs.Following.{Follows}
use Rattle.desktop_session.specs.Lent.{lent_value}
use Rattle.desktop_session.specs.Loans.{found_with}
use Rattle.desktop_session.specs.Requests.{reading_next}
use Rattle.desktop_session.specs.Sessions.{SessionValue}
use Rattle.desktop_session.proofs.AnswerLaws.{gives_failed, gives_said}
use Rattle.desktop_session.proofs.LendFollows.{follows_lent}
use Rattle.desktop_session.proofs.open_db.OpenDb.next_changed.Goals as goal

pub returns-in-Err : goal.returns-in-Err
returns-in-Err g c = (
  (
    refl,
    λ last. tt,
    (
      refl,
      refl,
      rw c.handle-handle.ensures.same at c.in-Err.ensures.asked,
      gives_failed (option_map lent_value) _ _ _ c.in-Err.ensures.fault,
      c.in-Err.ensures.whole,
      follows_lent g.met.L.Link.heard_none g.met.L.Link.heard_more
          (reading_next c.args.self.now.handle).asks (λ bytes. or_none (said_in 0x1F record_of (reply_at 0x1F bytes))) c.ask_next.new.self.reply _
          (rw c.handle-handle.ensures.same at c.in-Err.ensures.follows) c.in-Err.ensures.fault,
    ),
  ),
  record { rests = tt },
)

pub returns : goal.returns
returns g c = (
  (
    refl,
    λ last. tt,
    (
      refl,
      refl,
      search rules,
      search (rules, gives_said),
      search rules,
      subst (λ (now : SessionValue g.row.L.Denot). Follows g.L.Link (lends_next c.args.self.now.handle) c.args.self.now.linked.now.link now.link
          (found_with g.L.Link.fault 0x1F record_of now)) (sym c.linked.view_is)
          (follows_lent g.met.L.Link.heard_none g.met.L.Link.heard_more
          (reading_next c.args.self.now.handle).asks (λ bytes. or_none (said_in 0x1F record_of (reply_at 0x1F bytes))) c.ask_next.new.self.reply _
          (rw c.handle-handle.ensures.same at c.in-Ok.ensures.follows) c.in-Ok.ensures.fault),
    ),
  ),
  record { rests = tt },
)
