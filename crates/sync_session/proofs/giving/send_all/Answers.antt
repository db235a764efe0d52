-- The mark, and then the news.
use Rattle.std.proofs.Common.{refl}
use Rattle.std.proofs.lemmas.Result.{err_from_is_err_and}
use Rattle.desktop_session.specs.Answers.{no_more}
use Rattle.desktop_session.proofs.GreetLaws.{no_fault_said}
use Rattle.mirrors.proofs.PartFollows.{then_ends, then_goes}
use Rattle.session_parts.proofs.CauseLaws.{later_refused}
use Rattle.session_parts.proofs.EachLaws.{behind_none, behind_one}
use Rattle.sync_session.proofs.giving.send_all.Goals as goal

pub returns-in_err-begin : goal.returns-in_err-begin
returns-in_err-begin g c =
    let p = err_from_is_err_and c.from_residual.result c.from_residual.ensures.1 in
    record {
      sends = rw (p.1, p.2) (behind_none c.in_err-begin.ensures.asked
          (later_refused no_more _ refl c.in_err-begin.ensures.asked c.in_err-begin.ensures.answer));
      follows = rw (p.1, p.2) (then_ends g.met.L.Link.heard_none g.met.L.Link.heard_more _ c.in_err-begin.ensures.follows);
    }

pub returns : goal.returns
returns g c = record {
  sends = behind_one g.met.L.Link.since_more (no_fault_said _ _ _ c.in_ok-begin.ensures.answer) c.in_ok-begin.ensures.asked c.give_all.ensures.gives;
  follows = then_goes g.met.L.Link.heard_none g.met.L.Link.heard_more _ c.in_ok-begin.ensures.follows c.give_all.ensures.follows;
}
