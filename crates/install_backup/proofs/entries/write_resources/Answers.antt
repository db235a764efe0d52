-- Resources that are put grow by one.
use Rattle.std.proofs.Common.{refl}
use Rattle.std.proofs.lemmas.Result.{err_from_is_err_and}
use Rattle.mirrors.proofs.NewsLaws.{split_at}
use Rattle.install_backup.specs.InstallActs.{put_resource}
use Rattle.install_backup.proofs.EachAct.{each_none, each_on, each_stop}
use Rattle.session_parts.proofs.CauseLaws.{later_refused}
use Rattle.desktop_session.specs.Answers.{no_more}
use Rattle.desktop_session.proofs.GreetLaws.{no_fault_said}
use Rattle.install_backup.proofs.LimitLaws.{other_said}
use Rattle.install_backup.proofs.entries.write_resources.Goals as goal

pub loop-resource-init : goal.loop-resource-init
loop-resource-init g c = record {
  reference = refl;
  handle = refl;
  said = each_none (put_resource c.args.db.now.handle) g.met.L.Link.since_itself c.args.resources.now;
}

pub loop-resource-preserved : goal.loop-resource-preserved
loop-resource-preserved g c =
    let before = c.loop-resource.invariant in
    record {
      reference = cc;
      handle = cc;
      said = each_on (put_resource c.args.db.now.handle) g.met.L.Link.since_more
          (split_at c.args.resources.now c.loop-resource.resource-index c.resource-item.result c.loop-resource-test.true c.resource-item.is)
          (no_fault_said _ _ _ c.in_ok-put_resource.ensures.answer) before.said (rw before.handle at c.in_ok-put_resource.ensures.asked);
    }

pub returns-in_err-put_resource-clause-asks : goal.returns-in_err-put_resource-clause-asks
returns-in_err-put_resource-clause-asks g c =
    let p = err_from_is_err_and c.from_residual.result c.from_residual.ensures.1 in
    let before = c.loop-resource.invariant in
    rw (p.1, p.2)
    (each_stop (put_resource c.args.db.now.handle) g.met.L.Link.since_more _
    (split_at c.args.resources.now c.loop-resource.resource-index c.resource-item.result c.loop-resource-test.true c.resource-item.is) before.said
    (rw before.handle at c.in_err-put_resource.ensures.asked))

pub returns-in_err-put_resource-clause-cause : goal.returns-in_err-put_resource-clause-cause
returns-in_err-put_resource-clause-cause g c =
    let p = err_from_is_err_and c.from_residual.result c.from_residual.ensures.1 in
    rw (p.1, p.2) (later_refused no_more _ refl c.in_err-put_resource.ensures.asked c.in_err-put_resource.ensures.answer)

pub returns-in_err-put_resource-clause-others : goal.returns-in_err-put_resource-clause-others
returns-in_err-put_resource-clause-others g c =
    let p = err_from_is_err_and c.from_residual.result c.from_residual.ensures.1 in
    rw (p.1, p.2) (other_said 0x24 _ no_more _ _ refl c.in_err-put_resource.ensures.answer)
