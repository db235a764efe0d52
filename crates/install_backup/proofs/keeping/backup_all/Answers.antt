-- One database is backed up after another.
use Rattle.std.proofs.Common.{◌∙◌, refl, arith}
use Rattle.std.proofs.lemmas.Result.{err_from_is_err_and}
use Rattle.mirrors.proofs.NewsLaws.{split_at}
use Rattle.install_backup.proofs.KeepLaws.{kept_all, kept_begin, kept_lost, kept_on, kept_stop}
use Rattle.install_backup.proofs.keeping.backup_all.Goals as goal

pub loop-head-init : goal.loop-head-init
loop-head-init g c = record {
  kept = kept_begin g.met.L.Link.since_itself c.args.heads.now c.new-moved.ensures.items;
  faults = refl;
  paths = refl;
  open_still = refl;
}

pub loop-head-preserved : goal.loop-head-preserved
loop-head-preserved g c =
    let split = split_at c.args.heads.now c.loop-head.head-index c.head-item.result c.loop-head-test.true c.head-item.is in
    let kept = kept_on split g.met.L.Link.since_more c.loop-head.invariant.kept c.in_ok-one.ensures.keeps c.in_ok-push_moved.ensures.moved in
    record {
      kept = kept;
      faults = c.in_ok-one.ensures.cause.still (λ is. absurd cc) ∙ c.loop-head.invariant.faults;
      paths = c.in_ok-one.ensures.paths ∙ c.loop-head.invariant.paths;
      open_still = kept.each.so.abandoned;
    }

pub returns-in_err-one-clause-keeps : goal.returns-in_err-one-clause-keeps
returns-in_err-one-clause-keeps g c =
    let p = err_from_is_err_and c.from_residual.result c.from_residual.ensures.1 in
    let split = split_at c.args.heads.now c.loop-head.head-index c.head-item.result c.loop-head-test.true c.head-item.is in
    rw (p.1, p.2) (kept_stop split c.loop-head.invariant.kept c.in_err-one.ensures.keeps)

pub returns-in_err-push_moved-clause-keeps : goal.returns-in_err-push_moved-clause-keeps
returns-in_err-push_moved-clause-keeps g c =
    let p = err_from_is_err_and c.from_residual-in_err-push_moved.result c.from_residual-in_err-push_moved.ensures.1 in
    let split = split_at c.args.heads.now c.loop-head.head-index c.head-item.result c.loop-head-test.true c.head-item.is in
    rw (p.1, p.2) (rw c.in_err-push_moved.ensures.memory (kept_lost split g.met.L.Link.since_itself
    (kept_on split g.met.L.Link.since_more c.loop-head.invariant.kept c.in_ok-one.ensures.keeps refl)))

pub returns-clause-keeps : goal.returns-clause-keeps
returns-clause-keeps g c =
    kept_all g.met.L.Link.since_itself c.args.heads.now c.loop-head.head-index (omega arith) c.loop-head.invariant.kept
