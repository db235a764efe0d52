-- Puts grow by one.
use Rattle.std.proofs.Common.{◌<◌, refl}
use Rattle.std.proofs.lemmas.Result.{err_from_is_err_and}
use Rattle.pdb_values.specs.declared.record.Record.{Record}
use Rattle.mirrors.proofs.NewsLaws.{split_at}
use Rattle.install_backup.specs.InstallActs.{put_record}
use Rattle.install_backup.proofs.AskWords.{all_at, put_asked}
use Rattle.install_backup.proofs.EachAct.{each_none, each_on, each_stop}
use Rattle.session_parts.proofs.CauseLaws.{later_refused}
use Rattle.desktop_session.specs.Answers.{id_of}
use Rattle.desktop_session.proofs.GreetLaws.{no_fault_said}
use Rattle.install_backup.proofs.LimitLaws.{other_said}
use Rattle.install_backup.proofs.entries.put_records.Goals as goal

pub loop-item-init : goal.loop-item-init
loop-item-init g c = record {
  reference = refl;
  handle = refl;
  said = each_none (put_record c.args.db.now.handle) g.met.L.Link.since_itself c.args.records.now;
}

pub loop-item-preserved : goal.loop-item-preserved
loop-item-preserved g c =
    let before = c.loop-item.invariant in
    let split = split_at c.args.records.now c.loop-item.item-index c.item-item.result c.loop-item-test.true c.item-item.is in
    record {
      reference = cc;
      handle = cc;
      said = each_on (put_record c.args.db.now.handle) g.met.L.Link.since_more split (no_fault_said _ _ _ c.in_ok-put.ensures.answer) before.said
          (put_asked c.item-item.result before.handle (all_at (λ (item : Record). 0 < item.id) _ _ _ c.requires split) c.in_ok-put.ensures.puts);
    }

pub returns-in_err-put-clause-asks : goal.returns-in_err-put-clause-asks
returns-in_err-put-clause-asks g c =
    let p = err_from_is_err_and c.from_residual.result c.from_residual.ensures.1 in
    let before = c.loop-item.invariant in
    let split = split_at c.args.records.now c.loop-item.item-index c.item-item.result c.loop-item-test.true c.item-item.is in
    rw (p.1, p.2)
    (each_stop (put_record c.args.db.now.handle) g.met.L.Link.since_more _ split before.said
    (put_asked c.item-item.result before.handle (all_at (λ (item : Record). 0 < item.id) _ _ _ c.requires split) c.in_err-put.ensures.puts))

pub returns-in_err-put-clause-cause : goal.returns-in_err-put-clause-cause
returns-in_err-put-clause-cause g c =
    let p = err_from_is_err_and c.from_residual.result c.from_residual.ensures.1 in
    rw (p.1, p.2) (later_refused id_of _ refl c.in_err-put.ensures.puts.asked c.in_err-put.ensures.answer)

pub returns-in_err-put-clause-others : goal.returns-in_err-put-clause-others
returns-in_err-put-clause-others g c =
    let p = err_from_is_err_and c.from_residual.result c.from_residual.ensures.1 in
    rw (p.1, p.2) (other_said 0x21 _ id_of _ _ refl c.in_err-put.ensures.answer)
