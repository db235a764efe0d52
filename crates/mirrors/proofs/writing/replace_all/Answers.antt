-- Puts grow by one.
use Rattle.std.proofs.Common.{refl, ap, sym, arith}
use Rattle.std.proofs.lemmas.Result.{err_from_is_err_and}
use Rattle.desktop_session.specs.Answers.{id_of}
use Rattle.mirrors.proofs.EntryLaws.{cause_by}
use Rattle.mirrors.proofs.NewsLaws.{some_done, some_none, some_on, some_stop, split_at}
use Rattle.desktop_session.proofs.LastLaws.{last_refused}
use Rattle.desktop_session.proofs.GreetLaws.{no_fault_said}
use Rattle.mirrors.proofs.PartFollows.{left_all, loop_begins, loop_done, loop_on, loop_stop, next_left, none_after}
use Rattle.mirrors.proofs.WriteFollows.{replaces-end, replaces-next}
use Rattle.mirrors.specs.WriteInquiries.{replaces_each}
use Rattle.mirrors.proofs.writing.replace_all.Goals as goal

pub loop-entry-init : goal.loop-entry-init
loop-entry-init g c = record {
  reference = refl;
  handle = refl;
  puts = some_none g.met.L.Link.since_itself c.args.entries.now;
  follows = loop_begins g.met.L.Link.heard_none c.args.db.now.linked.now.link (ap (replaces_each c.args.db.now.handle) (left_all c.args.entries.now));
}

pub loop-entry-preserved : goal.loop-entry-preserved
loop-entry-preserved g c =
    let before = c.loop-entry.invariant in
    record {
      reference = cc;
      handle = cc;
      puts = some_on g.met.L.Link.since_more
          before.handle (split_at c.args.entries.now c.loop-entry.entry-index c.entry-item.result c.loop-entry-test.true c.entry-item.is)
          (no_fault_said _ _ _ c.in_ok-put.ensures.answer) before.puts c.in_ok-put.ensures.puts;
      follows = loop_on g.met.L.Link.heard_more _ (replaces-next c.args.db.now.handle c.entry-item.result
          (next_left c.args.entries.now c.loop-entry.entry-index c.entry-item.result c.loop-entry-test.true c.entry-item.is))
          before.follows (rw before.handle at c.in_ok-put.ensures.follows);
    }

pub returns-in_err-put-clause-puts : goal.returns-in_err-put-clause-puts
returns-in_err-put-clause-puts g c =
    let p = err_from_is_err_and c.from_residual.result c.from_residual.ensures.1 in
    let before = c.loop-entry.invariant in
    rw (p.1, p.2)
    (some_stop g.met.L.Link.since_more
    (λ given done. Unit {0})
    _ before.handle
    (split_at c.args.entries.now c.loop-entry.entry-index c.entry-item.result c.loop-entry-test.true c.entry-item.is) before.puts
    c.in_err-put.ensures.puts (cause_by 0x21 id_of _ _ (sym c.in_err-put.ensures.answer)))

pub returns-clause-puts : goal.returns-clause-puts
returns-clause-puts g c =
    some_done c.loop-entry.entry-index
    (omega arith) (λ given. tt) c.loop-entry.invariant.puts

pub returns-in_err-put-clause-last : goal.returns-in_err-put-clause-last
returns-in_err-put-clause-last g c =
    let p = err_from_is_err_and c.from_residual.result c.from_residual.ensures.1 in
    rw (p.1, p.2) (last_refused id_of _ refl c.in_err-put.ensures.puts.asked c.in_err-put.ensures.answer)

pub returns-in_err-put-clause-follows : goal.returns-in_err-put-clause-follows
returns-in_err-put-clause-follows g c =
    let p = err_from_is_err_and c.from_residual.result c.from_residual.ensures.1 in
    let before = c.loop-entry.invariant in
    rw (p.1, p.2)
    (loop_stop g.met.L.Link.heard_more _ (replaces-next c.args.db.now.handle c.entry-item.result
    (next_left c.args.entries.now c.loop-entry.entry-index c.entry-item.result c.loop-entry-test.true c.entry-item.is))
    before.follows (rw before.handle at c.in_err-put.ensures.follows))

pub returns-clause-follows : goal.returns-clause-follows
returns-clause-follows g c =
    loop_done (replaces-end c.args.db.now.handle (none_after c.args.entries.now c.loop-entry.entry-index (omega arith))) c.loop-entry.invariant.follows
