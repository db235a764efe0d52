-- Readings, and then plans.
use Rattle.std.proofs.Common.{◌∙◌, ap, length}
use Rattle.std.proofs.lemmas.Result.{err_from_is_err_and}
use Rattle.conduit_rules.specs.declared.view.View.{View}
use Rattle.desk_store.specs.Views.{shelves_in}
use Rattle.mirrors.proofs.PartFollows.{lost_first}
use Rattle.sync_session.specs.Inquiries.{each_seen}
use Rattle.sync_session.proofs.RepliesLaws.{follows_lost_then}
use Rattle.sync_session.specs.Readings.{reads_under, shown_under}
use Rattle.session_parts.proofs.EachLaws.{says-length, spans_none}
use Rattle.sync_session.proofs.preparing.read_and_plan.Goals as goal

pub returns-in_err-jobs-clause-reads : goal.returns-in_err-jobs-clause-reads
returns-in_err-jobs-clause-reads g c =
    let p = err_from_is_err_and c.from_residual.result c.from_residual.ensures.1 in
    rw p.1 (record { reads = spans_none g.met.L.Link.since_itself (rw p.2 tt); plans = tt })

pub plan_all-requires : goal.plan_all-requires
plan_all-requires g c =
    let reads = c.in_ok-views.ensures.reads in
    says-length (reads_under (shelves_in c.args.desk.now))
    (λ told job handle given (view : View). shown_under (shelves_in c.args.desk.now) told job handle given view.seen.items)
    (g.L.Link.talk c.args.linked.now.link) c.deref.result.now reads.stretches c.in_ok-views.views.items reads.said
    ∙ ap length c.deref.ensures.value

pub returns-in_err-jobs-clause-follows : goal.returns-in_err-jobs-clause-follows
returns-in_err-jobs-clause-follows g c =
    let p = err_from_is_err_and c.from_residual.result c.from_residual.ensures.1 in
    rw (p.1, p.2) (lost_first g.met.L.Link.heard_none _ _)

pub returns-in_err-views-clause-follows : goal.returns-in_err-views-clause-follows
returns-in_err-views-clause-follows g c =
    let p = err_from_is_err_and c.from_residual-in_err-views.result c.from_residual-in_err-views.ensures.1 in
    rw (p.1, p.2) (rw (c.deref.ensures.value, c.in_ok-jobs.ensures, c.agree-agree.ensures, c.user.ensures, c.marks.ensures.marks) at c.in_err-views.ensures.follows)

pub returns-in_err-plan_all-clause-follows : goal.returns-in_err-plan_all-clause-follows
returns-in_err-plan_all-clause-follows g c =
    let p = err_from_is_err_and c.from_residual-in_err-plan_all.result c.from_residual-in_err-plan_all.ensures.1 in
    rw (p.1, p.2) (follows_lost_then (rw (c.deref.ensures.value, c.in_ok-jobs.ensures, c.agree-agree.ensures, c.user.ensures, c.marks.ensures.marks)
    at c.in_ok-views.ensures.follows))

pub returns-clause-follows : goal.returns-clause-follows
returns-clause-follows g c =
    rw (ap each_seen c.in_ok-plan_all.ensures.views_are) (rw (c.deref.ensures.value, c.in_ok-jobs.ensures, c.agree-agree.ensures, c.user.ensures, c.marks.ensures.marks)
    at c.in_ok-views.ensures.follows)
