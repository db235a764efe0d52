-- A database is taken away, and made and filled anew.
use Rattle.std.proofs.Common.{refl}
use Rattle.std.proofs.lemmas.Result.{err_from_is_err_and}
use Rattle.desktop_session.specs.Requests.{making}
use Rattle.session_parts.specs.Spans.{within}
use Rattle.install_backup.specs.Installed.{installed_head}
use Rattle.install_backup.specs.InstallActs.{fill_acts, install_one}
use Rattle.session_parts.proofs.CauseLaws.{later_removed}
use Rattle.install_backup.proofs.BehindLaws.{span_answered, span_behind, span_failed, span_refused, span_wanting}
use Rattle.install_backup.proofs.GoneLaws.{deleting_keeps, judged_before, unmade_before}
use Rattle.install_backup.proofs.LimitLaws.{other_removed}
use Rattle.std.proofs.Common.{[], ◌∷◌, inr, map}
use Rattle.desktop_session.specs.Acts.{text}
use Rattle.desktop_session.proofs.StopLaws.{fell_none, stops_more, stops_none}
use Rattle.desktop_session.proofs.GreetLaws.{no_fault_said}
use Rattle.install_backup.specs.Installs.{making_acts}
use Rattle.install_backup.proofs.WithinLaws.{within_before}
use Rattle.install_backup.proofs.installing.install_one.Goals as goal

pub returns-in_err-live-clause-spans : goal.returns-in_err-live-clause-spans
returns-in_err-live-clause-spans g c =
    let p = err_from_is_err_and c.from_residual.result c.from_residual.ensures.1 in
    rw (p.1, p.2) (span_wanting g.met.L.Link.since_itself (install_one c.args.database.now) c.args.linked.now)

pub returns-in_err-delete-clause-spans : goal.returns-in_err-delete-clause-spans
unfolding install_one
returns-in_err-delete-clause-spans g c =
    let p = err_from_is_err_and c.from_residual-in_err-delete.result c.from_residual-in_err-delete.ensures.1 in
    let asked = rw c.head.ensures.head at c.in_err-delete.ensures.asked in
    rw (p.1, p.2) (span_refused (within (making (installed_head c.args.database.now.head)) (fill_acts c.args.database.now)) asked
    (later_removed _ c.in_err-delete.ensures.asked c.in_err-delete.ensures.answer))

pub returns-in_err-make-clause-spans : goal.returns-in_err-make-clause-spans
unfolding install_one
returns-in_err-make-clause-spans g c =
    let p = err_from_is_err_and c.from_residual-in_err-make.result c.from_residual-in_err-make.ensures.1 in
    let asked = rw c.head.ensures.head at c.in_ok-delete.ensures.asked in
    rw (p.1, p.2) (span_behind g.met.L.Link.since_more (deleting_keeps c.args.database.now.head.name)
    (no_fault_said _ _ _ c.in_ok-delete.ensures.answer) asked (span_failed c.in_err-make.ensures.spans))

pub returns-in_err-make-clause-full : goal.returns-in_err-make-clause-full
returns-in_err-make-clause-full g c =
    let p = err_from_is_err_and c.from_residual-in_err-make.result c.from_residual-in_err-make.ensures.1 in
    let asked = rw c.head.ensures.head at c.in_ok-delete.ensures.asked in
    rw (p.1, p.2) (unmade_before g.L.Link.talk (making (installed_head c.args.database.now.head)) c.args.database.now.head.name _ _ _ _
    (asked.does (no_fault_said _ _ _ c.in_ok-delete.ensures.answer)) c.in_err-make.ensures.full)

pub returns-clause-spans : goal.returns-clause-spans
unfolding install_one
returns-clause-spans g c =
    let asked = rw c.head.ensures.head at c.in_ok-delete.ensures.asked in
    span_behind g.met.L.Link.since_more (deleting_keeps c.args.database.now.head.name)
    (no_fault_said _ _ _ c.in_ok-delete.ensures.answer) asked (span_answered (λ handle given. c.count_of.ensures) c.in_ok-make.ensures.spans)

pub returns-clause-room : goal.returns-clause-room
returns-clause-room g c =
    let asked = rw c.head.ensures.head at c.in_ok-delete.ensures.asked in
    judged_before c.args.database.now.head.name _ _
    (rw (asked.does (no_fault_said _ _ _ c.in_ok-delete.ensures.answer)).said at c.in_ok-make.ensures.room)

pub returns-in_err-delete-clause-full : goal.returns-in_err-delete-clause-full
returns-in_err-delete-clause-full g c =
    let p = err_from_is_err_and c.from_residual-in_err-delete.result c.from_residual-in_err-delete.ensures.1 in
    rw (p.1, p.2) (other_removed _ refl c.in_err-delete.ensures.asked c.in_err-delete.ensures.answer)

pub returns-in_err-live-clause-within : goal.returns-in_err-live-clause-within
returns-in_err-live-clause-within g c =
    let p = err_from_is_err_and c.from_residual.result c.from_residual.ensures.1 in
    let link = c.args.linked.now.link in
    rw p.1 (inr (stops_none g.L.Link.talk g.L.Link.since g.L.Link.fault g.L.Link.downs (map text (making_acts c.args.database.now)) link link
    refl (g.met.L.Link.since_itself link) (fell_none g.L.Link.fault g.L.Link.downs link)))

pub returns-in_err-delete-clause-within : goal.returns-in_err-delete-clause-within
returns-in_err-delete-clause-within g c =
    let p = err_from_is_err_and c.from_residual-in_err-delete.result c.from_residual-in_err-delete.ensures.1 in
    let asked = rw c.head.ensures.head at c.in_err-delete.ensures.asked in
    rw p.1 (inr (stops_more g.L.Link.talk g.L.Link.since g.L.Link.fault g.L.Link.downs _
    (text (making (installed_head c.args.database.now.head)) ∷ []) _ _ asked.stops))

pub returns-in_err-make-clause-within : goal.returns-in_err-make-clause-within
returns-in_err-make-clause-within g c =
    let p = err_from_is_err_and c.from_residual-in_err-make.result c.from_residual-in_err-make.ensures.1 in
    let asked = rw c.head.ensures.head at c.in_ok-delete.ensures.asked in
    rw p.1 (within_before g.L.Link.talk g.L.Link.since g.L.Link.fault g.L.Link.downs g.met.L.Link.since_more
    (making (installed_head c.args.database.now.head)) c.args.database.now.head.name _ _ _
    (asked.does (no_fault_said _ _ _ c.in_ok-delete.ensures.answer)) asked.stops c.in_err-make.ensures.within)
