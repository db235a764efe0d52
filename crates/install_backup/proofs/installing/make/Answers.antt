-- A database is made, filled, and closed.
use Rattle.std.proofs.Common.{refl}
use Rattle.std.proofs.Common.{[], rules}
use Rattle.std.proofs.lemmas.Result.{err_from_is_err_and}
use Rattle.session_parts.proofs.HandleLaws.{made_first}
use Rattle.session_parts.proofs.SpanLaws.{span_done, span_stopped, span_unclosed, span_unopened}
use Rattle.install_backup.specs.Installed.{installed_head}
use Rattle.install_backup.specs.InstallActs.{fill_acts}
use Rattle.install_backup.proofs.RoomLaws.{fault_at, room_judged, unmade_judged}
use Rattle.desktop_session.specs.Answers.{no_more}
use Rattle.install_backup.proofs.LimitLaws.{other_said}
use Rattle.std.proofs.Common.{inl, inr}
use Rattle.install_backup.proofs.installing.make.Goals as goal

pub returns-in-Err-clause-spans : goal.returns-in-Err-clause-spans
returns-in-Err-clause-spans g c =
    let held = rw (c.made_head.ensures, c.head.ensures.head) at c.create.follows.holds-at-none in
    rw (c.not_made.ensures, fault_at) (span_unopened _ 0x18 (fill_acts c.args.database.now) _ refl refl c.in-Err.is held)

pub returns-in-Err-clause-full : goal.returns-in-Err-clause-full
returns-in-Err-clause-full g c =
    let held = rw (c.made_head.ensures, c.head.ensures.head, c.in-Err.is) at c.create.follows.holds-at-none in
    rw (c.not_made.ensures, c.head-in-Err.ensures.head) (unmade_judged (installed_head c.args.database.now.head) held.0 c.in-Err.cause held.1)

pub returns-in-Err-fill-clause-spans : goal.returns-in-Err-fill-clause-spans
returns-in-Err-fill-clause-spans g c =
    let asked = rw (c.made_head.ensures, c.head.ensures.head) at c.in-Ok.ensures.asked in
    let opened = made_first (installed_head c.args.database.now.head) asked c.in-Ok.ensures.handle in
    span_stopped g.met.L.Link.since_more (fill_acts c.args.database.now) [] opened c.in-Err-fill.ensures.asks c.in-Err-fill.ensures.cause (search rules)

pub returns-in_err-close-clause-spans : goal.returns-in_err-close-clause-spans
returns-in_err-close-clause-spans g c =
    let p = err_from_is_err_and c.from_residual.result c.from_residual.ensures.1 in
    let asked = rw (c.made_head.ensures, c.head.ensures.head) at c.in-Ok.ensures.asked in
    let opened = made_first (installed_head c.args.database.now.head) asked c.in-Ok.ensures.handle in
    rw (p.1, p.2) (span_unclosed g.met.L.Link.since_more (fill_acts c.args.database.now) [] opened c.in-Ok-fill.ensures.asks
    c.in-Ok-fill.ensures.same_handle c.in_err-close.ensures.asked c.in_err-close.ensures.answer (search rules))

pub returns-clause-spans : goal.returns-clause-spans
returns-clause-spans g c =
    let asked = rw (c.made_head.ensures, c.head.ensures.head) at c.in-Ok.ensures.asked in
    let opened = made_first (installed_head c.args.database.now.head) asked c.in-Ok.ensures.handle in
    span_done g.met.L.Link.since_more (fill_acts c.args.database.now) [] opened c.in-Ok-fill.ensures.asks
    c.in-Ok-fill.ensures.same_handle c.in_ok-close.ensures.asked c.in_ok-close.ensures.answer tt (search rules)

pub returns-clause-room : goal.returns-clause-room
returns-clause-room g c =
    let asked = rw (c.made_head.ensures, c.head.ensures.head) at c.in-Ok.ensures.asked in
    let opened = made_first (installed_head c.args.database.now.head) asked c.in-Ok.ensures.handle in
    room_judged (installed_head c.args.database.now.head) asked _ opened.none c.in-Ok.ensures.handle

pub returns-in_err-close-clause-full : goal.returns-in_err-close-clause-full
returns-in_err-close-clause-full g c =
    let p = err_from_is_err_and c.from_residual.result c.from_residual.ensures.1 in
    rw (p.1, p.2) (other_said 0x19 _ no_more _ _ refl c.in_err-close.ensures.answer)

pub returns-in-Err-clause-within : goal.returns-in-Err-clause-within
returns-in-Err-clause-within g c =
    let held = rw (c.made_head.ensures, c.head.ensures.head, c.in-Err.is) at c.create.follows.holds-at-none in
    inr held.0.stops

pub returns-in-Err-fill-clause-within : goal.returns-in-Err-fill-clause-within
returns-in-Err-fill-clause-within g c =
    let asked = rw (c.made_head.ensures, c.head.ensures.head) at c.in-Ok.ensures.asked in
    let opened = made_first (installed_head c.args.database.now.head) asked c.in-Ok.ensures.handle in
    inl (room_judged (installed_head c.args.database.now.head) asked _ opened.none c.in-Ok.ensures.handle)

pub returns-in_err-close-clause-within : goal.returns-in_err-close-clause-within
returns-in_err-close-clause-within g c =
    let p = err_from_is_err_and c.from_residual.result c.from_residual.ensures.1 in
    let asked = rw (c.made_head.ensures, c.head.ensures.head) at c.in-Ok.ensures.asked in
    let opened = made_first (installed_head c.args.database.now.head) asked c.in-Ok.ensures.handle in
    rw p.1 (inl (room_judged (installed_head c.args.database.now.head) asked _ opened.none c.in-Ok.ensures.handle))
