-- The purges, and then the records with the delete bit and the flags.
use Rattle.std.proofs.Common.{refl}
use Rattle.std.proofs.lemmas.Result.{err_from_is_err_and}
use Rattle.dlp_replies.specs.ReplyReading.{reply_at}
use Rattle.desktop_session.specs.Answers.{no_more}
use Rattle.desktop_session.specs.Lists.{HasCause}
use Rattle.mirrors.proofs.NewsLaws.{cleaned_stop, last_cause, purged, purged_stop}
use Rattle.desktop_session.proofs.LastLaws.{last_answered, last_refused}
use Rattle.desktop_session.proofs.GreetLaws.{no_fault_said}
use Rattle.mirrors.proofs.PartFollows.{then_ends, then_goes}
use Rattle.mirrors.proofs.writing.purge_side.Goals as goal

pub returns-in_err-remove_all-clause-asks : goal.returns-in_err-remove_all-clause-asks
returns-in_err-remove_all-clause-asks g c =
    let p = err_from_is_err_and c.from_residual.result c.from_residual.ensures.1 in
    rw (p.1, p.2)
    (purged_stop c.args.db.now.handle
    c.deref.ensures.value c.in_err-remove_all.ensures.asks)

pub returns-in_err-clean_up-clause-asks : goal.returns-in_err-clean_up-clause-asks
returns-in_err-clean_up-clause-asks g c =
    let p = err_from_is_err_and c.from_residual-in_err-clean_up.result c.from_residual-in_err-clean_up.ensures.1 in
    rw (p.1, p.2)
    (cleaned_stop g.met.L.Link.since_more
    _
    c.in_ok-remove_all.ensures.same_handle c.deref.ensures.value c.in_ok-remove_all.ensures.asks c.in_err-clean_up.ensures.asked)

pub returns-clause-asks : goal.returns-clause-asks
returns-clause-asks g c =
    purged g.met.L.Link.since_more
    _ c.in_ok-remove_all.ensures.same_handle
    c.in_ok-clean_up.ensures.same_handle c.deref.ensures.value c.in_ok-remove_all.ensures.asks
    (no_fault_said _ _ _ c.in_ok-clean_up.ensures.answer) c.in_ok-clean_up.ensures.asked c.reset_flags.ensures.answer c.reset_flags.ensures.asked

pub returns-clause-cause : goal.returns-clause-cause
returns-clause-cause g c =
    let last = c.reset_flags.new.self.linked.now in
    last_cause 0x27 (HasCause (g.L.Link.fault last.link) (reply_at 0x22 last.reply)) (HasCause (g.L.Link.fault last.link) (reply_at 0x26 last.reply)) no_more
    (g.L.Link.fault last.link) (reply_at 0x27 last.reply) c.reset_flags.result c.reset_flags.ensures.answer

pub returns-in_err-clean_up-clause-last : goal.returns-in_err-clean_up-clause-last
returns-in_err-clean_up-clause-last g c =
    let p = err_from_is_err_and c.from_residual-in_err-clean_up.result c.from_residual-in_err-clean_up.ensures.1 in
    rw (p.1, p.2) (last_refused no_more _ refl c.in_err-clean_up.ensures.asked c.in_err-clean_up.ensures.answer)

pub returns-clause-last : goal.returns-clause-last
returns-clause-last g c = last_answered no_more c.reset_flags.result refl c.reset_flags.ensures.asked c.reset_flags.ensures.answer

pub returns-in_err-remove_all-clause-follows : goal.returns-in_err-remove_all-clause-follows
returns-in_err-remove_all-clause-follows g c =
    let p = err_from_is_err_and c.from_residual.result c.from_residual.ensures.1 in
    rw (p.1, p.2)
    (then_ends g.met.L.Link.heard_none g.met.L.Link.heard_more _ (rw c.deref.ensures.value at c.in_err-remove_all.ensures.follows))

pub returns-in_err-clean_up-clause-follows : goal.returns-in_err-clean_up-clause-follows
returns-in_err-clean_up-clause-follows g c =
    let p = err_from_is_err_and c.from_residual-in_err-clean_up.result c.from_residual-in_err-clean_up.ensures.1 in
    rw (p.1, p.2)
    (then_goes g.met.L.Link.heard_none g.met.L.Link.heard_more _ (rw c.deref.ensures.value at c.in_ok-remove_all.ensures.follows)
    (then_ends g.met.L.Link.heard_none g.met.L.Link.heard_more _ (rw c.in_ok-remove_all.ensures.same_handle at c.in_err-clean_up.ensures.follows)))

pub returns-clause-follows : goal.returns-clause-follows
returns-clause-follows g c =
    then_goes g.met.L.Link.heard_none g.met.L.Link.heard_more _ (rw c.deref.ensures.value at c.in_ok-remove_all.ensures.follows)
    (then_goes g.met.L.Link.heard_none g.met.L.Link.heard_more _ (rw c.in_ok-remove_all.ensures.same_handle at c.in_ok-clean_up.ensures.follows)
    (rw (c.in_ok-clean_up.ensures.same_handle, c.in_ok-remove_all.ensures.same_handle) at c.reset_flags.ensures.follows))
