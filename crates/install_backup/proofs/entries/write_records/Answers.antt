-- Records are put, and count as unchanged then.
use Rattle.std.proofs.Common.{[], ◌∷◌, map, refl}
use Rattle.std.proofs.lemmas.Result.{err_from_is_err_and}
use Rattle.session_parts.proofs.LinkWords.{resetting}
use Rattle.mirrors.proofs.AskLaws.{all_said, asked_answer, asks_part, asks_then}
use Rattle.install_backup.specs.InstallActs.{put_record}
use Rattle.session_parts.proofs.CauseLaws.{later_answer}
use Rattle.desktop_session.specs.Answers.{no_more}
use Rattle.install_backup.proofs.LimitLaws.{other_said}
use Rattle.install_backup.proofs.entries.write_records.Goals as goal

pub returns-in_err-put_records-clause-asks : goal.returns-in_err-put_records-clause-asks
returns-in_err-put_records-clause-asks g c =
    let p = err_from_is_err_and c.from_residual.result c.from_residual.ensures.1 in
    let handle = c.args.db.now.handle in
    rw (p.1, p.2)
    (asks_part g.L.Link.talk g.L.Link.since g.L.Link.fault g.L.Link.downs (map (put_record handle) c.args.records.now) (resetting handle ∷ [])
    _ _ _ _ c.in_err-put_records.ensures.asks)

pub returns-clause-asks : goal.returns-clause-asks
returns-clause-asks g c =
    let handle = c.args.db.now.handle in
    asks_then g.L.Link.talk g.L.Link.since g.L.Link.fault g.L.Link.downs g.met.L.Link.since_more (map (put_record handle) c.args.records.now)
    (resetting handle ∷ []) _ _ _ _
    (all_said g.L.Link.talk g.L.Link.since g.L.Link.fault g.L.Link.downs _ _ _ _ c.in_ok-put_records.ensures.asks)
    (asked_answer g.L.Link.talk g.L.Link.since g.L.Link.fault g.L.Link.downs (resetting handle) _ _ _ _ c.reset_flags.ensures.answer
    (rw c.in_ok-put_records.ensures.same_handle at c.reset_flags.ensures.asked))

pub returns-clause-cause : goal.returns-clause-cause
returns-clause-cause g c = later_answer no_more c.reset_flags.result refl c.reset_flags.ensures.asked c.reset_flags.ensures.answer

pub returns-clause-others : goal.returns-clause-others
returns-clause-others g c = other_said 0x27 _ no_more _ c.reset_flags.result refl c.reset_flags.ensures.answer
