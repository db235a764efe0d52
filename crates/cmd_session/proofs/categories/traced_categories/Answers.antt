use Rattle.handheld_files.specs.Openings.{opened_device}
use Rattle.category_mirror.specs.Sides.{filing_of}
use Rattle.call_parts.specs.Told.{sides_told}
use Rattle.call_parts.proofs.RetoldLaws.{talk_traced}
use Rattle.cmd_session.proofs.FilingSpoke.{filing_retold}
use Rattle.cmd_session.proofs.categories.traced_categories.Goals as goal

pub returns-clause-talk : goal.returns-clause-talk
returns-clause-talk g c =
    let before = sides_told g.H.Folder g.D.Folder c.args.store.folder c.args.desk.folder in
    let after = sides_told g.H.Folder g.D.Folder c.categories_talk-answer.result.device c.categories_talk-answer.result.desk in
    let end = c.traced.ensures in
    rw (end.report, end.device, end.desk) (talk_traced c.traced.result.status
    (filing_retold c.args.script (filing_of (opened_device c.args.store.databases c.args.store.user) c.args.desk.slots) before.desk.contents before after)
    c.categories_talk-answer.ensures.talk end.status)
