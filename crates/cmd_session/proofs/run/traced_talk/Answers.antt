use Rattle.handheld_files.specs.Openings.{opened_device}
use Rattle.run_words.specs.Views.{run_view}
use Rattle.call_parts.specs.Told.{sides_told}
use Rattle.call_parts.proofs.RetoldLaws.{talk_traced}
use Rattle.cmd_session.proofs.RetoldTalks.{talked_for_retold}
use Rattle.cmd_session.proofs.run.traced_talk.Goals as goal

pub returns-clause-talk : goal.returns-clause-talk
returns-clause-talk g c =
    let before = sides_told g.H.Folder g.D.Folder c.args.store.folder c.args.desk.folder in
    let after = sides_told g.H.Folder g.D.Folder c.talk-answer.result.device c.talk-answer.result.desk in
    let end = c.traced.ensures in
    rw (end.report, end.device, end.desk) (talk_traced c.traced.result.status
    (talked_for_retold (run_view c.args.words.now) c.args.script (opened_device c.args.store.databases c.args.store.user) c.args.desk.slots before after)
    c.talk-answer.ensures.talk end.status)
