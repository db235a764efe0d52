use Rattle.std.proofs.Common.{◌∙◌, ap}
use Rattle.run_words.specs.Views.{cable_view}
use Rattle.port_run.specs.Told.{desk_told, port_told}
use Rattle.port_run.proofs.TalkLaws.{kept_silent}
use Rattle.port_run.proofs.talk.talk.Goals as goal

pub returns-in_default-clause-talked : goal.returns-in_default-clause-talked
returns-in_default-clause-talked g c =
    let end = c.not_started in
    kept_silent (cable_view c.args.words.now) c.args.desk.slots end.ensures.status end.ensures.report (ap (λ p. port_told g.P.Port p) end.ensures.port)
    (ap (λ f. desk_told g.D.Folder f) (end.ensures.desk ∙ c.into_folder.ensures))

pub returns-clause-talked : goal.returns-clause-talked
returns-clause-talked g c =
    let end = c.not_started-in-Err in
    kept_silent (cable_view c.args.words.now) c.args.desk.slots end.ensures.status end.ensures.report
    (ap (λ p. port_told g.P.Port p) (end.ensures.port ∙ c.in-Err.ensures.back))
    (ap (λ f. desk_told g.D.Folder f) (end.ensures.desk ∙ c.into_folder-in-Err.ensures))
