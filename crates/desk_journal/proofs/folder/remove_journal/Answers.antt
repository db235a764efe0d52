-- The journal is removed in one step, or is not there where nothing is told.
use Rattle.std.proofs.Common.{◌∷◌, [], Option, subst}
use Rattle.hs_folders.specs.FileMaps.{FileMap}
use Rattle.desk_journal.specs.Steps.{GoesThroughAll}
use Rattle.desk_journal.proofs.StepLaws.{through_all}
use Rattle.desk_journal.proofs.folder.remove_journal.Goals as goal

pub returns-in-Ok-clause-steps : goal.returns-in-Ok-clause-steps
returns-in-Ok-clause-steps g c = through_all c.in-Ok.ensures.removed
    (subst (λ (t : Option FileMap). GoesThroughAll (t ∷ []) (g.F.Folder.moments c.args.folder.now) (g.F.Folder.moments c.remove.new.self))
    c.in-Ok.ensures.removed c.in-Ok.ensures.moment)
