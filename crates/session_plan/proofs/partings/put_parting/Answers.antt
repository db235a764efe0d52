-- One more of the databases that took no part.
use Rattle.std.proofs.Common.{◌<◌, length, rules, subst, sym}
use Rattle.std.proofs.lemmas.Result.{on_ok_weaker}
use Rattle.folder_files.specs.Partings.{PartedRise, most_parted}
use Rattle.session_plan.proofs.PartingLaws.{rise-with_one}
use Rattle.session_plan.proofs.partings.put_parting.Goals as goal

pub returns-in-Some-clause-rise : goal.returns-in-Some-clause-rise
returns-in-Some-clause-rise c =
    let room : length c.args.parted.now.items < most_parted = search rules in
    on_ok_weaker c.put_parted.result
    (λ put rise. subst PartedRise (sym put) (rise-with_one _ c.args.parted.now.items room rise)) c.put_parted.ensures.put
