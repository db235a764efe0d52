use Rattle.hotsync_c.proofs.BuildLaws.{build-parts, each-content, each-entry}
use Rattle.hotsync_c.proofs.laws.parts_build_the_same_file.Goals as goal

pub returns-clause-built : goal.returns-clause-built
returns-clause-built c = build-parts

pub returns-clause-entries : goal.returns-clause-entries
returns-clause-entries c = each-entry

pub returns-clause-contents : goal.returns-clause-contents
returns-clause-contents c = each-content
