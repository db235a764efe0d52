-- The last one is looked at.
use Rattle.std.proofs.Common.{rules}
use Rattle.folder_files.proofs.PartedLaws.{follows-get}
use Rattle.folder_files.proofs.stem.follows.Goals as goal

pub returns-in-Some : goal.returns-in-Some
returns-in-Some c = search (rules, follows-get)
