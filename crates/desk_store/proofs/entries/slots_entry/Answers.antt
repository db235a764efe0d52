-- The text that is written is a file of the slots.
use Rattle.std.proofs.Common.{subst}
use Rattle.folder_files.specs.InfoFiles.{IsDesktopFile}
use Rattle.desk_store.proofs.entries.slots_entry.Goals as goal

pub returns-clause-written : goal.returns-clause-written
returns-clause-written c = subst (IsDesktopFile c.args.infos.now) c.in_ok-text.ensures.text c.in_ok-text.ensures.file
