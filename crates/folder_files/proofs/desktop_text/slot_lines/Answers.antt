-- One line more, which says its database.
use Rattle.std.proofs.Common.{rules}
use Rattle.folder_files.proofs.PartedLaws.{parted_said_more, parted_text_more}
use Rattle.folder_files.proofs.desktop_text.slot_lines.Goals as goal

pub loop-one-preserved : goal.loop-one-preserved
loop-one-preserved c = search (rules, parted_text_more, parted_said_more)
