-- The users of the slots are those of their marks.
use Rattle.std.proofs.Common.{rules}
use Rattle.folder_files.proofs.SlotLaws.{may_follow-more}
use Rattle.folder_files.proofs.desktop.may_follow.Goals as goal

pub returns-then-user-ne0 : goal.returns-then-user-ne0
returns-then-user-ne0 c = search (rules, may_follow-more)
