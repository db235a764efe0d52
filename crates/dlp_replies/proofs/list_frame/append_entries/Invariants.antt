use Rattle.std.proofs.Common.{◌≡◌, ◌++◌, drop}
use Rattle.dlp_replies.specs.EntryLists.{entries_text}
use Rattle.dlp_replies.proofs.list_frame.append_entries.Given as goal

abbrev pub invariant-loop-place : goal.invariant-loop-place
invariant-loop-place l = l.out ++ entries_text (drop l.place l.entries) ≡ l.initial.out ++ entries_text l.entries
