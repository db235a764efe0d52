use Rattle.std.proofs.Common.{◌≡◌, ◌++◌, drop}
use Rattle.dlp_replies.specs.IdLists.{ids_text}
use Rattle.dlp_replies.proofs.list_frame.append_ids.Given as goal

abbrev pub invariant-loop-place : goal.invariant-loop-place
invariant-loop-place l = l.out ++ ids_text (drop l.place l.ids) ≡ l.initial.out ++ ids_text l.ids
