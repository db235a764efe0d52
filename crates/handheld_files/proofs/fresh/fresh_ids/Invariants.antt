use Rattle.handheld_files.proofs.FreshLaws.{GivesOn}
use Rattle.handheld_files.proofs.fresh.fresh_ids.Given as goal

abbrev pub invariant-loop-place : goal.invariant-loop-place
invariant-loop-place l = GivesOn l.ids l.fresh.items l.numbers l.seen l.next l.place
