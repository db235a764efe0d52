use Rattle.std.proofs.Common.{◌∙◌, sym, ap, Some, None, if◌then◌else◌}
use Rattle.conduit_rules.proofs.SlotLaws.{noted-set}
use Rattle.conduit_rules.proofs.loose.note_row.Goals as goal
use Rattle.conduit_rules.proofs.loose.note_row.Goals.{then-is_loose, else-is_loose}

pub returns-after-is_loose : goal.returns-after-is_loose
returns-after-is_loose c =
    noted-set c.args.slots.now.items c.in-Some.place c.in-Some.item c.args.row c.args.is_loose c.if-is_loose.slot (cc)
    (elim c.if-is_loose.branch [
      | then-is_loose w ↦ w.slot-is ∙ ap (λ b. if b then Some c.in-Some.item else None) (sym w.if-is_loose.true)
      | else-is_loose w ↦ w.slot-is ∙ ap (λ b. if b then Some c.in-Some.item else None) (sym w.if-is_loose.false)
    ])
