-- The first slot whose own file it is.
use Rattle.std.proofs.Common.{◌≡◌, ◌+◌, ◌∙◌, ℕ, suc, None, arith, sym, subst}
use Rattle.desk_store.specs.DeskFiles.{own_slot}
use Rattle.desk_store.proofs.OwnLaws.{own_slot-first, own_slot-next}
use Rattle.desk_store.proofs.reader.own_slot.Goals as goal

pub returns-then-own : goal.returns-then-own
returns-then-own c =
    sym (own_slot-first c.args.slots c.loop-slot.slot c.args.role c.args.name.now c.args.database.now c.loop-slot-test.true c.loop-slot.invariant
    (sym c.in_ok-own.ensures ∙ c.if-own.true))

pub loop-slot-preserved : goal.loop-slot-preserved
loop-slot-preserved c =
    let next : suc c.loop-slot.slot ≡ c.loop-slot.slot + 1 = omega arith in
    subst (λ (slot : ℕ). own_slot slot c.args.role c.args.name.now c.args.database.now ≡ None) next
    (own_slot-next c.loop-slot.slot c.args.role c.args.name.now c.args.database.now c.loop-slot.invariant (sym c.in_ok-own.ensures ∙ c.if-own.false))
