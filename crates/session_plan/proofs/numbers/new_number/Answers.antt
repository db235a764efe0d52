-- Nobody has a new number.
use Rattle.std.proofs.Common.{◌≡◌, ◌∷◌, subst, sym, arith, false}
use Rattle.std.proofs.lemmas.List.{length-map}
use Rattle.pdb_values.specs.declared.user.Marks.{Marks}
use Rattle.desktop_session.specs.Seats.{numbers_of}
use Rattle.session_plan.specs.Numbers.{is_taken}
use Rattle.session_plan.proofs.NumberLaws.{number_is_free}
use Rattle.session_plan.proofs.numbers.new_number.Goals as goal

pub returns-clause-free : goal.returns-clause-free
returns-clause-free c =
    let number = rw c.first_number.ensures.first at c.free_from.ensures in
    subst (λ n. is_taken (c.args.user ∷ numbers_of c.args.marks.now) n ≡ false) (sym number)
    (number_is_free c.args.date c.args.name.now c.args.old (c.args.user ∷ numbers_of c.args.marks.now) (omega (arith, c.requires, length-map c.args.marks.now (λ (slot : Marks). slot.user))))
