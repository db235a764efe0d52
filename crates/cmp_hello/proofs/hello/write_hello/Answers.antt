use Rattle.std.proofs.Common.{refl, arith, [], ◌∷◌}
use Rattle.cmp_hello.proofs.hello.write_hello.Goals as goal

pub returns-clause-text : goal.returns-clause-text
returns-clause-text c =
    record { unread = 0 ∷ 0 ∷ []; two = refl; rate_fits = omega arith; is = rw (c.code_of.ensures, c.write_u32.ensures) refl }
