-- Used categories are counted one after another.
use Rattle.std.proofs.Common.{◌≡◌, ◌∙◌, ◌+◌, arith, ap, refl, ℕ, suc, Bool, if◌then◌else◌}
use Rattle.category_tables.specs.Tables.{TableValue, is_used}
use Rattle.category_mirror.specs.Refiled.{used_below}

pub used-next : (t : TableValue) (n : ℕ) (b : Bool) → is_used t.entries n ≡ b → used_below t (n + 1) ≡ (if b then used_below t n + 1 else used_below t n)
unfolding used_below
used-next t n b is = let same : n + 1 ≡ suc n = omega arith in ap (used_below t) same ∙ rw is refl
