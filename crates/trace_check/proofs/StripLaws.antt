-- What was stripped of a text.
use Rattle.std.proofs.Common.{◌≡◌, ℕ, List, ◌++◌, Option, Some, None, sym, ap, ◌∙◌, Bor}
use Rattle.std.specs.Prelude.{MatchOption, IfSome, IfNone}

pub stripped : (r : Option (Bor (List ℕ))) (line head want : List ℕ) → head ≡ want
    → MatchOption r ((rest : List ℕ) → line ≡ head ++ rest → ⊥) (λ rest. line ≡ head ++ rest.now)
    → IfSome r (λ rest. line ≡ want ++ rest.now) × IfNone r ((rest : List ℕ) → line ≡ want ++ rest → ⊥)
stripped None line head want is cases = (tt, λ rest e. cases rest (e ∙ ap (λ xs. xs ++ rest) (sym is)))
stripped (Some rest) line head want is cases = (cases ∙ ap (λ xs. xs ++ rest.now) is, tt)
