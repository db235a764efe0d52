-- A text that is made part by part.
use Rattle.std.proofs.Common.{◌≡◌, ◌∙◌, ap, append_assoc, ℕ, List, ◌++◌}

-- one that got three parts, one behind another
pub three_parts : (t a b c x y z : List ℕ) → a ≡ t ++ x → b ≡ a ++ y → c ≡ b ++ z → c ≡ t ++ (x ++ (y ++ z))
three_parts t a b c x y z one two three =
    three ∙ ap (λ s. s ++ z) (two ∙ ap (λ s. s ++ y) one) ∙ append_assoc (t ++ x) y z ∙ append_assoc t x (y ++ z)
