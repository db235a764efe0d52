-- The text of help, in parts.
use Rattle.std.proofs.Common.{◌≡◌, ◌∙◌, ap, append_assoc, ℕ, List, ◌++◌}

-- a text that got four parts, one behind another
pub four_parts : (t a b c u f h v : List ℕ) → t ≡ u → a ≡ t ++ f → b ≡ a ++ h → c ≡ b ++ v → c ≡ u ++ (f ++ (h ++ v))
four_parts t a b c u f h v one two three four =
    four ∙ ap (λ x. x ++ v) (three ∙ ap (λ x. x ++ h) (two ∙ ap (λ x. x ++ f) one))
    ∙ append_assoc (u ++ f) h v ∙ append_assoc u f (h ++ v)
