-- How many of some requests write.
use Rattle.std.proofs.Common.{◌≡◌, ◌∙◌, ◌+◌, refl, List, [], ◌∷◌, ℕ}
use Rattle.std.specs.Prelude.{cond}
use Rattle.std.specs.List.{count_by, fold}
use Rattle.std.proofs.lemmas.List.Sums.{length-filter}
use Rattle.dlp_args.specs.Messages.{MessageTextValue}
use Rattle.dlp_commands.specs.Changes.{changes}
use Rattle.line_world.specs.Logs.{texts}
use Rattle.call_parts.specs.LineRuns.{write_count}

folded : (xs : List MessageTextValue) (a : ℕ)
    → fold (λ a x. a + cond (changes x) 1 0) a (texts xs) ≡ fold (λ a (x : MessageTextValue). a + cond (changes x.bytes) 1 0) a xs
folded [] a = refl
folded (x ∷ xs) a = folded xs (a + cond (changes x.bytes) 1 0)

pub write_count-texts : (xs : List MessageTextValue) → write_count (texts xs) ≡ count_by (λ (text : MessageTextValue). changes text.bytes) xs
unfolding write_count
write_count-texts xs = length-filter changes (texts xs) ∙ folded xs 0
