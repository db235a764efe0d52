use Rattle.std.proofs.Common.{◌≡◌, ◌∙◌, ◌++◌, List, ℕ, Option, Some, ap, sym}
use Rattle.std.specs.Prelude.{codes, option_and_then, option_copied}
use Rattle.run_words.specs.Forms.{value_in}
use Rattle.run_words.specs.Words.{after}
use Rattle.run_words.proofs.WordLaws.{after-parts}
use Rattle.run_words.proofs.word.value_in.Goals as goal

-- behind `--` come the name and `=`
value_in-behind : (name word : List ℕ) {rest : List ℕ} {value : Option (List ℕ)} → Some rest ≡ after (codes "--") word
    → value ≡ option_and_then (after (codes "=")) (after name rest) → value ≡ value_in name word
value_in-behind name word {rest} first second =
    second ∙ sym (after-parts name (codes "=") rest) ∙ ap (option_and_then (after (name ++ codes "="))) first
    ∙ sym (after-parts (codes "--") (name ++ codes "=") word)

pub returns-in_err-behind-2 : goal.returns-in_err-behind-2
returns-in_err-behind-2 c =
    value_in-behind c.args.name.now c.args.word.now c.in_ok-behind.ensures
    (ap option_copied c.from_residual-in_err-behind-2.ensures ∙ ap (option_and_then (after (codes "="))) c.in_err-behind-2.ensures)

pub returns : goal.returns
returns c =
    value_in-behind c.args.name.now c.args.word.now c.in_ok-behind.ensures
    (c.behind-3.ensures ∙ ap (option_and_then (after (codes "="))) c.in_ok-behind-2.ensures)
