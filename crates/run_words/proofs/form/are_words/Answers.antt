use Rattle.std.proofs.Common.{◌∙◌, String, Global, string_bytes, sym, rules, tests}
use Rattle.std.proofs.lemmas.Iterator.{YieldsList-from_slice}
use Rattle.std.proofs.lemmas.Iterator.Search.{all_from_yields_List}
use Rattle.std.proofs.lemmas.List.Folds.{list_all-map}
use Rattle.run_words.specs.Forms as spec
use Rattle.run_words.specs.Views.{form_view}
use Rattle.run_words.proofs.form.are_words.Goals as goal

pub returns : goal.returns
returns c =
    let form = form_view c.args.form.now in
    all_from_yields_List (λ (word : String Global). spec.is_word form (string_bytes word)) _ _ c.all.result c.all.ensures.ran
    (YieldsList-from_slice c.args.words.now cc) (λ x b q k. search (rules, tests))
    ∙ sym (list_all-map (spec.is_word form) string_bytes c.args.words.now)
