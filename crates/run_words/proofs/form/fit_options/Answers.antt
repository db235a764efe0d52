use Rattle.std.proofs.Common.{◌∙◌, map, string_bytes, sym, rules, tests}
use Rattle.std.proofs.lemmas.Iterator.{YieldsList-from_slice}
use Rattle.std.proofs.lemmas.Iterator.Search.{all_from_yields_List}
use Rattle.std.proofs.lemmas.List.Folds.{list_all-map}
use Rattle.run_words.specs.Forms as spec
use Rattle.run_words.specs.Views.{option_view}
use Rattle.run_words.specs.declared.form.FormOption.{FormOption}
use Rattle.run_words.proofs.form.fit_options.Goals as goal

pub returns : goal.returns
returns c =
    let words = map string_bytes c.args.words.now in
    all_from_yields_List (λ (option : FormOption). spec.fits_option words (option_view option)) _ _ c.all.result c.all.ensures.ran
    (YieldsList-from_slice c.args.options.now cc) (λ x b q k. search (rules, tests))
    ∙ sym (list_all-map (spec.fits_option words) option_view c.args.options.now)
