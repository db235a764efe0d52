use Rattle.std.proofs.Common.{◌∙◌, rules, tests}
use Rattle.std.proofs.lemmas.Iterator.{YieldsList-from_slice}
use Rattle.std.proofs.lemmas.Iterator.Search.{any_from_yields_List}
use Rattle.run_words.specs.Forms as spec
use Rattle.run_words.specs.Views.{option_view}
use Rattle.run_words.specs.declared.form.FormOption.{FormOption}
use Rattle.run_words.proofs.WordLaws.{list_any-map}
use Rattle.run_words.proofs.form.is_one_of.Goals as goal

pub returns : goal.returns
returns c =
    any_from_yields_List (λ (option : FormOption). spec.is_use c.args.word.now (option_view option)) _ _ c.any.result c.any.ensures.ran
    (YieldsList-from_slice c.args.options.now cc) (λ x b q k. search (rules, tests))
    ∙ list_any-map (spec.is_use c.args.word.now) option_view c.args.options.now
