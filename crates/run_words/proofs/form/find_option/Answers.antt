use Rattle.std.proofs.Common.{◌∙◌, ap, bytes_eq, rules, tests}
use Rattle.std.proofs.lemmas.Iterator.{YieldsList-from_slice}
use Rattle.std.proofs.lemmas.Iterator.Search.{find_from_yields_List}
use Rattle.std.specs.Option.{option_map}
use Rattle.run_words.specs.Forms.{NamedOption}
use Rattle.run_words.specs.Views.{option_view}
use Rattle.run_words.specs.declared.form.FormOption.{FormOption}
use Rattle.run_words.proofs.WordLaws.{find-map}
use Rattle.run_words.proofs.form.find_option.Goals as goal

pub returns : goal.returns
returns c =
    ap (option_map option_view)
    (find_from_yields_List (λ (option : FormOption). bytes_eq (option_view option).name c.args.name.now) _ _ c.find.result c.find.ensures.ran
    (YieldsList-from_slice c.args.form.now.options.now cc) (λ x b q k. search (rules, tests)))
    ∙ find-map (λ (option : NamedOption). bytes_eq option.name c.args.name.now) option_view c.args.form.now.options.now
