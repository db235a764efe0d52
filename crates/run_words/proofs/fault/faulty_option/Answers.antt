use Rattle.std.proofs.Common.{◌∙◌, ap, map, string_bytes, rules, tests}
use Rattle.std.proofs.lemmas.Iterator.{YieldsList-from_slice}
use Rattle.std.proofs.lemmas.Iterator.Search.{find_from_yields_List}
use Rattle.std.specs.Option.{option_map}
use Rattle.run_words.specs.Faults as spec
use Rattle.run_words.specs.Views.{option_view}
use Rattle.run_words.specs.declared.form.FormOption.{FormOption}
use Rattle.run_words.proofs.WordLaws.{find-map}
use Rattle.run_words.proofs.fault.faulty_option.Goals as goal

pub returns : goal.returns
returns c =
    let words = map string_bytes c.args.words.now in
    ap (option_map option_view)
    (find_from_yields_List (λ (option : FormOption). spec.is_faulty c.args.kind c.args.now words (option_view option)) _ _ c.find.result c.find.ensures.ran
    (YieldsList-from_slice c.args.form.now.options.now cc) (λ x b q k. search (rules, tests)))
    ∙ find-map (spec.is_faulty c.args.kind c.args.now words) option_view c.args.form.now.options.now
