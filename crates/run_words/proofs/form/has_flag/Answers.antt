use Rattle.std.proofs.Common.{◌∙◌, String, Global, string_bytes, rules, tests}
use Rattle.std.proofs.lemmas.Iterator.{YieldsList-from_slice}
use Rattle.std.proofs.lemmas.Iterator.Search.{any_from_yields_List}
use Rattle.run_words.specs.Forms as spec
use Rattle.run_words.proofs.WordLaws.{list_any-map}
use Rattle.run_words.proofs.form.has_flag.Goals as goal

pub returns : goal.returns
returns c =
    any_from_yields_List (λ (word : String Global). spec.is_flag c.args.name.now (string_bytes word)) _ _ c.any.result c.any.ensures.ran
    (YieldsList-from_slice c.args.words.now cc) (λ x b q k. search (rules, tests))
    ∙ list_any-map (spec.is_flag c.args.name.now) string_bytes c.args.words.now
