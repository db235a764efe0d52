use Rattle.std.proofs.Common.{◌∙◌, String, Global, string_bytes, rules, tests}
use Rattle.std.proofs.lemmas.Iterator.{YieldsList-from_slice}
use Rattle.std.proofs.lemmas.Iterator.Consumers.{YieldsList-from_filter, count_from_yields_List}
use Rattle.run_words.specs.Words.{is_plain}
use Rattle.run_words.proofs.WordLaws.{length-filter-map}
use Rattle.run_words.proofs.form.plain_count.Goals as goal

pub returns : goal.returns
returns c =
    count_from_yields_List c.filter.result c.count.result c.count.ensures.ran
    (YieldsList-from_filter _ (λ (word : String Global). is_plain (string_bytes word)) (YieldsList-from_slice c.args.words.now cc) c.filter.ensures.closure
    (λ x b q k. search (rules, tests)))
    ∙ length-filter-map (is_plain) string_bytes c.args.words.now
