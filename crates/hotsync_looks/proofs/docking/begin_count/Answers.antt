use Rattle.std.proofs.Common.{◌∙◌, List, ℕ, String, Global, string_bytes, rules, tests}
use Rattle.std.proofs.lemmas.Iterator.{YieldsList-from_slice}
use Rattle.std.proofs.lemmas.Iterator.Consumers.{YieldsList-from_filter, count_from_yields_List}
use Rattle.std.specs.Prelude.{is_some}
use Rattle.run_words.specs.Words.{after}
use Rattle.run_words.proofs.WordLaws.{length-filter-map}
use Rattle.hotsync_looks.proofs.docking.begin_count.Goals as goal

pub returns : goal.returns
returns c =
    count_from_yields_List c.filter.result c.count.result c.count.ensures.ran
    (YieldsList-from_filter _ (λ (word : String Global). is_some (after c.args.part.now (string_bytes word))) (YieldsList-from_slice c.args.words.now cc) c.filter.ensures.closure
    (λ x b q k. search (rules, tests)))
    ∙ length-filter-map (λ (word : List ℕ). is_some (after c.args.part.now word)) string_bytes c.args.words.now
