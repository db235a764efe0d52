use Rattle.std.proofs.Common.{◌∙◌, ◌==◌, List, ℕ, String, Global, length, string_bytes, rules, tests}
use Rattle.std.proofs.lemmas.Iterator.{YieldsList-from_slice}
use Rattle.std.proofs.lemmas.Iterator.Search.{any_from_yields_List}
use Rattle.run_words.proofs.WordLaws.{list_any-map}
use Rattle.hotsync_looks.proofs.joint_fault.has_empty.Goals as goal

pub returns : goal.returns
returns c =
    any_from_yields_List (λ (word : String Global). length (string_bytes word) == 0) _ _ c.any.result c.any.ensures.ran
    (YieldsList-from_slice c.args.words.now cc) (λ x b q k. search (rules, tests))
    ∙ list_any-map (λ (word : List ℕ). length word == 0) string_bytes c.args.words.now
