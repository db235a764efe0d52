use Rattle.std.proofs.Common.{◌∙◌, String, Global, ap, string_bytes, rules, tests}
use Rattle.std.proofs.lemmas.Iterator.{YieldsList-from_slice}
use Rattle.std.proofs.lemmas.Iterator.Search.{find_from_yields_List}
use Rattle.std.specs.Option.{option_map}
use Rattle.run_words.specs.Faults as faults
use Rattle.run_words.specs.Tables.{dock_form}
use Rattle.run_words.proofs.WordLaws.{find-map}
use Rattle.hotsync_looks.proofs.docking.strange_in.Goals as goal

pub returns : goal.returns
returns c =
    ap (option_map string_bytes)
    (find_from_yields_List (λ (word : String Global). faults.is_strange dock_form (string_bytes word)) _ _ c.find.result c.find.ensures.ran
    (YieldsList-from_slice c.args.words.now cc) (λ x b q k. search (rules, tests)))
    ∙ find-map (faults.is_strange dock_form) string_bytes c.args.words.now
