-- What the table says of a handheld that has what is kept.
use Rattle.std.proofs.Common.{◌≡◌, [], arith, Some, None, rules}
use Rattle.pdb_values.specs.Contents.{ContentValue}
use Rattle.conduit_rules.specs.States.{SideState, live, archived, BaseState}
use Rattle.conduit_rules.specs.Fates.{fate, cell, gone_cell}
use Rattle.conduit_rules.specs.Choices.{partner}
use Rattle.conduit_rules.proofs.ContentLaws.{same_content-same, same_content-is}
use Rattle.std.proofs.lemmas.Grind.{common_steps}
use Rattle.std.proofs.lemmas.Bool.Decides.{nat_tests}

cell-again : (b : ContentValue) (h d : SideState) (c : ContentValue) → (cell b h d).keep ≡ Some c → cell b (live c) d ≡ cell b h d
cell-again b h d c e = grind (arith, common_steps, nat_tests, same_content-same, same_content-is)

-- what is kept under an id is kept again once the handheld has it
pub fate-again : (b : BaseState) (h d : SideState) (c : ContentValue) → (fate b h d).keep ≡ Some c → fate b (live c) d ≡ fate b h d
fate-again b h d c e = grind (arith, common_steps, nat_tests, cell-again, same_content-same)

pub partner-again : (b : BaseState) (h d : SideState) (c : ContentValue) → (fate b h d).keep ≡ Some c → partner b (live c) ≡ partner b h
partner-again b h d c e = search (rules)

-- both sides have the base row: it is kept, and nothing else comes of it
pub cell-settled : (c : ContentValue) → cell c (live c) (live c) ≡ record { keep = Some c; archive = []; news = None }
cell-settled c = grind (arith, same_content-same c)

-- a handheld that still has what is gone loses it
pub gone_cell-live : (c : ContentValue) → gone_cell c (live c) ≡ record { keep = None; archive = []; news = None }
gone_cell-live c = grind (arith, same_content-same c)

pub gone_cell-archived : (c : ContentValue) → gone_cell c (archived c) ≡ record { keep = None; archive = []; news = None }
gone_cell-archived c = grind (arith, same_content-same c)
