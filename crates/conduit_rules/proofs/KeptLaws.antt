-- No change is lost: what a side changed or made stands in what is kept, archived or new.
use Rattle.std.proofs.Common.{◌≡◌, arith, true, false, Some, rules}
use Rattle.std.proofs.lemmas.Grind.{common_steps}
use Rattle.pdb_values.specs.Contents.{ContentValue}
use Rattle.conduit_rules.specs.Contents.{same_content}
use Rattle.conduit_rules.specs.States.{SideState, nothing, content_of}
use Rattle.conduit_rules.specs.Fates.{cell, gone_cell, unbased, named, stands}
use Rattle.conduit_rules.proofs.ContentLaws.{same_content-same, same_content-is}

-- a content that the handheld changed
pub handheld_change_stays : (b c : ContentValue) (h d : SideState) → content_of h ≡ Some c → same_content c b ≡ false → stands c (named (cell b h d)) ≡ true
handheld_change_stays b c h d e other = search (rules, same_content-same, same_content-is)

-- a content that the desktop changed
pub desktop_change_stays : (b c : ContentValue) (h d : SideState) → content_of d ≡ Some c → same_content c b ≡ false → stands c (named (cell b h d)) ≡ true
desktop_change_stays b c h d e other = search (rules, same_content-same, same_content-is)

-- a content that the handheld changed after the record was gone
pub gone_change_stays : (b c : ContentValue) (h : SideState) → content_of h ≡ Some c → same_content c b ≡ false → stands c (named (gone_cell b h)) ≡ true
gone_change_stays b c h e other = search (rules, same_content-same, same_content-is)

-- a new content of the handheld
pub new_stays : (c : ContentValue) (h : SideState) → content_of h ≡ Some c → stands c (named (unbased h)) ≡ true
new_stays c nothing e = cc
new_stays c h e = grind (arith, common_steps, same_content-same)
