-- What both sides hold of a database, and what is chosen from it.
use Rattle.std.specs.Prelude.{◌≡◌, ℕ, true, List, [], ◌∷◌, ◌++◌, Option, is_some}
use Rattle.std.specs.Option.{option_map}
use Rattle.conduit_rules.specs.Choices.{Choice, Sides, choice_for}
use Rattle.conduit_rules.specs.States.{SideState}
use Rattle.conduit_rules.specs.Views.{slow_view}
use Rattle.conduit_rules.specs.declared.action.Action.{Action}
use Rattle.conduit_rules.specs.declared.planned.Plan.{Plan}
use Rattle.conduit_rules.specs.declared.view.Seen.{Seen}
use Rattle.handheld_files.specs.Settled.{as_opened, are_settled}
use Rattle.record_merge.specs.Writes.{Write, replaces, adding, purges, clean_up, reset, numbered}
use Rattle.session_parts.specs.declared.skip.Skip.{Skip}
use Rattle.session_plan.specs.Choosing.{sides_by}
use Rattle.session_plan.specs.Skips.{head_of, reason}
use Rattle.session_plan.specs.Tasks.{records_of}
use Rattle.database_merge.specs.declared.both_sides.BothSides.{BothSides}
use Rattle.database_merge.specs.declared.wishes.MergeWishes.{MergeWishes}

-- the handheld's database as its store opens it: an id of its own for each record, and no busy bit
abbrev pub opened : BothSides → BothSides
opened both = record both { handheld = option_map as_opened both.handheld }

-- its records are as a store opens them
abbrev pub AreOpened : BothSides → Type 0
AreOpened both = are_settled (records_of both.handheld) ≡ true

-- what is seen of the handheld's records
abbrev pub seen : BothSides → List Seen
seen both = slow_view (records_of both.handheld)

-- both sides as they are seen
unfoldable pub sides : BothSides → MergeWishes → Sides
sides both wishes = sides_by (seen both) both.rows both.base wishes.agree

-- what is chosen
abbrev pub merge_choice : BothSides → MergeWishes → Choice
merge_choice both wishes = choice_for wishes.action (sides both wishes)

-- what the handheld holds under an id, as it is seen
abbrev pub shown : BothSides → MergeWishes → ℕ → SideState
shown both wishes = (sides both wishes).handheld

-- why a session skips the database, if it does
abbrev pub skip_of : BothSides → Action → Option Skip
skip_of both action =
    reason action (head_of both.handheld) (head_of both.rows) (is_some both.base)

-- the writes of a plan, whose new records got these ids
abbrev pub writes : Plan → List ℕ → List Write
writes plan given =
    replaces plan.replace.items
    ++ (adding (numbered given plan.adds.items)
    ++ (purges plan.purge.items ++ clean_up ∷ reset ∷ []))
