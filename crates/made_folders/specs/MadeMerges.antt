-- What a synchronisation makes of made folders.
use Rattle.std.specs.Prelude.{◌≡◌, ◌+◌, Bool, true, false, List, [], filter, length}
use Rattle.conduit_rules.specs.Choices.{Choice, Sides, choice_for, kept_twice, sides_of}
use Rattle.conduit_rules.specs.Plans.{kept_rows, purged_ids, replaced_rows}
use Rattle.conduit_rules.specs.Views.{fast_view}
use Rattle.conduit_rules.specs.declared.action.Action.TheVariants.{Sync}
use Rattle.conduit_rules.specs.declared.view.Seen.{Seen}
use Rattle.conduit_rules.specs.declared.view.SeenState.{SeenState}
use Rattle.conduit_rules.specs.declared.view.SeenState.TheVariants.{Unread}
use Rattle.made_folders.specs.Sides.{records_on}
use Rattle.made_folders.specs.declared.item.Item.{Item}
use Rattle.made_folders.specs.declared.side.MadeSide.TheVariants.{Base, Desktop, Handheld}
use Rattle.made_folders.specs.Numbers.{kinds}

-- the handheld's records, as a fast reading shows them
abbrev pub made_view : List Item → List Seen
made_view items = fast_view (records_on Base items) (records_on Handheld items)

-- the database as both sides have it
abbrev pub made_sides : List Item → Sides
made_sides items =
    sides_of (made_view items) (records_on Desktop items) (records_on Base items) false

-- what is chosen
abbrev pub made_choice : List Item → Choice
made_choice items = choice_for Sync (made_sides items)

-- an entry that was received
abbrev pub was_received : SeenState → Bool
was_received Unread = false
was_received other = true

-- how many records are received, replaced, added, purged and archived, and how many rows there are
-- then
pub record IsMadeMerge (items : List Item) : Type 0 where
  pub received : length (filter (λ (seen : Seen). was_received seen.state) (made_view items))
      ≡ kinds 5 items + kinds 8 items
  pub replaced : length (replaced_rows (made_choice items).keep (made_sides items).handheld)
      ≡ kinds 6 items
  pub added : length (made_choice items).adds ≡ kinds 9 items
  pub purged : length (purged_ids (made_choice items).keep (made_sides items).handheld)
      ≡ kinds 7 items
  pub archived : (made_choice items).archive ≡ []
  pub twice : length (kept_twice Sync (made_sides items)) ≡ 0
  pub rows : length (kept_rows (made_choice items).keep) + (kinds 9 items + kinds 7 items)
      ≡ length items
