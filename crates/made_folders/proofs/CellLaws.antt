-- What becomes of an item, by its kind.
use Rattle.std.proofs.lemmas.Grind.{common_steps}
use Rattle.std.proofs.lemmas.Bool.Decides.{nat_tests}
use Rattle.std.proofs.Common.{◌≡◌, ◌<◌, ◌+◌, ℕ, zero, suc, ◌==◌, ◌&&◌, ◌||◌, true, false, not, refl, sym, ap, arith, [], length, Option, Some, None}
use Rattle.std.proofs.Common.{option_to_list}
use Rattle.std.specs.Prelude.{cond, nat_lt, filter, if◌then◌else◌}
use Rattle.std.specs.Option.{option_map, option_and_then}
use Rattle.pdb_values.specs.Contents.{ContentValue}
use Rattle.pdb_values.specs.declared.record.Record.{Record}
use Rattle.conduit_rules.specs.ById.{with_id}
use Rattle.conduit_rules.specs.Choices.{partner}
use Rattle.conduit_rules.specs.Contents.{same_content}
use Rattle.conduit_rules.specs.Fates.{cell, fate}
use Rattle.conduit_rules.specs.Plans.{purged_at, replacement}
use Rattle.conduit_rules.specs.States.{BaseState, SideState, based_where, held_where, is_row, live, nothing}
use Rattle.conduit_rules.specs.Views.{IsHonestUnder, slow_seen, unread_where}
use Rattle.conduit_rules.specs.declared.view.Seen.{Seen}
use Rattle.conduit_rules.proofs.ContentLaws.{same_content-same}
use Rattle.conduit_rules.proofs.TableLaws.{cell-settled}
use Rattle.conduit_rules.proofs.SettledLaws.{only}
use Rattle.made_folders.specs.Sides.{record_with, text_of}
use Rattle.made_folders.specs.declared.item.Item.{Item}
use Rattle.made_folders.specs.declared.side.MadeSide.{MadeSide}
use Rattle.made_folders.specs.declared.side.MadeSide.TheVariants.{Base, Desktop, Handheld}
use Rattle.made_folders.specs.MadeMerges.{was_received}
use Rattle.made_folders.specs.Numbers.{known_on}
use Rattle.made_folders.proofs.LooseLaws.{mate_contents}

-- ---- what lies under the number of an item

abbrev pub base_on : Option Item → BaseState
base_on o = based_where false (option_and_then (known_on Base) o)

abbrev pub held_on : MadeSide → Option Item → SideState
held_on side o = held_where (option_and_then (known_on side) o)

-- an item's text as a content
abbrev pub content_with : ℕ → Item → ContentValue
content_with letter item = record { category = 0; secret = false; bytes = text_of letter item }

-- what is kept of it
abbrev pub kept_on : Item → Option ContentValue
kept_on item = if (item.kind == 5) || (item.kind == 8) then Some (content_with 104 item) else if item.kind == 6 then Some (content_with 100 item)
    else if nat_lt item.kind 5 then Some (content_with 114 item) else None

other_letter : (letter other : ℕ) (item : Item) → (letter == other) ≡ false → same_content (content_with letter item) (content_with other item) ≡ false
unfolding same_content
other_letter letter other item differ = grind (arith, differ)

held_cell : (r h : ContentValue) → same_content h r ≡ false → cell r (live h) (live r) ≡ only (Some h)
held_cell r h differ = grind (arith, differ, same_content-same r)

desk_cell : (r d : ContentValue) → same_content d r ≡ false → cell r (live r) (live d) ≡ only (Some d)
desk_cell r d differ = grind (arith, differ, same_content-same r)

purged_cell : (r : ContentValue) → cell r (live r) nothing ≡ only None
purged_cell r = grind (arith, same_content-same r)

stays_not : (c : ContentValue) → replacement (Some c) (live c) ≡ None
stays_not c = grind (arith, same_content-same c)

-- what a fast reading shows of a record under a base row
abbrev pub seen_on : BaseState → Record → Seen
seen_on b r = if not r.dirty && not r.deleted then unread_where b r else slow_seen r

unread_is : (item : Item) (r : Record) → ◌≡◌ {A = Option Record} (Some (record_with item 114)) (Some r) → (not r.dirty && not r.deleted) ≡ true
    → r.content ≡ content_with 114 item
unread_is item r is clean = let same : record_with item 114 ≡ r = cc in sym (ap (λ (x : Record). x.content) same)

dirty_not : (item : Item) (b : ContentValue) (r : Record) → ◌≡◌ {A = Option Record} (Some (record_with item 104)) (Some r)
    → (not r.dirty && not r.deleted) ≡ true → r.content ≡ b
dirty_not item b r is clean = grind arith

-- what becomes of it, and what is read of it
pub record Facts (item : Item) : Type 0 where
  pub becomes : fate (base_on (Some item)) (held_on Handheld (Some item)) (held_on Desktop (Some item)) ≡ only (kept_on item)
  pub replaced : length (with_id item.number (replacement (kept_on item) (held_on Handheld (Some item)))) ≡ cond (item.kind == 6) 1 0
  pub purged : length (purged_at (kept_on item) (held_on Handheld (Some item)) item.number) ≡ cond (item.kind == 7) 1 0
  pub mate : option_to_list (partner (base_on (Some item)) (held_on Handheld (Some item))) ≡ mate_contents item
  pub received : length
      (filter (λ (seen : Seen). was_received seen.state) (option_to_list (option_map (seen_on (base_on (Some item))) (known_on Handheld item)))) ≡ cond
      (item.kind == 5) 1 0 + cond (item.kind == 8) 1 0
  pub honest : (r : Record) → known_on Handheld item ≡ Some r → IsHonestUnder (base_on (Some item)) r
  pub based : nat_lt item.kind 7 ≡ true → is_row (base_on (Some item)) ≡ true
  pub kept : length (with_id item.number (kept_on item)) + (cond (item.kind == 9) 1 0 + cond (item.kind == 7) 1 0) ≡ 1

abbrev item_of_kind : ℕ → ℕ → ℕ → Item
item_of_kind number kind fill = record { number = number; kind = kind; fill = fill }

facts_of : (kind : ℕ) → kind < 10 → (number fill : ℕ) → Facts (item_of_kind number kind fill)
facts_of (suc (suc (suc (suc (suc zero))))) few number fill = let item = item_of_kind number 5 fill in record {
  becomes = held_cell (content_with 114 item) (content_with 104 item) (other_letter 104 114 item refl);
  replaced = grind (arith, stays_not (content_with 104 item));
  purged = refl;
  kept = refl;
  mate = refl;
  received = refl;
  based = λ e. refl;
  honest = dirty_not item (content_with 114 item);
}
facts_of (suc (suc (suc (suc (suc (suc zero)))))) few number fill = let item = item_of_kind number 6 fill in record {
  becomes = desk_cell (content_with 114 item) (content_with 100 item) (other_letter 100 114 item refl);
  replaced = grind (arith, other_letter 114 100 item refl);
  purged = refl;
  kept = refl;
  mate = refl;
  received = refl;
  based = λ e. refl;
  honest = unread_is item;
}
facts_of (suc (suc (suc (suc (suc (suc (suc zero))))))) few number fill = let item = item_of_kind number 7 fill in record {
  becomes = purged_cell (content_with 114 item);
  replaced = refl;
  purged = refl;
  kept = refl;
  mate = refl;
  received = refl;
  based = λ e. cc;
  honest = unread_is item;
}
facts_of (suc (suc (suc (suc (suc (suc (suc (suc zero)))))))) few number fill = record {
  becomes = refl;
  replaced = grind (arith, stays_not (content_with 104 (item_of_kind number 8 fill)));
  purged = refl;
  kept = refl;
  mate = refl;
  received = refl;
  based = λ e. cc e;
  honest = λ r is. tt;
}
facts_of (suc (suc (suc (suc (suc (suc (suc (suc (suc zero))))))))) few number fill = record {
  becomes = refl;
  replaced = refl;
  purged = refl;
  kept = refl;
  mate = refl;
  received = refl;
  based = λ e. cc e;
  honest = λ r is. tt;
}
facts_of (suc (suc (suc (suc (suc (suc (suc (suc (suc (suc kind)))))))))) few number fill = absurd (omega (arith, few))
-- the kinds from 0 to 4, of which nothing is to be done
facts_of kind few number fill = let item = item_of_kind number kind fill in record {
  becomes = cell-settled (content_with 114 item);
  replaced = grind (arith, stays_not (content_with 114 item));
  purged = refl;
  kept = refl;
  mate = refl;
  received = refl;
  based = λ e. refl;
  honest = unread_is item;
}

pub facts : (item : Item) → item.kind < 10 → Facts item
facts item few = facts_of item.kind few item.number item.fill
