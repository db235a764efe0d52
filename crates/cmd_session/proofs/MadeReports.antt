-- What a session between made folders tells of its one database, and that it passes no limit.
use Rattle.std.proofs.lemmas.Bool.Decides.{nat_tests}
use Rattle.std.proofs.lemmas.Grind.{common_steps}
use Rattle.std.proofs.Common.{◌≡◌, ◌∙◌, Bool, true, false, refl, ap, arith, List, [], ◌∷◌, length, map, filter}
use Rattle.std.specs.Prelude.{None, Some, codes}
use Rattle.conduit_rules.specs.Choices.{choice_for}
use Rattle.conduit_rules.specs.Plans.{kept_rows}
use Rattle.conduit_rules.specs.declared.action.Action.TheVariants.{Sync}
use Rattle.conduit_rules.specs.declared.view.Seen.{Seen}
use Rattle.conduit_rules.specs.declared.view.SeenState.{SeenState}
use Rattle.palm_device.specs.Devices.{Device}
use Rattle.palm_device.specs.Handles.{no_handles}
use Rattle.desk_store.specs.Shelves.{SlotValue}
use Rattle.desktop_session.specs.Seats.{is_empty, seat_for}
use Rattle.desktop_session.specs.declared.seat.UserWish.{UserWish}
use Rattle.pdb_values.specs.declared.slot.Slot.TheVariants.{Old}
use Rattle.pdb_values.specs.declared.user.Marks.{Marks}
use Rattle.session_plan.specs.Choosing.{agrees, choice, is_fast, sides, view}
use Rattle.session_plan.specs.Reports.{counts_of, did_of, is_received, read_count, report_of, reports}
use Rattle.session_plan.specs.Skips.{skip_of}
use Rattle.session_plan.specs.Tasks.{Meeting, Task, meeting_of, tasks}
use Rattle.session_parts.specs.declared.report.Counts.{Counts}
use Rattle.session_plan.specs.declared.wishes.Wishes.{Wishes}
use Rattle.made_folders.specs.Sides.{made_database, made_user}
use Rattle.made_folders.specs.MadeMerges.{IsMadeMerge, made_choice, made_sides, made_view, was_received}
use Rattle.cmd_session.specs.Makes.{made_counts, made_report}
use Rattle.made_folders.specs.declared.item.Item.{Item}
use Rattle.made_folders.specs.declared.side.MadeSide.TheVariants.{Base, Desktop, Handheld}
use Rattle.cmd_session.proofs.MadeSides.{MadeSlot}

-- ---- both sides

unfoldable pub made_device : List Item → Device
made_device items = record { databases = made_database Handheld items ∷ []; user = made_user; handles = no_handles }

unfoldable pub made_slot : List Item → SlotValue
made_slot items = record {
  marks = record { pc = 1; user = 0; last = 0; name = [] };
  parted = [];
  shelves = record { rows = made_database Desktop items ∷ []; bases = made_database Base items ∷ []; archives = [] };
}

unfoldable pub made_meeting : List Item → Wishes → Meeting
made_meeting items wishes = record { device = made_device items; slots = made_slot items ∷ []; picked = 0; wishes = wishes }

-- the one slot is the handheld's, whatever name is asked for
pub made_seat : (slot : Marks) (wish : UserWish) → slot.user ≡ 0 → seat_for (slot ∷ []) wish made_user ≡ Old 0
made_seat slot wish none = by (is_empty wish.name) refl
  where
    by : (b : Bool) → is_empty wish.name ≡ b → seat_for (slot ∷ []) wish made_user ≡ Old 0
    by true is = grind (arith, common_steps, nat_tests)
    by false is = grind (arith, common_steps, nat_tests)

-- the made sides meet so
pub made_meets : {items : List Item} (device : Device) {slots : List SlotValue} {slot : SlotValue} (wishes : Wishes)
    → device.databases ≡ made_database Handheld items ∷ [] → device.user ≡ made_user → device.handles ≡ no_handles → slots ≡ slot ∷ []
    → MadeSlot items slot → meeting_of device slots wishes ≡ made_meeting items wishes
unfolding made_meeting made_device made_slot
made_meets {items} device {slot = slot} wishes databases user handles one made =
    grind (arith, made_device items, made_slot items, [], made_seat slot.marks wishes.user)

-- ---- their one database

unfoldable pub made_task : List Item → Task
made_task items = record {
  name = codes "MadeDB";
  handheld = Some (made_database Handheld items);
  rows = Some (made_database Desktop items);
  base = Some (made_database Base items);
  archive = None;
  action = Some Sync;
}

-- what is asked of it
pub record AsksNothing (wishes : Wishes) : Type 0 where
  pub slow : wishes.slow ≡ false
  pub actions : wishes.actions.items ≡ []

pub tasks_are : (items : List Item) {wishes : Wishes} → AsksNothing wishes → tasks (made_meeting items wishes) ≡ made_task items ∷ []
unfolding tasks made_meeting made_device made_slot made_task
tasks_are items asks = grind (arith, [])

pub not_skipped : (items : List Item) → skip_of (made_task items) ≡ None
unfolding skip_of made_task
not_skipped items = refl

agree : (items : List Item) (wishes : Wishes) → agrees (made_meeting items wishes) (made_task items).name ≡ true
unfolding agrees made_meeting made_device made_slot
agree items wishes = refl

module _ (items : List Item) {wishes : Wishes} (asks : AsksNothing wishes) where
  fast : is_fast (made_meeting items wishes) (made_task items) ≡ true
  unfolding is_fast made_task made_meeting
  fast = grind (arith, agree items wishes)

  view_is : view (made_meeting items wishes) (made_task items) ≡ made_view items
  unfolding view made_task
  view_is = rw fast refl

  pub sides_are : sides (made_meeting items wishes) (made_task items) ≡ made_sides items
  unfolding sides made_task
  sides_are = grind (arith, made_meeting items wishes, view_is, agree items wishes)

  pub choice_is : choice (made_meeting items wishes) (made_task items) ≡ made_choice items
  unfolding choice made_task
  choice_is = ap (choice_for Sync) sides_are

-- ---- its counts

received_same : (state : SeenState) → is_received state ≡ was_received state
received_same state = grind (arith, common_steps)

read_same : (view : List Seen) → filter (λ (s : Seen). is_received s.state) view ≡ filter (λ (s : Seen). was_received s.state) view
read_same [] = refl
read_same (s ∷ view) = rw (received_same s.state, read_same view) refl

counts_same : (a b : Counts) → a.fast ≡ b.fast → a.read ≡ b.read → a.replaced ≡ b.replaced → a.added ≡ b.added → a.purged ≡ b.purged
    → a.archived ≡ b.archived → a.twice ≡ b.twice → a.rows ≡ b.rows → a ≡ b
counts_same a b fast read replaced added purged archived twice rows = grind (arith, fast)

counts_are : {items : List Item} {wishes : Wishes} → AsksNothing wishes → IsMadeMerge items
    → counts_of (made_meeting items wishes) (made_task items) ≡ made_counts items
unfolding made_task
counts_are {items} {wishes} asks merged =
    grind (
      arith,
      made_meeting items wishes,
      made_task items,
      choice_is items asks,
      sides_are items asks,
      length (choice (made_meeting items wishes) (made_task items)).adds,
      length (kept_rows (choice (made_meeting items wishes) (made_task items)).keep),
      length (kept_rows (made_choice items).keep),
      counts_same (counts_of (made_meeting items wishes) (made_task items)) (made_counts items) (fast items asks)
          (ap read_count (view_is items asks) ∙ ap length (read_same (made_view items)) ∙ merged.received),
      fast items asks,
      view_is items asks,
      read_same (made_view items),
      [],
    )

-- one line is told
pub reports_are : (items : List Item) (wishes : Wishes) → AsksNothing wishes → IsMadeMerge items
    → reports (made_meeting items wishes) ≡ made_report items ∷ []
unfolding reports did_of made_task
reports_are items wishes asks merged =
    grind (
      arith,
      made_meeting items wishes,
      map (report_of (made_meeting items wishes)),
      tasks_are items asks,
      made_task items,
      [],
      not_skipped items,
      counts_are asks merged,
    )
