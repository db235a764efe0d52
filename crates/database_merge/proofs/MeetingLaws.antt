-- What a session makes of a database whose records are all read.
use Rattle.std.proofs.Common.{◌≡◌, ◌∙◌, ◌+◌, ap, false, length, sym, ℕ, List}
use Rattle.std.specs.Prelude.{Some, if◌then◌else◌}
use Rattle.std.specs.Option.{option_or}
use Rattle.pdb_values.specs.Databases.{DatabaseValue}
use Rattle.pdb_values.specs.NamedDatabases.{with_put}
use Rattle.palm_device.specs.Records.{with_records}
use Rattle.palm_device.specs.Soundness.{AreIds, ids_of}
use Rattle.conduit_rules.specs.Choices.{Choice, Sides, choice_for}
use Rattle.conduit_rules.specs.Plans.{gone_rows, kept_rows}
use Rattle.conduit_rules.specs.ById.{each_id}
use Rattle.conduit_rules.specs.States.{first}
use Rattle.conduit_rules.specs.Views.{fast_view, slow_view}
use Rattle.record_merge.specs.Merging.{AreBounded, merged_archive, merged_base, merged_records, merged_rows, new_under}
use Rattle.record_merge.proofs.PutLaws.{differ-ids}
use Rattle.record_merge.proofs.ShownLaws.{slow-no_other}
use Rattle.session_plan.specs.Archives.{archive_records, entries_of}
use Rattle.session_plan.specs.Merges.{archive_of, beside}
use Rattle.session_plan.specs.Sizes.{is_over}
use Rattle.database_merge.specs.Faults.{is_full, sizes_by}
use Rattle.database_merge.specs.Merges.{left_by}
use Rattle.database_merge.proofs.CountLaws.{peak-is}
use Rattle.conduit_rules.specs.declared.action.Action.{Action}
use Rattle.session_plan.specs.Choosing.{action_or_sync, agrees, base_rows, choice, is_fast, sides as sides_met, sides_by, view}
use Rattle.session_plan.specs.Skips.{head_of, reason_by, skip_of as skip_of_task}
use Rattle.session_plan.specs.Tasks.{Meeting, Task, records_of}
use Rattle.database_merge.specs.Meetings.{LeavesAs, sides_of_task, sizes_alone, wishes_of_task}
use Rattle.database_merge.specs.Seeing.{merge_choice, shown, sides, skip_of}
use Rattle.std.specs.Prelude.{is_some}

pub same_sides : (meeting : Meeting) (task : Task) (action : Action) → is_fast meeting task ≡ false
    → sides_met meeting task ≡ sides (sides_of_task task) (wishes_of_task meeting task action)
unfolding sides_met view sides
same_sides meeting task action slow =
    ap (λ b. sides_by (if b then fast_view (base_rows task) (records_of task.handheld) else slow_view (records_of task.handheld)) task.rows task.base
    (agrees meeting task.name)) slow

pub same_choice : (meeting : Meeting) (task : Task) (action : Action) → task.action ≡ Some action → is_fast meeting task ≡ false
    → choice meeting task ≡ merge_choice (sides_of_task task) (wishes_of_task meeting task action)
unfolding choice
same_choice meeting task action is slow =
    ap (λ a. choice_for (action_or_sync a) (sides_met meeting task)) is ∙ ap (choice_for action) (same_sides meeting task action slow)

pub same_skip : (task : Task) (action : Action) → task.action ≡ Some action → skip_of_task task ≡ skip_of (sides_of_task task) action
unfolding skip_of_task
same_skip task action is = ap (λ a. reason_by a (head_of task.handheld) (head_of task.rows) (is_some task.base)) is

pub leaves-as : (meeting : Meeting) (task : Task) (action : Action) (given : List ℕ) (before rows : DatabaseValue) → task.action ≡ Some action
    → is_fast meeting task ≡ false
    → LeavesAs meeting task given before rows (left_by (merge_choice (sides_of_task task) (wishes_of_task meeting task action))
    (shown (sides_of_task task) (wishes_of_task meeting task action)) given task.archive before rows)
leaves-as meeting task action given before rows is slow =
    let ch = same_choice meeting task action is slow in
    let held = ap (λ (s : Sides). s.handheld) (same_sides meeting task action slow) in
    record {
      handheld = λ databases i. with_put (with_records (merged_records (ch i) (held i) given before.records) before) databases;
      rows_are = λ i. Some (with_records (merged_rows (sym ch i) given) rows);
      base = λ i. Some (beside rows (merged_base (sym ch i) (sym held i) given));
      archive = λ i. option_or (archive_of rows (archive_records (merged_archive (sym ch i) (entries_of (records_of task.archive))))) task.archive;
    }

pub full-as : (meeting : Meeting) (task : Task) (action : Action) → task.action ≡ Some action → is_fast meeting task ≡ false
    → AreIds (ids_of (records_of task.handheld)) → AreBounded (records_of task.handheld)
    → is_full (sides_of_task task) (wishes_of_task meeting task action) ≡ is_over (sizes_alone meeting task)
unfolding sides
full-as meeting task action is slow ids bounded =
    let both = sides_of_task task in
    let wishes = wishes_of_task meeting task action in
    let records = records_of task.handheld in
    let ch = same_choice meeting task action is slow in
    let held = ap (λ (s : Sides). s.handheld) (same_sides meeting task action slow) in
    let peak = peak-is (merge_choice both wishes) (shown both wishes) records (differ-ids records ids) (slow-no_other records bounded) in
    let sizes : sizes_by (merge_choice both wishes) (shown both wishes) records (records_of task.archive) ≡ sizes_alone meeting task = λ i. record {
      handhelds = 0;
      desktops = 0;
      records = (peak ∙ ap (λ (c : Choice). length records + (length c.adds + length (each_id (λ j. new_under j (first j records) (c.keep j))))) (sym ch)) i;
      rows = length (kept_rows (sym ch i).keep) + length (sym ch i).adds;
      base = length (kept_rows (sym ch i).keep) + length (sym ch i).adds + length (gone_rows (sym ch i).keep (sym held i));
      archive = length (merged_archive (sym ch i) (entries_of (records_of task.archive)));
    } in
    ap is_over sizes
