-- The run behind an install or a restore.
use Rattle.std.proofs.Common.{◌≡◌, ◌∙◌, ◌<◌, ap, arith, inl, inr, subst, sym, false, List, ℕ}
use Rattle.std.specs.Prelude.{◌&&◌, Option, is_some, not}
use Rattle.std.specs.Option.{option_map}
use Rattle.hs_folders.specs.FileMaps.{FileMap}
use Rattle.pdb_values.specs.Databases.{DatabaseValue}
use Rattle.pdb_values.specs.declared.user.UserInfo.{UserInfo}
use Rattle.palm_device.specs.Devices.{Device}
use Rattle.palm_device.specs.Handles.{no_handles}
use Rattle.handheld_files.specs.Openings.{Stands}
use Rattle.mirrors.specs.Agreements.{agreed}
use Rattle.desk_journal.specs.Overlays.{finished}
use Rattle.desk_store.specs.Desks.{IsDesk}
use Rattle.desk_store.specs.Shelves.{SlotValue, slot_at}
use Rattle.desk_store.proofs.OpenLaws.{picked_number}
use Rattle.session_plan.specs.Choosing.{action_or_sync, agrees, is_fast, is_sync}
use Rattle.session_plan.specs.Tasks.{Meeting, Task, slot_of}
use Rattle.install_backup.specs.declared.mark.Mark.{Mark}
use Rattle.install_backup.specs.declared.mark.Mark.TheVariants.{Unchanged}
use Rattle.folder_files.specs.Partings.{is_parted}
use Rattle.install_backup.specs.InstallFronts.{IsMarkedFirst}
use Rattle.install_backup.specs.Marks.{marked_user}
use Rattle.install_backup.proofs.MarkLaws.{marked_apart}
use Rattle.run_promises.specs.Calls.{Call}
use Rattle.run_promises.specs.RunCalls.{RunCall}
use Rattle.run_promises.specs.Promises.{IsReadWhole, IsReadWholeOrSame, RunsNext}
use Rattle.run_promises.proofs.OneLaws.{IsOne, same_handheld}

-- a desktop's number is not 0
has_number : (told : Option FileMap) (slots : List SlotValue) (place : ℕ) → IsDesk told slots → 0 < (slot_at slots place).marks.pc
has_number told slots place is = let same = picked_number told slots place is in let some = is.formed.number in omega (arith, same, some)

-- where both sides don't agree nothing is read fast
slow_by : (meeting : Meeting) (task : Task) → agrees meeting task.name ≡ false → is_fast meeting task ≡ false
unfolding is_fast
slow_by meeting task apart =
    ap (λ b. b && (not meeting.wishes.slow && (is_sync (action_or_sync task.action) && (is_some task.handheld && (is_some task.rows && is_some task.base)))))
    apart

module _ {call : Call} (next : RunCall) (meeting : Meeting) (runs : RunsNext call next meeting) where
  -- it meets the handheld that the call left
  met : (databases : List DatabaseValue) (user : UserInfo) → Stands call.after.palm.contents databases user
      → IsOne meeting.device.databases databases meeting.device.user user
  met databases user stands =
      let left : Device = record { databases = databases; user = user; handles = no_handles } in
      same_handheld next.before.palm.contents left meeting.device runs.told
      (subst (λ (told : Option FileMap). Stands told databases user) (sym runs.same) stands) runs.meets.handheld

  -- which has the mark
  met_apart : (mark : Mark) (user : UserInfo) → ¬ (mark ≡ Unchanged) → meeting.device.user ≡ marked_user mark user → (name : List ℕ) → agrees meeting name ≡ false
  unfolding agrees
  met_apart mark user says is name =
      let slot : SlotValue = slot_of meeting in
      ap (λ agree. agree && not (is_parted name slot.parted))
      (ap (λ (u : UserInfo). agreed u slot.marks) is
      ∙ marked_apart mark user slot.marks says
      (has_number (option_map finished next.before.desk.contents) meeting.slots meeting.picked runs.meets.desktop))

pub read_whole : {call : Call} (databases : List DatabaseValue) (mark : Mark) (user : UserInfo)
    → Stands call.after.palm.contents databases (marked_user mark user) → IsReadWhole mark call
read_whole {call} databases mark user stands = λ says next meeting runs task.
    slow_by meeting task (met_apart next meeting runs mark user says (met next meeting runs databases (marked_user mark user) stands).user_is task.name)

pub read_whole_or_same : {call : Call} (mark : Mark) (device reached : Device) → Stands call.after.palm.contents reached.databases reached.user
    → IsMarkedFirst mark device reached → IsReadWholeOrSame mark device call
read_whole_or_same {call} mark device reached stands (inl marked) = λ says next meeting runs.
    inl (λ task. slow_by meeting task
    (met_apart next meeting runs mark device.user says ((met next meeting runs reached.databases reached.user stands).user_is ∙ marked) task.name))
read_whole_or_same {call} mark device reached stands (inr same) = λ says next meeting runs.
    let one = met next meeting runs reached.databases reached.user stands in
    inr (record { user = one.user_is ∙ same.user; databases = one.databases ∙ same.databases })
