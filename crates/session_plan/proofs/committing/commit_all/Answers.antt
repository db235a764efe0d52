-- What the desktop carries out is what was planned.
use Rattle.session_plan.specs.Takes.{each_of, changes_of, parted_after, taken_entries, taken_slots}
use Rattle.std.proofs.Common.{◌≡◌, ℕ, List, Option, Result}
use Rattle.hs_folders.specs.FileMaps.{FileMap}
use Rattle.hs_folders.specs.Moments.{Moments}
use Rattle.pdb_values.specs.declared.user.Marks.{Marks}
use Rattle.pdb_values.specs.declared.user.UserInfo.{UserInfo}
use Rattle.desk_store.specs.Changes.{change_entries, with_commit}
use Rattle.desk_store.specs.Views.{picked_slot}
use Rattle.session_plan.proofs.PlanWords.{DeskValue, shelves_in, Planned}
use Rattle.desk_store.specs.declared.change.DeskChange.{DeskChange}
use Rattle.desk_store.specs.declared.fault.CommitFault.{CommitFault}
use Rattle.session_plan.specs.Commits.{Commits}
use Rattle.session_plan.proofs.committing.commit_all.Goals as goal

-- the change that is carried out is that of what was planned
of_change : {F : Type 0} {contents : F → Option FileMap} {moments : F → Moments} {paths : F → Option (List (List ℕ))} {faults : F → ℕ}
    {desk : DeskValue F} {answer : Result (DeskValue F) (CommitFault × F)} (change : DeskChange) (done : Marks) (user : UserInfo)
    (planned : List Planned) (ids : List (List ℕ))
    → change.marks ≡ done → change.parted.items ≡ parted_after user (picked_slot desk) planned
    → change.databases.items ≡ changes_of done.last (shelves_in desk) planned ids
    → Commits contents moments paths faults (with_commit change desk.picked desk.slots) (change_entries change desk.picked desk.slots) desk answer
    → Commits contents moments paths faults (taken_slots done user planned ids desk.picked desk.slots)
    (taken_entries done user planned ids desk.picked desk.slots) desk answer
unfolding taken_slots taken_entries
of_change change done user planned ids marks parted changes told = rw (← changes, ← parted, ← marks) told

pub returns-in-Ok : goal.returns-in-Ok
returns-in-Ok g c =
    let made = c.commit.ensures in
    record {
      commits = of_change c.in-Ok.change c.args.done c.args.user.now c.args.planned.now (each_of c.args.ids.now) c.in-Ok.ensures.marks
          c.in-Ok.ensures.parted c.in-Ok.ensures.changes
          (record {
            slots = made.slots;
            picked = made.picked;
            stands = made.desk;
            written = made.written;
            left = made.left;
            made = made.made;
            each_moment = made.each_left;
            cause = made.cause;
            same_paths = made.paths;
          });
    }
