-- Heads of databases that are alike to a session.
use Rattle.std.specs.Prelude.{◌≡◌, ℕ, Bool, List, length}
use Rattle.pdb_values.specs.declared.head.DbHead.{DbHead}
use Rattle.desk_store.specs.Shelves.{ShelvesValue}
use Rattle.session_plan.specs.Jobs.{jobs_of}
use Rattle.session_plan.specs.declared.wishes.Wishes.{Wishes}

-- they are as many, and whatever the slot, what both sides agree on and the words, a session does
-- the same for the same databases, in the same order
pub record GiveTheSame (heads own : List DbHead) : Type 0 where
  pub count : length heads ≡ length own
  pub jobs : (shelves : ShelvesValue) (agree : List ℕ → Bool) (wishes : Wishes)
      → jobs_of heads shelves agree wishes ≡ jobs_of own shelves agree wishes
