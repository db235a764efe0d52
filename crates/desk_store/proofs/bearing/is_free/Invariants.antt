use Rattle.std.proofs.Common.{◌≡◌, ◌<◌, ℕ, get_or}
use Rattle.folder_files.specs.Slots.{users_of}
use Rattle.desk_store.specs.Shelves.{marks_of}
use Rattle.desk_store.proofs.bearing.is_free.Given as goal

abbrev pub invariant-loop-index : goal.invariant-loop-index
invariant-loop-index l = (other : ℕ) → other < l.index → (other ≡ l.place → ⊥) → get_or (users_of (marks_of l.slots)) other 0 ≡ l.user → ⊥
