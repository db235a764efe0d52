-- A database that a session makes on the handheld has the blocks of the desktop's rows, and any other keeps its own.
use Rattle.std.proofs.Common.{◌≡◌, ◌∙◌, ap, refl, sym, ℕ, true, List, [], ◌∷◌}
use Rattle.std.specs.Prelude.{◌||◌, Option, Some, None, is_some}
use Rattle.pdb_values.specs.Databases.{DatabaseValue}
use Rattle.pdb_values.specs.NamedDatabases.{database_of}
use Rattle.palm_device.specs.Devices.{Device}
use Rattle.session_plan.specs.Blocks.{block_over, block_with_bytes, blocks_of}
use Rattle.session_plan.specs.Merges.{handheld_before, merged_device}
use Rattle.session_plan.specs.Skips.{active}
use Rattle.session_plan.specs.Tasks.{Meeting, task_of}
use Rattle.front_laws.specs.Filled.{HasBlocks, IsMade, KeepsBlocks, held_blocks}
use Rattle.front_laws.specs.Meetings.{IsActive}
use Rattle.front_laws.specs.Stops.{StandsBehindCommit}
use Rattle.front_laws.proofs.MergedLaws.{handheld-merged}
use Rattle.front_laws.proofs.TaskLaws.{are-active, is-active, on_a_side}
use Rattle.front_laws.proofs.WholeLaws.{device_databases}

-- a block that is written where there was none
own_block : (block : Option (List ℕ)) → block_over (block_with_bytes block) None ≡ block_with_bytes block
own_block None = refl
own_block (Some []) = refl
own_block (Some (byte ∷ bytes)) = refl

made_by : (r : Option DatabaseValue) {b : DatabaseValue} → handheld_before None r ≡ Some b → held_blocks (Some b) ≡ blocks_of r
made_by (Some rows) is =
    ap held_blocks (sym is) ∙ (λ k. record { app = own_block rows.app k; sort = own_block rows.sort k })
made_by None is = absurd (cc)

kept_by : (d : DatabaseValue) (r : Option DatabaseValue) {b : DatabaseValue} → handheld_before (Some d) r ≡ Some b → held_blocks (Some b) ≡ held_blocks (Some d)
kept_by d r is = ap held_blocks (sym is)

made-before : (h r : Option DatabaseValue) {b : DatabaseValue} → h ≡ None → handheld_before h r ≡ Some b → held_blocks (Some b) ≡ blocks_of r
made-before h r {b} none is = made_by r (ap (λ x. handheld_before x r) (sym none) ∙ is)

kept-before : (h r : Option DatabaseValue) {b d : DatabaseValue} → h ≡ Some d → handheld_before h r ≡ Some b → held_blocks (Some b) ≡ held_blocks h
kept-before h r {b} {d} some is = kept_by d r (ap (λ x. handheld_before x r) (sym some) ∙ is) ∙ ap held_blocks (sym some)

some_before : (h r : Option DatabaseValue) → (is_some h || is_some r) ≡ true → (b : DatabaseValue) × (handheld_before h r ≡ Some b)
some_before (Some d) r there = (d, refl)
some_before None (Some rows) there = (_, refl)
some_before None None there = absurd (cc)

-- behind a whole session
at_end : (m : Meeting) (given name : List ℕ) → IsActive m name
    → (b : DatabaseValue) × (handheld_before (task_of m name).handheld (task_of m name).rows ≡ Some b)
    × (held_blocks (database_of name (merged_device m given).databases) ≡ held_blocks (Some b))
at_end m given name is =
    let t = task_of m name in
    let b = some_before t.handheld t.rows (on_a_side m name is.there) in (
      b.0,
      b.1,
      ap held_blocks (ap (database_of name) (device_databases m given)
          ∙ handheld-merged m (active m) given t b.0 (are-active m) (is-active m name is.there is.kept) b.1),
    )

pub made-whole : (m : Meeting) (given name : List ℕ) → IsMade m name → HasBlocks m (merged_device m given) name
made-whole m given name is =
    let end = at_end m given name is.active in
    end.2 ∙ made-before (task_of m name).handheld (task_of m name).rows is.lacks end.1

pub kept-whole : (m : Meeting) (given name : List ℕ) (d : DatabaseValue) → IsActive m name → (task_of m name).handheld ≡ Some d
    → KeepsBlocks m (merged_device m given) name
kept-whole m given name d is some =
    let end = at_end m given name is in
    end.2 ∙ kept-before (task_of m name).handheld (task_of m name).rows some end.1

-- from the commit on
pub made-behind : (m : Meeting) (given name : List ℕ) (device : Device) → StandsBehindCommit m given device → IsMade m name → HasBlocks m device name
made-behind m given name device stands is =
    let written = stands.each name is.active in
    ap held_blocks written.stands ∙ made-before (task_of m name).handheld (task_of m name).rows is.lacks written.is
