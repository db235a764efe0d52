-- A database that isn't skipped holds records on either side.
use Rattle.std.proofs.Common.{◌≡◌, ◌∙◌, ◌<◌, ◌%◌, ap, refl, ℕ, Bool, true, false, arith, bit_and}
use Rattle.std.specs.Prelude.{◌==◌, Option, None}
use Rattle.std.proofs.lemmas.Bool.{or_parts}
use Rattle.std.proofs.lemmas.Grind.{common_steps}
use Rattle.std.proofs.lemmas.Nat.{and_mod}
use Rattle.pdb_values.specs.Heads.{holds_resources}
use Rattle.pdb_values.specs.declared.head.DbHead.{DbHead}
use Rattle.conduit_rules.specs.declared.action.Action.{Action}
use Rattle.session_plan.specs.Heads.{made_head, plain_attributes, rows_head}
use Rattle.session_plan.specs.Merges.{new_database}
use Rattle.session_plan.specs.Skips.{one_passes, passes, reason}

one_bit : (n : ℕ) → n < 2 → bit_and n 1 ≡ n
one_bit n l = grind arith

odd_mask : (a m : ℕ) → m % 2 ≡ 1 → bit_and a m % 2 ≡ a % 2
odd_mask a m is = and_mod a m 1 ∙ ap (bit_and (a % 2)) is ∙ one_bit (a % 2) (mod-lt a)
  where
    mod-lt : (n : ℕ) → n % 2 < 2
    mod-lt n = omega arith

plain_records : (attributes : ℕ) → holds_resources attributes ≡ false → holds_resources (plain_attributes attributes) ≡ false
plain_records attributes is = ap (λ (n : ℕ). n == 1) (odd_mask attributes 0x7FFB refl) ∙ is

-- new rows hold records as the handheld's database does
pub rows_records : (date : ℕ) (head : DbHead) → holds_resources head.attributes ≡ false → holds_resources (rows_head date head).attributes ≡ false
rows_records date head is = plain_records head.attributes is

-- a new database of the handheld holds records as the rows do
pub new_records : (head : DbHead) → holds_resources head.attributes ≡ false → holds_resources (new_database (made_head head)).head.attributes ≡ false
new_records head is =
    ap (λ (n : ℕ). n == 1) (odd_mask (plain_attributes head.attributes) 0x7fff refl) ∙ plain_records head.attributes is

pub record HoldsRecords (handheld rows : Option DbHead) : Type 0 where
  pub handheld_does : passes holds_resources handheld ≡ false
  pub rows_do : passes holds_resources rows ≡ false

pub holds_records : (action : Action) (handheld rows : Option DbHead) (base : Bool) → reason action handheld rows base ≡ None → HoldsRecords handheld rows
holds_records action handheld rows base is = by (one_passes holds_resources handheld rows) refl
  where
    by : (resources : Bool) → one_passes holds_resources handheld rows ≡ resources → HoldsRecords handheld rows
    by false none =
        let parts = or_parts (passes holds_resources handheld) (passes holds_resources rows) none in
        record { handheld_does = parts.0; rows_do = parts.1 }
    by true some = absurd (grind (arith, common_steps))
