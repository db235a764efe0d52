-- The reply to what was found, and the plan of a writing.
use Rattle.std.proofs.lemmas.Bool.Decides.{nat_tests}
use Rattle.std.proofs.lemmas.Grind.{common_steps}
use Rattle.std.proofs.Common.{◌≡◌, ℕ, Bool, true, Result, arith}
use Rattle.pdb_values.specs.Databases.{DatabaseValue}
use Rattle.dlp_replies.specs.ReplyValues.{ReplyValue}
use Rattle.dlp_commands.specs.Answers.{Finds, answer_text, answered}
use Rattle.dlp_commands.specs.Errors.{check, not_supported, ◌>>=◌}
use Rattle.dlp_commands.specs.Holding.{fits}
use Rattle.palm_device.specs.declared.edit.Edit.{Edit}
use Rattle.dlp_commands.specs.Writings.{Plans, PlansHeld, WritingValue, written_on}
use Rattle.dlp_commands.specs.declared.refusal.Refusal.{Refusal}

-- is that to what the table finds
pub found_text : {A : Type 0} (number : ℕ) (view : A → ReplyValue) (answer : Result A Refusal) (found : Result ReplyValue ℕ)
    → Finds view answer found → answer_text number view answer ≡ answered number found
found_text number view answer found is = grind (arith, nat_tests, common_steps)

held_by : {X : Type 0} (b : Bool) (found : Result X ℕ) → b ≡ true → (check not_supported b >>= λ suited. found) ≡ found
held_by b found is = cc

-- a database that holds what is written
pub plans_held : (asked : WritingValue) (database : DatabaseValue) (answer : Result Edit Refusal) → fits (written_on asked) database ≡ true
    → PlansHeld asked database answer → Plans asked database answer
plans_held asked database answer suited plans = grind (arith, nat_tests, common_steps)
