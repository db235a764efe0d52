-- Readings that go on or name the place of a fault.
use Rattle.std.specs.Prelude.{◌≡◌, ℕ, Option, None, Some, Result, Ok, Err}
use Rattle.palm_records.specs.declared.bad_record.BadRecord.{BadRecord}

-- the reading goes on with what was found, or stops at the fault
infixl 10 ◌>>=◌
abbrev pub ◌>>=◌ : {A B : Type 0} → Result A ℕ → (A → Result B ℕ) → Result B ℕ
Ok found >>= next = next found
Err place >>= next = Err place

-- what is there, or this place
abbrev pub or_place : {A : Type 0} → ℕ → Option A → Result A ℕ
or_place place (Some found) = Ok found
or_place place None = Err place

-- the answer, seen in this way, is what a reading gives
abbrev pub Reads : {A B : Type 0} → (A → B) → Result A BadRecord → Result B ℕ → Type 0
Reads view (Ok found) said = said ≡ Ok (view found)
Reads view (Err bad) said = said ≡ Err bad.place
