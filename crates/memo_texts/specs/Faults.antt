-- The fault of a text, and that of a line.
use Rattle.std.specs.Prelude.{◌≡◌, ◌≢◌, ℕ, Option, None}
use Rattle.memo_texts.specs.declared.fault.ImportFault.{ImportFault}
use Rattle.memo_texts.specs.declared.fault.ImportFault.TheVariants as import
use Rattle.memo_texts.specs.declared.fault.LineFlaw.{LineFlaw}
use Rattle.memo_texts.specs.declared.fault.LineFault.{LineFault}
use Rattle.memo_texts.specs.declared.fault.LineFault.TheVariants as line

-- the fault of a text whose line with this number has a fault
abbrev pub fault_at : LineFault → ℕ → ImportFault
fault_at (line.BadForm flaw) number = import.BadText number flaw
fault_at line.NoMemory number = import.NoMemory

-- a line of which nothing is read: it has this flaw, unless memory ran out
abbrev pub IsUnread : {A : Type 0} → LineFault → Option A → LineFlaw → Type 0
IsUnread fault read flaw = fault ≢ line.NoMemory → (fault ≡ line.BadForm flaw) × (read ≡ None)
