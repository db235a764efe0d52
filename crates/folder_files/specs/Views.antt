-- What a reading returned.
use Rattle.std.specs.Prelude.{◌≡◌, ⊤, List, Result, Ok, Err}
use Rattle.std.specs.Global.{Vec}
use Rattle.folder_files.specs.Slots.{SlotInfoValue}
use Rattle.folder_files.specs.declared.bad_line.BadLine.{BadLine}
use Rattle.folder_files.specs.declared.fault.InfoFault.{InfoFault}
use Rattle.folder_files.specs.declared.fault.InfoFault.TheVariants.{Bad, NoMemory}
use Rattle.folder_files.specs.declared.fault.LineFault.{LineFault}
use Rattle.folder_files.specs.declared.fault.LineFault.TheVariants.{Left, OutOfMemory}
use Rattle.folder_files.specs.declared.unread.Unread.{Unread}

-- seen in this way it is what a definition says
abbrev pub Finds : {A B E : Type 0} → (A → B) → Result A E → Result B E → Type 0
Finds view (Ok found) said = said ≡ Ok (view found)
Finds view (Err fault) said = said ≡ Err fault

-- the same of lines, unless memory ran out
abbrev pub FindsUnless : {A B : Type 0} → (A → B) → Result A LineFault → Result B Unread → Type 0
FindsUnless view (Ok found) said = said ≡ Ok (view found)
FindsUnless view (Err (Left unread)) said = said ≡ Err unread
FindsUnless view (Err OutOfMemory) said = ⊤

-- the slots of a desktop, or where the first bad line begins, are those that a definition says,
-- unless memory ran out
abbrev pub Reads : Result (Vec SlotInfoValue) InfoFault → Result (List SlotInfoValue) BadLine
    → Type 0
Reads (Ok infos) said = said ≡ Ok infos.items
Reads (Err (Bad bad)) said = said ≡ Err bad
Reads (Err NoMemory) said = ⊤
