-- What the information file says, or that it is missing.
use Rattle.std.proofs.Common.{◌∙◌, ℕ, List, Some, Result, Err, ap}
use Rattle.std.specs.Global.{Vec}
use Rattle.hs_folders.specs.declared.faults.FolderFault.{FolderFault}
use Rattle.folder_files.specs.InfoFiles.{desktop_in}
use Rattle.desk_store.specs.Shelves.{slots_or_first}
use Rattle.desk_store.proofs.OpenLaws.{told_info, told_missing}
use Rattle.desk_store.proofs.opening.read_infos.Goals as goal

pub returns-in_ok-slots-in-Ok-clause-slots : goal.returns-in_ok-slots-in-Ok-clause-slots
returns-in_ok-slots-in-Ok-clause-slots g c =
    told_info (g.F.Folder.contents c.args.folder.now) c.in-Ok.bytes.items c.in-Ok.ensures.bytes
    (c.in_ok-slots-in-Ok.ensures.slots ∙ ap (λ (bytes : List ℕ). slots_or_first (Some (desktop_in bytes))) c.deref.ensures.value)

pub returns-in_ok-slots-in-Err-Missing-clause-slots : goal.returns-in_ok-slots-in-Err-Missing-clause-slots
returns-in_ok-slots-in-Err-Missing-clause-slots g c =
    told_missing (g.F.Folder.contents c.args.folder.now)
    (c.in-Err-Missing.ensures.missing (ap (λ (fault : FolderFault). let r : Result (Vec ℕ) FolderFault = Err fault in r) c.in-Err-Missing.field-0-is))
    c.in_ok-slots-in-Err-Missing.ensures.slots
