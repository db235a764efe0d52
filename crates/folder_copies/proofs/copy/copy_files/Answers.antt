use Rattle.std.proofs.Common.{◌≡◌, ◌-◌, ◌^◌, false, true, Global, List, ℕ, map, subst}
use Rattle.std.specs.Prelude.{IfSome, None, Option, Some, cond, string_bytes}
use Rattle.std.specs.FinMap as finmap
use Rattle.hs_folders.specs.Causes.{Rose}
use Rattle.hs_folders.specs.FileMaps.{FileMap}
use Rattle.hs_folders.specs.FileTrees.{file_map}
use Rattle.folder_copies.specs.Copies.{HoldsNamed, IsCopy}
use Rattle.folder_copies.specs.declared.copied_folder.CopiedFolder.{CopiedFolder}
use Rattle.folder_copies.proofs.CopyLaws.{both_answered, copied_as, rose_before}
use Rattle.folder_copies.proofs.copy.copy_files.Goals as goal

pub returns-in-Ok-clause-copied : goal.returns-in-Ok-clause-copied
returns-in-Ok-clause-copied g c =
    let told : Option FileMap = g.F.Folder.contents c.args.folder.now in
    let names : List (List ℕ) = map (string_bytes {Z = Global}) c.in-Ok.names.items in
    let first : ℕ = g.F.Folder.faults c.args.folder.now in
    let mid : ℕ = g.F.Folder.faults c.list.new.self in
    let last : ℕ = g.F.Folder.faults c.copy_named.new.folder in
    both_answered (λ (copy : CopiedFolder). copy.failed ≡ false → IfSome (g.F.Folder.contents c.list.new.self)
    (λ held. HoldsNamed (map (string_bytes {Z = Global}) c.deref.result.now) held (Some (file_map copy.held.files))))
    (λ (copy : CopiedFolder). copy.failed ≡ true → Rose mid last)
    (λ (copy : CopiedFolder). IsCopy told first last (cond copy.failed None (Some (file_map copy.held.files)))) c.copy_named.result
    (λ copy holds rose. copied_as told names copy.failed (Some (file_map copy.held.files)) first last c.in-Ok.ensures.names
    (λ well. subst (λ (t : Option FileMap). IfSome t (λ held. HoldsNamed names held (Some (file_map copy.held.files)))) c.in-Ok.ensures.contents
    (subst (λ ns. IfSome (g.F.Folder.contents c.list.new.self) (λ held. HoldsNamed (map (string_bytes {Z = Global}) ns) held (Some (file_map copy.held.files))))
    c.deref.ensures.value (holds well)))
    (λ failed. rose_before (2 ^ 64 - 1) first mid last c.in-Ok.ensures.cause.later (rose failed)))
    c.copy_named.ensures.copied c.copy_named.ensures.failed
