use Rattle.std.proofs.Common.{◌≡◌, ◌∙◌, ◌≤◌, Global, List, ℕ, ap, arith, map, subst}
use Rattle.std.specs.Prelude.{IfSome, Option, count_by, string_bytes}
use Rattle.hs_folders.specs.FileMaps.{FileMap}
use Rattle.handheld_files.specs.Openings.{among}
use Rattle.backup_files.specs.BackupFolders.{AreBackups}
use Rattle.backup_files.specs.BackupNames.{is_backup}
use Rattle.backup_files.proofs.ReadLaws.{holds_all}
use Rattle.backup_files.proofs.reading.read_backups.Goals as goal

pub returns-clause-held : goal.returns-clause-held
returns-clause-held g c =
    let told : Option FileMap = g.F.Folder.contents c.args.folder.now in
    let names : List (List ℕ) = map (string_bytes {Z = Global}) c.in_ok-names.names.items in
    let databases = c.in_ok-found.found.databases.items in
    let counted : c.count_backups.result ≡ count_by is_backup names = c.count_backups.ensures
    ∙ ap (λ ns. count_by is_backup (map (string_bytes {Z = Global}) ns)) c.deref.ensures.value in
    let few : count_by is_backup names ≤ 200 = omega (arith, counted) in
    let are : IfSome told (λ held. AreBackups (among names held) databases) =
    subst (λ t. IfSome t (λ held. AreBackups (among names held) databases)) c.in_ok-names.ensures.contents
    (subst (λ ns. IfSome (g.F.Folder.contents c.list.new.self) (λ held. AreBackups (among (map (string_bytes {Z = Global}) ns) held) databases))
    c.deref-2.ensures.value c.in_ok-found.ensures.found) in
    holds_all told names databases c.in_ok-names.ensures.names few are
