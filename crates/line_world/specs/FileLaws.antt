-- The files of a handheld's folder go with its device.
use Rattle.std.proofs.Common.{◌≡◌, ℕ, Bool, true, false, List, [], ◌∷◌, ◌++◌, Option, Some, None, refl, ap, subst, ◌∙◌, inl, inr}
use Rattle.std.specs.FinMap as finmap
use Rattle.std.specs.Cmp.Lexicographic.{nat_list_cmp_total}
use Rattle.std.specs.FinMap.{get-insert, get-remove}
use Rattle.std.specs.Option.{option_map}
use Rattle.std.specs.Str.{bytes_eq}
use Rattle.std.proofs.lemmas.Bool.{cond-false}
use Rattle.std.proofs.lemmas.Map.Text.{is_eq-slice_cmp}
use Rattle.hs_folders.specs.FileMaps.{FileMap}
use Rattle.pdb_values.specs.Databases.{DatabaseValue}
use Rattle.folder_files.specs.FileNames.{database_file, device_info_file, is_handheld_file}
use Rattle.folder_files.specs.InfoFiles.{device_text}
use Rattle.palm_device.specs.Devices.{Device}
use Rattle.dlp_commands.specs.DeviceRuns.{Exchange}
use Rattle.handheld_files.proofs.ChangeLaws.{database_file_is}
use Rattle.handheld_files.proofs.StandLaws.{database_is_read, differs}
use Rattle.handheld_store.specs.Files.{files_after}
use Rattle.handheld_server.specs.Keeping.{Touches}
use Rattle.handheld_server.specs.Servers.{ServerValue, store_of}
use Rattle.line_world.specs.Folders.{FilesRan, OthersStay, stored}

-- ---- other names

other_file : (name file : List ℕ) → is_handheld_file name ≡ false → is_handheld_file file ≡ true
    → bytes_eq name file ≡ false
other_file name file unread read =
    differs name file is_handheld_file false true unread read (λ same. absurd cc)

got_insert : (held : FileMap) (file bytes name : List ℕ) → bytes_eq name file ≡ false
    → finmap.get (finmap.insert held file bytes) name ≡ finmap.get held name
got_insert held file bytes name apart =
    get-insert nat_list_cmp_total held file bytes name
    ∙ cond-false _ _ _ (is_eq-slice_cmp name file ∙ apart)

got_remove : (held : FileMap) (file name : List ℕ) → bytes_eq name file ≡ false
    → finmap.get (finmap.remove held file) name ≡ finmap.get held name
got_remove held file name apart =
    get-remove nat_list_cmp_total held file name
    ∙ cond-false _ _ _ (is_eq-slice_cmp name file ∙ apart)

in_told : (change : FileMap → FileMap) (told : Option FileMap) (name : List ℕ)
    → ((held : FileMap) → finmap.get (change held) name ≡ finmap.get held name)
    → option_map (λ (held : FileMap). finmap.get held name) (option_map change told)
    ≡ option_map (λ (held : FileMap). finmap.get held name) told
in_told change None name same = refl
in_told change (Some held) name same = ap (λ (f : Option (List ℕ)). Some f) (same held)

after_apart : (old new : Option DatabaseValue) (name : List ℕ) → is_handheld_file name ≡ false
    → (held : FileMap) → finmap.get (files_after old new held) name
    ≡ finmap.get held name
after_apart old (Some database) name unread held =
    got_insert held (database_file database.head) _ name
    (other_file name (database_file database.head) unread
    (database_is_read (database_file database.head) (database_file_is database.head)))
after_apart (Some database) None name unread held =
    got_remove held (database_file database.head) name
    (other_file name (database_file database.head) unread
    (database_is_read (database_file database.head) (database_file_is database.head)))
after_apart None None name unread held = refl

pub others_touched : (written : Bool) (told mid : Option FileMap) (device between : Device)
    → Touches (λ files. files) written (stored told device) (stored mid between)
    → OthersStay told mid
others_touched true told mid device between it name unread =
    ap (λ (t : Option FileMap). option_map (λ (held : FileMap). finmap.get held name) t) it.file
    ∙ in_told (λ (held : FileMap). finmap.insert held device_info_file
    (device_text between.user)) told name
    (λ held. got_insert held device_info_file (device_text between.user) name
    (other_file name device_info_file unread refl))
others_touched false told mid device between it name unread = elim it.file [
  | inl same ↦ ap
      (λ (t : Option FileMap). option_map (λ (held : FileMap). finmap.get held name) t) same.1
  | inr changed ↦ ap
      (λ (t : Option FileMap). option_map (λ (held : FileMap). finmap.get held name) t) changed.1
      ∙ in_told _ told name
      (λ held. after_apart _ _ name unread held)
]

-- ---- steps

pub touches_told : {F : Type 0} (contents : F → Option FileMap) (written : Bool)
    (old new : ServerValue F)
    → Touches contents written (store_of old) (store_of new)
    → Touches (λ files. files) written (stored (contents old.folder) old.device)
    (stored (contents new.folder) new.device)
touches_told contents true old new it = record { file = it.file; databases = it.databases }
touches_told contents false old new it = record {
  name = it.name;
  file = it.file;
  others = it.others;
  user = it.user;
}

pub files_joined : (told mid later : Option FileMap) (device between new : Device)
    (xs ys : List Exchange) → FilesRan told device xs mid between
    → FilesRan mid between ys later new → FilesRan told device (xs ++ ys) later new
files_joined told mid later device between new [] ys first second =
    subst (λ (t : Option FileMap). FilesRan t device ys later new) first.0
    (subst (λ (d : Device). FilesRan mid d ys later new) first.1 second)
files_joined told mid later device between new (x ∷ xs) ys first second = (
  first.0,
  first.1,
  first.2,
  first.3,
  files_joined (first.1) mid later
      (first.0) between new xs ys first.4 second,
)
