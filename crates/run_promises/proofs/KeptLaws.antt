-- A session writes no file of a database that it skips.
use Rattle.std.proofs.Common.{◌≡◌, ◌∙◌, ap, refl, sym, subst, inl, inr, ℕ, Bool, true, false, List, [], ◌∷◌, ◌++◌, if◌then◌else◌}
use Rattle.std.specs.Prelude.{Option, Some, None, is_none}
use Rattle.std.specs.FinMap as finmap
use Rattle.std.specs.FinMap.{get-insert, get-remove}
use Rattle.std.specs.Cmp.Lexicographic.{nat_list_cmp_total}
use Rattle.std.specs.List.{list_any}
use Rattle.std.specs.Option.{option_map}
use Rattle.std.specs.Str.{bytes_eq}
use Rattle.std.proofs.lemmas.Bool.{cond-false}
use Rattle.std.proofs.lemmas.Map.Text.{is_eq-slice_cmp}
use Rattle.hs_folders.specs.FileMaps.{FileMap}
use Rattle.pdb_values.specs.Databases.{DatabaseValue}
use Rattle.pdb_values.specs.Heads.{holds_resources}
use Rattle.pdb_values.specs.NamedDatabases.{database_of}
use Rattle.pdb_values.specs.declared.head.DbHead.{DbHead}
use Rattle.pdb_values.proofs.NamedLaws.{bytes_eq-other, database_of-name}
use Rattle.palm_device.specs.Devices.{Device}
use Rattle.dlp_commands.specs.DeviceRuns.{Exchange, Ran}
use Rattle.folder_files.specs.FileNames.{database_file, device_info_file, resources_file, rows_file}
use Rattle.folder_files.specs.InfoFiles.{device_text}
use Rattle.handheld_store.specs.Files.{files_after}
use Rattle.handheld_server.specs.Keeping.{Touches, wrote_user}
use Rattle.line_world.specs.Folders.{FilesRan, stored}
use Rattle.session_plan.specs.Skips.{skip_of}
use Rattle.session_plan.specs.Tasks.{Meeting, names, task_of}
use Rattle.front_laws.specs.Meetings.{IsActive}
use Rattle.run_promises.specs.Kept.{IsFileOfName, IsLeftAlone, KeepsBytes, bytes_under}

-- ---- one file

kept-insert : (held : FileMap) (file bytes name : List ℕ) → (name ≡ file → ⊥) → finmap.get (finmap.insert held file bytes) name ≡ finmap.get held name
kept-insert held file bytes name other =
    get-insert nat_list_cmp_total held file bytes name ∙ cond-false _ _ _ (is_eq-slice_cmp name file ∙ bytes_eq-other name file other)

kept-remove : (held : FileMap) (file name : List ℕ) → (name ≡ file → ⊥) → finmap.get (finmap.remove held file) name ≡ finmap.get held name
kept-remove held file name other =
    get-remove nat_list_cmp_total held file name ∙ cond-false _ _ _ (is_eq-slice_cmp name file ∙ bytes_eq-other name file other)

in_told : (change : FileMap → FileMap) (told : Option FileMap) (file : List ℕ) → ((held : FileMap) → finmap.get (change held) file ≡ finmap.get held file)
    → bytes_under file (option_map change told) ≡ bytes_under file told
in_told change None file same = refl
in_told change (Some held) file same = ap (λ (f : Option (List ℕ)). Some f) (same held)

file-by : (b : Bool) (name : List ℕ) → IsFileOfName name (if b then resources_file name else rows_file name)
file-by true name = inr refl
file-by false name = inl refl

-- the file of a database is one of its name
file-is : (head : DbHead) → IsFileOfName head.name (database_file head)
file-is head = file-by (holds_resources head.attributes) head.name

-- ---- one step

other-file : (meeting : Meeting) (file name : List ℕ) (head : DbHead) → IsLeftAlone meeting file → IsActive meeting name → head.name ≡ name
    → file ≡ database_file head → ⊥
other-file meeting file name head alone active named is =
    alone.of_none name active (subst (λ (n : List ℕ). IsFileOfName n file) named (subst (IsFileOfName head.name) (sym is) (file-is head)))

after-apart : (meeting : Meeting) (file name : List ℕ) (old new : Option DatabaseValue) → IsLeftAlone meeting file → IsActive meeting name
    → ((d : DatabaseValue) → old ≡ Some d → d.head.name ≡ name) → ((d : DatabaseValue) → new ≡ Some d → d.head.name ≡ name)
    → (held : FileMap) → finmap.get (files_after old new held) file ≡ finmap.get held file
after-apart meeting file name old (Some d) alone active old_named new_named held =
    kept-insert held (database_file d.head) _ file (other-file meeting file name d.head alone active (new_named d refl))
after-apart meeting file name (Some d) None alone active old_named new_named held =
    kept-remove held (database_file d.head) file (other-file meeting file name d.head alone active (old_named d refl))
after-apart meeting file name None None alone active old_named new_named held = refl

-- a database that changed is one that isn't skipped
active-by : (meeting : Meeting) (name : List ℕ) (there kept : Bool) → list_any (λ other. bytes_eq other name) (names meeting) ≡ there
    → is_none (skip_of (task_of meeting name)) ≡ kept → ((IsActive meeting name → ⊥) → ⊥) → IsActive meeting name
active-by meeting name true true is_there is_kept some = record { there = is_there; kept = is_kept }
active-by meeting name false kept is_there is_kept some = absurd (some (λ active. no_truth (sym is_there ∙ active.there)))
  where
    no_truth : false ≡ true → ⊥
    no_truth e = cc
active-by meeting name true false is_there is_kept some = absurd (some (λ active. no_truth (sym is_kept ∙ active.kept)))
  where
    no_truth : false ≡ true → ⊥
    no_truth e = cc

-- a device has the skipped databases of the meeting's
abbrev pub HasSkipped : Meeting → Device → Type 0
HasSkipped meeting device =
    (name : List ℕ) → (IsActive meeting name → ⊥) → database_of name device.databases ≡ database_of name meeting.device.databases

kept-touched : (meeting : Meeting) (written : Bool) (told mid : Option FileMap) (device between : Device)
    → Touches (λ files. files) written (stored told device) (stored mid between) → HasSkipped meeting device → HasSkipped meeting between
    → KeepsBytes meeting told mid
kept-touched meeting true told mid device between it first second file alone =
    ap (bytes_under file) it.file
    ∙ in_told (λ (held : FileMap). finmap.insert held device_info_file (device_text between.user)) told file
    (λ held. kept-insert held device_info_file (device_text between.user) file alone.no_info)
kept-touched meeting false told mid device between it first second file alone = elim it.file [
  | inl same ↦ ap (bytes_under file) same.1
  | inr changed ↦
      let name = it.name in
      let active = active-by meeting name (list_any (λ other. bytes_eq other name) (names meeting)) (is_none (skip_of (task_of meeting name))) refl refl
      (λ skipped. changed.0 (second name skipped ∙ sym (first name skipped))) in
      ap (bytes_under file) changed.1
      ∙ in_told _ told file (λ held. after-apart meeting file name (database_of name device.databases) (database_of name between.databases) alone active
      (λ d is. database_of-name name device.databases d is) (λ d is. database_of-name name between.databases d is) held)
]

-- ---- all steps

-- behind each beginning of exchanges the device has them
abbrev pub KeepsSkipped : Meeting → Device → List Exchange → Type 0
KeepsSkipped meeting device exchanges =
    (front back : List Exchange) (reached : Device) → exchanges ≡ front ++ back → Ran device front reached → HasSkipped meeting reached

pub kept-ran : (meeting : Meeting) (exchanges : List Exchange) (told later : Option FileMap) (device new : Device)
    → FilesRan told device exchanges later new → KeepsSkipped meeting device exchanges → KeepsBytes meeting told later
kept-ran meeting [] told later device new ran all file alone = ap (bytes_under file) ran.0
kept-ran meeting (x ∷ xs) told later device new ran all file alone =
    let between = ran.0 in
    let mid = ran.1 in
    let first = all [] (x ∷ xs) device refl refl in
    let second = all (x ∷ []) xs between refl (between, ran.2, refl) in
    kept-ran meeting xs mid later between new ran.4
    (λ front back reached is run. all (x ∷ front) back reached (ap (λ (es : List Exchange). x ∷ es) is) (between, ran.2, run)) file alone
    ∙ kept-touched meeting (wrote_user x.request x.reply) told mid device between ran.3 first second file alone
