-- Whether a folder lists a file.
use Rattle.std.proofs.Common.{◌≡◌, ◌||◌, ℕ, Bool, List, [], ◌∷◌, map, refl, sym, subst, ap, ◌∙◌, Option, Some, None, String, Global, string_bytes}
use Rattle.std.specs.Prelude.{IfSome, bytes_eq}
use Rattle.std.specs.FinMap as finmap
use Rattle.std.specs.List.{list_any}
use Rattle.std.specs.Ordering.{eq_by_cmp, nat_cmp}
use Rattle.std.specs.Cmp.Lexicographic.{slice_cmp}
use Rattle.std.proofs.lemmas.Map.Text.{is_eq-slice_cmp}
use Rattle.hs_folders.specs.FileMaps.{FileMap}
use Rattle.folder_files.specs.FileNames.{desktop_info_file, device_info_file, journal_file}
use Rattle.call_parts.specs.Files.{is_synced, lists_synced}
use Rattle.desk_journal.proofs.EntryLaws.{list_any-map}

same_test : (name : List ℕ) (names : List (List ℕ)) → list_any (eq_by_cmp (slice_cmp nat_cmp) name) names ≡ list_any (bytes_eq name) names
same_test name [] = refl
same_test name (first ∷ names) = ap (λ (b : Bool). b || list_any (eq_by_cmp (slice_cmp nat_cmp) name) names) (is_eq-slice_cmp name first)
    ∙ ap (λ (b : Bool). bytes_eq name first || b) (same_test name names)

-- a name is among those that a folder lists exactly where it has the file
pub listed-has : (told : Option FileMap) (names : List (String Global)) (name : List ℕ) {found : Bool}
    → IfSome told (λ held. map string_bytes names ≡ finmap.keys held) → found ≡ list_any (λ other. bytes_eq name (string_bytes other)) names
    → IfSome told (λ held. finmap.contains_key held name ≡ found)
listed-has None names name keys is = keys
listed-has (Some held) names name keys is =
    finmap.contains_key-keys held name ∙ same_test name (finmap.keys held) ∙ ap (list_any (bytes_eq name)) (sym keys)
    ∙ list_any-map (bytes_eq name) string_bytes names ∙ sym is

synced-is : (told : Option FileMap) (one two three : Bool) → IfSome told (λ held. finmap.contains_key held desktop_info_file ≡ one)
    → IfSome told (λ held. finmap.contains_key held device_info_file ≡ two) → IfSome told (λ held. finmap.contains_key held journal_file ≡ three)
    → IfSome told (λ files. is_synced files ≡ (one || (two || three)))
synced-is None one two three a b c = tt
synced-is (Some held) one two three a b c =
    ap (λ (x : Bool). x || (finmap.contains_key held device_info_file || finmap.contains_key held journal_file)) a
    ∙ ap (λ (x : Bool). one || (x || finmap.contains_key held journal_file)) b ∙ ap (λ (x : Bool). one || (two || x)) c

-- names list a file of a folder that is synchronised exactly where it is there
pub listed-synced : (told : Option FileMap) (names : List (String Global)) {found : Bool} → IfSome told (λ held. map string_bytes names ≡ finmap.keys held)
    → found ≡ lists_synced names → IfSome told (λ files. is_synced files ≡ found)
listed-synced told names keys is =
    subst (λ (b : Bool). IfSome told (λ files. is_synced files ≡ b)) (sym is)
    (synced-is told (list_any (λ other. bytes_eq desktop_info_file (string_bytes other)) names)
    (list_any (λ other. bytes_eq device_info_file (string_bytes other)) names) (list_any (λ other. bytes_eq journal_file (string_bytes other)) names)
    (listed-has told names desktop_info_file keys refl) (listed-has told names device_info_file keys refl)
    (listed-has told names journal_file keys refl))
