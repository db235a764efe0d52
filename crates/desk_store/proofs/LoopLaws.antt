-- One step of a loop over names or databases.
use Rattle.std.proofs.Common.{◌≡◌, ◌+◌, ◌++◌, ◌∙◌, ◌<◌, ◌≤◌, ℕ, zero, suc, Bool, true, false, cond, List, [], ◌∷◌, Option, None, Some, length, take, drop}
use Rattle.std.proofs.Common.{get_or, refl, sym, ap, subst, arith, rules}
use Rattle.std.specs.Prelude.{IfSome, String, codes, filter, map, string_bytes}
use Rattle.std.specs.declared.alloc.Global.{Global}
use Rattle.std.proofs.Math.Seq.{split_at}
use Rattle.std.proofs.lemmas.List.{length-append, length-map, map_push, take-map, take_all, take_more}
use Rattle.std.proofs.lemmas.List.Elements.{filter-append}
use Rattle.hs_folders.specs.FileMaps.{FileMap}
use Rattle.folder_files.specs.FileNames.{has_ending}
use Rattle.desk_store.specs.Finds.{AddsAny, FindsAll, RefusesAmong, RefusesAt, first_bad, rows_count}
use Rattle.desk_store.specs.Shelves.{SlotValue, bad_at, file_at, info_of, slots_in}
use Rattle.desk_store.specs.declared.fault.DeskOpenFault.{DeskOpenFault}
use Rattle.desk_store.proofs.FindLaws.{found_more, refused_among}
use Rattle.std.proofs.lemmas.Grind.{common_steps}
use Rattle.std.proofs.lemmas.Bool.Decides.{nat_tests}

-- one more of a list
pub map_more : {X Y : Type 0} (f : X → Y) (xs : List X) (place : ℕ) {x : X} → place < length xs → x ≡ get_or xs place x
    → take (place + 1) (map f xs) ≡ take place (map f xs) ++ f x ∷ []
map_more f xs place less is = grind (arith, common_steps, nat_tests, take-map, take_more, map_push)

pub all_taken : {X Y : Type 0} (f : X → Y) (xs : List X) (place : ℕ) → length xs ≤ place → take place (map f xs) ≡ map f xs
all_taken f xs place past = grind (arith, common_steps, nat_tests, length-map, take_all)

-- ---- files of rows

one_or_none : (b : Bool) (name : List ℕ) → length (cond b (name ∷ []) []) ≡ cond b 1 0
one_or_none true name = refl
one_or_none false name = refl

pub rows_more : (names : List (String Global)) (place : ℕ) {item : String Global} → place < length names → item ≡ get_or names place item
    → rows_count (take (place + 1) (map string_bytes names)) ≡ rows_count (take place (map string_bytes names)) + cond
    (has_ending (codes ".pdb") (string_bytes item)) 1 0
rows_more names place {item} less is =
    ap rows_count (map_more string_bytes names place less is)
    ∙ (ap length (filter-append (has_ending (codes ".pdb")) (take place (map string_bytes names)) (string_bytes item ∷ []))
    ∙ (length-append (filter (has_ending (codes ".pdb")) (take place (map string_bytes names))) (filter (has_ending (codes ".pdb")) (string_bytes item ∷ []))
    ∙ ap (λ (n : ℕ). rows_count (take place (map string_bytes names)) + n) (one_or_none (has_ending (codes ".pdb") (string_bytes item)) (string_bytes item))))

-- ---- files, where contents are told or not

-- what was found in these files, where contents are told
abbrev pub FindsTold : Option FileMap → List (List ℕ) → List SlotValue → Type 0
FindsTold told names slots = IfSome told (λ held. FindsAll held names slots)

pub told_more : (told : Option FileMap) (names : List (List ℕ)) (file : List ℕ) (old new : List SlotValue) → length old ≤ 16 → FindsTold told names old
    → IfSome told (λ held. AddsAny (file_at held (length old) file) old new) → FindsTold told (names ++ file ∷ []) new
told_more told names file old new few so_far adds = search (rules, found_more)

pub told_refused : (told : Option FileMap) (names : List (List ℕ)) (place : ℕ) {file : List ℕ} (found : List SlotValue) (fault : DeskOpenFault)
    → place < length names → file ≡ get_or names place file → FindsTold told (take place names) found
    → IfSome told (λ held. RefusesAt file (bad_at held (length found) file) fault)
    → IfSome told (λ held. RefusesAmong (first_bad held (length (slots_in held)) names) fault)
told_refused None names place found fault less is so_far refused = tt
told_refused (Some held) names place {file} found fault less is so_far refused =
    let all : names ≡ take place names ++ file ∷ drop (suc place) names = split_at names place file less
    ∙ ap (λ (n : List ℕ). take place names ++ n ∷ drop (suc place) names) (sym is) in
    let count : length found ≡ length (slots_in held) = sym (length-map found info_of) ∙ ap length so_far.marked in
    subst (λ (n : ℕ). RefusesAmong (first_bad held n names) fault) count
    (subst (λ (ns : List (List ℕ)). RefusesAmong (first_bad held (length found) ns) fault) (sym all)
    (refused_among held (length found) (take place names) (drop (suc place) names) file fault so_far.good refused))

-- an item of a list, mapped
pub mapped_at : {X Y : Type 0} (f : X → Y) (xs : List X) (place : ℕ) {x : X} → place < length xs → x ≡ get_or xs place x → f x ≡ get_or (map f xs) place (f x)
mapped_at f [] place less is = absurd (omega arith)
mapped_at f (y ∷ ys) zero less is = ap f is
mapped_at f (y ∷ ys) (suc place) less is = mapped_at f ys place (omega arith) is
