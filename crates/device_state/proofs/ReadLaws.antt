-- How a folder grows file by file, up to the end of a list.
use Rattle.std.proofs.Common.{◌≡◌, ◌∙◌, ◌^◌, ◌<◌, ℕ, Bool, true, false, cond, List, [], ◌∷◌, ◌++◌, length, ap, arith, refl, subst, sym}
use Rattle.std.specs.Prelude.{None, Option, Some, is_some}
use Rattle.std.specs.Cmp.{eq_by_cmp_equiv}
use Rattle.std.specs.Cmp.Lexicographic.{nat_list_cmp_total, slice_cmp}
use Rattle.std.specs.FinMap as finmap
use Rattle.std.specs.FinMap.Entries.{find-append}
use Rattle.std.specs.Option.{option_map}
use Rattle.std.specs.Ordering.{nat_cmp}
use Rattle.std.specs.Str.{is_utf8}
use Rattle.std.proofs.lemmas.List.{append_assoc, append-nil, length-append, map-append}
use Rattle.std.proofs.lemmas.List.Concat.{flat_map-append}
use Rattle.std.proofs.lemmas.List.Elements.{All-contains, Contains-append_right}
use Rattle.hs_folders.specs.FileMaps.{FileMap}
use Rattle.device_state.specs.Lists.{IsFileList, NamedFile, file_text, held_of, list_text}
use Rattle.device_state.proofs.FileLaws.{file_text-injective, list_text-front}
use Rattle.device_state.proofs.HeldLaws.{IsFileList-push, bytes_of, bytes_of-before, entries_of, held_of-push, is_name}

-- the bytes up to the rest are a list of files, a folder holds these, and a set has their names
pub record ReadsUpTo (bytes rest : List ℕ) (contents : Option FileMap) (has : List ℕ → Bool) : Type 0 where
  pub files : List NamedFile
  pub form : IsFileList files
  pub text : bytes ≡ list_text files ++ rest
  pub held : contents ≡ Some (held_of files)
  pub names : (name : List ℕ) → has name ≡ is_some (bytes_of files name)

no_bytes : (o : Option (List ℕ)) → is_some o ≡ false → o ≡ None
no_bytes None none = refl
no_bytes (Some bytes) none = absurd cc

is_some-cond : (b : Bool) (bytes : List ℕ) (o : Option (List ℕ)) → cond b true (is_some o) ≡ is_some (cond b (Some bytes) o)
is_some-cond true bytes o = refl
is_some-cond false bytes o = refl

-- with one more
pub ReadsUpTo-next : (bytes rest behind : List ℕ) (file : NamedFile) {contents next : Option FileMap} (has had : List ℕ → Bool)
    → ReadsUpTo bytes rest contents had → rest ≡ file_text file ++ behind → is_utf8 file.name ≡ true → had file.name ≡ false
    → next ≡ option_map (λ held. finmap.insert held file.name file.bytes) contents
    → ((name : List ℕ) → has name ≡ cond (is_name file.name name) true (had name)) → ReadsUpTo bytes behind next has
ReadsUpTo-next bytes rest behind file has had so_far front text other puts adds =
    let files = so_far.files in
    let new : bytes_of files file.name ≡ None = no_bytes (bytes_of files file.name) (sym (so_far.names file.name) ∙ other) in
    record {
      files = files ++ file ∷ [];
      form = IsFileList-push files file so_far.form text new;
      text = so_far.text ∙ ap (λ back. list_text files ++ back) front ∙ sym (append_assoc (list_text files) (file_text file) behind)
          ∙ ap (λ whole. whole ++ behind) (ap (λ last. list_text files ++ last) (sym (append-nil (file_text file)))
          ∙ sym (flat_map-append file_text files (file ∷ [])));
      held = puts ∙ ap (option_map (λ held. finmap.insert held file.name file.bytes)) so_far.held ∙ ap Some (sym (held_of-push files file new));
      names = λ name.
          adds name ∙ ap (λ b. cond (is_name file.name name) true b) (so_far.names name)
          ∙ ap (λ b. cond b true (is_some (bytes_of files name))) ((eq_by_cmp_equiv nat_list_cmp_total).symm file.name name)
          ∙ is_some-cond (is_name name file.name) file.bytes (bytes_of files name)
          ∙ ap is_some (sym (ap (finmap.find (slice_cmp nat_cmp) name) (map-append (λ (f : NamedFile). (f.name, f.bytes)) files (file ∷ []))
          ∙ find-append (slice_cmp nat_cmp) nat_list_cmp_total (entries_of files) file.name file.bytes name new));
    }

-- the file that stands behind these in a list of all
pub record StandsNext (files : List NamedFile) (rest : List ℕ) : Type 0 where
  pub file : NamedFile
  pub behind : List ℕ
  pub text : rest ≡ file_text file ++ behind
  pub utf8 : is_utf8 file.name ≡ true
  pub new : bytes_of files file.name ≡ None

next_of : (files all more : List NamedFile) (rest : List ℕ) → 0 < length rest → IsFileList all → all ≡ files ++ more → rest ≡ list_text more
    → StandsNext files rest
next_of files all [] rest some form is text = absurd (omega (arith, ap length text))
next_of files all (file ∷ more) rest some form is text =
    let split = subst IsFileList is form in
    record {
      file = file;
      behind = list_text more;
      text = text;
      utf8 = All-contains (λ (f : NamedFile). is_utf8 f.name ≡ true) (files ++ file ∷ more) file split.utf8
          (Contains-append_right files (file ∷ more) file (0, omega arith, refl));
      new = bytes_of-before files more file split.once;
    }

pub stands_next : (bytes rest : List ℕ) (files all : List NamedFile) → length bytes < 2 ^ 64 → 0 < length rest → bytes ≡ list_text files ++ rest
    → IsFileList all → bytes ≡ list_text all → StandsNext files rest
stands_next bytes rest files all short some text form same =
    let on = list_text-front files all rest (omega (arith, ap length same)) (sym text ∙ same) in
    next_of files all on.more rest some form on.is on.text

-- where no file stands next, the bytes are of no list
pub ends_early : (bytes rest : List ℕ) {contents : Option FileMap} (has : List ℕ → Bool) → ReadsUpTo bytes rest contents has → length bytes < 2 ^ 64
    → 0 < length rest → ((file : NamedFile) (behind : List ℕ) → is_utf8 file.name ≡ true → ¬ (rest ≡ file_text file ++ behind))
    → (all : List NamedFile) → IsFileList all → ¬ (bytes ≡ list_text all)
ends_early bytes rest has so_far short some none all form same =
    let next = stands_next bytes rest so_far.files all short some so_far.text form same in
    none next.file next.behind next.utf8 next.text

-- where a name stands again, neither
pub stands_twice : (bytes rest behind : List ℕ) (file : NamedFile) {contents : Option FileMap} (has : List ℕ → Bool) → ReadsUpTo bytes rest contents has
    → length bytes < 2 ^ 64 → 0 < length rest → rest ≡ file_text file ++ behind → has file.name ≡ true
    → (all : List NamedFile) → IsFileList all → ¬ (bytes ≡ list_text all)
stands_twice bytes rest behind file has so_far short some front again all form same =
    let next = stands_next bytes rest so_far.files all short some so_far.text form same in
    let fits : length rest < 2 ^ 64 = omega (arith, ap length so_far.text, length-append (list_text so_far.files) rest) in
    let one = file_text-injective file next.file behind next.behind (omega (arith, ap length front)) (sym front ∙ next.text) in
    let new : bytes_of so_far.files file.name ≡ None = rw one.0 next.new in
    let found : is_some (bytes_of so_far.files file.name) ≡ true = sym (so_far.names file.name) ∙ again in
    let none : is_some (bytes_of so_far.files file.name) ≡ false = ap is_some new in
    absurd cc
