-- Files one behind the other: one list to the bytes.
use Rattle.std.proofs.Common.{◌≡◌, ◌∙◌, ◌+◌, ◌^◌, ◌<◌, List, [], ◌∷◌, ◌++◌, length, ℕ, ap, arith, refl, sym}
use Rattle.std.proofs.lemmas.List.{append_assoc, append-nil, length-append}
use Rattle.device_state.specs.Lists.{NamedFile, file_text, list_text}
use Rattle.device_state.specs.Strings.{string_text}
use Rattle.device_state.proofs.StringLaws.{length-string_text, string_text-injective}

-- a file is sixteen bytes longer than its name and its bytes
pub length-file_text : (file : NamedFile) → length (file_text file) ≡ length file.name + length file.bytes + 16
unfolding file_text
length-file_text file =
    omega (arith, length-append (string_text file.name) (string_text file.bytes), length-string_text file.name, length-string_text file.bytes)

-- the name stands first
pub file_text-append : (file : NamedFile) (rest : List ℕ) → file_text file ++ rest ≡ string_text file.name ++ (string_text file.bytes ++ rest)
unfolding file_text
file_text-append file rest = append_assoc (string_text file.name) (string_text file.bytes) rest

length_with : (file : NamedFile) (rest : List ℕ) → length (file_text file ++ rest) ≡ length file.name + length file.bytes + 16 + length rest
length_with file rest = omega (arith, length-append (file_text file) rest, length-file_text file)

-- bytes that begin with a file begin with no other one
pub file_text-injective : (file other : NamedFile) (rest behind : List ℕ) → length (file_text file ++ rest) < 2 ^ 64
    → file_text file ++ rest ≡ file_text other ++ behind → (file ≡ other) × (rest ≡ behind)
file_text-injective file other rest behind short same =
    let one = length_with file rest in
    let two = length_with other behind in
    let equal : length (file_text file ++ rest) ≡ length (file_text other ++ behind) = ap length same in
    let names = string_text-injective file.name other.name (string_text file.bytes ++ rest) (string_text other.bytes ++ behind) (omega arith) (omega arith)
    (sym (file_text-append file rest) ∙ same ∙ file_text-append other behind) in
    let bytes = string_text-injective file.bytes other.bytes rest behind (omega arith) (omega arith) names.1 in
    (λ i. record { name = names.0 i; bytes = bytes.0 i }, bytes.1)

-- all files are these and more, which the rest of the bytes says
pub record GoesOn (files all : List NamedFile) (rest : List ℕ) : Type 0 where
  pub more : List NamedFile
  pub is : all ≡ files ++ more
  pub text : rest ≡ list_text more

-- bytes of a list that begin with files are of a list that begins with these
pub list_text-front : (files all : List NamedFile) (rest : List ℕ) → length (list_text all) < 2 ^ 64 → list_text files ++ rest ≡ list_text all
    → GoesOn files all rest
list_text-front [] all rest short same = record { more = all; is = refl; text = same }
list_text-front (file ∷ files) [] rest short same =
    absurd (omega (arith, ap length same, ap length (append_assoc (file_text file) (list_text files) rest), length_with file (list_text files ++ rest)))
list_text-front (file ∷ files) (other ∷ all) rest short same =
    let split : file_text file ++ (list_text files ++ rest) ≡ file_text other ++ list_text all =
    sym (append_assoc (file_text file) (list_text files) rest) ∙ same in
    let both = file_text-injective file other (list_text files ++ rest) (list_text all) (omega (arith, ap length split)) split in
    let later = list_text-front files all rest (omega (arith, length_with other (list_text all))) both.1 in
    record { more = later.more; is = λ i. sym both.0 i ∷ later.is i; text = later.text }

-- no files, no bytes
no_files : (files : List NamedFile) → [] ≡ list_text files → files ≡ []
no_files [] same = refl
no_files (file ∷ files) same = absurd (omega (arith, ap length same, length_with file (list_text files)))

-- bytes are those of one list
pub list_text-injective : (files others : List NamedFile) → length (list_text files) < 2 ^ 64 → list_text files ≡ list_text others → files ≡ others
list_text-injective files others short same =
    let on = list_text-front files others [] (omega (arith, ap length same)) (append-nil (list_text files) ∙ same) in
    sym (on.is ∙ ap (λ more. files ++ more) (no_files on.more on.text) ∙ append-nil files)

-- a file's name and what stands behind it, of bytes that begin with a string
pub names_of : (file : NamedFile) (name rest behind : List ℕ) {bytes : List ℕ} → length bytes < 2 ^ 64 → bytes ≡ file_text file ++ rest
    → bytes ≡ string_text name ++ behind → (name ≡ file.name) × (behind ≡ string_text file.bytes ++ rest)
names_of file name rest behind short whole front =
    let one = length_with file rest in
    let two = length-append (string_text name) behind in
    let three = length-string_text name in
    string_text-injective name file.name behind (string_text file.bytes ++ rest) (omega (arith, ap length front)) (omega (arith, ap length whole))
    (sym front ∙ whole ∙ file_text-append file rest)
