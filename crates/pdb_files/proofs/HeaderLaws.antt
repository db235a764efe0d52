-- Headers: what is read of one that was written, and what is written of one that was read.
use Rattle.std.proofs.Common.{◌≡◌, ℕ, suc, ◌+◌, ◌^◌, ◌<◌, ◌≤◌, List, ◌∷◌, ◌++◌, length, take, drop, Some, refl, sym, ap, subst, ◌∙◌, append_assoc}
use Rattle.std.proofs.Common.{arith}
use Rattle.std.specs.Prelude.{position, unwrap_or}
use Rattle.std.proofs.lemmas.List.{length-append, length-drop, length-take, take_at, take-append-drop, take-take}
use Rattle.std.proofs.lemmas.List.Quantifiers.{position-Some}
use Rattle.byteorder.specs.Endian.{big_bytes}
use Rattle.pdb_values.specs.declared.head.DbHead.{DbHead}
use Rattle.pdb_values.specs.Names.{IsName}
use Rattle.pdb_files.specs.Fields.{number_at, code_at}
use Rattle.pdb_files.specs.Headers.{is_zero, name_end, header_text, attributes_place, app_place, sort_place, next_list_place, count_place}
use Rattle.pdb_files.specs.Reading.{head_in}
use Rattle.pdb_files.specs.Files.{FitsHeader}
use Rattle.pdb_files.proofs.NameLaws.{position-zero, name_before, field_around}
use Rattle.pdb_files.proofs.Numbers.{IsBytes, behind, cut_number, cut_code, number_at-written, number_at-fits, code_at-written, length-code_at}

-- the fields of a header, one after the other
regroup : (a b c d e f g h i j k l m n rest : List ℕ)
    → (a ++ b ++ c ++ d ++ e ++ f ++ g ++ h ++ i ++ j ++ k ++ l ++ m ++ n)
    ++ rest ≡ a ++ (b ++ (c ++ (d ++ (e ++ (f ++ (g ++ (h ++ (i ++ (j ++ (k ++ (l ++ (m ++ (n ++ rest)))))))))))))
regroup a b c d e f g h i j k l m n rest = simp append_assoc

long_from : (wanted place : ℕ) (bytes rest : List ℕ) → drop place bytes ≡ rest → wanted ≤ place + length rest → 0 < length rest → wanted ≤ length bytes
long_from wanted place bytes rest at le some = grind (arith, length-drop)

-- what is read of a file that begins with the header of this head
pub record ReadsHeader (head : DbHead) (app sort count : ℕ) (bytes rest : List ℕ) : Type 0 where
  pub ends_name : name_end bytes ≡ Some (length head.name)
  pub reads_head : head_in bytes ≡ head
  pub reads_attributes : number_at 2 attributes_place bytes ≡ head.attributes
  pub reads_app : number_at 4 app_place bytes ≡ app
  pub reads_sort : number_at 4 sort_place bytes ≡ sort
  pub alone : number_at 4 next_list_place bytes ≡ 0
  pub reads_count : number_at 2 count_place bytes ≡ count
  pub behind : drop 78 bytes ≡ rest
  pub long : 78 ≤ length bytes

pub header-written : (head : DbHead) (after_name : List ℕ) (app sort count : ℕ) (bytes rest : List ℕ)
    → bytes ≡ header_text head after_name app sort count ++ rest
    → length head.name + 1 + length after_name ≡ 32
    → FitsHeader head → app < 2 ^ 32 → sort < 2 ^ 32 → count < 2 ^ 16 → ReadsHeader head app sort count bytes rest
unfolding header_text head_in
header-written head after_name app sort count bytes rest text field fits small_app small_sort small_count =
    let name = head.name ++ 0 ∷ after_name in
    let size : length name ≡ 32 = omega (arith, length-append head.name (0 ∷ after_name)) in
    let d0 = text ∙ regroup name (big_bytes 2 head.attributes)
    (big_bytes 2 head.version) (big_bytes 4 head.created) (big_bytes 4 head.modified) (big_bytes 4 head.backup) (big_bytes 4 head.modnum)
    (big_bytes 4 app) (big_bytes 4 sort) head.kind.0 head.creator.0 (big_bytes 4 head.seed) (big_bytes 4 0) (big_bytes 2 count) rest in
    let d32 = behind 0 32 bytes name _ d0 size in
    let d34 = behind 32 2 bytes (big_bytes 2 head.attributes) _ d32 refl in
    let d36 = behind 34 2 bytes (big_bytes 2 head.version) _ d34 refl in
    let d40 = behind 36 4 bytes (big_bytes 4 head.created) _ d36 refl in
    let d44 = behind 40 4 bytes (big_bytes 4 head.modified) _ d40 refl in
    let d48 = behind 44 4 bytes (big_bytes 4 head.backup) _ d44 refl in
    let d52 = behind 48 4 bytes (big_bytes 4 head.modnum) _ d48 refl in
    let d56 = behind 52 4 bytes (big_bytes 4 app) _ d52 refl in
    let d60 = behind 56 4 bytes (big_bytes 4 sort) _ d56 refl in
    let d64 = behind 60 4 bytes head.kind.0 _ d60 fits.kind in
    let d68 = behind 64 4 bytes head.creator.0 _ d64 fits.creator in
    let d72 = behind 68 4 bytes (big_bytes 4 head.seed) _ d68 refl in
    let d76 = behind 72 4 bytes (big_bytes 4 0) _ d72 refl in
    let d78 = behind 76 2 bytes (big_bytes 2 count) rest d76 refl in
    let front : take 32 bytes ≡ name = ap (take 32) d0 ∙ take_at name _ 32 size in
    let end : name_end bytes ≡ Some (length head.name) = ap (position is_zero) front ∙ position-zero head.name after_name fits.name.nonzero in
    let named : take (unwrap_or (name_end bytes) 0) bytes ≡ head.name =
    ap (λ place. take (unwrap_or place 0) bytes) end
    ∙ ap (take (length head.name)) (d0 ∙ append_assoc head.name (0 ∷ after_name) _) ∙ take_at head.name _ (length head.name) refl in
    let attributes = number_at-written 2 32 head.attributes bytes _ d32 fits.attributes in
    let version = number_at-written 2 34 head.version bytes _ d34 fits.version in
    let created = number_at-written 4 36 head.created bytes _ d36 fits.created in
    let modified = number_at-written 4 40 head.modified bytes _ d40 fits.modified in
    let backup = number_at-written 4 44 head.backup bytes _ d44 fits.backup in
    let modnum = number_at-written 4 48 head.modnum bytes _ d48 fits.modnum in
    let kind = code_at-written 60 bytes head.kind.0 _ d60 fits.kind in
    let creator = code_at-written 64 bytes head.creator.0 _ d64 fits.creator in
    let seed = number_at-written 4 68 head.seed bytes _ d68 fits.seed in
    record {
      ends_name = end;
      reads_head = λ i. record {
        name = named i;
        attributes = attributes i;
        version = version i;
        created = created i;
        modified = modified i;
        backup = backup i;
        modnum = modnum i;
        seed = seed i;
        kind = record { 0 = kind i };
        creator = record { 0 = creator i };
      };
      reads_attributes = attributes;
      reads_app = number_at-written 4 52 app bytes _ d52 small_app;
      reads_sort = number_at-written 4 56 sort bytes _ d56 small_sort;
      alone = number_at-written 4 72 0 bytes _ d72 (omega arith);
      reads_count = number_at-written 2 76 count bytes _ d76 small_count;
      behind = d78;
      long = long_from 78 76 bytes
          (big_bytes 2 count ++ rest) d76 (omega (arith, length-append (big_bytes 2 count) rest)) (omega (arith, length-append (big_bytes 2 count) rest));
    }

-- what is written of a file that begins with a header
pub record WritesHeader (bytes : List ℕ) : Type 0 where
  pub after_name : List ℕ
  pub text : bytes ≡ header_text (head_in bytes) after_name (number_at 4 app_place bytes) (number_at 4 sort_place bytes) (number_at 2 count_place bytes)
      ++ drop 78 bytes
  pub field : length (head_in bytes).name + 1 + length after_name ≡ 32
  pub fits : FitsHeader (head_in bytes)
  pub attributes : (head_in bytes).attributes ≡ number_at 2 attributes_place bytes

pub header-read : (bytes : List ℕ) (place : ℕ)
    → IsBytes bytes → 78 ≤ length bytes → name_end bytes ≡ Some (suc place) → number_at 4 next_list_place bytes ≡ 0 → WritesHeader bytes
unfolding header_text head_in
header-read bytes place fits long end alone =
    let field = take 32 bytes in
    let size : length field ≡ 32 = omega (arith, length-take 32 bytes) in
    let around = field_around field (suc place) end in
    let found = position-Some is_zero field (suc place) 0 end in
    let name-is : take (suc place) field ≡ take (suc place) bytes = take-take (suc place) 32 bytes (omega arith) in
    let named : take (unwrap_or (name_end bytes) 0) bytes ≡ take (suc place) bytes = ap (λ place. take (unwrap_or place 0) bytes) end in
    let name-same = name-is ∙ sym named in
    let after = drop (suc place + 1) field in
    let front : field ≡ take (unwrap_or (name_end bytes) 0) bytes ++ 0 ∷ after = around ∙ ap (λ name. name ++ 0 ∷ after) name-same in
    let t76 = cut_number 2 76 bytes fits long in
    let t72 = cut_number 4 72 bytes fits (omega arith)
    ∙ ap (λ number. big_bytes 4 number ++ drop 76 bytes) alone ∙ ap (λ rest. big_bytes 4 0 ++ rest) t76 in
    let t68 = cut_number 4 68 bytes fits (omega arith) ∙ ap (λ rest. big_bytes 4 (number_at 4 68 bytes) ++ rest) t72 in
    let t64 = cut_code 64 bytes ∙ ap (λ rest. code_at 64 bytes ++ rest) t68 in
    let t60 = cut_code 60 bytes ∙ ap (λ rest. code_at 60 bytes ++ rest) t64 in
    let t56 = cut_number 4 56 bytes fits (omega arith) ∙ ap (λ rest. big_bytes 4 (number_at 4 56 bytes) ++ rest) t60 in
    let t52 = cut_number 4 52 bytes fits (omega arith) ∙ ap (λ rest. big_bytes 4 (number_at 4 52 bytes) ++ rest) t56 in
    let t48 = cut_number 4 48 bytes fits (omega arith) ∙ ap (λ rest. big_bytes 4 (number_at 4 48 bytes) ++ rest) t52 in
    let t44 = cut_number 4 44 bytes fits (omega arith) ∙ ap (λ rest. big_bytes 4 (number_at 4 44 bytes) ++ rest) t48 in
    let t40 = cut_number 4 40 bytes fits (omega arith) ∙ ap (λ rest. big_bytes 4 (number_at 4 40 bytes) ++ rest) t44 in
    let t36 = cut_number 4 36 bytes fits (omega arith) ∙ ap (λ rest. big_bytes 4 (number_at 4 36 bytes) ++ rest) t40 in
    let t34 = cut_number 2 34 bytes fits (omega arith) ∙ ap (λ rest. big_bytes 2 (number_at 2 34 bytes) ++ rest) t36 in
    let t32 = cut_number 2 32 bytes fits (omega arith) ∙ ap (λ rest. big_bytes 2 (number_at 2 32 bytes) ++ rest) t34 in
    let name = take (unwrap_or (name_end bytes) 0) bytes ++ 0 ∷ after in
    let whole = sym (take-append-drop 32 bytes) ∙ ap (λ front. front ++ drop 32 bytes) front ∙ ap (λ rest. name ++ rest) t32 in
    record {
      after_name = after;
      text = whole ∙ sym (regroup name
          (big_bytes 2 (number_at 2 32 bytes)) (big_bytes 2 (number_at 2 34 bytes)) (big_bytes 4 (number_at 4 36 bytes)) (big_bytes 4 (number_at 4 40 bytes))
          (big_bytes 4 (number_at 4 44 bytes)) (big_bytes 4 (number_at 4 48 bytes)) (big_bytes 4 (number_at 4 52 bytes)) (big_bytes 4 (number_at 4 56 bytes))
          (code_at 60 bytes) (code_at 64 bytes) (big_bytes 4 (number_at 4 68 bytes)) (big_bytes 4 0) (big_bytes 2 (number_at 2 76 bytes)) (drop 78 bytes));
      field = omega (arith, ap length front, length-append (take (unwrap_or (name_end bytes) 0) bytes) (0 ∷ after));
      fits = record {
        name = subst IsName name-same (name_before field place size end);
        attributes = number_at-fits 2 32 bytes fits;
        version = number_at-fits 2 34 bytes fits;
        created = number_at-fits 4 36 bytes fits;
        modified = number_at-fits 4 40 bytes fits;
        backup = number_at-fits 4 44 bytes fits;
        modnum = number_at-fits 4 48 bytes fits;
        seed = number_at-fits 4 68 bytes fits;
        kind = length-code_at 60 bytes (omega arith);
        creator = length-code_at 64 bytes (omega arith);
      };
      attributes = refl;
    }
