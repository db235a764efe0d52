-- How files are written name by name.
use Rattle.std.proofs.Common.{◌≡◌, ◌∙◌, ◌+◌, ◌<◌, ℕ, List, [], ◌∷◌, ◌++◌, length, get_or, map, take, ap, arith, refl, subst, sym}
use Rattle.std.specs.Prelude.{Contains, Some, String, string_bytes}
use Rattle.std.specs.FinMap as finmap
use Rattle.std.specs.declared.alloc.Global.{Global}
use Rattle.std.proofs.Math.ListN.{get_or-map}
use Rattle.std.proofs.lemmas.Grind.{common_steps}
use Rattle.std.proofs.lemmas.List.{length-map, take_more}
use Rattle.hs_folders.specs.FileMaps.{FileMap}
use Rattle.hs_folders.specs.declared.faults.FolderFault.{FolderFault}
use Rattle.hs_folders.specs.declared.faults.FolderFault.TheVariants.{Failed, Missing, NoMemory}
use Rattle.device_state.specs.Lists.{NamedFile, file_text, files_of, list_text}
use Rattle.device_state.specs.Strings.{string_text}
use Rattle.device_state.proofs.HeldLaws.{file_of, get-files_of}

-- a folder has as many files as names
pub length-files_of : (held : FileMap) (names : List (String Global)) → map string_bytes names ≡ finmap.keys held → length (files_of held) ≡ length names
length-files_of held names listed =
    let entries = finmap.entries held in
    length-map entries file_of
    ∙ sym (length-map entries (λ (e : List ℕ × List ℕ). e.0)) ∙ sym (ap length listed) ∙ length-map names (string_bytes {Z = Global})

-- a file of a folder, at the place of its name
pub record StandsAt (held : FileMap) (k : ℕ) (name : List ℕ) : Type 0 where
  pub file : NamedFile
  pub bytes : finmap.get held name ≡ Some file.bytes
  pub is : file.name ≡ name
  pub next : take (k + 1) (files_of held) ≡ take k (files_of held) ++ file ∷ []

pub stands_at : (held : FileMap) (names : List (String Global)) (k : ℕ) (name : String Global) → map string_bytes names ≡ finmap.keys held → k < length names
    → name ≡ get_or names k name → StandsAt held k (string_bytes name)
stands_at held names k name listed less is =
    let entries = finmap.entries held in
    let own : List ℕ × List ℕ = (string_bytes name, []) in
    let file : NamedFile = get_or (files_of held) k (file_of own) in
    let some : k < length (files_of held) = omega (arith, length-files_of held names listed) in
    let named : file.name ≡ string_bytes name =
    ap (λ (f : NamedFile). f.name) (get_or-map file_of entries k own) ∙ sym (get_or-map (λ (e : List ℕ × List ℕ). e.0) entries k own)
    ∙ ap (λ (ns : List (List ℕ)). get_or ns k (string_bytes name)) (sym listed) ∙ get_or-map (string_bytes {Z = Global}) names k name
    ∙ ap string_bytes (sym is) in
    record {
      file = file;
      bytes = subst (λ n. finmap.get held n ≡ Some file.bytes) named (get-files_of held k (file_of own) some);
      is = named;
      next = take_more (files_of held) k (file_of own) some;
    }

-- each file is written behind those before it
pub written_on : (held : FileMap) (k : ℕ) {name : List ℕ} (front : List ℕ) {out mid now bytes : List ℕ} → StandsAt held k name
    → out ≡ front ++ list_text (take k (files_of held)) → mid ≡ out ++ string_text name → now ≡ mid ++ string_text bytes → finmap.get held name ≡ Some bytes
    → now ≡ front ++ list_text (take (k + 1) (files_of held))
unfolding file_text
written_on held k front at so_far first second found =
    grind (arith, common_steps, so_far, first, second, found, at.bytes, at.is, at.next)

-- where no call is to fail, none does
pub never_failed : (failing : List ℕ) (number : ℕ) → failing ≡ [] → Contains failing number → ⊥
never_failed failing number none listed = omega (arith, listed.1, ap length none)

-- what no call refuses but want of memory
pub only_memory : (fault : FolderFault) → (fault ≡ Failed → ⊥) → (fault ≡ Missing → ⊥) → fault ≡ NoMemory
only_memory Failed failed missing = absurd (failed refl)
only_memory Missing failed missing = absurd (missing refl)
only_memory NoMemory failed missing = refl
