-- Which databases a session has does not hang on the order in which the handheld lists them.
use Rattle.std.proofs.Common.{◌≡◌, ◌∙◌, refl, sym, ap, subst, ℕ, Bool, true, false, ◌||◌, ◌&&◌, cond, List, [], ◌∷◌, ◌++◌, length, map, append_assoc}
use Rattle.std.proofs.lemmas.List.{length-map}
use Rattle.std.proofs.lemmas.List.Sorted.{length_permutation, list_any-IsPermutation}
use Rattle.std.specs.Prelude.{Option, Some, None, IsPermutation, insert, is_some, slice_get}
use Rattle.std.specs.List.{list_all, list_any, position_or_len}
use Rattle.std.specs.Option.{option_map}
use Rattle.std.specs.Str.{bytes_eq}
use Rattle.pdb_values.specs.Databases.{DatabaseValue}
use Rattle.pdb_values.specs.NamedDatabases.{NamesRise, comes_before, database_of}
use Rattle.pdb_values.specs.declared.head.DbHead.{DbHead}
use Rattle.pdb_values.proofs.NamedLaws.{bytes_eq-is, database_of-name, database_of-same}
use Rattle.palm_device.specs.Blocks.{empty_database}
use Rattle.palm_device.specs.Devices.{Device}
use Rattle.palm_device.specs.Heads.{new_head}
use Rattle.desk_store.specs.Shelves.{ShelvesValue}
use Rattle.dlp_commands.specs.DatabaseFunctions.{listed}
use Rattle.session_plan.specs.Fits.{Rise}
use Rattle.run_words.specs.Actions.{action_for}
use Rattle.session_plan.specs.Jobs.{head_named, job_by, job_of, jobs_of, names_with}
use Rattle.session_plan.specs.Skips.{head_of}
use Rattle.session_plan.specs.Tasks.{action_of_word, names_of, with_name, with_names}
use Rattle.session_plan.specs.declared.wishes.Wishes.{Wishes}
use Rattle.session_plan.proofs.RiseLaws.{at_place, at_place-cons, rise-with_names}
use Rattle.foreign_laws.specs.Foreign.{AreEntries, Foreign, HasEachHead, IsForeign, own_heads}
use Rattle.foreign_laws.specs.Alike.{GiveTheSame}
use Rattle.foreign_laws.proofs.DeviceLists.{at_place_in}
use Rattle.foreign_laws.proofs.OwnLaws.{found_at}

-- ---- a name among others

abbrev among : List ℕ → List (List ℕ) → Bool
among name names = list_any (λ other. bytes_eq other name) names

or_swap : (a b c : Bool) → (a || (b || c)) ≡ (b || (a || c))
or_swap true true c = refl
or_swap true false c = refl
or_swap false b c = refl

among_place : (name other : List ℕ) (names : List (List ℕ)) → among name (at_place other names) ≡ (bytes_eq other name || among name names)
among_place name other [] = refl
among_place name other (first ∷ names) =
    ap (among name) (at_place-cons other first names) ∙ by (comes_before other first) (among_place name other names)
  where
    by : (before : Bool) → among name (at_place other names) ≡ (bytes_eq other name || among name names)
        → among name (cond before (other ∷ first ∷ names) (first ∷ at_place other names)) ≡ (bytes_eq other name || (bytes_eq first name || among name names))
    by true rest = refl
    by false rest = ap (λ (b : Bool). bytes_eq first name || b) rest ∙ or_swap (bytes_eq first name) (bytes_eq other name) (among name names)

among_with : (name other : List ℕ) (names : List (List ℕ)) → among name (with_name other names) ≡ (bytes_eq other name || among name names)
among_with name other names = by (among other names) refl (bytes_eq other name) refl
  where
    by : (there : Bool) → among other names ≡ there → (same : Bool) → bytes_eq other name ≡ same
        → among name (cond there names (insert names (position_or_len (λ one. comes_before other one) names) other)) ≡ (bytes_eq other name || among name names)
    by true is true same = rw same (ap (λ (n : List ℕ). among n names) (sym (bytes_eq-is other name same)) ∙ is)
    by true is false same = rw same refl
    by false is same named = among_place name other names

or_turn : (a b c : Bool) → (a || (b || c)) ≡ ((b || a) || c)
or_turn true true c = refl
or_turn true false c = refl
or_turn false true c = refl
or_turn false false c = refl

among_all : (name : List ℕ) (more names : List (List ℕ)) → among name (with_names more names) ≡ (among name more || among name names)
among_all name [] names = refl
among_all name (other ∷ more) names =
    among_all name more (with_name other names) ∙ ap (λ (b : Bool). among name more || b) (among_with name other names)
    ∙ or_turn (among name more) (bytes_eq other name) (among name names)

-- ---- names in order that answer alike are the same

-- a database of a name
abbrev held : List ℕ → DatabaseValue
held name = empty_database (new_head name [] [] 0 0)

found_held : (name : List ℕ) (names : List (List ℕ)) → database_of name (map held names) ≡ cond (among name names) (Some (held name)) None
found_held name [] = refl
found_held name (first ∷ names) = by (bytes_eq first name) refl (found_held name names)
  where
    by : (b : Bool) → bytes_eq first name ≡ b → database_of name (map held names) ≡ cond (among name names) (Some (held name)) None
        → cond b (Some (held first)) (database_of name (map held names)) ≡ cond (b || among name names) (Some (held name)) None
    by true is rest = ap (λ (n : List ℕ). Some (held n)) (bytes_eq-is first name is)
    by false is rest = rest

all_held : (name : List ℕ) (names : List (List ℕ))
    → list_all (λ (later : DatabaseValue). comes_before name later.head.name) (map held names) ≡ list_all (λ later. comes_before name later) names
all_held name [] = refl
all_held name (first ∷ names) = ap (λ (b : Bool). comes_before name first && b) (all_held name names)

rise_held : (names : List (List ℕ)) → Rise names → NamesRise (map held names)
rise_held [] rise = tt
rise_held (name ∷ names) rise = (all_held name names ∙ rise.0, rise_held names rise.1)

names_held : (names : List (List ℕ)) → map (λ (database : DatabaseValue). database.head.name) (map held names) ≡ names
names_held [] = refl
names_held (name ∷ names) = ap (λ (l : List (List ℕ)). name ∷ l) (names_held names)

same_names : (names others : List (List ℕ)) → Rise names → Rise others → ((name : List ℕ) → among name names ≡ among name others) → names ≡ others
same_names names others rise rises alike =
    sym (names_held names)
    ∙ ap (map (λ (database : DatabaseValue). database.head.name)) (database_of-same (map held names) (map held others) (rise_held names rise)
    (rise_held others rises)
    (λ name. found_held name names ∙ ap (λ (b : Bool). cond b (Some (held name)) None) (alike name) ∙ sym (found_held name others)))
    ∙ names_held others

-- ---- the heads that are listed

abbrev head_names : List DbHead → List (List ℕ)
head_names heads = map (λ (head : DbHead). head.name) heads

record IsHeadOf (databases : List DatabaseValue) (head : DbHead) : Type 0 where
  database : DatabaseValue
  there : database_of head.name databases ≡ Some database
  is : head ≡ listed database.head

abbrev AreHeadsOf : List DatabaseValue → List DbHead → Type 0
AreHeadsOf databases [] = Unit {0}
AreHeadsOf databases (head ∷ heads) = IsHeadOf databases head × AreHeadsOf databases heads

found_by : (databases : List DatabaseValue) (name : List ℕ) (heads : List DbHead) → AreHeadsOf databases heads
    → head_named name heads ≡ cond (among name (head_names heads)) (option_map (λ (d : DatabaseValue). listed d.head) (database_of name databases)) None
found_by databases name [] are = refl
found_by databases name (head ∷ heads) are = by (bytes_eq head.name name) refl (found_by databases name heads are.1)
  where
    by : (b : Bool) → bytes_eq head.name name ≡ b
        → head_named name heads ≡ cond (among name (head_names heads)) (option_map (λ (d : DatabaseValue). listed d.head) (database_of name databases)) None
        → cond b (Some head) (head_named name heads)
        ≡ cond (b || among name (head_names heads)) (option_map (λ (d : DatabaseValue). listed d.head) (database_of name databases)) None
    by true is rest =
        ap Some are.0.is
        ∙ ap (option_map (λ (d : DatabaseValue). listed d.head))
        (sym (ap (λ (n : List ℕ). database_of n databases) (sym (bytes_eq-is head.name name is)) ∙ are.0.there))
    by false is rest = rest

entry_heads : (device : Device) (all : List (ℕ × List ℕ)) (entries : List (ℕ × DbHead)) → AreEntries device all entries
    → AreHeadsOf device.databases (map (λ (entry : ℕ × DbHead). entry.1) entries)
entry_heads device [] [] are = tt
entry_heads device [] (entry ∷ entries) are = absurd are
entry_heads device (one ∷ all) [] are = absurd are
entry_heads device (one ∷ all) (entry ∷ entries) are =
    let name = database_of-name one.1 device.databases are.0.database are.0.there in
    let head : entry.1 ≡ listed are.0.database.head = ap (λ (e : ℕ × DbHead). e.1) are.0.is in (
      record {
        database = are.0.database;
        there = ap (λ (h : DbHead). database_of h.name device.databases) head ∙ ap (λ (n : List ℕ). database_of n device.databases) name ∙ are.0.there;
        is = head;
      },
      entry_heads device all entries are.1,
    )

entry_names : (device : Device) (all : List (ℕ × List ℕ)) (entries : List (ℕ × DbHead)) → AreEntries device all entries
    → head_names (map (λ (entry : ℕ × DbHead). entry.1) entries) ≡ map (λ (one : ℕ × List ℕ). one.1) all
entry_names device [] [] are = refl
entry_names device [] (entry ∷ entries) are = absurd are
entry_names device (one ∷ all) [] are = absurd are
entry_names device (one ∷ all) (entry ∷ entries) are =
    let name = database_of-name one.1 device.databases are.0.database are.0.there in
    let head : entry.1.name ≡ one.1 = ap (λ (e : ℕ × DbHead). e.1.name) are.0.is ∙ name in
    let rest = entry_names device all entries are.1 in
    cc (head, rest)

own_names : (databases : List DatabaseValue) → head_names (own_heads databases) ≡ map (λ (database : DatabaseValue). database.head.name) databases
own_names [] = refl
own_names (database ∷ databases) = ap (λ (l : List (List ℕ)). database.head.name ∷ l) (own_names databases)

own_heads_of : (all done later : List DatabaseValue) → NamesRise all → all ≡ done ++ later → AreHeadsOf all (own_heads later)
own_heads_of all done [] rise is = tt
own_heads_of all done (one ∷ later) rise is = (
  record {
    database = one;
    there = found_at all (length done) one rise (ap (λ (l : List DatabaseValue). slice_get l (length done)) is ∙ at_place_in done later one);
    is = refl;
  },
  own_heads_of all (done ++ one ∷ []) later rise (is ∙ sym (append_assoc done (one ∷ []) later)),
)

-- ---- the jobs

map_same : {X Y : Type 0} (f g : X → Y) (xs : List X) → ((x : X) → f x ≡ g x) → map f xs ≡ map g xs
map_same f g [] same = refl
map_same f g (x ∷ xs) same = cc (same x, map_same f g xs same)

module _ (heads others : List DbHead) (names : IsPermutation (head_names heads) (head_names others))
    (found : (name : List ℕ) → head_named name heads ≡ head_named name others) where
  same_with : (shelves : ShelvesValue) → names_with heads shelves ≡ names_with others shelves
  same_with shelves =
      ap (with_names (names_of shelves.rows)) (same_names (with_names (head_names heads) []) (with_names (head_names others) [])
      (rise-with_names (head_names heads) [] tt) (rise-with_names (head_names others) [] tt)
      (λ name. among_all name (head_names heads) []
      ∙ ap (λ (b : Bool). b || false) (list_any-IsPermutation (λ (other : List ℕ). bytes_eq other name) (head_names heads) (head_names others) names)
      ∙ sym (among_all name (head_names others) [])))

  same_job : (shelves : ShelvesValue) (agree : List ℕ → Bool) (wishes : Wishes) (name : List ℕ)
      → job_of heads shelves agree wishes name ≡ job_of others shelves agree wishes name
  same_job shelves agree wishes name =
      ap (λ (o : Option DbHead). job_by name o (head_of (database_of name shelves.rows)) (is_some (database_of name shelves.bases))
      (action_of_word (action_for name wishes.actions.items)) (agree name) wishes.slow) (found name)

  same_jobs : (shelves : ShelvesValue) (agree : List ℕ → Bool) (wishes : Wishes)
      → jobs_of heads shelves agree wishes ≡ jobs_of others shelves agree wishes
  unfolding jobs_of
  same_jobs shelves agree wishes =
      ap (map (job_of heads shelves agree wishes)) (same_with shelves)
      ∙ map_same (job_of heads shelves agree wishes) (job_of others shelves agree wishes) (names_with others shelves) (same_job shelves agree wishes)

pub heads_give_the_same : (old new : Foreign) (heads : List DbHead) → IsForeign old → HasEachHead old heads new
    → GiveTheSame heads (own_heads old.device.databases)
heads_give_the_same old new heads proper has =
    let own = own_heads old.device.databases in
    let listing : head_names heads ≡ map (λ (one : ℕ × List ℕ). one.1) old.listed =
    ap head_names has.is ∙ entry_names old.device old.listed has.entries has.are in
    let names : IsPermutation (head_names heads) (head_names own) =
    subst (λ (l : List (List ℕ)). IsPermutation l (head_names own)) (sym listing)
    (subst (λ (l : List (List ℕ)). IsPermutation (map (λ (one : ℕ × List ℕ). one.1) old.listed) l) (sym (own_names old.device.databases)) proper.names) in
    let theirs : AreHeadsOf old.device.databases heads =
    subst (λ (l : List DbHead). AreHeadsOf old.device.databases l) (sym has.is) (entry_heads old.device old.listed has.entries has.are) in
    let ours = own_heads_of old.device.databases [] old.device.databases proper.proper.sound.names refl in
    record {
      count = sym (length-map heads (λ (head : DbHead). head.name)) ∙ sym (length_permutation (head_names heads) (head_names own) names)
          ∙ length-map own (λ (head : DbHead). head.name);
      jobs = same_jobs heads own names (λ name. found_by old.device.databases name heads theirs
          ∙ ap (λ (b : Bool). cond b (option_map (λ (d : DatabaseValue). listed d.head) (database_of name old.device.databases)) None)
          (list_any-IsPermutation (λ (other : List ℕ). bytes_eq other name) (head_names heads) (head_names own) names)
          ∙ sym (found_by old.device.databases name own ours));
    }
