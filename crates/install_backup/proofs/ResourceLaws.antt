-- Resources that are put one after another are those that are installed.
use Rattle.std.proofs.lemmas.Bool.{and_parts, and_from, eqb-true}
use Rattle.std.proofs.Common.{◌≡◌, ◌∙◌, ap, refl, sym, ℕ, ◌==◌, ◌||◌, not, Bool, true, false, cond, List, [], ◌∷◌}
use Rattle.std.specs.Prelude.{filter}
use Rattle.std.specs.List.{list_any}
use Rattle.pdb_values.specs.Resources.{with_bytes}
use Rattle.pdb_values.specs.declared.resource.Resource.{Resource}
use Rattle.pdb_values.proofs.NamedLaws.{bytes_eq-is, bytes_eq-own}
use Rattle.palm_device.specs.Entries.{put_entry}
use Rattle.palm_device.specs.Resources.{put_resource}
use Rattle.install_backup.specs.Installed.{installed_behind, last_bytes, same_key}
use Rattle.install_backup.specs.Puts.{put_each}
use Rattle.handheld_files.proofs.SettledLaws.{own_id}
use Rattle.desk_store.proofs.CountLaws.{same_truth}

-- ---- one type and one id

pub record SameKey (one other : Resource) : Type 0 where
  pub kind : other.kind.0 ≡ one.kind.0
  pub id : other.id ≡ one.id

pub key_is : (one other : Resource) → same_key one other ≡ true → SameKey one other
key_is one other is =
    let parts = and_parts _ (other.id == one.id) is in
    record { kind = bytes_eq-is other.kind.0 one.kind.0 parts.0; id = eqb-true other.id one.id parts.1 }

key_from : (one other : Resource) → SameKey one other → same_key one other ≡ true
key_from one other same = rw (same.kind, same.id) (and_from _ (one.id == one.id) (bytes_eq-own one.kind.0) (own_id one.id))

key_turned : (one other : Resource) → SameKey one other → SameKey other one
key_turned one other same = record { kind = sym same.kind; id = sym same.id }

pub same_key-turned : (one other : Resource) → same_key one other ≡ same_key other one
same_key-turned one other =
    same_truth (same_key one other) (same_key other one) (λ is. key_from other one (key_turned one other (key_is one other is)))
    (λ is. key_from one other (key_turned other one (key_is other one is)))

-- with the other one's bytes it is the other one
pub with_bytes-own : (one other : Resource) → SameKey one other → with_bytes one.bytes other ≡ one
with_bytes-own one other same = λ k. record { kind = record { 0 = same.kind k }; id = same.id k; bytes = one.bytes }

-- ---- puts

-- none of one type and id
abbrev pub is_other : Resource → Resource → Bool
is_other one next = not (same_key next one)

-- what is put goes to the first one where it has its type and id, and else to those behind it
pub put_each-cons : (later : List Resource) (first : Resource) (rest : List Resource)
    → put_each later (first ∷ rest) ≡ with_bytes (last_bytes first later) first ∷ put_each (filter (is_other first) later) rest
unfolding put_each last_bytes put_entry
put_each-cons [] first rest = refl
put_each-cons (next ∷ later) first rest =
    by (same_key next first) refl (put_each-cons later (with_bytes next.bytes first) rest)
    (put_each-cons later first (put_resource next.kind.0 next.id next.bytes rest))
  where
    by : (b : Bool) → same_key next first ≡ b
        → put_each later (with_bytes next.bytes first ∷ rest)
        ≡ with_bytes (last_bytes (with_bytes next.bytes first) later) first ∷ put_each (filter (is_other first) later) rest
        → put_each later (first ∷ put_resource next.kind.0 next.id next.bytes rest)
        ≡ with_bytes (last_bytes first later) first ∷ put_each (filter (is_other first) later) (put_resource next.kind.0 next.id next.bytes rest)
        → put_each later (put_resource next.kind.0 next.id next.bytes (first ∷ rest))
        ≡ with_bytes (cond (same_key first next) (last_bytes next later) (last_bytes first later)) first
        ∷ put_each (cond (not (same_key next first)) (next ∷ filter (is_other first) later) (filter (is_other first) later)) rest
    by true is one two =
        let turned : same_key first next ≡ true = sym (same_key-turned next first) ∙ is in
        let own : with_bytes next.bytes first ≡ next = with_bytes-own next first (key_is next first is) in
        rw (is, turned) (one ∙ ap (λ (r : Resource). with_bytes (last_bytes r later) first ∷ put_each (filter (is_other first) later) rest) own)
    by false is one two =
        let turned : same_key first next ≡ false = sym (same_key-turned next first) ∙ is in
        rw (is, turned) two

-- ---- among those that stand before

-- none of those before has its type and id
abbrev pub is_first : List Resource → Resource → Bool
is_first earlier resource = not (list_any (same_key resource) earlier)

-- all of one type and id are among the same
among_key : (one other : Resource) → SameKey one other → (earlier : List Resource) → list_any (same_key other) earlier ≡ list_any (same_key one) earlier
among_key one other same [] = refl
among_key one other same (x ∷ earlier) =
    ap (λ b. b || list_any (same_key other) earlier) (λ k. same_key (record { kind = record { 0 = same.kind k }; id = same.id k; bytes = one.bytes }) x)
    ∙ ap (λ b. same_key one x || b) (among_key one other same earlier)

-- those that are left out are of other types and ids
last_bytes-first : (earlier : List Resource) (resource : Resource) (later : List Resource) → list_any (same_key resource) earlier ≡ false
    → last_bytes resource (filter (is_first earlier) later) ≡ last_bytes resource later
unfolding last_bytes
last_bytes-first earlier resource [] none = refl
last_bytes-first earlier resource (next ∷ later) none =
    by (same_key resource next) refl (list_any (same_key next) earlier) refl (last_bytes-first earlier resource later none)
    (λ alone. last_bytes-first earlier next later alone)
  where
    by : (b : Bool) → same_key resource next ≡ b → (c : Bool) → list_any (same_key next) earlier ≡ c
        → last_bytes resource (filter (is_first earlier) later) ≡ last_bytes resource later
        → (list_any (same_key next) earlier ≡ false → last_bytes next (filter (is_first earlier) later) ≡ last_bytes next later)
        → last_bytes resource (cond (not (list_any (same_key next) earlier)) (next ∷ filter (is_first earlier) later) (filter (is_first earlier) later))
        ≡ cond (same_key resource next) (last_bytes next later) (last_bytes resource later)
    by true is true known rest own =
        absurd (let other : list_any (same_key next) earlier ≡ false = among_key resource next (key_is resource next is) earlier ∙ none in cc)
    by true is false known rest own = rw (known, is) (own known)
    by false is true known rest own = rw (known, is) rest
    by false is false known rest own = rw (known, is) rest

filter-first : (earlier : List Resource) (resource : Resource) (later : List Resource)
    → filter (is_other resource) (filter (is_first earlier) later) ≡ filter (is_first (resource ∷ earlier)) later
filter-first earlier resource [] = refl
filter-first earlier resource (next ∷ later) =
    by (same_key next resource) (list_any (same_key next) earlier) refl refl (filter-first earlier resource later)
  where
    by : (b c : Bool) → same_key next resource ≡ b → list_any (same_key next) earlier ≡ c
        → filter (is_other resource) (filter (is_first earlier) later) ≡ filter (is_first (resource ∷ earlier)) later
        → filter (is_other resource) (cond (not (list_any (same_key next) earlier)) (next ∷ filter (is_first earlier) later) (filter (is_first earlier) later))
        ≡ cond (not (same_key next resource || list_any (same_key next) earlier)) (next ∷ filter (is_first (resource ∷ earlier)) later)
        (filter (is_first (resource ∷ earlier)) later)
    by true true is known rest = rw (known, is) rest
    by true false is known rest = rw (known, is) rest
    by false true is known rest = rw (known, is) rest
    by false false is known rest = rw (known, is) (ap (λ (rs : List Resource). next ∷ rs) rest)

-- those that are installed behind others are put, but for those of the others' types and ids
pub installed_behind-puts : (later earlier : List Resource) → installed_behind earlier later ≡ put_each (filter (is_first earlier) later) []
unfolding put_each installed_behind put_entry
installed_behind-puts [] earlier = refl
installed_behind-puts (next ∷ later) earlier =
    by (list_any (same_key next) earlier) refl (installed_behind-puts later earlier) (installed_behind-puts later (next ∷ earlier))
  where
    by : (b : Bool) → list_any (same_key next) earlier ≡ b → installed_behind earlier later ≡ put_each (filter (is_first earlier) later) []
        → installed_behind (next ∷ earlier) later ≡ put_each (filter (is_first (next ∷ earlier)) later) []
        → cond (list_any (same_key next) earlier) (installed_behind earlier later)
        (with_bytes (last_bytes next later) next ∷ installed_behind (next ∷ earlier) later)
        ≡ put_each (cond (not (list_any (same_key next) earlier)) (next ∷ filter (is_first earlier) later) (filter (is_first earlier) later)) []
    by true is rest own = rw is rest
    by false is rest own =
        rw is (ap (λ (rs : List Resource). with_bytes (last_bytes next later) next ∷ rs) (own ∙ ap (λ (rs : List Resource). put_each rs [])
        (sym (filter-first earlier next later)))
        ∙ ap (λ (bytes : List ℕ). with_bytes bytes next ∷ put_each (filter (is_other next) (filter (is_first earlier) later)) [])
        (sym (last_bytes-first earlier next later is))
        ∙ sym (put_each-cons (filter (is_first earlier) later) next []))

filter-whole : (resources : List Resource) → filter (is_first []) resources ≡ resources
filter-whole [] = refl
filter-whole (x ∷ resources) = ap (λ (rs : List Resource). x ∷ rs) (filter-whole resources)

pub put_each-installed : (resources : List Resource) → put_each resources [] ≡ installed_behind [] resources
put_each-installed resources = ap (λ (rs : List Resource). put_each rs []) (sym (filter-whole resources)) ∙ sym (installed_behind-puts resources [])
