-- A change of each database of a session, one after another.
use Rattle.std.proofs.Common.{arith, ◌≡◌, ◌∙◌, refl, ap, sym, subst, cond, ℕ, Bool, true, false, List, [], ◌∷◌, take, drop}
use Rattle.std.specs.Prelude.{Option, Some, None}
use Rattle.std.specs.List.{AllByRecursion}
use Rattle.std.specs.Str.{bytes_eq}
use Rattle.pdb_values.specs.Databases.{DatabaseValue}
use Rattle.pdb_values.specs.NamedDatabases.{NamesRise, database_of, with_put}
use Rattle.pdb_values.proofs.NamedLaws.{NamesRise-with_put, bytes_eq-own, database_of-same, database_of-with_put}
use Rattle.session_plan.specs.Merges.{handheld_before}
use Rattle.session_plan.specs.Choosing.{add_count}
use Rattle.session_plan.specs.Tasks.{Meeting, Task}
use Rattle.front_laws.proofs.MergedLaws.{NotNamed}
use Rattle.front_laws.proofs.TaskActs.{IsReady}
use Rattle.sync_session.proofs.OnceLaws.{bytes_eq-swap}

-- what a database becomes, with the ids that its new records got
abbrev pub Change : Type 0
Change = Task → List ℕ → DatabaseValue → DatabaseValue

abbrev pub put_one : Change → Task → List ℕ → Option DatabaseValue → List DatabaseValue → List DatabaseValue
put_one f t ids None databases = databases
put_one f t ids (Some b) databases = with_put (f t ids b) databases

abbrev pub put_at_task : Change → Task → List ℕ → List DatabaseValue → List DatabaseValue
put_at_task f t ids databases = put_one f t ids (handheld_before t.handheld t.rows) databases

abbrev pub put_each : Meeting → Change → List Task → List ℕ → List DatabaseValue → List DatabaseValue
put_each m f [] given databases = databases
put_each m f (t ∷ ts) given databases = put_each m f ts (drop (add_count m t) given) (put_at_task f t (take (add_count m t) given) databases)

-- it stays under its name
abbrev pub KeepsName : Change → Type 0
KeepsName f = (t : Task) (ids : List ℕ) (b : DatabaseValue) → (f t ids b).head.name ≡ b.head.name

abbrev pub AreReady : Meeting → List Task → Type 0
AreReady m ts = AllByRecursion (IsReady m) ts

-- names that differ
abbrev pub HaveNames : List Task → Type 0
HaveNames [] = Unit {0}
HaveNames (t ∷ ts) = NotNamed t.name ts × HaveNames ts

module _ {m : Meeting} (f : Change) {t : Task} (is : IsReady m t) (ids : List ℕ) (databases : List DatabaseValue) where
  pub put-is : put_at_task f t ids databases ≡ with_put (f t ids is.b) databases
  put-is = ap (λ o. put_one f t ids o databases) is.before

  -- what stands under a name then
  look-put : KeepsName f → (name : List ℕ)
      → database_of name (put_at_task f t ids databases) ≡ cond (bytes_eq t.name name) (Some (f t ids is.b)) (database_of name databases)
  look-put keeps name = grind (arith, put-is, database_of-with_put name (f t ids is.b) databases)

  pub look-own : KeepsName f → database_of t.name (put_at_task f t ids databases) ≡ Some (f t ids is.b)
  look-own keeps = grind (arith, look-put keeps t.name, bytes_eq-own t.name)

  pub look-other : KeepsName f → (name : List ℕ) → bytes_eq t.name name ≡ false
      → database_of name (put_at_task f t ids databases) ≡ database_of name databases
  look-other keeps name apart = grind (arith, look-put keeps name)

  pub rise-put : NamesRise databases → NamesRise (put_at_task f t ids databases)
  rise-put rise = subst NamesRise (sym put-is) (NamesRise-with_put (f t ids is.b) databases rise)

pub rise-each : (m : Meeting) (f : Change) (ts : List Task) (given : List ℕ) (databases : List DatabaseValue) → AreReady m ts → NamesRise databases
    → NamesRise (put_each m f ts given databases)
rise-each m f [] given databases ready rise = rise
rise-each m f (t ∷ ts) given databases ready rise =
    rise-each m f ts (drop (add_count m t) given) (put_at_task f t (take (add_count m t) given) databases) ready.1
    (rise-put f ready.0 (take (add_count m t) given) databases rise)

-- all others stay
pub others-each : (m : Meeting) (f : Change) → KeepsName f → (ts : List Task) (given : List ℕ) (databases : List DatabaseValue) (name : List ℕ)
    → AreReady m ts → NotNamed name ts → database_of name (put_each m f ts given databases) ≡ database_of name databases
others-each m f keeps [] given databases name ready unnamed = refl
others-each m f keeps (t ∷ ts) given databases name ready unnamed =
    others-each m f keeps ts (drop (add_count m t) given) (put_at_task f t (take (add_count m t) given) databases) name ready.1 unnamed.1
    ∙ look-other f ready.0 (take (add_count m t) given) databases keeps name unnamed.0

-- each has become that
abbrev pub AreChanged : (m : Meeting) → Change → (ts : List Task) → AreReady m ts → List ℕ → List DatabaseValue → Type 0
AreChanged m f [] ready given databases = Unit {0}
AreChanged m f (t ∷ ts) ready given databases =
    (database_of t.name databases ≡ Some (f t (take (add_count m t) given) ready.0.b))
    × AreChanged m f ts ready.1 (drop (add_count m t) given) databases

pub changed-each : (m : Meeting) (f : Change) → KeepsName f → (ts : List Task) (ready : AreReady m ts) (given : List ℕ) (databases : List DatabaseValue)
    → HaveNames ts → AreChanged m f ts ready given (put_each m f ts given databases)
changed-each m f keeps [] ready given databases names = tt
changed-each m f keeps (t ∷ ts) ready given databases names = (
  others-each m f keeps ts (drop (add_count m t) given) (put_at_task f t (take (add_count m t) given) databases) t.name ready.1 names.0
      ∙ look-own f ready.0 (take (add_count m t) given) databases keeps,
  changed-each m f keeps ts ready.1 (drop (add_count m t) given) (put_at_task f t (take (add_count m t) given) databases) names.1,
)

-- the names are looked up in both, and so are those of later tasks
pub changed-other : {m : Meeting} (f g : Change) → KeepsName g
    → (ts : List Task) (ready : AreReady m ts) (given : List ℕ) (databases : List DatabaseValue) {t : Task} (is : IsReady m t) (ids : List ℕ)
    → NotNamed t.name ts → AreChanged m f ts ready given databases → AreChanged m f ts ready given (put_at_task g t ids databases)
changed-other f g keeps [] ready given databases is ids unnamed changed = tt
changed-other {m} f g keeps (u ∷ ts) ready given databases {t} is ids unnamed changed = (
  look-other g is ids databases keeps u.name (bytes_eq-swap u.name t.name unnamed.0) ∙ changed.0,
  changed-other f g keeps ts ready.1 (drop (add_count m u) given) databases is ids unnamed.1 changed.1,
)

-- two lists that answer alike under all names but those of a session do so under all names once each of these is put
pub alike-each : (m : Meeting) (f : Change) → KeepsName f → (ts : List Task) (ready : AreReady m ts) (given : List ℕ) (xs ys : List DatabaseValue)
    → ((name : List ℕ) → NotNamed name ts → database_of name xs ≡ database_of name ys) → (name : List ℕ)
    → database_of name (put_each m f ts given xs) ≡ database_of name (put_each m f ts given ys)
alike-each m f keeps [] ready given xs ys alike name = alike name tt
alike-each m f keeps (t ∷ ts) ready given xs ys alike name =
    alike-each m f keeps ts ready.1 (drop (add_count m t) given) (put_at_task f t ids xs) (put_at_task f t ids ys)
    (λ other unnamed. by other unnamed (bytes_eq t.name other) refl) name
  where
    ids : List ℕ
    ids = take (add_count m t) given

    by : (other : List ℕ) → NotNamed other ts → (c : Bool) → bytes_eq t.name other ≡ c
        → database_of other (put_at_task f t ids xs) ≡ database_of other (put_at_task f t ids ys)
    by other unnamed true is =
        look-put f ready.0 ids xs keeps other ∙ ap (λ c. cond c (Some (f t ids ready.0.b)) (database_of other xs)) is
        ∙ sym (look-put f ready.0 ids ys keeps other ∙ ap (λ c. cond c (Some (f t ids ready.0.b)) (database_of other ys)) is)
    by other unnamed false is =
        look-other f ready.0 ids xs keeps other is ∙ alike other (is, unnamed) ∙ sym (look-other f ready.0 ids ys keeps other is)

pub same-each : (m : Meeting) (f : Change) → KeepsName f → (ts : List Task) (ready : AreReady m ts) (given : List ℕ) (xs ys : List DatabaseValue)
    → NamesRise xs → NamesRise ys → ((name : List ℕ) → NotNamed name ts → database_of name xs ≡ database_of name ys)
    → put_each m f ts given xs ≡ put_each m f ts given ys
same-each m f keeps ts ready given xs ys rise rise' alike =
    database_of-same (put_each m f ts given xs) (put_each m f ts given ys) (rise-each m f ts given xs ready rise) (rise-each m f ts given ys ready rise')
    (alike-each m f keeps ts ready given xs ys alike)
