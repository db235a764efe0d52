-- Changes of databases that differ in their names come to the same in either order.
use Rattle.std.proofs.Common.{◌≡◌, ◌∙◌, ap, refl, sym, cond, ℕ, Bool, true, false, List, [], ◌∷◌, IfSome, Option, Some, None}
use Rattle.std.specs.List.{AllByRecursion}
use Rattle.std.specs.Str.{bytes_eq}
use Rattle.sync_session.proofs.MeetingWords.{DatabaseValue, AreOrdered, ShelvesValue}
use Rattle.pdb_values.specs.NamedDatabases.{NamesRise, database_of, with_put}
use Rattle.pdb_values.proofs.NamedLaws.{NamesRise-with_put, bytes_eq-is, bytes_eq-own, database_of-same, database_of-with_put}
use Rattle.desk_store.specs.Changes.{with_archive, with_change, with_changes}
use Rattle.desk_store.specs.declared.change.DbChange.{DbChange}
use Rattle.desk_store.proofs.ChangedLaws.{ordered_changes}

cond-swap : (a b : Bool) (x y : Option DatabaseValue) (z : Option DatabaseValue) → (a ≡ true → b ≡ true → ⊥) → cond a x (cond b y z) ≡ cond b y (cond a x z)
cond-swap true true x y z apart = absurd (apart refl refl)
cond-swap true false x y z apart = refl
cond-swap false true x y z apart = refl
cond-swap false false x y z apart = refl

not_both : (a b name : List ℕ) → bytes_eq a b ≡ false → bytes_eq a name ≡ true → bytes_eq b name ≡ true → ⊥
not_both a b name apart one two =
    let same : a ≡ b = bytes_eq-is a name one ∙ sym (bytes_eq-is b name two) in
    let yes : bytes_eq a b ≡ true = ap (bytes_eq a) (sym same) ∙ bytes_eq-own a in
    cc

with_put-swap : (a b : DatabaseValue) (databases : List DatabaseValue) → bytes_eq a.head.name b.head.name ≡ false → NamesRise databases
    → with_put a (with_put b databases) ≡ with_put b (with_put a databases)
with_put-swap a b databases apart rise =
    database_of-same (with_put a (with_put b databases)) (with_put b (with_put a databases))
    (NamesRise-with_put a (with_put b databases) (NamesRise-with_put b databases rise))
    (NamesRise-with_put b (with_put a databases) (NamesRise-with_put a databases rise))
    (λ name. rw (
      database_of-with_put name a (with_put b databases),
      database_of-with_put name b databases,
      database_of-with_put name b (with_put a databases),
      database_of-with_put name a databases,
    )
    (cond-swap (bytes_eq a.head.name name) (bytes_eq b.head.name name) (Some a) (Some b) (database_of name databases)
    (not_both a.head.name b.head.name name apart)))

-- ---- changes

-- rows, base rows and archive have this name
pub record HasName (name : List ℕ) (change : DbChange) : Type 0 where
  pub rows : change.rows.head.name ≡ name
  pub base : change.base.head.name ≡ name
  pub archive : IfSome change.archive (λ archive. archive.head.name ≡ name)

-- they have another one
pub record HasOther (name : List ℕ) (change : DbChange) : Type 0 where
  pub own : List ℕ
  pub named : HasName own change
  pub apart : bytes_eq name own ≡ false

abbrev put_one : Option DatabaseValue → List DatabaseValue → List DatabaseValue
put_one None databases = databases
put_one (Some database) databases = with_put database databases

archive-is : (archive : Option DatabaseValue) (shelves : ShelvesValue)
    → with_archive archive shelves ≡ record { rows = shelves.rows; bases = shelves.bases; archives = put_one archive shelves.archives }
archive-is None shelves = refl
archive-is (Some archive) shelves = refl

change-is : (change : DbChange) (shelves : ShelvesValue) → with_change change shelves
    ≡ record { rows = with_put change.rows shelves.rows; bases = with_put change.base shelves.bases; archives = put_one change.archive shelves.archives }
change-is change shelves = archive-is change.archive _

put_one-swap : (a b : Option DatabaseValue) (databases : List DatabaseValue)
    → ((x y : DatabaseValue) → a ≡ Some x → b ≡ Some y → bytes_eq x.head.name y.head.name ≡ false) → NamesRise databases
    → put_one a (put_one b databases) ≡ put_one b (put_one a databases)
put_one-swap None None databases apart rise = refl
put_one-swap None (Some y) databases apart rise = refl
put_one-swap (Some x) None databases apart rise = refl
put_one-swap (Some x) (Some y) databases apart rise = with_put-swap x y databases (apart x y refl refl) rise

named_some : (name : List ℕ) (archive : Option DatabaseValue) (x : DatabaseValue) → IfSome archive (λ a. a.head.name ≡ name) → archive ≡ Some x
    → x.head.name ≡ name
named_some name archive x is e = rw e at is

apart_by : {a b x y : List ℕ} → bytes_eq a b ≡ false → x ≡ a → y ≡ b → bytes_eq x y ≡ false
apart_by apart one two = rw (one, two) apart

with_change-swap : (name : List ℕ) (a b : DbChange) (shelves : ShelvesValue) → HasName name a → HasOther name b → AreOrdered shelves
    → with_change a (with_change b shelves) ≡ with_change b (with_change a shelves)
with_change-swap name a b shelves is other ordered =
    let rows = with_put-swap a.rows b.rows shelves.rows (apart_by other.apart is.rows other.named.rows) ordered.rows in
    let bases = with_put-swap a.base b.base shelves.bases (apart_by other.apart is.base other.named.base) ordered.bases in
    let archives = put_one-swap a.archive b.archive shelves.archives
    (λ x y e f. apart_by other.apart (named_some name a.archive x is.archive e) (named_some other.own b.archive y other.named.archive f))
    ordered.archives in
    rw (change-is a (with_change b shelves), change-is b shelves, change-is b (with_change a shelves), change-is a shelves)
    (λ k. record { rows = rows k; bases = bases k; archives = archives k })

-- a change in front of others of other names is as one behind them
pub with_changes-first : (name : List ℕ) (change : DbChange) (changes : List DbChange) (shelves : ShelvesValue) → HasName name change
    → AllByRecursion (HasOther name) changes → AreOrdered shelves
    → with_change change (with_changes changes shelves) ≡ with_changes changes (with_change change shelves)
with_changes-first name change [] shelves is others ordered = refl
with_changes-first name change (other ∷ changes) shelves is others ordered =
    with_change-swap name change other (with_changes changes shelves) is others.0 (ordered_changes changes shelves ordered)
    ∙ ap (with_change other) (with_changes-first name change changes shelves is others.1 ordered)
