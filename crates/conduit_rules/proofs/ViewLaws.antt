-- A plan depends on what the view's entries are, and on nothing else of it.
use Rattle.std.proofs.Common.{◌≡◌, ◌⊎◌, ⊎_elim, ℕ, zero, suc, ◌==◌, List, [], ◌∷◌, refl, ◌∙◌, sym, arith, Option, Some, None, Bool, true}
use Rattle.std.proofs.Common.{false, not}
use Rattle.std.proofs.Common.{◌&&◌}
use Rattle.std.proofs.Common.{if◌then◌else◌, nat_lt, option_to_list, rules}
use Rattle.std.specs.Option.{option_map, option_or}
use Rattle.std.proofs.lemmas.Bool.Decides.{nat_tests}
use Rattle.std.proofs.lemmas.List.Folds.{find-append}
use Rattle.pdb_values.specs.declared.record.Record.{Record}
use Rattle.conduit_rules.specs.ById.{id_bound, each_below}
use Rattle.conduit_rules.specs.States.{held_where, held, record_held, first, BaseState, no_base, base_at}
use Rattle.conduit_rules.specs.Views.{first_seen, seen_where, view_held, slow_seen, slow_view, fast_seen, fast_view, unread_where, IsHonestUnder, IsHonest}
use Rattle.conduit_rules.specs.Choices.{sides_of}
use Rattle.conduit_rules.specs.declared.view.Seen.{Seen}
use Rattle.conduit_rules.proofs.ByIdLaws.{each_below-zero, each_below-suc}
use Rattle.std.proofs.lemmas.Grind.{common_steps}

-- an entry stands in a view
abbrev pub IsEntry : Seen → List Seen → Type 0
IsEntry s [] = ⊥
IsEntry s (x ∷ view) = (x ≡ s) ⊎ IsEntry s view

-- no two entries have one id
abbrev pub IdsDiffer : List Seen → Type 0
IdsDiffer [] = Unit {0}
IdsDiffer (x ∷ view) = (first_seen x.id view ≡ None) × IdsDiffer view

-- an entry is found under its id
entry_found : (view : List Seen) (s : Seen) → IdsDiffer view → IsEntry s view → first_seen s.id view ≡ Some s
entry_found [] s differ entry = absurd entry
entry_found (x ∷ view) s differ entry =
    ⊎_elim (λ (here : x ≡ s). grind (arith, nat_tests, here))
    (λ (later : IsEntry s view). grind (arith, nat_tests, entry_found view s differ.1 later, differ.0)) entry

-- views that show the same make the same sides, and so the same choice and the same plan
pub sides-same : (v w : List Seen) (rows base : List Record) (gone_counts : Bool) → ((i : ℕ) → view_held v i ≡ view_held w i)
    → sides_of v rows base gone_counts ≡ sides_of w rows base gone_counts
sides-same v w rows base gone_counts same = grind (arith, common_steps, nat_tests)

-- entries that bear the id that they are given for
abbrev BearTheirIds : (ℕ → Option Seen) → Type 0
BearTheirIds g = (j : ℕ) (s : Seen) → g j ≡ Some s → s.id ≡ j

seen_one : (j n : ℕ) (o : Option Seen) → ((s : Seen) → o ≡ Some s → s.id ≡ n) → first_seen j (option_to_list o) ≡ (if j == n then o else None)
seen_one j n o bears = grind (arith, common_steps, nat_tests)

seen_more : (j n : ℕ) (below : Option Seen) (g : ℕ → Option Seen) → below ≡ (if nat_lt j n then g j else None)
    → option_or below (if j == n then g n else None) ≡ (if nat_lt j (suc n) then g j else None)
seen_more j n below g is = grind (arith, nat_tests)

-- what stands under an id in a view that is made by id
first_seen-each_below : (g : ℕ → Option Seen) → BearTheirIds g → (n j : ℕ)
    → first_seen j (each_below (λ i. option_to_list (g i)) n) ≡ (if nat_lt j n then g j else None)
first_seen-each_below g bears zero j = grind (arith, common_steps, nat_tests, each_below-zero)
first_seen-each_below g bears (suc n) j =
    grind (arith, common_steps, nat_tests, each_below-suc, find-append, seen_one, seen_more, first_seen-each_below g bears n j)

-- the first record of an id bears it
pub first-id : (i : ℕ) (records : List Record) (r : Record) → first i records ≡ Some r → r.id ≡ i
first-id i [] r e = cc
first-id i (x ∷ records) r e = grind (arith, nat_tests, first-id i records r)

pub slow_held : (o : Option Record) → seen_where (option_map slow_seen o) ≡ held_where o
slow_held None = refl
slow_held (Some r) = grind arith

mapped_id : (f : Record → Seen) (i : ℕ) (o : Option Record) (s : Seen) → ((r : Record) → (f r).id ≡ r.id) → ((r : Record) → o ≡ Some r → r.id ≡ i)
    → option_map f o ≡ Some s → s.id ≡ i
mapped_id f i o s keeps bears e = grind (arith, common_steps, nat_tests)

-- an entry for each record, in rising ids
mapped_view : (f : Record → Seen) (records : List Record) (i : ℕ) → ((r : Record) → (f r).id ≡ r.id) → nat_lt i id_bound ≡ true
    → first_seen i (each_below (λ j. option_to_list (option_map f (first j records))) id_bound) ≡ option_map f (first i records)
mapped_view f records i keeps within =
    cc (first_seen-each_below (λ j. option_map f (first j records)) (λ j s e. mapped_id f j (first j records) s keeps (first-id j records) e) id_bound i)

unread_id : (b : BaseState) (r : Record) → (unread_where b r).id ≡ r.id
unread_id no_base r = refl
unread_id b r = refl

pub fast_id : (base : List Record) (r : Record) → (fast_seen base r).id ≡ r.id
fast_id base r = grind (arith, unread_id (base_at base false r.id) r)

unread_held : (b : BaseState) (r : Record) → IsHonestUnder b r → (not r.dirty && not r.deleted) ≡ true → seen_where (Some (unread_where b r)) ≡ record_held r
unread_held b r honest passed = search (rules, slow_held)

by_passing : (p : Bool) (b : BaseState) (r : Record) → (not r.dirty && not r.deleted) ≡ p → IsHonestUnder b r
    → seen_where (Some (if p then unread_where b r else slow_seen r)) ≡ record_held r
by_passing p b r passed honest = search (rules, unread_held, slow_held)

fast_held : (base : List Record) (i : ℕ) (o : Option Record) → ((r : Record) → o ≡ Some r → r.id ≡ i)
    → ((r : Record) → o ≡ Some r → IsHonestUnder (base_at base false i) r)
    → seen_where (option_map (fast_seen base) o) ≡ held_where o
fast_held base i o bears honest = grind (arith, common_steps, nat_tests, by_passing)

-- where the records are honest, a fast view shows what the records hold, and so what a slow one shows
pub view_held-fast : (base records : List Record) (i : ℕ) → nat_lt i id_bound ≡ true → IsHonest base records
    → view_held (fast_view base records) i ≡ held records i
view_held-fast base records i within honest = cc (
  mapped_view (fast_seen base) records i (fast_id base) within,
  fast_held base i (first i records) (first-id
      i records) (honest i),
)

-- ---- a fast reading of honest records is as good as a slow one

pub any_view : (f : Record → Seen) (records : List Record) (i : ℕ) → ((r : Record) → (f r).id ≡ r.id)
    → first_seen i (each_below (λ j. option_to_list (option_map f (first j records))) id_bound) ≡
    (if nat_lt i id_bound then option_map f (first i records) else None)
any_view f records i keeps =
    first_seen-each_below (λ j. option_map f (first j records)) (λ j s e. mapped_id f j (first j records) s keeps (first-id j records) e) id_bound i

same_where : (b : Bool) (base records : List Record) (i : ℕ) → IsHonest base records
    → seen_where (if b then option_map (fast_seen base) (first i records) else None) ≡ seen_where (if b then option_map slow_seen (first i records) else None)
same_where true base records i honest = fast_held base i (first i records) (first-id i records) (honest i) ∙ sym (slow_held (first i records))
same_where false base records i honest = refl

-- both show the same, under every id
pub fast_is_slow : (base records : List Record) (i : ℕ) → IsHonest base records → view_held (fast_view base records) i ≡ view_held (slow_view records) i
fast_is_slow base records i honest =
    cc (any_view (fast_seen base) records i (fast_id base), same_where (nat_lt i id_bound) base records i honest, any_view slow_seen records i (λ r. refl))

-- so the sides of the database are the same
pub fast_sides : (base records rows : List Record) (gone_counts : Bool) → IsHonest base records
    → sides_of (fast_view base records) rows base gone_counts ≡ sides_of (slow_view records) rows base gone_counts
fast_sides base records rows gone_counts honest = grind (arith, common_steps, nat_tests, sides-same, fast_is_slow)
