-- Fresh ids as a loop finds them, one record after the other.
use Rattle.std.proofs.Common.{◌≡◌, ℕ, zero, suc, ◌+◌, ◌<◌, ◌≤◌, Bool, true, false, cond, not, ◌&&◌, ◌||◌, ◌==◌, List, [], ◌∷◌, ◌++◌, map, take, drop, length}
use Rattle.std.proofs.Common.{refl, ap, sym, ◌∙◌, arith, add-one, append_assoc, length-append, Some, slice_get, get_or}
use Rattle.std.specs.Prelude.{nat_le, nat_lt}
use Rattle.std.specs.BTreeSet.{BTreeSet, contains}
use Rattle.std.specs.Ordering.{nat_cmp}
use Rattle.std.proofs.lemmas.Bool.{eqb-true, or_right}
use Rattle.std.proofs.lemmas.Bool.Decides.{nat_tests}
use Rattle.std.proofs.lemmas.List.{append-nil}
use Rattle.palm_device.specs.Entries.{change_at}
use Rattle.palm_device.specs.FreshIds.{is_among, is_kept, kept_behind, least_from, least_id, given_behind, fresh_ids, with_ids}
use Rattle.pdb_values.specs.declared.record.Record.{Record}
use Rattle.handheld_files.proofs.SettledLaws.{least_free, clash, least_low}
use Rattle.handheld_files.specs.Settled.{idle, settled}
use Rattle.std.proofs.lemmas.Grind.{common_steps}

-- what follows the next entry of a list
pub drop_next : {X : Type 0} (xs : List X) (k : ℕ) (x : X) → slice_get xs k ≡ Some x → drop k xs ≡ x ∷ drop (suc k) xs
drop_next [] k x here = absurd cc
drop_next (y ∷ ys) zero x here = let same : y ≡ x = cc in ap (λ z. z ∷ ys) same
drop_next (y ∷ ys) (suc k) x here = drop_next ys k x here

-- the next entry of a list behind those before it
pub take_next : {X : Type 0} (xs : List X) (k : ℕ) (x : X) → slice_get xs k ≡ Some x → take (suc k) xs ≡ take k xs ++ x ∷ []
take_next [] k x here = absurd cc
take_next (y ∷ ys) zero x here = let same : y ≡ x = cc in ap (λ z. z ∷ []) same
take_next (y ∷ ys) (suc k) x here = ap (λ zs. y ∷ zs) (take_next ys k x here)

pub drop_all : {X : Type 0} (xs : List X) (k : ℕ) → length xs ≤ k → drop k xs ≡ []
drop_all [] zero past = refl
drop_all [] (suc k) past = refl
drop_all (y ∷ ys) zero past = absurd (omega arith)
drop_all (y ∷ ys) (suc k) past = drop_all ys k (omega arith)

-- ---- numbers among others

apart : (a b : ℕ) → a < b → (a == b) ≡ false
apart a b below = grind (arith, nat_tests)

kept_here : (id : ℕ) (earlier : List ℕ) → 1 ≤ id → is_among id earlier ≡ false → is_kept earlier id ≡ true
kept_here id earlier some none = grind (arith, common_steps, nat_tests)

kept_by : (id x : ℕ) (ids earlier later : List ℕ) (b : Bool) → (id == x) ≡ b → 1 ≤ x → is_among x earlier ≡ false
    → ((id == x) ≡ false → is_among x later ≡ is_among x ids)
    → is_among x (cond (is_kept earlier id) (id ∷ later) later) ≡ ((id == x) || is_among x ids)
kept_by id x ids earlier later b e some none rest = grind (arith, common_steps, nat_tests, kept_here, eqb-true)

-- an id but 0 is kept somewhere, unless it came before
pub among-kept_behind : (ids earlier : List ℕ) (x : ℕ) → 1 ≤ x → is_among x earlier ≡ false → is_among x (kept_behind earlier ids) ≡ is_among x ids
unfolding kept_behind
among-kept_behind [] earlier x some none = refl
among-kept_behind (id ∷ ids) earlier x some none =
    kept_by id x ids earlier (kept_behind (id ∷ earlier) ids) (id == x) refl some none
    (λ differ. among-kept_behind ids (id ∷ earlier) x some (ap (λ b. b || is_among x earlier) differ ∙ none))

-- ---- the least id

below_by : (taken : List ℕ) (first k later : ℕ) (b : Bool) → is_among first taken ≡ b → first ≤ k → k < cond b later first
    → ((first == k) ≡ false → k < later → is_among k taken ≡ true) → is_among k taken ≡ true
below_by taken first k later b here low below rest = grind (arith, common_steps, nat_tests, eqb-true)

above_it : (first k : ℕ) → first ≤ k → (first == k) ≡ false → suc first ≤ k
above_it first k low differ = grind (arith, nat_tests)

-- all below the least id are taken
among_below : (taken : List ℕ) (more first k : ℕ) → first ≤ k → k < least_from more first taken → is_among k taken ≡ true
unfolding least_from
among_below taken zero first k low high = absurd (omega arith)
among_below taken (suc more) first k low high =
    below_by taken first k (least_from more (suc first) taken) (is_among first taken) refl low high
    (λ differ below. among_below taken more (suc first) k (above_it first k low differ) below)

least_high : (taken : List ℕ) (more first : ℕ) → least_from more first taken ≤ first + more
unfolding least_from
least_high taken zero first = omega arith
least_high taken (suc more) first = grind (arith, common_steps, nat_tests, least_high taken more (suc first))

-- where all from 1 to a number are taken, the least id is not below it
least_from_here : (taken : List ℕ) (next : ℕ) → ((x : ℕ) → 1 ≤ x → x < next → is_among x taken ≡ true) → next ≤ least_id taken
least_from_here taken next below = by (nat_le next (least_id taken)) refl
  where
    by : (b : Bool) → nat_le next (least_id taken) ≡ b → next ≤ least_id taken
    by true e = grind (arith, nat_tests)
    by false e =
        let before : least_id taken < next = grind (arith, nat_tests) in
        absurd (clash (is_among (least_id taken) taken) (below (least_id taken) (least_low taken (length taken) 1) before) (least_free taken))

-- the least id is the one that is free while all before it are taken
least_is : (taken : List ℕ) (n : ℕ) → 1 ≤ n → ((x : ℕ) → 1 ≤ x → x < n → is_among x taken ≡ true) → is_among n taken ≡ false → n ≡ least_id taken
least_is taken n some below free = grind (arith, common_steps, nat_tests, least_from_here, clash, among_below)

-- ---- the ids that are given

-- The first so many ids are given. Of the numbers that are taken by then, those from `next` on are ids of their own.
pub record GivesOn (ids fresh : List ℕ) (numbers seen : BTreeSet ℕ) (next place : ℕ) : Type 0 where
  pub earlier : List ℕ
  pub held : List ℕ
  pub seen_so : (x : ℕ) → contains nat_cmp seen x ≡ is_among x earlier
  pub some : 1 ≤ next
  pub below : (x : ℕ) → 1 ≤ x → x < next → is_among x held ≡ true
  pub above : (x : ℕ) → next ≤ x → is_among x held ≡ contains nat_cmp numbers x
  pub rest : fresh_ids ids ≡ fresh ++ given_behind earlier held (drop place ids)
  pub few : length held ≤ length ids + place
  pub given : length fresh ≡ place

length-kept_behind : (ids earlier : List ℕ) → length (kept_behind earlier ids) ≤ length ids
unfolding kept_behind
length-kept_behind [] earlier = omega arith
length-kept_behind (id ∷ ids) earlier = grind (arith, common_steps, nat_tests, length-kept_behind ids (id ∷ earlier))

pub gives_none : (ids : List ℕ) (numbers seen : BTreeSet ℕ) → ((x : ℕ) → contains nat_cmp numbers x ≡ is_among x ids)
    → ((x : ℕ) → contains nat_cmp seen x ≡ false) → GivesOn ids [] numbers seen 1 0
gives_none ids numbers seen are none = record {
  earlier = [];
  held = kept_behind [] ids;
  seen_so = none;
  some = omega arith;
  below = λ x some less. absurd (omega arith);
  above = λ x some. among-kept_behind ids [] x some refl ∙ sym (are x);
  rest = refl;
  few = (let few = length-kept_behind ids [] in omega arith);
  given = refl;
}

given_cons : (earlier held ids : List ℕ) (id : ℕ)
    → given_behind earlier held (id ∷ ids) ≡ cond (is_kept earlier id) (id ∷ given_behind (id ∷ earlier) held ids)
    (least_id held ∷ given_behind (id ∷ earlier) (least_id held ∷ held) ids)
unfolding given_behind
given_cons earlier held ids id = refl

kept_so : (earlier : List ℕ) (id : ℕ) (found : Bool) → found ≡ is_among id earlier → (not (id == 0) && not found) ≡ is_kept earlier id
kept_so earlier id found is = ap (λ b. not (id == 0) && not b) is

-- an id that is kept
pub gives_own : (ids fresh : List ℕ) (numbers seen seen' : BTreeSet ℕ) (next place id : ℕ) → GivesOn ids fresh numbers seen next place
    → slice_get ids place ≡ Some id
    → (not (id == 0) && not (contains nat_cmp seen id)) ≡ true → ((x : ℕ) → contains nat_cmp seen' x ≡ ((id == x) || contains nat_cmp seen x))
    → GivesOn ids (fresh ++ id ∷ []) numbers seen' next (place + 1)
gives_own ids fresh numbers seen seen' next place id on here own more =
    let kept : is_kept on.earlier id ≡ true = sym (kept_so on.earlier id (contains nat_cmp seen id) (on.seen_so id)) ∙ own in
    record {
      earlier = id ∷ on.earlier;
      held = on.held;
      seen_so = λ x. more x ∙ ap (λ b. (id == x) || b) (on.seen_so x);
      some = on.some;
      below = on.below;
      above = on.above;
      rest = on.rest ∙ rw (add-one, drop_next ids place id here, given_cons, kept, append_assoc) refl;
      few = (let few = on.few in omega arith);
      given = (let many = on.given in let l = length-append fresh (id ∷ []) in omega arith);
    }

-- the first number that is free is the least id
first_is_least : (ids fresh : List ℕ) (numbers seen : BTreeSet ℕ) (next place free : ℕ) → (on : GivesOn ids fresh numbers seen next place) → next ≤ free
    → contains nat_cmp numbers free ≡ false
    → ((k : ℕ) → next ≤ k → k < free → contains nat_cmp numbers k ≡ true) → free ≡ least_id on.held
first_is_least ids fresh numbers seen next place free on from none all = grind (arith, common_steps, nat_tests, least_is)

-- some number is free
pub some_is_free : (ids fresh : List ℕ) (numbers seen : BTreeSet ℕ) (next place : ℕ) → GivesOn ids fresh numbers seen next place → length ids ≤ 65535
    → place ≤ length ids
    → (k : ℕ) × ((next ≤ k) × (k ≤ 16777215) × (contains nat_cmp numbers k ≡ false))
some_is_free ids fresh numbers seen next place on few within =
    let from : next ≤ least_id on.held = least_from_here on.held next on.below in
    let high : least_id on.held ≤ 1 + length on.held = least_high on.held (length on.held) 1 in
    let many = on.few in
    (least_id on.held, (from, omega arith, sym (on.above (least_id on.held) from) ∙ least_free on.held))

-- an id that gives way to the least one
pub gives_least : (ids fresh : List ℕ) (numbers seen seen' : BTreeSet ℕ) (next place id free : ℕ) → GivesOn ids fresh numbers seen next place
    → slice_get ids place ≡ Some id
    → (not (id == 0) && not (contains nat_cmp seen id)) ≡ false → ((x : ℕ) → contains nat_cmp seen' x ≡ ((id == x) || contains nat_cmp seen x))
    → next ≤ free → contains nat_cmp numbers free ≡ false → ((k : ℕ) → next ≤ k → k < free → contains nat_cmp numbers k ≡ true)
    → GivesOn ids (fresh ++ free ∷ []) numbers seen' (free + 1) (place + 1)
gives_least ids fresh numbers seen seen' next place id free on here other more from none all =
    let kept : is_kept on.earlier id ≡ false = sym (kept_so on.earlier id (contains nat_cmp seen id) (on.seen_so id)) ∙ other in
    let least : free ≡ least_id on.held = first_is_least ids fresh numbers seen next place free on from none all in
    record {
      earlier = id ∷ on.earlier;
      held = free ∷ on.held;
      seen_so = λ x. more x ∙ ap (λ b. (id == x) || b) (on.seen_so x);
      some = omega arith;
      below = below;
      above = λ x past. (let differ : (free == x) ≡ false = apart free x (omega arith) in rw differ (on.above x (omega arith)));
      rest = on.rest ∙ rw (add-one, drop_next ids place id here, given_cons, kept, sym least, append_assoc) refl;
      few = (let few = on.few in omega arith);
      given = (let many = on.given in let l = length-append fresh (free ∷ []) in omega arith);
    }
  where
    below : (x : ℕ) → 1 ≤ x → x < free + 1 → is_among x (free ∷ on.held) ≡ true
    below x some less = by (nat_lt x next) refl (free == x) refl
      where
        by : (b : Bool) → nat_lt x next ≡ b → (c : Bool) → (free == x) ≡ c → is_among x (free ∷ on.held) ≡ true
        by b e true same = ap (λ c. c || is_among x on.held) same
        by true e false differ = or_right (free == x) (is_among x on.held) (on.below x some (grind (arith, nat_tests)))
        by false e false differ =
            let past : next ≤ x = grind (arith, nat_tests) in
            let before : x < free = grind (arith, nat_tests) in
            or_right (free == x) (is_among x on.held) (on.above x past ∙ all x past before)

given_nil : (earlier held : List ℕ) → given_behind earlier held [] ≡ []
unfolding given_behind
given_nil earlier held = refl

pub gives_all : (ids fresh : List ℕ) (numbers seen : BTreeSet ℕ) (next place : ℕ) → GivesOn ids fresh numbers seen next place → length ids ≤ place
    → fresh ≡ fresh_ids ids
gives_all ids fresh numbers seen next place on past = sym (on.rest ∙ rw (drop_all ids place past, given_nil, append-nil) refl)

-- ---- the records

change_later : (change : Record → Record) (item : Record) (items : List Record) (k : ℕ)
    → change_at change (suc k) (item ∷ items) ≡ item ∷ change_at change k items
change_later change item items k = grind (arith, common_steps, nat_tests, slice_get)

with_ids_cons : (id : ℕ) (ids : List ℕ) (item : Record) (items : List Record)
    → with_ids (id ∷ ids) (item ∷ items) ≡ record item { id = id } ∷ with_ids ids items
unfolding with_ids
with_ids_cons id ids item items = refl

settle_first : (id : ℕ) (item : Record) (items : List Record)
    → change_at (settled id) 0 (map idle (with_ids [] []) ++ item ∷ items) ≡ map idle (with_ids (id ∷ []) (item ∷ [])) ++ items
unfolding with_ids
settle_first id item items = refl

-- the record at a place is settled like those before it
settle_next_suc : (ids : List ℕ) (items : List Record) (k id : ℕ) → slice_get ids k ≡ Some id → length ids ≡ length items
    → change_at (settled id) k (map idle (with_ids (take k ids) (take k items)) ++ drop k items) ≡ map idle
    (with_ids (take (suc k) ids) (take (suc k) items)) ++ drop (suc k) items
settle_next_suc [] items k id here many = absurd cc
settle_next_suc (other ∷ ids) [] k id here many = absurd (omega arith)
settle_next_suc (other ∷ ids) (item ∷ items) zero id here many = grind (arith, common_steps, nat_tests, settle_first)
settle_next_suc (other ∷ ids) (item ∷ items) (suc k) id here many =
    grind (arith, common_steps, nat_tests, with_ids_cons, change_later, settle_next_suc ids items k id here (omega arith))

pub settle_next : (ids : List ℕ) (items : List Record) (k id : ℕ) → slice_get ids k ≡ Some id → length ids ≡ length items
    → change_at (settled id) k (map idle (with_ids (take k ids) (take k items)) ++ drop k items) ≡ map idle
    (with_ids (take (k + 1) ids) (take (k + 1) items)) ++ drop (k + 1) items
settle_next ids items k id here many = rw add-one (settle_next_suc ids items k id here many)

-- an entry that was looked up
pub get_some : {X : Type 0} (xs : List X) (k : ℕ) (x : X) → k < length xs → x ≡ get_or xs k x → slice_get xs k ≡ Some x
get_some [] k x within is = absurd (omega arith)
get_some (y ∷ ys) zero x within is = ap Some (sym is)
get_some (y ∷ ys) (suc k) x within is = get_some ys k x (omega arith) is

pub take_all : {X : Type 0} (xs : List X) (k : ℕ) → length xs ≤ k → take k xs ≡ xs
take_all [] zero past = refl
take_all [] (suc k) past = refl
take_all (y ∷ ys) zero past = absurd (omega arith)
take_all (y ∷ ys) (suc k) past = ap (λ zs. y ∷ zs) (take_all ys k (omega arith))

-- all records are settled
pub settle_all : (ids : List ℕ) (items : List Record) (k : ℕ) → length ids ≤ k → length ids ≡ length items
    → map idle (with_ids (take k ids) (take k items)) ++ drop k items ≡ map idle (with_ids ids items)
settle_all ids items k past many = grind (arith, common_steps, nat_tests, take_all, drop_all, append-nil)
