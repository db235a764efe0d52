-- What is chosen of a database has the categories that its sides have, and never the id 0.
use Rattle.std.proofs.lemmas.Grind.{common_steps}
use Rattle.std.proofs.Common.{◌≡◌, ◌≤◌, ◌<◌, ◌==◌, sym, subst, ℕ, zero, suc, Bool, true, false, List, [], ◌∷◌, if◌then◌else◌, arith}
use Rattle.std.specs.Prelude.{not, ◌&&◌, Option, None, IfSome, option_to_list, flat_map}
use Rattle.std.specs.List.{AllByRecursion, find}
use Rattle.std.specs.Option.{option_map}
use Rattle.pdb_values.specs.Contents.{ContentValue}
use Rattle.pdb_values.specs.declared.record.Record.{Record}
use Rattle.conduit_rules.specs.ById.{each_below, each_id, id_bound, put, with_id}
use Rattle.conduit_rules.specs.Choices.{Sides, choice_for, fate_for, offered_for, offers_for, partners_for, sides_of}
use Rattle.conduit_rules.specs.Contents.{count_of}
use Rattle.conduit_rules.specs.Fates.{fate_under}
use Rattle.conduit_rules.specs.News.{less_one, live_contents, loose, unpaired}
use Rattle.conduit_rules.specs.Plans.{replaced_rows, replacement}
use Rattle.conduit_rules.specs.States.{SideState, nothing, live, archived, BaseState, no_base, row, gone, base_at, based_under, based_where, first, has_row}
use Rattle.conduit_rules.specs.Views.{fast_seen, fast_view, slow_seen, slow_view, unread_where}
use Rattle.conduit_rules.specs.declared.action.Action.{Action}
use Rattle.conduit_rules.specs.declared.view.Seen.{Seen}
use Rattle.conduit_rules.proofs.ByIdLaws.{each_below-zero, each_below-suc}
use Rattle.front_laws.proofs.PutActs.{IsReplacement}
use Rattle.front_laws.proofs.WriteActs.{IsSorted}
use Rattle.desk_journal.proofs.StepLaws.{all-append}

abbrev pub HasSorted : Record → Type 0
HasSorted r = IsSorted r.content

abbrev IfHeld : SideState → Type 0
IfHeld nothing = Unit {0}
IfHeld (live c) = IsSorted c
IfHeld (archived c) = IsSorted c

abbrev IfBased : BaseState → Type 0
IfBased no_base = Unit {0}
IfBased (row c) = IsSorted c
IfBased (gone c) = IsSorted c

-- ---- lists

pub all-flat_map : {A B : Type 0} (P : A → Type 0) (Q : B → Type 0) (f : A → List B) (xs : List A) → ((x : A) → P x → AllByRecursion Q (f x))
    → AllByRecursion P xs → AllByRecursion Q (flat_map f xs)
all-flat_map P Q f [] each all = tt
all-flat_map P Q f (x ∷ xs) each all = all-append Q (f x) (flat_map f xs) (each x all.0) (all-flat_map P Q f xs each all.1)

pub all-below : {A : Type 0} (P : A → Type 0) (f : ℕ → List A) (n : ℕ) → ((i : ℕ) → i < n → AllByRecursion P (f i)) → AllByRecursion P (each_below f n)
all-below P f zero each = subst (AllByRecursion P) (sym (each_below-zero f)) tt
all-below P f (suc n) each = grind (arith, each_below-suc f n, all-append P (each_below f n) (f n), all-below P f n)

pub found : {A : Type 0} (P : A → Type 0) (test : A → Bool) (xs : List A) → AllByRecursion P xs → IfSome (find test xs) P
found P test [] all = tt
found P test (x ∷ xs) all = grind (arith, found P test xs all.1)

listed : {A : Type 0} (P : A → Type 0) (o : Option A) → IfSome o P → AllByRecursion P (option_to_list o)
listed P o is = grind (arith, common_steps)

-- ---- what becomes of an id

fate_keep : (a : Action) (b : BaseState) (h d : SideState) → IfBased b → IfHeld h → IfHeld d → IfSome (fate_under a b h d).keep IsSorted
fate_keep a b h d of_b of_h of_d = grind (arith, common_steps)

fate_news : (a : Action) (b : BaseState) (h d : SideState) → IfHeld d → IfSome (fate_under a b h d).news IsSorted
fate_news a b h d of_d = grind (arith, common_steps)

-- nothing is kept under the id 0
none_kept : (a : Action) (d : SideState) → (fate_under a no_base nothing d).keep ≡ None
none_kept a d = grind (arith, common_steps)

-- ---- the sides

pub record AreSorted (s : Sides) : Type 0 where
  pub base : (i : ℕ) → IfBased (s.base i)
  pub handheld : (i : ℕ) → IfHeld (s.handheld i)
  pub desktop : (i : ℕ) → IfHeld (s.desktop i)
  pub loose : AllByRecursion IsSorted s.loose_live
  pub all : AllByRecursion IsSorted s.all_live

-- no side has anything under the id 0
pub record HasNoZero (s : Sides) : Type 0 where
  pub base : s.base 0 ≡ no_base
  pub handheld : s.handheld 0 ≡ nothing

based_sorted : (counts : Bool) (o : Option Record) → IfSome o HasSorted → IfBased (based_where counts o)
based_sorted counts o is = grind (arith, common_steps)

under_sorted : (counts : Bool) (i : ℕ) (o : Option Record) → IfSome o HasSorted → IfBased (based_under counts i o)
under_sorted counts i o is = grind (arith, based_sorted counts o is)

abbrev pub SeenSorted : Seen → Type 0
SeenSorted s = IsSorted s.content

view_sorted : (f : Record → Seen) (records : List Record) → ((r : Record) → HasSorted r → SeenSorted (f r)) → AllByRecursion HasSorted records
    → AllByRecursion SeenSorted (each_id (λ i. option_to_list (option_map f (first i records))))
view_sorted f records each all = grind (arith, all-below SeenSorted, found HasSorted)

unread_sorted : (b : BaseState) (r : Record) → IfBased b → HasSorted r → SeenSorted (unread_where b r)
unread_sorted b r of_b is = grind (arith, common_steps)

fast_sorted : (base : List Record) (r : Record) → AllByRecursion HasSorted base → HasSorted r → SeenSorted (fast_seen base r)
fast_sorted base r all is = by (not r.dirty && not r.deleted)
  where
    by : (b : Bool) → SeenSorted (if b then unread_where (base_at base false r.id) r else slow_seen r)
    by true = unread_sorted (base_at base false r.id) r (under_sorted false r.id (first r.id base) (found HasSorted (λ x. x.id == r.id) base all)) is
    by false = is

pub slow-sorted : (records : List Record) → AllByRecursion HasSorted records → AllByRecursion SeenSorted (slow_view records)
slow-sorted records all = view_sorted slow_seen records (λ r is. is) all

pub fast-sorted : (base records : List Record) → AllByRecursion HasSorted base → AllByRecursion HasSorted records
    → AllByRecursion SeenSorted (fast_view base records)
fast-sorted base records of_base all = view_sorted (fast_seen base) records (λ r is. fast_sorted base r of_base is) all

loose_sorted : (based : ℕ → Bool) (rows : List Record) → AllByRecursion HasSorted rows → AllByRecursion HasSorted (loose based rows)
loose_sorted based [] all = tt
loose_sorted based (r ∷ rows) all = grind (arith, loose_sorted (put based r.id false) rows all.1, loose_sorted based rows all.1)

live_contents_sorted : (records : List Record) → AllByRecursion HasSorted records → AllByRecursion IsSorted (live_contents records)
live_contents_sorted records all = grind (arith, all-flat_map HasSorted IsSorted, listed IsSorted)

pub sides-sorted : (view : List Seen) (rows base : List Record) (counts : Bool) → AllByRecursion SeenSorted view → AllByRecursion HasSorted rows
    → AllByRecursion HasSorted base → AreSorted (sides_of view rows base counts)
sides-sorted view rows base counts of_view of_rows of_base =
    grind (
      arith,
      under_sorted counts,
      found HasSorted,
      found SeenSorted,
      live_contents_sorted (loose (has_row base) rows) (loose_sorted (has_row base) rows of_rows),
      live_contents_sorted rows of_rows,
    )

-- ---- what is chosen

unpaired_sorted : (free : ContentValue → ℕ) (xs : List ContentValue) → AllByRecursion IsSorted xs → AllByRecursion IsSorted (unpaired free xs)
unpaired_sorted free [] all = tt
unpaired_sorted free (c ∷ xs) all = grind (arith, unpaired_sorted free xs all.1, unpaired_sorted (less_one free c) xs all.1)

offered_sorted : (a : Action) {s : Sides} → AreSorted s → AllByRecursion IsSorted (offered_for a s)
offered_sorted a are = grind (arith, common_steps)

pub adds-sorted : (a : Action) {s : Sides} → AreSorted s → AllByRecursion IsSorted (choice_for a s).adds
adds-sorted a {s} are =
    unpaired_sorted (λ c. count_of c (partners_for a s)) (offers_for a s)
    (all-append IsSorted (offered_for a s) (each_id (λ i. option_to_list (fate_for a s i).news)) (offered_sorted a {s = s} are)
    (all-below IsSorted (λ i. option_to_list (fate_for a s i).news) id_bound
    (λ i l. listed IsSorted (fate_for a s i).news (fate_news a (s.base i) (s.handheld i) (s.desktop i) (are.desktop i)))))

pub below_bound : (i : ℕ) → i < id_bound → i ≤ 16777215
unfolding id_bound
below_bound i l = omega (arith, l)

replaced_one : (i : ℕ) (k : Option ContentValue) (h : SideState) → (i ≡ 0 → k ≡ None) → i ≤ 16777215 → IfSome k IsSorted
    → AllByRecursion IsReplacement (with_id i (replacement k h))
replaced_one i k h zero_none bounded is = grind (arith, common_steps)

zero_kept : (a : Action) (s : Sides) (i : ℕ) → HasNoZero s → i ≡ 0 → (fate_for a s i).keep ≡ None
zero_kept a s i no_zero is = grind (arith, none_kept a (s.desktop 0))

pub replaced-sorted : (a : Action) {s : Sides} → AreSorted s → HasNoZero s
    → AllByRecursion IsReplacement (replaced_rows (choice_for a s).keep s.handheld)
replaced-sorted a {s} are no_zero =
    all-below IsReplacement (λ i. with_id i (replacement ((choice_for a s).keep i) (s.handheld i))) id_bound
    (λ i l. replaced_one i (fate_for a s i).keep (s.handheld i) (zero_kept a s i no_zero) (below_bound i l)
    (fate_keep a (s.base i) (s.handheld i) (s.desktop i) (are.base i) (are.handheld i) (are.desktop i)))
