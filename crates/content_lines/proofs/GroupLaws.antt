-- Properties stand in groups, one behind the other, and the name of each tells its group. So a list of properties is that of
-- one list of groups, and a list of lists of properties is told where each is told by its front.
use Rattle.std.proofs.lemmas.Bool.{and_parts}
use Rattle.std.proofs.lemmas.Bool.Decides.{nat_tests}
use Rattle.std.proofs.lemmas.List.Elements.{All-head, All-tail}
use Rattle.std.proofs.Common.{arith, ◌≡◌, ◌<◌, ◌∙◌, ◌==◌, ◌&&◌, ◌+◌, ap, refl, sym, ℕ, suc, Bool, true, List, [], ◌∷◌, ◌++◌, append_assoc, length}
use Rattle.std.specs.Prelude.{All, nat_lt}
use Rattle.std.specs.List.{flat_map}
use Rattle.content_lines.specs.Lines.{has_no_break}
use Rattle.content_lines.specs.Properties.{IsBytes, PropertyValue, are_properties, given_property, is_name, is_property, text_property}
use Rattle.content_lines.proofs.ValueLaws.{text_value_injective, unbroken-text}

-- the properties of groups, one behind the other
abbrev pub joined : List (List PropertyValue) → List PropertyValue
joined groups = flat_map (λ group. group) groups

-- each is told by its line, and its name stands in this group
unfoldable pub stand : (List ℕ → ℕ) → ℕ → List PropertyValue → Bool
stand rank k [] = true
stand rank k (p ∷ ps) = ((rank p.name == k) && is_property p) && stand rank k ps

-- so do those of each group, counted from a number
abbrev pub AreGroups : (List ℕ → ℕ) → ℕ → List (List PropertyValue) → Type 0
AreGroups rank k [] = Unit {0}
AreGroups rank k (group ∷ groups) = (stand rank k group ≡ true) × AreGroups rank (suc k) groups

-- the first one stands in a later group
abbrev pub later : (List ℕ → ℕ) → ℕ → List PropertyValue → Bool
later rank k [] = true
later rank k (p ∷ ps) = nat_lt k (rank p.name)

-- ---- a group in front of later ones

own_place : (rank : List ℕ → ℕ) (k : ℕ) (p : PropertyValue) (ps : List PropertyValue) → stand rank k (p ∷ ps) ≡ true → rank p.name ≡ k
unfolding stand
own_place rank k p ps is =
    let own = and_parts (rank p.name == k) (is_property p) (and_parts ((rank p.name == k) && is_property p) (stand rank k ps) is).0 in
    grind (arith, nat_tests, own.0)

no_group : (rank : List ℕ → ℕ) (k : ℕ) (p : PropertyValue) (ps s t : List PropertyValue) → stand rank k (p ∷ ps) ≡ true → later rank k s ≡ true
    → s ≡ p ∷ t → ⊥
no_group rank k p ps s t is late e =
    let own = own_place rank k p ps is in
    let other : nat_lt k (rank p.name) ≡ true = ap (later rank k) (sym e) ∙ late in
    grind (arith, nat_tests, own, other)

pub group_front : (rank : List ℕ → ℕ) (k : ℕ) (g h s t : List PropertyValue) → stand rank k g ≡ true → stand rank k h ≡ true → later rank k s ≡ true
    → later rank k t ≡ true → g ++ s ≡ h ++ t → (g ≡ h) × (s ≡ t)
unfolding stand
group_front rank k [] [] s t is_g is_h late_s late_t e = (refl, e)
group_front rank k [] (q ∷ qs) s t is_g is_h late_s late_t e = absurd (no_group rank k q qs s (qs ++ t) is_h late_s e)
group_front rank k (p ∷ ps) [] s t is_g is_h late_s late_t e = absurd (no_group rank k p ps t (ps ++ s) is_g late_t (sym e))
group_front rank k (p ∷ ps) (q ∷ qs) s t is_g is_h late_s late_t e =
    let first : p ≡ q = cc in
    let others : ps ++ s ≡ qs ++ t = cc in
    let rest =
    group_front rank k ps qs s t (and_parts ((rank p.name == k) && is_property p) (stand rank k ps) is_g).1
    (and_parts ((rank q.name == k) && is_property q) (stand rank k qs) is_h).1 late_s late_t others in
    (λ i. first i ∷ rest.0 i, rest.1)

-- ---- groups in front of what is later than each

groups_later : (rank : List ℕ → ℕ) (k j : ℕ) (groups : List (List PropertyValue)) (s : List PropertyValue) → k < j → AreGroups rank j groups
    → later rank k s ≡ true → later rank k (joined groups ++ s) ≡ true
groups_later rank k j [] s less is late = late
groups_later rank k j ([] ∷ groups) s less is late = groups_later rank k (suc j) groups s (omega (arith, less)) is.1 late
groups_later rank k j ((p ∷ ps) ∷ groups) s less is late =
    let own = own_place rank j p ps is.0 in
    grind (arith, nat_tests, own, less)

pub groups_front : (rank : List ℕ → ℕ) (k : ℕ) (a b : List (List PropertyValue)) (s t : List PropertyValue) → length a ≡ length b → AreGroups rank k a
    → AreGroups rank k b → ((j : ℕ) → j < k + length a → later rank j s ≡ true) → ((j : ℕ) → j < k + length a → later rank j t ≡ true)
    → joined a ++ s ≡ joined b ++ t → (a ≡ b) × (s ≡ t)
groups_front rank k [] [] s t n is_a is_b late_s late_t e = (refl, e)
groups_front rank k [] (h ∷ hs) s t n is_a is_b late_s late_t e = absurd (omega (arith, n))
groups_front rank k (g ∷ gs) [] s t n is_a is_b late_s late_t e = absurd (omega (arith, n))
groups_front rank k (g ∷ gs) (h ∷ hs) s t n is_a is_b late_s late_t e =
    let moved : g ++ (joined gs ++ s) ≡ h ++ (joined hs ++ t) = sym (append_assoc g (joined gs) s) ∙ (e ∙ append_assoc h (joined hs) t) in
    let first =
    group_front rank k g h (joined gs ++ s) (joined hs ++ t) is_a.0 is_b.0 (groups_later rank k (suc k) gs s (omega arith) is_a.1 (late_s k (omega arith)))
    (groups_later rank k (suc k) hs t (omega arith) is_b.1 (late_t k (omega arith))) moved in
    let rest =
    groups_front rank (suc k) gs hs s t (omega (arith, n)) is_a.1 is_b.1 (λ j less. late_s j (omega (arith, less)))
    (λ j less. late_t j (omega (arith, less))) first.1 in
    (λ i. first.0 i ∷ rest.0 i, rest.1)

-- ---- properties of groups

pub are_properties-append : (a b : List PropertyValue) → are_properties a ≡ true → are_properties b ≡ true → are_properties (a ++ b) ≡ true
are_properties-append [] b h k = k
are_properties-append (p ∷ ps) b h k =
    let parts = and_parts (is_property p) (are_properties ps) h in
    let rest = are_properties-append ps b parts.1 k in
    rw (parts.0, rest) refl

group_are_properties : (rank : List ℕ → ℕ) (k : ℕ) (group : List PropertyValue) → stand rank k group ≡ true → are_properties group ≡ true
unfolding stand
group_are_properties rank k [] is = refl
group_are_properties rank k (p ∷ ps) is =
    let parts = and_parts ((rank p.name == k) && is_property p) (stand rank k ps) is in
    let own = and_parts (rank p.name == k) (is_property p) parts.0 in
    let rest = group_are_properties rank k ps parts.1 in
    rw (own.1, rest) refl

pub groups_are_properties : (rank : List ℕ → ℕ) (k : ℕ) (groups : List (List PropertyValue)) → AreGroups rank k groups → are_properties (joined groups) ≡ true
groups_are_properties rank k [] is = refl
groups_are_properties rank k (group ∷ groups) is =
    are_properties-append group (joined groups) (group_are_properties rank k group is.0) (groups_are_properties rank (suc k) groups is.1)

-- ---- properties that stand in a group

pub also : {P Q : Type 0} → P → Q → P × Q
also p q = (p, q)

pub stand-nil : (rank : List ℕ → ℕ) (k : ℕ) → stand rank k [] ≡ true
unfolding stand
stand-nil rank k = refl

pub stand-cons : (rank : List ℕ → ℕ) (k : ℕ) (p : PropertyValue) (ps : List PropertyValue) → (rank p.name == k) ≡ true → is_name p.name ≡ true
    → has_no_break p.value ≡ true → stand rank k ps ≡ true → stand rank k (p ∷ ps) ≡ true
unfolding stand
stand-cons rank k p ps own is value rest = rw (own, is, value, rest) refl

pub stand-append : (rank : List ℕ → ℕ) (k : ℕ) (a b : List PropertyValue) → stand rank k a ≡ true → stand rank k b ≡ true → stand rank k (a ++ b) ≡ true
unfolding stand
stand-append rank k [] b h g = g
stand-append rank k (p ∷ ps) b h g =
    let parts = and_parts ((rank p.name == k) && is_property p) (stand rank k ps) h in
    let rest = stand-append rank k ps b parts.1 g in
    rw (parts.0, rest) refl

-- a text that may be left out
pub given_stands : (rank : List ℕ → ℕ) (k : ℕ) (name text : List ℕ) → (rank name == k) ≡ true → is_name name ≡ true → IsBytes text
    → stand rank k (given_property name text) ≡ true
given_stands rank k name [] own is h = stand-nil rank k
given_stands rank k name (b ∷ bs) own is h =
    stand-cons rank k (text_property name (b ∷ bs)) [] own is (unbroken-text (b ∷ bs) h) (stand-nil rank k)

pub given_injective : (name v w : List ℕ) → IsBytes v → IsBytes w → given_property name v ≡ given_property name w → v ≡ w
given_injective name [] [] h k e = refl
given_injective name [] (y ∷ ys) h k e = cc
given_injective name (x ∷ xs) [] h k e = cc
given_injective name (x ∷ xs) (y ∷ ys) h k e = text_value_injective (x ∷ xs) (y ∷ ys) h k (ap value_of e)
  where
    value_of : List PropertyValue → List ℕ
    value_of [] = []
    value_of (p ∷ ps) = p.value

-- ---- lists of lists of properties

-- each is told by its front, and isn't what stands behind all
pub lists_injective : {X : Type 0} (P : X → Type 0) (f : X → List PropertyValue) (last : List PropertyValue)
    → ((x y : X) (s t : List PropertyValue) → P x → P y → f x ++ s ≡ f y ++ t → (x ≡ y) × (s ≡ t))
    → ((x : X) (s : List PropertyValue) → last ≡ f x ++ s → ⊥) → (a b : List X) → All P a → All P b → flat_map f a ++ last ≡ flat_map f b ++ last → a ≡ b
lists_injective P f last front other [] [] h k e = refl
lists_injective P f last front other [] (y ∷ ys) h k e = absurd (other y (flat_map f ys ++ last) (e ∙ append_assoc (f y) (flat_map f ys) last))
lists_injective P f last front other (x ∷ xs) [] h k e = absurd (other x (flat_map f xs ++ last) (sym e ∙ append_assoc (f x) (flat_map f xs) last))
lists_injective P f last front other (x ∷ xs) (y ∷ ys) h k e =
    let moved = sym (append_assoc (f x) (flat_map f xs) last) ∙ (e ∙ append_assoc (f y) (flat_map f ys) last) in
    let first = front x y (flat_map f xs ++ last) (flat_map f ys ++ last) (All-head P x xs h) (All-head P y ys k) moved in
    let rest = lists_injective P f last front other xs ys (All-tail P x xs h) (All-tail P y ys k) first.1 in
    λ i. first.0 i ∷ rest i

pub lists_are_properties : {X : Type 0} (P : X → Type 0) (f : X → List PropertyValue) → ((x : X) → P x → are_properties (f x) ≡ true) → (a : List X) → All P a
    → are_properties (flat_map f a) ≡ true
lists_are_properties P f each [] h = refl
lists_are_properties P f each (x ∷ xs) h =
    are_properties-append (f x) (flat_map f xs) (each x (All-head P x xs h)) (lists_are_properties P f each xs (All-tail P x xs h))
