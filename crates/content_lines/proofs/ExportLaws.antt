-- The records of a database that are exported, one after the other.
use Rattle.std.proofs.lemmas.List.{take_more}
use Rattle.std.proofs.lemmas.List.Elements.{All-cons, All-head, All-nil, All-tail}
use Rattle.std.proofs.Common.{◌≡◌, ◌∙◌, ◌<◌, ◌+◌, append-nil, append_assoc, get_or, length, take, ap, refl, sym, ℕ, Bool, true, false, List, [], ◌∷◌, ◌++◌}
use Rattle.std.specs.Prelude.{All, filter, if◌then◌else◌, map}
use Rattle.std.specs.List.{flat_map}
use Rattle.pdb_values.specs.declared.record.Record.{Record}

-- what the records that pass a test add
added : {X Y : Type 0} → (X → List Y) → (Record → X) → (Record → Bool) → List Record → List Y
added f g test items = flat_map f (map g (filter test items))

last_added : {X Y : Type 0} (b : Bool) (f : X → List Y) (g : Record → X) (test : Record → Bool) (item : Record) → test item ≡ b
    → added f g test (item ∷ []) ≡ (if b then f (g item) else [])
unfolding added
last_added true f g test item is = rw is (append-nil (f (g item)))
last_added false f g test item is = rw is refl

one_added : {X Y : Type 0} (b : Bool) (f : X → List Y) (g : Record → X) (test : Record → Bool) (x item : Record) (items : List Record) → test x ≡ b
    → added f g test (items ++ item ∷ []) ≡ added f g test items ++ (if test item then f (g item) else [])
    → added f g test (x ∷ (items ++ item ∷ [])) ≡ added f g test (x ∷ items) ++ (if test item then f (g item) else [])
unfolding added
one_added true f g test x item items is rest =
    rw is (ap (λ l. f (g x) ++ l) rest ∙ sym (append_assoc (f (g x)) (added f g test items) (if test item then f (g item) else [])))
one_added false f g test x item items is rest = rw is rest

added-append : {X Y : Type 0} (f : X → List Y) (g : Record → X) (test : Record → Bool) (items : List Record) (item : Record)
    → added f g test (items ++ item ∷ []) ≡ added f g test items ++ (if test item then f (g item) else [])
unfolding added
added-append f g test [] item = last_added (test item) f g test item refl
added-append f g test (x ∷ items) item = one_added (test x) f g test x item items refl (added-append f g test items item)

-- one more record
pub exported-more : {X Y : Type 0} (f : X → List Y) (g : Record → X) (test : Record → Bool) (items : List Record) (i : ℕ) (item : Record) → i < length items
    → item ≡ get_or items i item → flat_map f (map g (filter test (take (i + 1) items)))
    ≡ flat_map f (map g (filter test (take i items))) ++ (if test item then f (g item) else [])
unfolding added
exported-more f g test items i item inside is =
    ap (added f g test) (take_more items i item inside ∙ ap (λ (x : Record). take i items ++ x ∷ []) (sym is)) ∙ added-append f g test (take i items) item

by_item : {X : Type 0} (b : Bool) (P : X → Type 0) (g : Record → X) (test : Record → Bool) (item : Record) (items : List Record) → test item ≡ b
    → (test item ≡ true → P (g item)) → All P (map g (filter test items)) → All P (map g (filter test (item ∷ items)))
by_item true P g test item items is one rest = rw is (All-cons P (g item) (map g (filter test items)) (one is) rest)
by_item false P g test item items is one rest = rw is rest

-- what is true of each that is exported is true of all that they say
pub exported-all : {X : Type 0} (P : X → Type 0) (g : Record → X) (test : Record → Bool) (items : List Record)
    → All (λ item. test item ≡ true → P (g item)) items → All P (map g (filter test items))
exported-all P g test [] all = All-nil P
exported-all P g test (item ∷ items) all =
    by_item (test item) P g test item items refl (All-head (λ x. test x ≡ true → P (g x)) item items all)
    (exported-all P g test items (All-tail (λ x. test x ≡ true → P (g x)) item items all))
