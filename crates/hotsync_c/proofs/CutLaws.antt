-- What is left of a list of entries, one entry further on.
use Rattle.std.proofs.Common.{◌≡◌, ◌∙◌, ◌<◌, ◌+◌, ◌++◌, ◌∷◌, [], ap, sym, ℕ, suc, Bool, true, List, add-one, append_assoc, drop, drop-cons, get_or, length, take}
use Rattle.std.proofs.lemmas.Bool.{and_parts}
use Rattle.std.specs.Prelude.{nat_le}
use Rattle.std.specs.List.{list_all}
use Rattle.hotsync_c.specs.Building.{is_cut, items_in}
use Rattle.hotsync_c.specs.declared.parts.HsEntry.{HsEntry}

-- the entries from an index on
pub entries_more : (entries : List HsEntry) (i : ℕ) (entry : HsEntry) → i < length entries → entry ≡ get_or entries i entry
    → drop i entries ≡ entry ∷ drop (i + 1) entries
entries_more entries i entry inside is =
    rw add-one (drop-cons entries i entry inside ∙ ap (λ (head : HsEntry). head ∷ drop (suc i) entries) (sym is))

-- bytes that are cut for some entries have enough for the first one, and are cut behind it
pub cut_left : (entries : List HsEntry) (i : ℕ) (entry : HsEntry) (bytes : List ℕ) → i < length entries → entry ≡ get_or entries i entry
    → is_cut (drop i entries) bytes ≡ true
    → (nat_le entry.size (length bytes) ≡ true) × (is_cut (drop (i + 1) entries) (drop entry.size bytes) ≡ true)
cut_left entries i entry bytes inside is cut =
    and_parts (nat_le entry.size (length bytes)) (is_cut (drop (i + 1) entries) (drop entry.size bytes))
    (sym (ap (λ rest. is_cut rest bytes) (entries_more entries i entry inside is)) ∙ cut)

-- what holds of all entries holds of the first one and of those behind it
pub all_left : (p : HsEntry → Bool) (entries : List HsEntry) (i : ℕ) (entry : HsEntry) → i < length entries → entry ≡ get_or entries i entry
    → list_all p (drop i entries) ≡ true → (p entry ≡ true) × (list_all p (drop (i + 1) entries) ≡ true)
all_left p entries i entry inside is all =
    and_parts (p entry) (list_all p (drop (i + 1) entries)) (sym (ap (list_all p) (entries_more entries i entry inside is)) ∙ all)

-- one item more, and those behind it
pub items_more : {A : Type 0} (item : HsEntry → List ℕ → A) (front : List A) (entries : List HsEntry) (i : ℕ) (entry : HsEntry)
    (bytes : List ℕ) → i < length entries → entry ≡ get_or entries i entry
    → (front ++ item entry (take entry.size bytes) ∷ []) ++ items_in item (drop (i + 1) entries) (drop entry.size bytes)
    ≡ front ++ items_in item (drop i entries) bytes
items_more item front entries i entry bytes inside is =
    append_assoc front (item entry (take entry.size bytes) ∷ []) (items_in item (drop (i + 1) entries) (drop entry.size bytes))
    ∙ ap (λ items. front ++ items) (sym (ap (λ rest. items_in item rest bytes) (entries_more entries i entry inside is)))
