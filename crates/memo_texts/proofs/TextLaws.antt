-- A text that grows.
use Rattle.std.proofs.Common.{◌≡◌, ◌<◌, ◌++◌, ◌∷◌, [], ◌+◌, ap, refl, ℕ, suc, Bool, true, false, List, add-one, append_assoc, drop, drop-cons, get_or, length}
use Rattle.std.proofs.lemmas.List.Elements.{All-cons, All-head, All-nil, All-tail}
use Rattle.std.specs.Prelude.{All, filter, map, Option}
use Rattle.pdb_values.specs.declared.record.Record.{Record}
use Rattle.palm_records.specs.Characters.{char_text}
use Rattle.palm_records.specs.declared.choice.Privacy.{Privacy}
use Rattle.palm_records.specs.Choices.{is_exported}
use Rattle.memo_texts.specs.Exports.{IsItem, items_text, memo_of}
use Rattle.memo_texts.specs.Memos.{IsMemo, guard_behind, lines_from, memo_text, memos_text}

-- one more byte of a memo
pub lines_from-drop : (text new bytes : List ℕ) (at : ℕ) → at < length bytes
    → new ≡ text ++ (char_text (get_or bytes at 0) ++ guard_behind (get_or bytes at 0) (drop (at + 1) bytes))
    → new ++ lines_from (drop (at + 1) bytes) ≡ text ++ lines_from (drop at bytes)
unfolding lines_from
lines_from-drop text new bytes at inside grown =
    let byte = get_or bytes at 0 in
    let rest = drop (suc at) bytes in
    rw (grown, add-one, drop-cons bytes at 0 inside) (append_assoc text (char_text byte ++ guard_behind byte rest) (lines_from rest))

by_item : (b : Bool) (app : Option (List ℕ)) (wanted : Privacy) (item : Record) (items : List Record) → is_exported wanted item ≡ b
    → items_text app wanted items ≡ memos_text (map (memo_of app) (filter (is_exported wanted) items))
    → items_text app wanted (item ∷ items) ≡ memos_text (map (memo_of app) (filter (is_exported wanted) (item ∷ items)))
by_item true app wanted item items is rest = rw is (ap (λ l. memo_text (memo_of app item) ++ l) rest)
by_item false app wanted item items is rest = rw is rest

-- what records add is the text of those that are exported
pub items_text-filter : (app : Option (List ℕ)) (wanted : Privacy) (items : List Record)
    → items_text app wanted items ≡ memos_text (map (memo_of app) (filter (is_exported wanted) items))
items_text-filter app wanted [] = refl
items_text-filter app wanted (item ∷ items) = by_item (is_exported wanted item) app wanted item items refl (items_text-filter app wanted items)

item_memos : (b : Bool) (app : Option (List ℕ)) (wanted : Privacy) (item : Record) (items : List Record) → is_exported wanted item ≡ b
    → IsItem app wanted item → All IsMemo (map (memo_of app) (filter (is_exported wanted) items))
    → All IsMemo (map (memo_of app) (filter (is_exported wanted) (item ∷ items)))
item_memos true app wanted item items is one rest =
    rw is (All-cons IsMemo (memo_of app item) (map (memo_of app) (filter (is_exported wanted) items)) (one is) rest)
item_memos false app wanted item items is one rest = rw is rest

-- the memos that are exported have ids of 24 bits, and bytes
pub exported-memos : (app : Option (List ℕ)) (wanted : Privacy) (items : List Record) → All (IsItem app wanted) items
    → All IsMemo (map (memo_of app) (filter (is_exported wanted) items))
exported-memos app wanted [] all = All-nil IsMemo
exported-memos app wanted (item ∷ items) all =
    item_memos (is_exported wanted item) app wanted item items refl (All-head (IsItem app wanted) item items all)
    (exported-memos app wanted items (All-tail (IsItem app wanted) item items all))
