-- The text of actions, and the test of it.
use Rattle.std.proofs.lemmas.Grind.{common_steps}
use Rattle.std.proofs.Common.{◌≡◌, ℕ, suc, ◌+◌, ◌*◌, ◌/◌, ◌%◌, ◌<◌, ◌==◌, ◌&&◌, Bool, true, false, cond, List, [], ◌∷◌, ◌++◌, length, map, refl, subst, sym, ap, ◌∙◌}
use Rattle.std.proofs.Common.{arith, Option, Some, None, option_map, codes, bytes_eq, take, drop}
use Rattle.std.specs.Prelude.{is_none, is_some, option_and_then, nat_lt, not, ◌↔◌}
use Rattle.std.specs.List.{AllByRecursion, before_first, after_first, position_or_len, filter_map, slice_split}
use Rattle.std.proofs.lemmas.Bool.{and_parts, or_parts, not-true}
use Rattle.std.proofs.lemmas.Bool.Decides.{nat_tests}
use Rattle.std.proofs.lemmas.List.Elements.{All-from_recursion}
use Rattle.std.proofs.lemmas.List.Splits.{join_with_byte-slice_split, slice_split_at, slice_split_none}
use Rattle.std.proofs.lemmas.Slice.Eq.{bytes_eq-Decides}
use Rattle.pdb_values.specs.Names.{name_fault}
use Rattle.pdb_values.specs.Stems.{hex_digit, is_plain, stem_byte, stem_of}
use Rattle.run_words.specs.Actions.{AreActions, AreApart, IsActionsText, IsNameOfBytes, IsTarget, action_of_word, action_text, actions_in, actions_text}
use Rattle.run_words.specs.Actions.{aimed, are_items, has_stem, is_actions_text, is_colon, is_comma, item_of, item_text, stem_in, target_of, target_text}
use Rattle.run_words.specs.StemNames.{as_name, bytes_of_stem, digit_number, escaped, first_of, name_of, onto}
use Rattle.run_words.specs.declared.action.ActionWord.{ActionWord}
use Rattle.run_words.specs.declared.action.ActionWord.TheVariants.{Sync, Handheld, Desktop, Both, Nothing}
use Rattle.run_words.specs.declared.action.NamedAction.{NamedAction}
use Rattle.run_words.specs.declared.action.Target.{Target}
use Rattle.run_words.specs.declared.action.Target.TheVariants.{Others, One}
use Rattle.run_words.proofs.StemLaws.{bytes_of_stem-first, from_first}

-- ---- stems

first_plain : (byte : ℕ) (rest : List ℕ) → is_plain byte ≡ true → first_of (byte ∷ rest) ≡ Some (byte, rest)
first_plain byte rest e = grind arith

pub digit_number-hex_digit : (n : ℕ) → n < 16 → digit_number (hex_digit n) ≡ n
digit_number-hex_digit n e = grind (arith, nat_tests, e)

first_escape : (byte : ℕ) (rest : List ℕ) → byte < 256 → is_plain byte ≡ false
    → first_of (37 ∷ hex_digit (byte / 16) ∷ hex_digit (byte % 16) ∷ rest) ≡ Some (byte, rest)
first_escape byte rest small e =
    let high = digit_number-hex_digit (byte / 16) (omega arith) in
    let low = digit_number-hex_digit (byte % 16) (omega arith) in
    let whole : byte / 16 * 16 + byte % 16 ≡ byte = omega arith in
    let below : nat_lt (byte / 16) 16 ≡ true = grind (arith, nat_tests) in
    let below_too : nat_lt (byte % 16) 16 ≡ true = grind (arith, nat_tests) in
    rw (high, low, below, below_too, whole, e) refl

read_byte : (plain : Bool) (byte : ℕ) (rest : List ℕ) → byte < 256 → is_plain byte ≡ plain
    → bytes_of_stem (cond plain (byte ∷ []) (37 ∷ hex_digit (byte / 16) ∷ hex_digit (byte % 16) ∷ []) ++ rest) ≡ onto byte (bytes_of_stem rest)
read_byte true byte rest small e = bytes_of_stem-first byte rest ∙ ap from_first (first_plain byte rest e)
read_byte false byte rest small e = bytes_of_stem-first 37 _ ∙ ap from_first (first_escape byte rest small e)

-- a stem stands for its name
bytes_of_stem-stem_of : (name : List ℕ) → AllByRecursion (λ byte. byte < 256) name → bytes_of_stem (stem_of name) ≡ Some name
unfolding stem_byte bytes_of_stem
bytes_of_stem-stem_of [] h = refl
bytes_of_stem-stem_of (x ∷ xs) h = read_byte (is_plain x) x (stem_of xs) h.0 refl ∙ ap (onto x) (bytes_of_stem-stem_of xs h.1)

name_of-stem_of : {name : List ℕ} → IsNameOfBytes name → name_of (stem_of name) ≡ Some name
name_of-stem_of {name} h = grind (arith, bytes_of_stem-stem_of name h.bytes)

-- ---- the name of a stem has this stem

record IsRead (stem name : List ℕ) : Type 0 where
  pub written : stem ≡ stem_of name
  pub bytes : AllByRecursion (λ byte. byte < 256) name

plain_stem : (byte : ℕ) → is_plain byte ≡ true → stem_byte byte ≡ byte ∷ []
unfolding stem_byte
plain_stem byte e = rw e refl

-- two digits of a byte that doesn't stand for itself
record IsEscape (first second byte : ℕ) : Type 0 where
  pub high : first ≡ hex_digit (byte / 16)
  pub low : second ≡ hex_digit (byte % 16)
  pub small : byte < 256
  pub other : is_plain byte ≡ false

escape_parts : (a b p : Bool) (n : ℕ) {byte : ℕ} → cond (a && b && not p) (Some n) None ≡ Some byte → (a ≡ true) × (b ≡ true) × (p ≡ false) × (n ≡ byte)
escape_parts a b p n e = grind arith

escaped-is : (high low byte : ℕ) → escaped high low ≡ Some byte → IsEscape high low byte
escaped-is high low byte e =
    grind (
      arith,
      nat_tests,
      escape_parts (nat_lt (digit_number high) 16) (nat_lt (digit_number low) 16)
          (is_plain (digit_number high * 16 + digit_number low)) (digit_number high * 16 + digit_number low) e,
    )

escape_stem : {high low byte : ℕ} → IsEscape high low byte → stem_byte byte ≡ 37 ∷ high ∷ low ∷ []
unfolding stem_byte
escape_stem h = grind arith

-- a plain byte, or an escape
plain_read : (plain : Bool) (byte : ℕ) (rest : List ℕ) (o : Option (List ℕ)) {name : List ℕ} → is_plain byte ≡ plain
    → cond plain (onto byte o) None ≡ Some name → ((more : List ℕ) → o ≡ Some more → IsRead rest more) → IsRead (byte ∷ rest) name
plain_read false byte rest o p e next = cc
plain_read true byte rest o p e next = grind (arith, plain_stem byte p)

escape_read : (percent : Bool) (high low : ℕ) (escape : Option ℕ) (rest : List ℕ) (o : Option (List ℕ)) {name : List ℕ} → escaped high low ≡ escape
    → cond percent (option_and_then (λ byte. onto byte o) escape) None ≡ Some name → ((more : List ℕ) → o ≡ Some more → IsRead rest more)
    → (percent ≡ true) × IsRead (37 ∷ high ∷ low ∷ rest) name
escape_read false high low escape rest o p e next = cc
escape_read true high low None rest o p e next = cc
escape_read true high low (Some byte) rest o p e next = grind (arith, nat_tests, escape_stem (escaped-is high low byte p))

three_read : (plain : Bool) (first second third : ℕ) (rest : List ℕ) {name : List ℕ} → is_plain first ≡ plain
    → cond plain (onto first (bytes_of_stem (second ∷ third ∷ rest)))
    (cond (first == 37) (option_and_then (λ byte. onto byte (bytes_of_stem rest)) (escaped second third)) None) ≡ Some name
    → ((more : List ℕ) → bytes_of_stem (second ∷ third ∷ rest) ≡ Some more → IsRead (second ∷ third ∷ rest) more)
    → ((more : List ℕ) → bytes_of_stem rest ≡ Some more → IsRead rest more) → IsRead (first ∷ second ∷ third ∷ rest) name
three_read true first second third rest p e next later = plain_read true first (second ∷ third ∷ rest) (bytes_of_stem (second ∷ third ∷ rest)) p e next
three_read false first second third rest p e next later =
    grind (arith, escape_read (first == 37) second third (escaped second third) rest (bytes_of_stem rest) refl e later)

bytes_of_stem-is : (stem : List ℕ) {name : List ℕ} → bytes_of_stem stem ≡ Some name → IsRead stem name
unfolding bytes_of_stem
bytes_of_stem-is [] {name} e = grind arith
bytes_of_stem-is (first ∷ []) e = plain_read (is_plain first) first [] (Some []) refl e (λ more same. bytes_of_stem-is [] same)
bytes_of_stem-is (first ∷ second ∷ []) e = plain_read (is_plain first) first (second ∷ []) (bytes_of_stem (second ∷ [])) refl e
    (λ more. bytes_of_stem-is (second ∷ []))
bytes_of_stem-is (first ∷ second ∷ third ∷ rest) e =
    three_read (is_plain first) first second third rest refl e (λ more. bytes_of_stem-is (second ∷ third ∷ rest)) (λ more. bytes_of_stem-is rest)

fault_free : (o : Option (List ℕ)) {name : List ℕ} → option_and_then as_name o ≡ Some name → (o ≡ Some name) × (is_none (name_fault name) ≡ true)
fault_free o e = grind arith

-- ---- names

-- a stem that is read is the stem of a name
record IsNamed (stem name : List ℕ) : Type 0 where
  pub written : stem ≡ stem_of name
  pub valid : IsNameOfBytes name

name_of-is : (stem : List ℕ) {name : List ℕ} → name_of stem ≡ Some name → IsNamed stem name
name_of-is stem {name} e = grind (arith, bytes_of_stem-is stem (fault_free (bytes_of_stem stem) e).0)

-- ---- targets

false_from : (b : Bool) → ¬ (b ≡ true) → b ≡ false
false_from b h = grind arith

-- a text that is read is that of a target
record IsTargeted (text : List ℕ) (target : Target) : Type 0 where
  pub written : text ≡ target_text target
  pub valid : IsTarget target

targeted_by : (star : Bool) (text : List ℕ) (o : Option (List ℕ)) {target : Target} → cond star (Some Others) (option_map One o) ≡ Some target
    → (star ≡ true → text ≡ codes "*") → ((name : List ℕ) → o ≡ Some name → IsNamed text name) → IsTargeted text target
targeted_by true text o {target} e star named =
    let is : Others ≡ target = cc in subst (IsTargeted text) is (record { written = star refl; valid = tt })
targeted_by false text None {target} e star named = cc
targeted_by false text (Some name) {target} e star named =
    let here = named name refl in
    let is : One name ≡ target = cc in subst (IsTargeted text) is (record { written = here.written; valid = here.valid })

target_of-is : (text : List ℕ) {target : Target} → target_of text ≡ Some target → IsTargeted text target
target_of-is text e =
    targeted_by (bytes_eq text (codes "*")) text (name_of text) e (bytes_eq-Decides text (codes "*")).0 (λ name. name_of-is text)

no_star : bytes_of_stem (codes "*") ≡ None
unfolding bytes_of_stem
no_star = refl

-- `*` is no stem
stem_of-star : {name : List ℕ} → IsNameOfBytes name → ¬ (stem_of name ≡ codes "*")
stem_of-star {name} h e = let read : Some name ≡ None = sym (bytes_of_stem-stem_of name h.bytes) ∙ ap bytes_of_stem e ∙ no_star in cc

target_of-target_text : (target : Target) → IsTarget target → target_of (target_text target) ≡ Some target
target_of-target_text Others h = refl
target_of-target_text (One name) h =
    let test : bytes_eq (stem_of name) (codes "*") ≡ false =
    false_from (bytes_eq (stem_of name) (codes "*")) (λ e. stem_of-star h ((bytes_eq-Decides (stem_of name) (codes "*")).0 e)) in
    rw test (ap (option_map One) (name_of-stem_of h))

target_text-injective : (one other : Target) → IsTarget one → IsTarget other → target_text one ≡ target_text other → one ≡ other
target_text-injective one other h k e =
    let read : Some one ≡ Some other = sym (target_of-target_text one h) ∙ ap target_of e ∙ target_of-target_text other k in cc

-- ---- one item

action_parts : (a b c d n : Bool) {action : ActionWord}
    → cond a (Some Sync) (cond b (Some Handheld) (cond c (Some Desktop) (cond d (Some Both) (cond n (Some Nothing) None)))) ≡ Some action → (text : List ℕ)
    → (a ≡ true → text ≡ codes "sync") → (b ≡ true → text ≡ codes "handheld") → (c ≡ true → text ≡ codes "desktop")
    → (d ≡ true → text ≡ codes "both") → (n ≡ true → text ≡ codes "nothing") → text ≡ action_text action
action_parts a b c d n e text ha hb hc hd hn = grind arith

action_of_word-is : (word : List ℕ) {action : ActionWord} → action_of_word word ≡ Some action → word ≡ action_text action
action_of_word-is word e =
    action_parts (bytes_eq word (codes "sync")) (bytes_eq word (codes "handheld")) (bytes_eq word (codes "desktop"))
    (bytes_eq word (codes "both")) (bytes_eq word (codes "nothing")) e word
    (bytes_eq-Decides word (codes "sync")).0 (bytes_eq-Decides word (codes "handheld")).0 (bytes_eq-Decides word (codes "desktop")).0
    (bytes_eq-Decides word (codes "both")).0 (bytes_eq-Decides word (codes "nothing")).0

long_word : (action : ActionWord) → 0 < length (action_text action)
long_word action = grind arith

colon_cut : (b : Bool) (n x : ℕ) (xs : List ℕ) → (x == 58) ≡ b → 0 < length (drop (cond (not b) (1 + n) 0 + 1) (x ∷ xs))
    → (0 < length (drop (n + 1) xs) → xs ≡ take n xs ++ 58 ∷ drop (n + 1) xs)
    → x ∷ xs ≡ take (cond (not b) (1 + n) 0) (x ∷ xs) ++ 58 ∷ drop (cond (not b) (1 + n) 0 + 1) (x ∷ xs)
colon_cut b n x xs test long next = grind arith

-- where something stands behind the first colon, the text is what stands before it, the colon and that
around_colon : (text : List ℕ) → 0 < length (after_first is_colon text) → text ≡ before_first is_colon text ++ 58 ∷ after_first is_colon text
around_colon [] long = absurd (omega (arith, long))
around_colon (x ∷ xs) long = colon_cut (is_colon x) (position_or_len is_colon xs) x xs refl long (around_colon xs)

item_parts : (o : Option Target) (a : Option ActionWord) {item : NamedAction} → option_and_then (λ target. option_map (aimed target) a) o ≡ Some item
    → (o ≡ Some item.target) × (a ≡ Some item.action)
item_parts o a e = grind arith

record IsItem (text : List ℕ) (item : NamedAction) : Type 0 where
  pub written : text ≡ item_text item
  pub stem : stem_in text ≡ target_text item.target
  pub valid : IsTarget item.target

item_of-is : (text : List ℕ) {item : NamedAction} → item_of text ≡ Some item → IsItem text item
unfolding item_of
item_of-is text {item} e =
    let parts = item_parts (target_of (before_first is_colon text)) (action_of_word (after_first is_colon text)) e in
    let target = target_of-is (before_first is_colon text) parts.0 in
    let word = action_of_word-is (after_first is_colon text) parts.1 in
    let long : 0 < length (after_first is_colon text) = rw word (long_word item.action) in
    record {
      written = around_colon text long ∙ ap (λ stem. stem ++ 58 ∷ after_first is_colon text) target.written
          ∙ ap (λ rest. target_text item.target ++ 58 ∷ rest) word;
      stem = target.written;
      valid = target.valid;
    }

-- ---- neither a comma nor a colon stands in a stem

IsOther : ℕ → Type 0
IsOther byte = ((byte == 44) ≡ false) × ((byte == 58) ≡ false)

hex_digit-other : (n : ℕ) → IsOther (hex_digit n)
unfolding IsOther
hex_digit-other n = (grind (arith, nat_tests), grind (arith, nat_tests))

plain-other : (byte : ℕ) → is_plain byte ≡ true → IsOther byte
unfolding IsOther
plain-other byte e = (grind (arith, nat_tests, e), grind (arith, nat_tests, e))

others_of : (plain : Bool) (byte : ℕ) (rest : List ℕ) → is_plain byte ≡ plain → AllByRecursion IsOther rest
    → AllByRecursion IsOther (cond plain (byte ∷ []) (37 ∷ hex_digit (byte / 16) ∷ hex_digit (byte % 16) ∷ []) ++ rest)
unfolding IsOther
others_of true byte rest e h = (plain-other byte e, h)
others_of false byte rest e h = ((refl, refl), (hex_digit-other (byte / 16), (hex_digit-other (byte % 16), h)))

stem_of-others : (name : List ℕ) → AllByRecursion IsOther (stem_of name)
unfolding stem_byte
stem_of-others [] = tt
stem_of-others (x ∷ xs) = others_of (is_plain x) x (stem_of xs) refl (stem_of-others xs)

target_text-others : (target : Target) → AllByRecursion IsOther (target_text target)
unfolding IsOther
target_text-others Others = ((refl, refl), tt)
target_text-others (One name) = stem_of-others name

action_text-others : (action : ActionWord) → AllByRecursion (λ byte. is_comma byte ≡ false) (action_text action)
action_text-others action = grind arith

no_commas : (stem text : List ℕ) → AllByRecursion IsOther stem → AllByRecursion (λ byte. is_comma byte ≡ false) text
    → AllByRecursion (λ byte. is_comma byte ≡ false) (stem ++ 58 ∷ text)
unfolding IsOther
no_commas [] text h t = (refl, t)
no_commas (x ∷ xs) text h t = (h.0.0, no_commas xs text h.1 t)

item_text-no_commas : (item : NamedAction) → AllByRecursion (λ byte. is_comma byte ≡ false) (item_text item)
item_text-no_commas item = no_commas (target_text item.target) (action_text item.action) (target_text-others item.target) (action_text-others item.action)

position_colon : (stem text : List ℕ) → AllByRecursion IsOther stem → position_or_len is_colon (stem ++ 58 ∷ text) ≡ length stem
unfolding IsOther
position_colon [] text h = refl
position_colon (x ∷ xs) text h = grind (arith, position_colon xs text h.1)

drop_stem : (stem text : List ℕ) → drop (length stem + 1) (stem ++ 58 ∷ text) ≡ text
drop_stem [] text = refl
drop_stem (x ∷ xs) text = grind (arith, drop_stem xs text)

stem_in-item_text : (item : NamedAction) → stem_in (item_text item) ≡ target_text item.target
stem_in-item_text item = grind (arith, nat_tests, common_steps, position_colon (target_text item.target) (action_text item.action) (target_text-others item.target))

word_in-item_text : (item : NamedAction) → after_first is_colon (item_text item) ≡ action_text item.action
word_in-item_text item =
    grind (
      arith,
      position_colon (target_text item.target) (action_text item.action) (target_text-others item.target),
      drop_stem (target_text item.target) (action_text item.action),
    )

item_of-item_text : (item : NamedAction) → IsTarget item.target → item_of (item_text item) ≡ Some item
unfolding item_of
item_of-item_text item h = grind (arith, nat_tests, common_steps, word_in-item_text item, stem_in-item_text item, target_of-target_text item.target h)

-- ---- all items

are_items-parts : (item : List ℕ) (items : List (List ℕ)) → are_items (item ∷ items) ≡ true
    → (is_some (item_of item) ≡ true) × (has_stem (stem_in item) items ≡ false) × (are_items items ≡ true)
unfolding are_items
are_items-parts item items e =
    let parts = and_parts (is_some (item_of item) && not (has_stem (stem_in item) items)) (are_items items) e in
    let first = and_parts (is_some (item_of item)) (not (has_stem (stem_in item) items)) parts.0 in
    (first.0, not-true (has_stem (stem_in item) items) first.1, parts.1)

some_item : (o : Option NamedAction) → is_some o ≡ true → (item : NamedAction) × (o ≡ Some item)
some_item o e = grind arith

-- no item behind is of this target
apart_behind : (items : List (List ℕ)) {stem : List ℕ} (target : Target) → stem ≡ target_text target → are_items items ≡ true → has_stem stem items ≡ false
    → AllByRecursion (λ other. ¬ (other.target ≡ target)) (filter_map item_of items)
apart_behind [] target is all apart = tt
apart_behind (item ∷ items) {stem} target is all apart =
    grind (
      arith,
      item_of-is item (some_item (item_of item) (are_items-parts item items all).0).1,
      bytes_eq-Decides (stem_in item) stem,
      apart_behind items target is (are_items-parts item items all).2 (or_parts (bytes_eq (stem_in item) stem) (has_stem stem items) apart).1,
    )

record AreRead (items : List (List ℕ)) (actions : List NamedAction) : Type 0 where
  pub written : map item_text actions ≡ items
  pub targets : AllByRecursion (λ action. IsTarget action.target) actions
  pub apart : AreApart actions

are_read : (items : List (List ℕ)) → are_items items ≡ true → AreRead items (filter_map item_of items)
are_read [] e = record { written = refl; targets = tt; apart = tt }
are_read (item ∷ items) e =
    let parts = are_items-parts item items e in
    let some = some_item (item_of item) parts.0 in
    let here = item_of-is item some.1 in
    let rest = are_read items parts.2 in
    let says = some.1 in
    rw says (record {
      written = ap (λ text. text ∷ map item_text (filter_map item_of items)) (sym here.written) ∙ ap (λ more. item ∷ more) rest.written;
      targets = (here.valid, rest.targets);
      apart = (apart_behind items some.0.target here.stem parts.2 parts.1, rest.apart);
    })

length-map : (actions : List NamedAction) → length (map item_text actions) ≡ length actions
length-map [] = refl
length-map (x ∷ xs) = ap suc (length-map xs)

-- a text that passes is that of the actions that are read in it
pub text_is_read : (text : List ℕ) → is_actions_text text ≡ true → AreActions (actions_in text) × (text ≡ actions_text (actions_in text))
text_is_read text e = grind (arith, nat_tests, common_steps, are_read (slice_split is_comma text) e, join_with_byte-slice_split 44 text)

-- the text of actions is split into their items
slice_split-actions_text : (first : NamedAction) (rest : List NamedAction)
    → slice_split is_comma (actions_text (first ∷ rest)) ≡ map item_text (first ∷ rest)
slice_split-actions_text first [] = slice_split_none is_comma (item_text first) (All-from_recursion (λ byte. is_comma byte ≡ false) (item_text first)
    (item_text-no_commas first))
slice_split-actions_text first (next ∷ rest) =
    slice_split_at is_comma (item_text first) 44 (actions_text (next ∷ rest)) (All-from_recursion (λ byte. is_comma byte ≡ false) (item_text first)
    (item_text-no_commas first)) refl
    ∙ ap (λ items. item_text first ∷ items) (slice_split-actions_text next rest)

has_stem-apart : (target : Target) (actions : List NamedAction) → IsTarget target → AllByRecursion (λ action. IsTarget action.target) actions
    → AllByRecursion (λ other. ¬ (other.target ≡ target)) actions → has_stem (target_text target) (map item_text actions) ≡ false
has_stem-apart target [] valid targets h = refl
has_stem-apart target (x ∷ xs) valid targets h =
    let stem = stem_in-item_text x in
    let one = target_text x.target in
    let test : bytes_eq one (target_text target) ≡ false =
    false_from (bytes_eq one (target_text target))
    (λ e. h.0 (target_text-injective x.target target targets.0 valid ((bytes_eq-Decides one (target_text target)).0 e))) in
    rw (stem, test) (has_stem-apart target xs valid targets.1 h.1)

items_pass : (actions : List NamedAction) → AllByRecursion (λ action. IsTarget action.target) actions → AreApart actions
    → are_items (map item_text actions) ≡ true
unfolding are_items
items_pass [] targets apart = refl
items_pass (x ∷ xs) targets apart =
    grind (arith, item_of-item_text x targets.0, stem_in-item_text x, has_stem-apart x.target xs targets.0 targets.1 apart.0, items_pass xs targets.1 apart.1)

actions_pass : (actions : List NamedAction) → AreActions actions → is_actions_text (actions_text actions) ≡ true
actions_pass [] h = absurd (omega (arith, h.some))
actions_pass (x ∷ xs) h = ap are_items (slice_split-actions_text x xs) ∙ items_pass (x ∷ xs) h.targets h.apart

items_read : (actions : List NamedAction) → AllByRecursion (λ action. IsTarget action.target) actions
    → filter_map item_of (map item_text actions) ≡ actions
items_read [] targets = refl
items_read (x ∷ xs) targets = grind (arith, item_of-item_text x targets.0, items_read xs targets.1)

-- the text of actions has no others
pub actions_in-actions_text : (actions : List NamedAction) → AreActions actions → actions_in (actions_text actions) ≡ actions
actions_in-actions_text [] h = absurd (omega (arith, h.some))
actions_in-actions_text (x ∷ xs) h = ap (filter_map item_of) (slice_split-actions_text x xs) ∙ items_read (x ∷ xs) h.targets

-- the test and its meaning
pub is_actions-means : (text : List ℕ) → (is_actions_text text ≡ true) ↔ IsActionsText text
is_actions-means text = ((λ e. let read = text_is_read text e in (actions_in text, read.0, read.1)), (λ h. ap is_actions_text h.2 ∙ actions_pass h.0 h.1))
