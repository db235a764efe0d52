-- Lines: what is read is lines of their forms, such lines are read, and what is written is such lines.
use Rattle.std.proofs.lemmas.Bool.Decides.{nat_tests}
use Rattle.std.proofs.lemmas.Grind.{common_steps}
use Rattle.std.proofs.Common.{◌≡◌, ℕ, ◌+◌, ◌<◌, true, eqb, ltb, List, [], ◌∷◌, ◌++◌, length, take, drop, Option, Some, Result, Ok, refl, sym, ap, subst, ◌∙◌}
use Rattle.std.proofs.Common.{arith}
use Rattle.std.specs.Prelude.{position}
use Rattle.std.proofs.lemmas.Bool.{ltb-true, lt-ltb}
use Rattle.std.proofs.lemmas.List.{append_assoc, take_at, length-append}
use Rattle.folder_files.specs.Lines.{LineForm, Value, Says, Values, AreLines, text_of, lines_text}
use Rattle.folder_files.specs.Reading.{◌>>=◌, behind, line_at, lines_at, or_unread, split_at_key, value_in}
use Rattle.folder_files.specs.declared.unread.Unread.{Unread}
use Rattle.folder_files.proofs.ValueLaws.{behind_found, behind_only, no_feed_append, on_one_line, value_found, value_only}
use Rattle.folder_files.proofs.HexLaws.{HasNoFeed, bind_some, feed_place, map_some, some_is, test_some}

-- ---- the line at the front

-- the line before the first line feed, and what stands behind it
cut_at_feed : (bytes : List ℕ) → feed_place bytes < length bytes → bytes ≡ take (feed_place bytes) bytes ++ 10 ∷ drop (feed_place bytes + 1) bytes
cut_at_feed [] less = absurd (omega arith)
cut_at_feed (byte ∷ bytes) less = grind (arith, nat_tests, common_steps, cut_at_feed bytes)

no_feed_front : (line rest : List ℕ) → HasNoFeed line → feed_place (line ++ 10 ∷ rest) ≡ length line
no_feed_front [] rest none = refl
no_feed_front (byte ∷ line) rest none = grind (arith, nat_tests, common_steps, no_feed_front line rest)

drop_past : (line : List ℕ) (byte : ℕ) (rest : List ℕ) → drop (length line + 1) (line ++ byte ∷ rest) ≡ rest
drop_past [] byte rest = refl
drop_past (first ∷ line) byte rest = grind (arith, nat_tests, common_steps, drop_past line byte rest)

split_found : (key bytes : List ℕ) (parts : List ℕ × List ℕ) → split_at_key key bytes ≡ Some parts → bytes ≡ key ++ (parts.0 ++ 10 ∷ parts.1)
unfolding split_at_key
split_found key bytes parts e =
    let place = bind_some (position (λ byte. eqb byte 10) bytes) _ parts e in
    let there = test_some (ltb (feed_place bytes) (length bytes)) _ place.0 place.1 in
    let at : feed_place bytes ≡ place.0 = some_is _ _ there.1 in
    let text = map_some (behind key (take place.0 bytes)) _ parts place.2 in
    let line : take place.0 bytes ≡ key ++ text.0 = behind_found key (take place.0 bytes) text.0 text.1 in
    let cut : bytes ≡ take (feed_place bytes) bytes ++ 10 ∷ drop (feed_place bytes + 1) bytes = cut_at_feed bytes (ltb-true _ _ there.0) in
    subst (λ (p : List ℕ × List ℕ). bytes ≡ key ++ (p.0 ++ 10 ∷ p.1)) text.2
    (cut ∙ (ap (λ (k : ℕ). take k bytes ++ 10 ∷ drop (k + 1) bytes) at
    ∙ (ap (λ (xs : List ℕ). xs ++ 10 ∷ drop (place.0 + 1) bytes) line ∙ append_assoc key text.0 (10 ∷ drop (place.0 + 1) bytes))))

split_only : (key text rest : List ℕ) → HasNoFeed key → HasNoFeed text → split_at_key key (key ++ (text ++ 10 ∷ rest)) ≡ Some (text, rest)
unfolding split_at_key
split_only key text rest plain none =
    let line : List ℕ = key ++ text in
    let bytes : List ℕ = line ++ 10 ∷ rest in
    let at : feed_place bytes ≡ length line = no_feed_front line rest (no_feed_append key text plain none) in
    let there : ltb (feed_place bytes) (length bytes) ≡ true = lt-ltb _ _ (omega (arith, at, length-append line (10 ∷ rest))) in
    let front : take (feed_place bytes) bytes ≡ line = ap (λ (k : ℕ). take k bytes) at ∙ take_at line (10 ∷ rest) (length line) refl in
    let back : drop (feed_place bytes + 1) bytes ≡ rest = ap (λ (k : ℕ). drop (k + 1) bytes) at ∙ drop_past line 10 rest in
    ap (split_at_key key) (sym (append_assoc key text (10 ∷ rest))) ∙ rw (there, front, behind_only key text, back) refl

-- ---- lines

unread_not : {A : Type 0} (bytes : List ℕ) (o : Option A) (x : A) → or_unread bytes o ≡ Ok x → o ≡ Some x
unread_not bytes o x e = grind arith

pub bind_ok : {A B : Type 0} (r : Result A Unread) (f : A → Result B Unread) (y : B) → (r >>= f) ≡ Ok y → (x : A) × (r ≡ Ok x) × (f x ≡ Ok y)
bind_ok r f y e = grind arith

pub ok_is : {A : Type 0} (x y : A) → (let r : Result A Unread = Ok x in r) ≡ Ok y → x ≡ y
ok_is x y e = cc

pub line_found : (form : LineForm) (bytes : List ℕ) (found : Value form.kind × List ℕ) → line_at form bytes ≡ Ok found
    → (text : List ℕ) × (bytes ≡ form.key ++ (text ++ 10 ∷ found.1)) × Says form.kind found.0 text
line_found form bytes found e =
    let parts = bind_some (split_at_key form.key bytes) _ found (unread_not bytes _ found e) in
    let value = map_some (value_in form.kind parts.0.0) _ found parts.2 in
    subst (λ (f : Value form.kind × List ℕ). (text : List ℕ) × (bytes ≡ form.key ++ (text ++ 10 ∷ f.1)) × Says form.kind f.0 text) value.2
    (parts.0.0, split_found form.key bytes parts.0 parts.1, value_found form.kind value.0 parts.0.0 value.1)

pub line_only : (form : LineForm) (value : Value form.kind) (text rest : List ℕ) → HasNoFeed form.key → Says form.kind value text
    → line_at form (form.key ++ (text ++ 10 ∷ rest)) ≡ Ok (value, rest)
line_only form value text rest plain says = grind (arith, nat_tests, common_steps, split_only, on_one_line, value_only)

pub lines_found : (forms : List LineForm) (bytes : List ℕ) (values : Values forms) → lines_at forms bytes ≡ Ok values → AreLines forms values bytes
lines_found [] bytes values e = grind (arith, nat_tests, common_steps)
lines_found (form ∷ forms) bytes values e =
    let first = bind_ok (line_at form bytes) _ values e in
    let others = bind_ok (lines_at forms first.0.1) _ values first.2 in
    let line = line_found form bytes first.0 first.1 in
    subst (λ (v : Values (form ∷ forms)). AreLines (form ∷ forms) v bytes) (ok_is (first.0.0, others.0) values others.2)
    (line.0, first.0.1, line.1, line.2, lines_found forms first.0.1 others.0 others.1)

-- no key has a line feed
abbrev pub ArePlain : List LineForm → Type 0
ArePlain [] = Unit {0}
ArePlain (form ∷ forms) = HasNoFeed form.key × ArePlain forms

pub lines_only : (forms : List LineForm) (values : Values forms) (bytes : List ℕ) → ArePlain forms → AreLines forms values bytes → lines_at forms bytes ≡ Ok values
lines_only [] values bytes plain is = ap (lines_at []) is
lines_only (form ∷ forms) values bytes plain is = grind (arith, nat_tests, common_steps, lines_only forms values.1 is.1, line_only)

-- what is written says each value
abbrev pub AllSay : (forms : List LineForm) → Values forms → Type 0
AllSay [] values = Unit {0}
AllSay (form ∷ forms) values = Says form.kind values.0 (text_of form.kind values.0) × AllSay forms values.1

pub lines_written : (forms : List LineForm) (values : Values forms) → AllSay forms values → AreLines forms values (lines_text forms values)
lines_written [] values say = refl
lines_written (form ∷ forms) values say = grind (arith, nat_tests, common_steps, lines_written forms values.1)
