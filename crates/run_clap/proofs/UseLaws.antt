-- What words of a form give, as `clap` keeps it: a name and a value for each word.
use Rattle.std.proofs.lemmas.Grind.{common_steps}
use Rattle.std.proofs.Common.{◌≡◌, ◌⊎◌, inl, inr, ◌<◌, ◌≤◌, ◌+◌, ℕ, zero, suc, ◌==◌, Bool, true, false, cond, List, [], ◌∷◌, ◌++◌, length, refl, sym, ap, ◌∙◌, arith, codes}
use Rattle.std.proofs.Common.{Option, Some, None}
use Rattle.std.proofs.lemmas.Bool.{and_parts, or_parts}
use Rattle.std.proofs.lemmas.Bool.Decides.{nat_tests}
use Rattle.std.specs.Prelude.{bytes_eq, nat_lt, slice_get, not, ◌||◌, option_map, unwrap_or}
use Rattle.std.specs.Option.{option_map_or, option_or}
use Rattle.std.specs.List.{find, list_all, list_any}
use Rattle.clap.specs.Lexer.{long_of}
use Rattle.clap.proofs.CutLemmas.{Lacks}
use Rattle.clap.proofs.LexerLemmas.{name_and_value-at, name_and_value-without}
use Rattle.run_words.specs.Forms.{WordFormValue, NamedOption, flag_said, has_flag, is_flag, is_use, is_word, plain_at, plain_words, said_by, said_in, said_kind, said_of, value_in}
use Rattle.run_words.specs.Forms.{OptionKind, Needed, Allowed, Flag}
use Rattle.run_words.specs.Words.{is_plain}
use Rattle.run_words.proofs.WordLaws.{after-is}
use Rattle.run_clap.specs.Propers.{apart, disjoint, is_name, is_proper, names_of}
use Rattle.run_clap.proofs.RuleLaws.{seen_of}
use Rattle.run_clap.proofs.Lists.{IsIn, Text, apart_first, differs_at, disjoint_in, each_passes, in-map, in_at, not_true, passing, same_is, same_option, same_text, some_at}

-- the names of a form differ, can be told in a word, and its plain words can be counted
pub record Proper (form : WordFormValue) : Type 0 where
  pub some : 0 < length form.plain
  pub few : length form.plain < 18446744073709551615
  pub plain : apart form.plain ≡ true
  pub options : apart (names_of form.options) ≡ true
  pub plain_options : disjoint form.plain (names_of form.options) ≡ true
  pub option_names : list_all is_name (names_of form.options) ≡ true

lt_of : (m n : ℕ) → nat_lt m n ≡ true → m < n
lt_of m n e = grind (arith, nat_tests)

pub proper_of : (form : WordFormValue) → is_proper form ≡ true → Proper form
proper_of form e =
    let some = and_parts (nat_lt 0 (length form.plain)) _ e in
    let few = and_parts (nat_lt (length form.plain) 1000) _ some.1 in
    let plain = and_parts (apart form.plain) _ few.1 in
    let options = and_parts (apart (names_of form.options)) _ plain.1 in
    let plain_options = and_parts (disjoint form.plain (names_of form.options)) _ options.1 in
    let below = lt_of (length form.plain) 1000 few.0 in
    record {
      some = lt_of 0 (length form.plain) some.0;
      few = omega arith;
      plain = plain.0;
      options = options.0;
      plain_options = plain_options.0;
      option_names = plain_options.1;
    }

lacks : (name : Text) → list_any (λ byte. byte == 61) name ≡ false → Lacks 61 name
lacks [] e i lt = absurd (omega arith)
lacks (x ∷ xs) e zero lt = let parts = or_parts (x == 61) _ e in λ same. grind (arith, nat_tests)
lacks (x ∷ xs) e (suc i) lt = lacks xs (or_parts (x == 61) _ e).1 i (omega arith)

-- ---- `--NAME=VALUE` and `--NAME`

long_value : (name value : Text) → is_name name ≡ true → long_of (45 ∷ 45 ∷ (name ++ 61 ∷ value)) ≡ Some (name, Some value)
long_value [] value e = cc
long_value (x ∷ xs) value e = ap Some (name_and_value-at (x ∷ xs) value (lacks (x ∷ xs) (not_true _ (and_parts (not (length (x ∷ xs) == 0)) _ e).1)))

long_flag : (name : Text) → is_name name ≡ true → long_of (45 ∷ 45 ∷ name) ≡ Some (name, None)
long_flag [] e = cc
long_flag (x ∷ xs) e = ap Some (name_and_value-without (x ∷ xs) (lacks (x ∷ xs) (not_true _ (and_parts (not (length (x ∷ xs) == 0)) _ e).1)))

joined : (name value : Text) → (45 ∷ 45 ∷ (name ++ 61 ∷ [])) ++ value ≡ 45 ∷ 45 ∷ (name ++ 61 ∷ value)
joined name value = grind (arith, common_steps)

-- a word that gives a name a value
pub value_in-long : (name word : Text) {value : Text} → is_name name ≡ true → value_in name word ≡ Some value → long_of word ≡ Some (name, Some value)
value_in-long name word {value} good e = ap long_of (after-is (45 ∷ 45 ∷ (name ++ 61 ∷ [])) word e ∙ joined name value) ∙ long_value name value good

pub is_flag-long : (name word : Text) → is_name name ≡ true → is_flag name word ≡ true → long_of word ≡ Some (name, None)
is_flag-long name word good e = ap long_of (same_is word (45 ∷ 45 ∷ name) e) ∙ long_flag name good

-- the name in a word
abbrev pub long_name : Option (Text × Option Text) → Text
long_name o = option_map_or (λ p. p.0) o []

flag_stands : (b : Bool) {text : Text} → flag_said b ≡ Some text → (b ≡ true) × (codes "true" ≡ text)
flag_stands true e = (refl, cc)
flag_stands false e = cc

-- what `clap` sees in a word that says something of an option
said_by-long : (kind : OptionKind) (name word : Text) {text : Text} → is_name name ≡ true → said_by kind name word ≡ Some text
    → long_of word ≡ Some (name, seen_of kind text)
said_by-long Needed name word good e = value_in-long name word good e
said_by-long Allowed name word good e = value_in-long name word good e
said_by-long Flag name word good e = is_flag-long name word good (flag_stands (is_flag name word) e).0

said_by-text : (kind : OptionKind) (name word : Text) {text : Text} → said_by kind name word ≡ Some text → unwrap_or (seen_of kind text) (codes "true") ≡ text
said_by-text Needed name word e = refl
said_by-text Allowed name word e = refl
said_by-text Flag name word e = (flag_stands (is_flag name word) e).1

-- a word of one name says nothing of another
other_said : (kind : OptionKind) (name word : Text) {other : Text} {seen : Option Text} → is_name name ≡ true → long_of word ≡ Some (other, seen)
    → bytes_eq other name ≡ false → said_by kind name word ≡ None
other_said kind name word {other} {seen} good long apart_names = go (said_by kind name word) refl
  where
    go : (o : Option Text) → said_by kind name word ≡ o → o ≡ None
    go None e = refl
    go (Some text) e =
        let same : other ≡ name = ap long_name (sym long ∙ said_by-long kind name word good e) in
        let here = same_text name in
        let none : bytes_eq name name ≡ false = ap (λ n. bytes_eq n name) (sym same) ∙ apart_names in
        cc

-- what one word more says
pub said_more : (kind : OptionKind) (name word : Text) (words : List Text)
    → option_or (said_by kind name word) (said_kind kind name words) ≡ said_kind kind name (word ∷ words)
said_more Needed name word words = refl
said_more Allowed name word words = refl
said_more Flag name word words = either (is_flag name word) (has_flag name words)
  where
    either : (a b : Bool) → option_or (flag_said a) (flag_said b) ≡ flag_said (a || b)
    either true b = refl
    either false b = refl

pub said_none : (kind : OptionKind) (name : Text) → said_kind kind name [] ≡ None
said_none Needed name = refl
said_none Allowed name = refl
said_none Flag name = refl

pub record IsPlain (word : Text) : Type 0 where
  pub first : ℕ
  pub rest : Text
  pub is : word ≡ first ∷ rest
  pub no_dash : (first == 45) ≡ false
  pub plain : is_plain word ≡ true

plain-is : (word : Text) → is_plain word ≡ true → IsPlain word
plain-is [] e = cc
plain-is (x ∷ xs) e = record { first = x; rest = xs; is = refl; no_dash = grind (arith, nat_tests, e); plain = e }

plain_value : (name : Text) {word : Text} → IsPlain word → value_in name word ≡ None
plain_value name {word} p = let apart_byte = p.no_dash in ap (value_in name) p.is ∙ grind (arith, nat_tests)

plain_flag : (name : Text) {word : Text} → IsPlain word → is_flag name word ≡ false
plain_flag name {word} p = let apart_byte = p.no_dash in ap (is_flag name) p.is ∙ rw apart_byte refl

plain_said : (kind : OptionKind) (name : Text) {word : Text} → IsPlain word → said_by kind name word ≡ None
plain_said Needed name p = plain_value name p
plain_said Allowed name p = plain_value name p
plain_said Flag name p = ap flag_said (plain_flag name p)

-- ---- what a word of a form is

pub record IsUseOf (form : WordFormValue) (word : Text) : Type 0 where
  pub option : NamedOption
  pub text : Text
  pub among : IsIn option form.options
  pub says : said_in option word ≡ Some text
  pub long : long_of word ≡ Some (option.name, seen_of option.kind text)
  pub text_is : unwrap_or (seen_of option.kind text) (codes "true") ≡ text
  pub other : is_plain word ≡ false

abbrev pub IsWord : WordFormValue → Text → Type 0
IsWord form word = IsPlain word ⊎ IsUseOf form word

some_value : (o : Option Text) → option_map_or (λ (value : Text). not (length value == 0)) o false ≡ true → (value : Text) × (o ≡ Some value)
some_value None e = cc
some_value (Some value) e = (value, refl)

or_true : (a b : Bool) → a ≡ false → (a || b) ≡ true → b ≡ true
or_true a b n e = grind arith

pub word_is : (form : WordFormValue) (word : Text) → Proper form → is_word form word ≡ true → IsWord form word
word_is form word proper e = go (is_plain word) refl
  where
    go : (b : Bool) → is_plain word ≡ b → IsWord form word
    go true plain = inl (plain-is word plain)
    go false plain =
        let found = passing (is_use word) form.options (or_true (is_plain word) _ plain e) in
        let option = found.0 in
        let said = some_value (said_in option word) found.2 in
        let good = each_passes is_name (names_of form.options) option.name proper.option_names (in-map (λ (o : NamedOption). o.name) form.options option found.1) in
        inr (record {
          option = option;
          text = said.0;
          among = found.1;
          says = said.1;
          long = said_by-long option.kind option.name word good said.1;
          text_is = said_by-text option.kind option.name word said.1;
          other = plain;
        })

-- ---- the name and the value of each word

-- the name of the plain word at a place
abbrev pub id_at : List Text → ℕ → Text
id_at ids place = unwrap_or (slice_get ids place) []

-- what an option is given, or the text of a flag
abbrev pub long_text : Option (Text × Option Text) → Text
long_text o = option_map_or (λ p. unwrap_or p.1 (codes "true")) o []

-- the name and the value of a word, behind so many plain words
abbrev pub use_of : List Text → ℕ → Text → Text × Text
use_of ids place word = cond (is_plain word) (id_at ids place, word) (long_name (long_of word), long_text (long_of word))

abbrev pub next_place : ℕ → Text → ℕ
next_place place word = cond (is_plain word) (suc place) place

abbrev pub uses : List Text → ℕ → List Text → List (Text × Text)
uses ids place [] = []
uses ids place (word ∷ words) = use_of ids place word ∷ uses ids (next_place place word) words

-- the place behind so many words
abbrev pub place_after : ℕ → List Text → ℕ
place_after place [] = place
place_after place (word ∷ words) = place_after (next_place place word) words

pub uses-more : (ids : List Text) (place : ℕ) (seen : List Text) (word : Text)
    → uses ids place (seen ++ word ∷ []) ≡ uses ids place seen ++ use_of ids (place_after place seen) word ∷ []
uses-more ids place [] word = refl
uses-more ids place (x ∷ seen) word = ap (λ us. use_of ids place x ∷ us) (uses-more ids (next_place place x) seen word)

pub place_after-more : (place : ℕ) (seen : List Text) (word : Text) → place_after place (seen ++ word ∷ []) ≡ next_place (place_after place seen) word
place_after-more place [] word = refl
place_after-more place (x ∷ seen) word = place_after-more (next_place place x) seen word

plain_more : (b : Bool) (place n : ℕ) (word : Text) (words : List Text) → cond b (suc place) place + length words ≡ n
    → place + length (cond b (word ∷ words) words) ≡ n
plain_more true place n word words e = omega arith
plain_more false place n word words e = e

pub place_after-is : (place : ℕ) (words : List Text) → place_after place words ≡ place + length (plain_words words)
place_after-is place [] = omega arith
place_after-is place (word ∷ words) =
    place_after-is (next_place place word) words ∙ sym (plain_more (is_plain word) place _ word (plain_words words) refl)

-- the value of the first use of a name
abbrev pub used : Text → List (Text × Text) → Option Text
used name us = option_map (λ (u : Text × Text). u.1) (find (λ (u : Text × Text). bytes_eq u.0 name) us)

used-first : (name : Text) (u : Text × Text) (us : List (Text × Text)) → bytes_eq u.0 name ≡ true → used name (u ∷ us) ≡ Some u.1
used-first name u us e = rw e refl

used-other : (name : Text) (u : Text × Text) (us : List (Text × Text)) → bytes_eq u.0 name ≡ false → used name (u ∷ us) ≡ used name us
used-other name u us e = rw e refl

pub flipped : (x y : Text) → bytes_eq x y ≡ false → bytes_eq y x ≡ false
flipped x y e = go (bytes_eq y x) refl
  where
    go : (b : Bool) → bytes_eq y x ≡ b → b ≡ false
    go false f = refl
    go true f =
        let same = same_is y x f in
        let here = same_text x in
        let none : bytes_eq x x ≡ false = ap (bytes_eq x) (sym same) ∙ e in
        cc

apart_places : (ids : List Text) (i j : ℕ) (x y : Text) → apart ids ≡ true → i < j → slice_get ids i ≡ Some x → slice_get ids j ≡ Some y → bytes_eq x y ≡ false
apart_places [] i j x y e lt a b = cc
apart_places (z ∷ zs) zero zero x y e lt a b = absurd (omega arith)
apart_places (z ∷ zs) zero (suc j) x y e lt a b =
    let same : z ≡ x = cc in
    ap (λ t. bytes_eq t y) (sym same) ∙ differs_at z zs j (apart_first z zs e).0 b
apart_places (z ∷ zs) (suc i) zero x y e lt a b = absurd (omega arith)
apart_places (z ∷ zs) (suc i) (suc j) x y e lt a b = apart_places zs i j x y (apart_first z zs e).1 (omega arith) a b

module _ (form : WordFormValue) (proper : Proper form) where
  abbrev pub AllWords : List Text → Type 0
  AllWords words = list_all (is_word form) words ≡ true

  -- the use of a plain word
  pub use-plain : (place : ℕ) {word : Text} → IsPlain word → use_of form.plain place word ≡ (id_at form.plain place, word)
  use-plain place {word} p = let plain = p.plain in rw plain refl

  pub use-long : (place : ℕ) (word : Text) {name : Text} {value : Option Text} → is_plain word ≡ false → long_of word ≡ Some (name, value)
      → use_of form.plain place word ≡ (name, unwrap_or value (codes "true"))
  use-long place word plain long = rw (plain, long) refl

  -- a place that has a name
  pub at_id : (place : ℕ) → place < length form.plain → slice_get form.plain place ≡ Some (id_at form.plain place)
  at_id place lt = let some = some_at form.plain place lt in some.1 ∙ ap (λ (o : Option Text). Some (unwrap_or o [])) (sym some.1)

  option_name : (option : NamedOption) → IsIn option form.options → is_name option.name ≡ true
  option_name option i = each_passes is_name (names_of form.options) option.name proper.option_names (in-map (λ (o : NamedOption). o.name) form.options option i)

  pub id_in : (place : ℕ) → place < length form.plain → IsIn (id_at form.plain place) form.plain
  id_in place lt = in_at form.plain place (at_id place lt)

  pub name_in : (option : NamedOption) → IsIn option form.options → IsIn option.name (names_of form.options)
  name_in option i = in-map (λ (o : NamedOption). o.name) form.options option i

  -- what is left to count
  moved : (place : ℕ) (word : Text) (words : List Text)
      → place + length (plain_words (word ∷ words)) ≡ next_place place word + length (plain_words words)
  moved place word words = plain_more (is_plain word) place _ word (plain_words words) refl

  fewer : (place : ℕ) (word : Text) (words : List Text) → place + length (plain_words (word ∷ words)) ≤ length form.plain
      → next_place place word + length (plain_words words) ≤ length form.plain
  fewer place word words le = let same = moved place word words in omega arith

  is_below : (place : ℕ) (word : Text) (words : List Text) → is_plain word ≡ true → place + length (plain_words (word ∷ words)) ≤ length form.plain
      → place < length form.plain
  is_below place word words plain le =
      let same = moved place word words in
      let next : next_place place word ≡ suc place = ap (λ b. cond b (suc place) place) plain in
      omega arith

  is_same : (place : ℕ) (word : Text) → is_plain word ≡ false → next_place place word ≡ place
  is_same place word plain = ap (λ b. cond b (suc place) place) plain

  -- ---- what is said of an option

  said_on : (option : NamedOption) (word : Text) (words : List Text) → said_in option word ≡ None → said_of words option ≡ said_of (word ∷ words) option
  said_on option word words e = sym (ap (λ o. option_or o (said_of words option)) e) ∙ said_more option.kind option.name word words

  use-said : (place : ℕ) {word : Text} (o : IsUseOf form word) → use_of form.plain place word ≡ (o.option.name, o.text)
  use-said place {word} o = use-long place word o.other o.long ∙ ap (λ (t : Text). (o.option.name, t)) o.text_is

  option_here : (option : NamedOption) → IsIn option form.options → (place : ℕ) (word : Text) (words : List Text) (us : List (Text × Text))
      → (is_plain word ≡ true → place < length form.plain) → IsWord form word → used option.name us ≡ said_of words option
      → used option.name (use_of form.plain place word ∷ us) ≡ said_of (word ∷ words) option
  option_here option i place word words us below (inl p) rest =
      let other = disjoint_in form.plain (names_of form.options) (id_at form.plain place) option.name proper.plain_options (id_in place (below p.plain)) (name_in option i) in
      ap (λ u. used option.name (u ∷ us)) (use-plain place p) ∙ used-other option.name (id_at form.plain place, word) us other ∙ rest
      ∙ said_on option word words (plain_said option.kind option.name p)
  option_here option i place word words us below (inr o) rest =
      ap (λ u. used option.name (u ∷ us)) (use-said place o) ∙ go (bytes_eq o.option.name option.name) refl
    where
      go : (b : Bool) → bytes_eq o.option.name option.name ≡ b → used option.name ((o.option.name, o.text) ∷ us) ≡ said_of (word ∷ words) option
      go true e =
          let same = same_option form.options o.option option proper.options o.among i e in
          let says : said_in option word ≡ Some o.text = ap (λ (x : NamedOption). said_in x word) (sym same) ∙ o.says in
          used-first option.name (o.option.name, o.text) us e ∙ sym (ap (λ s. option_or s (said_of words option)) says)
          ∙ said_more option.kind option.name word words
      go false e =
          used-other option.name (o.option.name, o.text) us e ∙ rest
          ∙ said_on option word words (other_said option.kind option.name word (option_name option i) o.long e)

  pub used_said : (option : NamedOption) → IsIn option form.options → (place : ℕ) (words : List Text) → AllWords words
      → place + length (plain_words words) ≤ length form.plain → used option.name (uses form.plain place words) ≡ said_of words option
  used_said option i place [] all le = sym (said_none option.kind option.name)
  used_said option i place (word ∷ words) all le =
      let parts = and_parts (is_word form word) (list_all (is_word form) words) all in
      let rest = used_said option i (next_place place word) words parts.1 (fewer place word words le) in
      option_here option i place word words (uses form.plain (next_place place word) words) (λ plain. is_below place word words plain le)
      (word_is form word proper parts.0) rest

  -- ---- a plain word

  long_here : (n : ℕ) → n < length form.plain → (place : ℕ) (word : Text) (us : List (Text × Text)) → IsUseOf form word
      → used (id_at form.plain n) (use_of form.plain place word ∷ us) ≡ used (id_at form.plain n) us
  long_here n lt place word us o =
      let id = id_at form.plain n in
      let other = flipped id o.option.name (disjoint_in form.plain (names_of form.options) id o.option.name proper.plain_options (id_in n lt) (name_in o.option o.among)) in
      ap (λ u. used id (u ∷ us)) (use-said place o) ∙ used-other id (o.option.name, o.text) us other

  pub used_plain : (n k place : ℕ) (words : List Text) → n ≡ place + k → n < length form.plain → AllWords words
      → place + length (plain_words words) ≤ length form.plain → used (id_at form.plain n) (uses form.plain place words) ≡ plain_at k words
  used_plain n k place [] is lt all le = refl
  used_plain n k place (word ∷ words) is lt all le =
      let parts = and_parts (is_word form word) (list_all (is_word form) words) all in
      go k (word_is form word proper parts.0) is
      (λ j more. used_plain n j (next_place place word) words more lt parts.1 (fewer place word words le))
    where
      go : (k : ℕ) → IsWord form word → n ≡ place + k → ((j : ℕ) → n ≡ next_place place word + j → used (id_at form.plain n) (uses form.plain (next_place place word) words) ≡ plain_at j words)
          → used (id_at form.plain n) (use_of form.plain place word ∷ uses form.plain (next_place place word) words) ≡ plain_at k (word ∷ words)
      go zero (inl p) is rest =
          let same : place ≡ n = omega arith in
          let here = ap (λ i. bytes_eq (id_at form.plain i) (id_at form.plain n)) same ∙ same_text (id_at form.plain n) in
          ap (λ u. used (id_at form.plain n) (u ∷ uses form.plain (next_place place word) words)) (use-plain place p)
          ∙ used-first (id_at form.plain n) (id_at form.plain place, word) _ here
          ∙ ap (λ b. slice_get (cond b (word ∷ plain_words words) (plain_words words)) 0) (sym p.plain)
      go (suc j) (inl p) is rest =
          let lower : place < n = omega arith in
          let below : place < length form.plain = omega arith in
          let other = apart_places form.plain place n (id_at form.plain place) (id_at form.plain n) proper.plain lower (at_id place below) (at_id n lt) in
          let next : next_place place word ≡ suc place = ap (λ b. cond b (suc place) place) p.plain in
          ap (λ u. used (id_at form.plain n) (u ∷ uses form.plain (next_place place word) words)) (use-plain place p)
          ∙ used-other (id_at form.plain n) (id_at form.plain place, word) _ other ∙ rest j (omega arith)
          ∙ ap (λ b. slice_get (cond b (word ∷ plain_words words) (plain_words words)) (suc j)) (sym p.plain)
      go k (inr named) is rest =
          let same = is_same place word named.other in
          long_here n lt place word (uses form.plain (next_place place word) words) named ∙ rest k (omega arith)
          ∙ ap (λ b. slice_get (cond b (word ∷ plain_words words) (plain_words words)) k) (sym named.other)
