-- Words of a form are taken by `clap`, whose matches have what they hold: for all forms whose names differ.
use Rattle.std.proofs.Common.{◌≡◌, inl, inr, ◌<◌, ◌≤◌, ◌+◌, ℕ, zero, suc, ◌==◌, Bool, true, false, List, [], ◌∷◌, ◌++◌, ◌||◌, cond, length}
use Rattle.std.proofs.Common.{map, refl, sym, ap, ◌∙◌, codes, arith, Option, Some, None, option_map}
use Rattle.std.proofs.Math.Path.{fun_ext}
use Rattle.std.proofs.lemmas.Bool.{and_parts}
use Rattle.std.proofs.lemmas.List.Folds.{list_all-append}
use Rattle.std.proofs.lemmas.Bool.Decides.{nat_tests}
use Rattle.std.specs.Prelude.{find, fold, is_some, nat_le, nat_lt, not, slice_get, option_and_then, unwrap_or, ◌&&◌}
use Rattle.std.specs.Option.{option_map_or, option_or}
use Rattle.std.specs.Str.{bytes_eq}
use Rattle.std.specs.List.{count_by, list_all, list_any}
use Rattle.clap.specs.Facts.{explicit_source}
use Rattle.clap.specs.Walk.{Held, Row, Rule, Walk, first_of, is_early_multiple, finished, has_row, more_values, nothing_held, rows_of, settled, walk, walked, with_default}
use Rattle.clap.specs.Simple.{built, filled_from, is_in_order, is_simple, matches_of}
use Rattle.clap.specs.Takes.{default_passes, is_given, level_passes, settle_passes, takes, walk_passes}
use Rattle.clap.specs.Matches.{first_value}
use Rattle.clap.specs.declared.parser.matches.Found.{Found}
use Rattle.clap.specs.declared.parser.matches.ValueSource.TheVariants.{DefaultValue}
use Rattle.clap.specs.declared.builder.value_parser.Reading.TheVariants.{AsWritten}
use Rattle.clap.proofs.TakesLemmas.{leaf_takes}
use Rattle.clap.proofs.WalkLemmas.{first_value-rows}
use Rattle.run_words.specs.Forms.{Given, WordFormValue, NamedOption, fits_option, flag_said, given_by, has_flag, is_needed, is_of_form, is_word, option_named, plain_at, plain_words, said_kind, said_of, use_count, value_of}
use Rattle.run_words.specs.Forms.{OptionKind, Needed, Allowed, Flag}
use Rattle.run_clap.specs.Apps.{form_app, form_rules, option_rule, plain_rule}
use Rattle.run_clap.specs.Propers.{apart, names_of}
use Rattle.run_clap.specs.Reads.{found_said, given_in, if_yes, said_of_found}
use Rattle.run_clap.proofs.AppLaws.{app_with, form_app-is}
use Rattle.run_clap.proofs.FormLaws.{Counted, Ends, find_row, has_row-find, row_used, some_of, walk_ends}
use Rattle.run_clap.proofs.Lists.{IsIn, Text, apart_first, differs_in, disjoint_in, each_passes, found_in, in-map, not_true, same_is, same_text, some_at}
use Rattle.run_clap.proofs.RuleLaws.{by_kind, mapped_pass, named, numbered, option_in, rules-are, rules_of, rules_pass}
use Rattle.run_clap.proofs.UseLaws.{Proper, at_id, flipped, id_at, id_in, name_in, used, used_plain, used_said, uses}
use Rattle.run_clap.proofs.WalkLaws.{at, at_row-none, row, shape_of}

-- ---- the defaults

cond_same : (b : Bool) (rows : List Row) → cond b rows rows ≡ rows
cond_same b rows = grind arith

abbrev with_defaults : List Row → List Rule → List Row
with_defaults rows rules = fold with_default rows rules

plain_defaults : (rows : List Row) (place : ℕ) (ids : List Text) (rest : List Rule) → with_defaults rows (numbered place ids ++ rest) ≡ with_defaults rows rest
plain_defaults rows place [] rest = refl
plain_defaults rows place (id ∷ ids) rest =
    ap (λ (rs : List Row). with_defaults rs (numbered (suc place) ids ++ rest)) (cond_same (has_row id rows) rows) ∙ plain_defaults rows (suc place) ids rest

-- the flags that weren't given are `false`
abbrev pub with_options : List Row → List NamedOption → List Row
with_options rows options = with_defaults rows (map option_in options)

pub finished-is : (form : WordFormValue) (h : Held) → finished (rules_of form) h ≡ with_options (settled (rules_of form) h).rows form.options
finished-is form h = plain_defaults (settled (rules_of form) h).rows 1 form.plain (map option_in form.options)

abbrev default_row : Text → Row
default_row id = record { id = id; values = codes "false" ∷ []; count = None; source = Some DefaultValue; reading = AsWritten }

find-append : (id : Text) (rows : List Row) (x : Row) → find_row id (rows ++ x ∷ []) ≡ option_or (find_row id rows) (cond (bytes_eq x.id id) (Some x) None)
find-append id [] x = refl
find-append id (y ∷ ys) x = let rest = find-append id ys x in grind arith

or_none : (o : Option Row) → option_or o None ≡ o
or_none o = grind arith

-- one flag's default
one_default : (flag : Text) (rows : List Row) → has_row flag rows ≡ false → with_default rows (option_in (named flag Flag)) ≡ rows ++ default_row flag ∷ []
one_default flag rows none = rw none (at_row-none flag (more_values DefaultValue (codes "false" ∷ [])) (default_row flag ∷ []) rows none)

find_other_default : (flag id : Text) (rows : List Row) → bytes_eq flag id ≡ false → find_row id (with_default rows (option_in (named flag Flag))) ≡ find_row id rows
find_other_default flag id rows differ = go (has_row flag rows) refl
  where
    go : (b : Bool) → has_row flag rows ≡ b → find_row id (with_default rows (option_in (named flag Flag))) ≡ find_row id rows
    go true e = rw e refl
    go false e =
        ap (find_row id) (one_default flag rows e) ∙ find-append id rows (default_row flag)
        ∙ ap (λ b. option_or (find_row id rows) (cond b (Some (default_row flag)) None)) differ ∙ or_none (find_row id rows)

-- a default of another name
find_kept : (kind : OptionKind) (name id : Text) (rows : List Row) → bytes_eq name id ≡ false
    → find_row id (with_default rows (option_in (named name kind))) ≡ find_row id rows
find_kept Needed name id rows differ = ap (find_row id) (cond_same (has_row name rows) rows)
find_kept Allowed name id rows differ = ap (find_row id) (cond_same (has_row name rows) rows)
find_kept Flag name id rows differ = find_other_default name id rows differ

pub find_other : (options : List NamedOption) (id : Text) (rows : List Row) → ((option : NamedOption) → IsIn option options → bytes_eq option.name id ≡ false)
    → find_row id (with_options rows options) ≡ find_row id rows
find_other [] id rows differ = refl
find_other (option ∷ options) id rows differ =
    find_other options id (with_default rows (option_in option)) (λ x i. differ x (inr i)) ∙ find_kept option.kind option.name id rows (differ option (inl refl))

-- a row that is there stays
row_stays : (kind : OptionKind) (name id : Text) (rows : List Row) {r : Row} → find_row id rows ≡ Some r
    → find_row id (with_default rows (option_in (named name kind))) ≡ Some r
row_stays Needed name id rows e = ap (find_row id) (cond_same (has_row name rows) rows) ∙ e
row_stays Allowed name id rows e = ap (find_row id) (cond_same (has_row name rows) rows) ∙ e
row_stays Flag name id rows {r} e = go (has_row name rows) refl
  where
    go : (b : Bool) → has_row name rows ≡ b → find_row id (with_default rows (option_in (named name Flag))) ≡ Some r
    go true has = rw has e
    go false has =
        ap (find_row id) (one_default name rows has) ∙ find-append id rows (default_row name)
        ∙ ap (λ (o : Option Row). option_or o (cond (bytes_eq name id) (Some (default_row name)) None)) e

rows_stay : (options : List NamedOption) (id : Text) (rows : List Row) {r : Row} → find_row id rows ≡ Some r → find_row id (with_options rows options) ≡ Some r
rows_stay [] id rows e = e
rows_stay (option ∷ options) id rows e = rows_stay options id (with_default rows (option_in option)) (row_stays option.kind option.name id rows e)

abbrev flag_row : Text → Bool → Option Row
flag_row id given = cond given (Some (row (id, codes "true"))) None

-- the first value of a row
abbrev first_text : Option Row → Option Text
first_text o = option_and_then (λ (r : Row). slice_get r.values 0) o

-- the text of a flag
abbrev flag_text : Bool → Text
flag_text given = cond given (codes "true") (codes "false")

-- the flag itself
own_default : (flag : Text) (given : Bool) (rows : List Row) → find_row flag rows ≡ flag_row flag given
    → first_text (find_row flag (with_default rows (option_in (named flag Flag)))) ≡ Some (flag_text given)
own_default flag true rows e =
    let has : has_row flag rows ≡ true = has_row-find flag rows ∙ ap is_some e in
    rw (has, e) refl
own_default flag false rows e =
    let has : has_row flag rows ≡ false = has_row-find flag rows ∙ ap is_some e in
    let here = same_text flag in
    let found : find_row flag (with_default rows (option_in (named flag Flag))) ≡ Some (default_row flag) = ap (find_row flag) (one_default flag rows has)
    ∙ find-append flag rows (default_row flag) ∙ ap (λ o. option_or o (cond (bytes_eq flag flag) (Some (default_row flag)) None)) e
    ∙ ap (λ b. cond b (Some (default_row flag)) None) here in
    ap first_text found

-- ---- what the rows say

found_here : (id : Text) (u : Text × Text) (us : List (Text × Text))
    → find (λ (v : Text × Text). bytes_eq v.0 id) us ≡ option_map (λ (v : Text). (id, v)) (used id us) → (b : Bool) → bytes_eq u.0 id ≡ b
    → find (λ (v : Text × Text). bytes_eq v.0 id) (u ∷ us) ≡ option_map (λ (v : Text). (id, v)) (used id (u ∷ us))
found_here id u us rest true e = rw e (ap (λ (n : Text). Some (n, u.1)) (same_is u.0 id e))
found_here id u us rest false e = rw e rest

found_use : (id : Text) (us : List (Text × Text)) → find (λ (u : Text × Text). bytes_eq u.0 id) us ≡ option_map (λ (v : Text). (id, v)) (used id us)
found_use id [] = refl
found_use id (u ∷ us) = found_here id u us (found_use id us) (bytes_eq u.0 id) refl

row-is : (id : Text) (us : List (Text × Text)) → find_row id (map row us) ≡ option_map row (option_map (λ (v : Text). (id, v)) (used id us))
row-is id us = row_used id us ∙ ap (option_map row) (found_use id us)

first_in : (id : Text) (o : Option Text) → option_and_then (λ (r : Row). slice_get r.values 0) (option_map row (option_map (λ (v : Text). (id, v)) o)) ≡ o
first_in id None = refl
first_in id (Some v) = refl

-- the row of what is said
abbrev said_row : Text → Option Text → Option Row
said_row id said = option_map row (option_map (λ (v : Text). (id, v)) said)

given_row : (id : Text) (o : Option Text) → is_some o ≡ true → (v : Text) × (said_row id o ≡ Some (row (id, v)))
given_row id None e = cc
given_row id (Some v) e = (v, refl)

flag_in_row : (id : Text) (given : Bool) → said_row id (flag_said given) ≡ flag_row id given
flag_in_row id true = refl
flag_in_row id false = refl

-- the first value at the end, by what is said
abbrev end_text : OptionKind → Option Text → Option Text
end_text Needed said = said
end_text Allowed said = said
end_text Flag said = Some (flag_text (is_some said))

option_end : (kind : OptionKind) (name : Text) (words : List Text) (rows : List Row) → find_row name rows ≡ said_row name (said_kind kind name words)
    → first_text (find_row name (with_default rows (option_in (named name kind)))) ≡ end_text kind (said_kind kind name words)
option_end Needed name words rows e = ap first_text (ap (find_row name) (cond_same (has_row name rows) rows) ∙ e) ∙ first_in name (value_of name words)
option_end Allowed name words rows e = ap first_text (ap (find_row name) (cond_same (has_row name rows) rows) ∙ e) ∙ first_in name (value_of name words)
option_end Flag name words rows e = own_default name (has_flag name words) rows (e ∙ flag_in_row name (has_flag name words)) ∙ stands (has_flag name words)
  where
    stands : (b : Bool) → Some (flag_text b) ≡ Some (flag_text (is_some (flag_said b)))
    stands true = refl
    stands false = refl

option_at_end : (options : List NamedOption) (option : NamedOption) (words : List Text) (rows : List Row) → apart (names_of options) ≡ true → IsIn option options
    → find_row option.name rows ≡ said_row option.name (said_of words option)
    → first_text (find_row option.name (with_options rows options)) ≡ end_text option.kind (said_of words option)
option_at_end [] option words rows differ i e = absurd i
option_at_end (x ∷ options) option words rows differ (inl same) e =
    let first = apart_first x.name (names_of options) differ in
    let others = λ (o : NamedOption) (i : IsIn o options). flipped option.name o.name (ap (λ (n : NamedOption). bytes_eq n.name o.name) (sym same)
    ∙ differs_in x.name (names_of options) o.name first.0 (in-map (λ (n : NamedOption). n.name) options o i)) in
    ap first_text (find_other options option.name (with_default rows (option_in x)) others
    ∙ ap (λ (n : NamedOption). find_row option.name (with_default rows (option_in n))) same) ∙ option_end option.kind option.name words rows e
option_at_end (x ∷ options) option words rows differ (inr more) e =
    let first = apart_first x.name (names_of options) differ in
    let other = differs_in x.name (names_of options) option.name first.0 (in-map (λ (n : NamedOption). n.name) options option more) in
    option_at_end options option words (with_default rows (option_in x)) first.1 more (find_kept x.kind x.name option.name rows other ∙ e)

-- ---- words of a form

le_of : (m n : ℕ) → nat_le m n ≡ true → m ≤ n
le_of m n e = grind (arith, nat_tests)

eq_of : (m n : ℕ) → (m == n) ≡ true → m ≡ n
eq_of m n e = grind (arith, nat_tests)

implied : (a b : Bool) → (not a || b) ≡ true → a ≡ true → b ≡ true
implied a b e t = grind arith

pub record IsRight (form : WordFormValue) (words : List Text) : Type 0 where
  pub counted : Counted form words
  pub same : length (plain_words words) ≡ length form.plain
  pub required : (option : NamedOption) → IsIn option form.options → is_needed option.kind ≡ true → is_some (said_of words option) ≡ true

pub right-is : (form : WordFormValue) (words : List Text) → is_of_form form words ≡ true → IsRight form words
unfolding is_of_form
right-is form words e =
    let one = and_parts (list_all (is_word form) words) _ e in
    let two = and_parts (length (plain_words words) == length form.plain) _ one.1 in
    let same = eq_of (length (plain_words words)) (length form.plain) two.0 in
    let option_parts = λ (option : NamedOption) (i : IsIn option form.options). and_parts (nat_le (use_count option words) 1) _
    (each_passes (fits_option words) form.options option two.1 i) in
    record {
      counted = record {
        all = one.0;
        plain = omega arith;
        options = λ option i. le_of (use_count option words) 1 (option_parts option i).0;
      };
      same = same;
      required = λ option i t. some_of option words (le_of 1 (use_count option words)
          (implied (is_needed option.kind) (nat_le 1 (use_count option words)) (option_parts option i).1 t));
    }

place_of : (xs : List Text) (x : Text) → IsIn x xs → (k : ℕ) × (k < length xs) × (slice_get xs k ≡ Some x)
place_of [] x i = absurd i
place_of (y ∷ xs) x (inl same) = (0, omega arith, ap Some same)
place_of (y ∷ xs) x (inr more) = let rest = place_of xs x more in (suc rest.0, omega (arith, rest.1), rest.2)

none_pass : {X : Type 0} (p : X → Bool) (xs : List X) → list_all (λ x. not (p x)) xs ≡ true → list_any p xs ≡ false
none_pass p [] e = refl
none_pass p (x ∷ xs) e =
    let parts = and_parts (not (p x)) _ e in
    let first = not_true (p x) parts.0 in
    rw first (none_pass p xs parts.1)

level_made : (rules : List Rule) (words : List Text) (place : ℕ) (held : Held) → walk_passes (shape_of rules) [] (at 1 nothing_held) words ≡ true
    → fold (walked rules []) (at 1 nothing_held) words ≡ at place held → settle_passes rules false held ≡ true → list_all default_passes rules ≡ true
    → list_all (λ (a : Rule). a.is_free) rules ≡ true
    → list_all (λ (a : Rule). not a.required || is_given a.id (finished rules held)) rules ≡ true
    → level_passes (shape_of rules) [] nothing_held words false ≡ true
level_made rules words place held passes goes settles defaults free given = rw (goes, passes, settles, defaults, free, given) refl

simple_made : (raw rules : List Rule) → filled_from 1 raw ≡ rules → list_all (λ (a : Rule). a.is_simple) raw ≡ true → list_all (λ (a : Rule). a.is_simple) rules ≡ true
    → is_in_order rules ≡ true → is_simple (app_with raw) ≡ true
simple_made raw rules is one two three = rw (one, is, two, three) refl

rules_are_simple : (form : WordFormValue) → Proper form → is_simple (app_with (form_rules form)) ≡ true
rules_are_simple form proper =
    let n = count_by (λ (a : Rule). is_some a.index) (rules_of form) in
    simple_made (form_rules form) (rules_of form) (rules-are form proper.few)
    (list_all-append (λ (a : Rule). a.is_simple) (map plain_rule form.plain) (map option_rule form.options)
    ∙ both (mapped_pass (λ (a : Rule). a.is_simple) plain_rule form.plain (λ x i. refl)) (mapped_pass (λ (a : Rule). a.is_simple) option_rule form.options (λ x i. refl)))
    (rules_pass form (λ (a : Rule). a.is_simple) (λ n id i. refl) (λ o i. refl))
    (ap not (none_pass (is_early_multiple n) (rules_of form) (rules_pass form (λ (a : Rule). not (is_early_multiple n a)) (λ n id i. refl)
    (λ o i. by_kind (λ (a : Rule). not (is_early_multiple n a)) (λ n. refl) (λ n. refl) (λ n. refl) o))))
  where
    both : {a b : Bool} → a ≡ true → b ≡ true → (a && b) ≡ true
    both x y = rw (x, y) refl

-- the command of a form is one of which `clap`'s rules speak
pub form_is_simple : (form : WordFormValue) → Proper form → is_simple (form_app form) ≡ true
form_is_simple form proper = ap is_simple (form_app-is form) ∙ rules_are_simple form proper

none_beyond : (xs : List Text) (n : ℕ) → length xs ≤ n → slice_get xs n ≡ None
none_beyond [] n le = refl
none_beyond (x ∷ xs) zero le = absurd (omega arith)
none_beyond (x ∷ xs) (suc n) le = none_beyond xs n (omega arith)

end_said : (kind : OptionKind) (name : Text) (words : List Text) → found_said kind (end_text kind (said_kind kind name words)) ≡ said_kind kind name words
end_said Needed name words = refl
end_said Allowed name words = refl
end_said Flag name words = stands (has_flag name words)
  where
    stands : (b : Bool) → if_yes (Some (flag_text (is_some (flag_said b)))) ≡ flag_said b
    stands true = refl
    stands false = refl

abbrev given_of : (ℕ → Option Text) → (Text → Option Text) → Given
given_of plain said = record { plain = plain; said = said }

given_made : {p q : ℕ → Option Text} {v w : Text → Option Text} → p ≡ q → v ≡ w → given_of p v ≡ given_of q w
given_made {p} {q} {v} {w} a b = ap (λ (x : ℕ → Option Text). given_of x v) a ∙ ap (given_of q) b

module _ (form : WordFormValue) (proper : Proper form) (words : List Text) (right : IsRight form words) where
  abbrev us : List (Text × Text)
  us = uses form.plain 0 words

  -- the rows at the end
  abbrev last_rows : List Row
  last_rows = with_options (map row us) form.options

  ends : Ends form proper 1 [] words nothing_held
  ends = walk_ends form proper words right.counted

  finished-last : finished (rules_of form) ends.next_held ≡ last_rows
  finished-last = finished-is form ends.next_held ∙ ap (λ (rows : List Row). with_options rows form.options) ends.fits.are

  counted_plain : 0 + length (plain_words words) ≤ length form.plain
  counted_plain = let le = right.counted.plain in omega arith

  -- what is said of an option is in its row
  used_row : (option : NamedOption) → IsIn option form.options → find_row option.name (map row us) ≡ said_row option.name (said_of words option)
  used_row option i = row-is option.name us ∙ ap (said_row option.name) (used_said form proper option i 0 words right.counted.all counted_plain)

  plain_row : (place : ℕ) → place < length form.plain → find_row (id_at form.plain place) last_rows ≡ said_row (id_at form.plain place) (plain_at place words)
  plain_row place lt =
      let id = id_at form.plain place in
      find_other form.options id (map row us)
      (λ option j. flipped id option.name (disjoint_in form.plain (names_of form.options) id option.name proper.plain_options (id_in form proper place lt) (name_in form proper option j)))
      ∙ row-is id us ∙ ap (said_row id) (used_plain form proper place place 0 words (omega arith) lt right.counted.all counted_plain)

  -- what has to stand is there
  plain_given : (id : Text) → IsIn id form.plain → is_given id last_rows ≡ true
  plain_given id i =
      let place = place_of form.plain id i in
      let named : id_at form.plain place.0 ≡ id = ap (λ (o : Option Text). unwrap_or o []) place.2 in
      let same = right.same in
      let lt = place.1 in
      let stands = some_at (plain_words words) place.0 (omega arith) in
      ap (λ (n : Text). is_given n last_rows) (sym named)
      ∙ ap (λ (o : Option Row). option_map_or (λ (r : Row). explicit_source r.source) o false) (plain_row place.0 place.1)
      ∙ ap (λ (o : Option Row). option_map_or (λ (r : Row). explicit_source r.source) o false) (given_row (id_at form.plain place.0) (plain_at place.0 words) (ap is_some stands.1)).1

  option_given : (option : NamedOption) → IsIn option form.options → (not (is_needed option.kind) || is_given option.name last_rows) ≡ true
  option_given option i = go (is_needed option.kind) refl
    where
      go : (b : Bool) → is_needed option.kind ≡ b → (not b || is_given option.name last_rows) ≡ true
      go false e = refl
      go true e =
          let said = given_row option.name (said_of words option) (right.required option i e) in
          ap (λ (o : Option Row). option_map_or (λ (r : Row). explicit_source r.source) o false)
          (rows_stay form.options option.name (map row us) (used_row option i ∙ said.1))

  required_given : list_all (λ (a : Rule). not a.required || is_given a.id last_rows) (rules_of form) ≡ true
  required_given = rules_pass form (λ (a : Rule). not a.required || is_given a.id last_rows) (λ n id i. plain_given id i) option_given

  takes_words : (first : Text) → takes (app_with (form_rules form)) (first ∷ words) ≡ true
  takes_words first =
      let filled = rules-are form proper.few in
      let level = level_made (rules_of form) words ends.next_place ends.next_held ends.passes ends.goes ends.fits.settles
      (rules_pass form default_passes (λ n id i. refl) (λ o i. by_kind default_passes (λ n. refl) (λ n. refl) (λ n. refl) o))
      (rules_pass form (λ (a : Rule). a.is_free) (λ n id i. refl) (λ o i. refl))
      (ap (λ (rows : List Row). list_all (λ (a : Rule). not a.required || is_given a.id rows) (rules_of form)) finished-last ∙ required_given) in
      let simple = rules_are_simple form proper in
      let whole = leaf_takes (built (app_with (form_rules form))) nothing_held words refl
      (ap (λ (rules : List Rule). level_passes (shape_of rules) [] nothing_held words false) filled ∙ level) in
      rw simple whole

  matches_are : (first : Text) → matches_of (app_with (form_rules form)) (first ∷ words) ≡ last_rows
  matches_are first =
      let filled = rules-are form proper.few in
      let goes = ends.goes in
      ap (λ (rules : List Rule). finished rules (walk rules [] nothing_held words).held) filled
      ∙ ap (λ (w : Walk). finished (rules_of form) w.held) goes ∙ finished-last

  -- what was found gives what the words do
  plain_alike : (found : Found) → rows_of found ≡ last_rows → (place : ℕ) → option_and_then (first_value found) (slice_get form.plain place) ≡ plain_at place words
  plain_alike found rows place = go (nat_lt place (length form.plain)) refl
    where
      go : (b : Bool) → nat_lt place (length form.plain) ≡ b → option_and_then (first_value found) (slice_get form.plain place) ≡ plain_at place words
      go true e =
          let below : place < length form.plain = grind (arith, nat_tests) in
          let id = id_at form.plain place in
          ap (option_and_then (first_value found)) (at_id form proper place below) ∙ first_value-rows found id ∙ ap (first_of id) rows
          ∙ ap first_text (plain_row place below) ∙ first_in id (plain_at place words)
      go false e =
          let beyond : length form.plain ≤ place = grind (arith, nat_tests) in
          let same = right.same in
          ap (option_and_then (first_value found)) (none_beyond form.plain place beyond) ∙ sym (none_beyond (plain_words words) place (omega arith))

  option_alike : (found : Found) → rows_of found ≡ last_rows → (option : NamedOption) → IsIn option form.options → said_of_found found option ≡ said_of words option
  option_alike found rows option i =
      ap (found_said option.kind) (first_value-rows found option.name ∙ ap (first_of option.name) rows
      ∙ option_at_end form.options option words (map row us) proper.options i (used_row option i))
      ∙ end_said option.kind option.name words

  said_alike : (found : Found) → rows_of found ≡ last_rows → (name : Text)
      → option_and_then (said_of_found found) (option_named form name) ≡ option_and_then (said_of words) (option_named form name)
  said_alike found rows name = go (option_named form name) refl
    where
      go : (o : Option NamedOption) → option_named form name ≡ o → option_and_then (said_of_found found) o ≡ option_and_then (said_of words) o
      go None e = refl
      go (Some option) e = option_alike found rows option (found_in (λ (x : NamedOption). bytes_eq x.name name) form.options e)

  given_alike : (found : Found) → rows_of found ≡ last_rows → given_in form found ≡ given_by form words
  given_alike found rows = given_made (fun_ext (plain_alike found rows)) (fun_ext (said_alike found rows))

-- words of a form are taken by its command
pub form_takes : (form : WordFormValue) → Proper form → (first : Text) (words : List Text) → is_of_form form words ≡ true → takes (form_app form) (first ∷ words) ≡ true
form_takes form proper first words e =
    ap (λ app. takes app (first ∷ words)) (form_app-is form) ∙ takes_words form proper words (right-is form words e) first

-- and its matches give what they do
pub form_gives : (form : WordFormValue) → Proper form → (first : Text) (words : List Text) (found : Found) → is_of_form form words ≡ true
    → rows_of found ≡ matches_of (form_app form) (first ∷ words) → given_in form found ≡ given_by form words
form_gives form proper first words found e rows =
    let right = right-is form words e in
    given_alike form proper words right found
    (rows ∙ ap (λ app. matches_of app (first ∷ words)) (form_app-is form) ∙ matches_are form proper words right first)
