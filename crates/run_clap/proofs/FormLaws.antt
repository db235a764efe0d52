-- Words of a form are taken by `clap`, whose matches have what they hold: for all forms whose names differ.
use Rattle.std.proofs.Common.{◌≡◌, inl, inr, ◌<◌, ◌≤◌, ℕ, zero, suc, Bool, true, false, List, [], ◌∷◌, ◌++◌, subst, cond, length, append_assoc, append-nil}
use Rattle.std.proofs.Common.{map, refl, sym, ap, ◌∙◌, arith, Option, Some, None, option_map}
use Rattle.std.proofs.lemmas.Bool.{and_parts}
use Rattle.std.proofs.lemmas.List.{length-append, map-append}
use Rattle.std.proofs.lemmas.List.Elements.{filter-append}
use Rattle.std.specs.Option.{option_or}
use Rattle.std.proofs.lemmas.List.Folds.{list_all-append}
use Rattle.std.specs.Prelude.{find, fold, is_some, slice_get}
use Rattle.std.specs.Str.{bytes_eq}
use Rattle.std.specs.List.{filter, list_all}
use Rattle.clap.specs.Walk.{Held, Row, Rule, has_row, nothing_held, walked}
use Rattle.clap.specs.Takes.{walk_passes}
use Rattle.run_words.specs.Forms.{WordFormValue, NamedOption, is_word, plain_at, plain_words, said_in, said_of, use_count}
use Rattle.run_words.specs.Words.{is_plain}
use Rattle.run_clap.proofs.Lists.{IsIn, Text}
use Rattle.run_clap.proofs.RuleLaws.{at_place, by_id, by_option, rules_of}
use Rattle.run_clap.proofs.UseLaws.{IsWord, Proper, id_at, place_after, place_after-is, place_after-more, next_place, at_id, use-long, use-plain, used, used_plain, used_said, said_more, said_none, use_of, uses, uses-more, word_is}
use Rattle.run_clap.proofs.WalkLaws.{Fits, Turns, at, long_turns, plain_turns, row, shape_of}

-- ---- rows and uses

abbrev pub find_row : Text → List Row → Option Row
find_row id rows = find (λ r. bytes_eq r.id id) rows

cond_row : (b : Bool) (u : Text × Text) (o : Option (Text × Text)) → cond b (Some (row u)) (option_map row o) ≡ option_map row (cond b (Some u) o)
cond_row true u o = refl
cond_row false u o = refl

-- the row of a name, by its use
pub row_used : (id : Text) (us : List (Text × Text)) → find_row id (map row us) ≡ option_map row (find (λ (u : Text × Text). bytes_eq u.0 id) us)
row_used id [] = refl
row_used id (u ∷ us) =
    ap (λ o. cond (bytes_eq u.0 id) (Some (row u)) o) (row_used id us)
    ∙ cond_row (bytes_eq u.0 id) u (find (λ (v : Text × Text). bytes_eq v.0 id) us)

pub has_row-find : (id : Text) (rows : List Row) → has_row id rows ≡ is_some (find_row id rows)
has_row-find id [] = refl
has_row-find id (x ∷ xs) = grind (arith, has_row-find id xs)

some_row : (o : Option (Text × Text)) → is_some (option_map row o) ≡ is_some (option_map (λ (u : Text × Text). u.1) o)
some_row None = refl
some_row (Some u) = refl

pub has_use : (id : Text) (us : List (Text × Text)) → has_row id (map row us) ≡ is_some (used id us)
has_use id us = has_row-find id (map row us) ∙ ap is_some (row_used id us) ∙ some_row (find (λ (u : Text × Text). bytes_eq u.0 id) us)

-- ---- how often a word stands

-- one that stands here stood not before, where it stands at most once
stood_not : (p : Text → Bool) (seen : List Text) (word : Text) (rest : List Text) → length (filter p (seen ++ word ∷ rest)) ≤ 1 → p word ≡ true
    → length (filter p seen) ≡ 0
stood_not p seen word rest le e =
    let whole = ap length (filter-append p seen (word ∷ rest)) ∙ length-append (filter p seen) (filter p (word ∷ rest)) in
    let here : length (filter p (word ∷ rest)) ≡ suc (length (filter p rest)) = ap (λ b. length (cond b (word ∷ filter p rest) (filter p rest))) e in
    omega arith

no_more : (b : Bool) (word : Text) (words : List Text) → length (cond b (word ∷ words) words) ≡ 0 → (b ≡ false) × (length words ≡ 0)
no_more true word words e = absurd (omega arith)
no_more false word words e = (refl, e)

no_value : (o : Option Text) → is_some o ≡ false → o ≡ None
no_value None e = refl
no_value (Some v) e = cc

-- a word that says something of an option
abbrev says : NamedOption → Text → Bool
says option word = is_some (said_in option word)

none_of : (option : NamedOption) (words : List Text) → use_count option words ≡ 0 → said_of words option ≡ None
none_of option [] e = said_none option.kind option.name
none_of option (word ∷ words) e =
    let parts = no_more (says option word) word (filter (says option) words) e in
    sym (said_more option.kind option.name word words) ∙ ap (λ o. option_or o (said_of words option)) (no_value (said_in option word) parts.0)
    ∙ none_of option words parts.1

one_of_some : (o : Option Text) (word : Text) (words : List Text) (rest : Option Text) → 1 ≤ length (cond (is_some o) (word ∷ words) words)
    → (1 ≤ length words → is_some rest ≡ true) → is_some (option_or o rest) ≡ true
one_of_some None word words rest le h = h le
one_of_some (Some v) word words rest le h = refl

pub some_of : (option : NamedOption) (words : List Text) → 1 ≤ use_count option words → is_some (said_of words option) ≡ true
some_of option [] le = absurd (omega arith)
some_of option (word ∷ words) le =
    ap is_some (sym (said_more option.kind option.name word words))
    ∙ one_of_some (said_in option word) word (filter (says option) words) (said_of words option) le (some_of option words)

-- what is counted of words of a form
pub record Counted (form : WordFormValue) (words : List Text) : Type 0 where
  pub all : list_all (is_word form) words ≡ true
  pub plain : length (plain_words words) ≤ length form.plain
  pub options : (option : NamedOption) → IsIn option form.options → use_count option words ≤ 1

part_counted : (form : WordFormValue) (seen words : List Text) → Counted form (seen ++ words) → Counted form seen
part_counted form seen words c = record {
  all = (and_parts (list_all (is_word form) seen) (list_all (is_word form) words) (sym (list_all-append (is_word form) seen words) ∙ c.all)).0;
  plain =
      let le = c.plain in
      let whole = ap length (filter-append is_plain seen words) ∙ length-append (plain_words seen) (plain_words words) in
      omega arith;
  options = λ option i.
      let le = c.options option i in
      let whole = ap length (filter-append (says option) seen words) ∙ length-append (filter (says option) seen) (filter (says option) words) in
      omega arith;
}

-- ---- the walk

module _ (form : WordFormValue) (proper : Proper form) where
  abbrev pub rules : List Rule
  rules = rules_of form

  abbrev pub rows_after : List Text → List Row
  rows_after seen = map row (uses form.plain 0 seen)

  rows-more : (seen : List Text) (word : Text) → rows_after seen ++ row (use_of form.plain (place_after 0 seen) word) ∷ [] ≡ rows_after (seen ++ word ∷ [])
  rows-more seen word =
      sym (map-append row (uses form.plain 0 seen) (use_of form.plain (place_after 0 seen) word ∷ [])) ∙ ap (map row) (sym (uses-more form.plain 0 seen word))

  -- the plain words before one are fewer than the form has
  place_below : (seen : List Text) (word : Text) (rest : List Text) → is_plain word ≡ true → Counted form (seen ++ word ∷ rest) → place_after 0 seen < length form.plain
  place_below seen word rest plain c =
      let le = c.plain in
      let here = place_after-is 0 seen in
      let whole = ap length (filter-append is_plain seen (word ∷ rest)) ∙ length-append (plain_words seen) (plain_words (word ∷ rest)) in
      let more : length (plain_words (word ∷ rest)) ≡ suc (length (plain_words rest)) = ap (λ b. length (cond b (word ∷ plain_words rest) (plain_words rest))) plain in
      omega arith

  at_end : (seen : List Text) (n : ℕ) → n ≡ length (plain_words seen) → plain_at n seen ≡ None
  at_end seen n e = past (plain_words seen) n e
    where
      past : (xs : List Text) (n : ℕ) → n ≡ length xs → slice_get xs n ≡ None
      past [] n e = refl
      past (x ∷ xs) zero e = absurd (omega arith)
      past (x ∷ xs) (suc n) e = past xs n (omega arith)

  word_turns : (seen : List Text) (word : Text) (rest : List Text) (h : Held) → IsWord form word → Counted form (seen ++ word ∷ rest) → Fits rules (rows_after seen) h
      → Turns rules word (suc (place_after 0 seen)) (suc (next_place (place_after 0 seen) word)) (rows_after (seen ++ word ∷ [])) h
  word_turns seen word rest h (inl p) c f =
      let k = place_after 0 seen in
      let few = proper.few in
      let below = place_below seen word rest p.plain c in
      let id = id_at form.plain k in
      let at_k = at_id form proper k below in
      let before = part_counted form seen (word ∷ rest) c in
      let le = before.plain in
      let counted = place_after-is 0 seen in
      let none : has_row id (rows_after seen) ≡ false = has_use id (uses form.plain 0 seen)
      ∙ ap is_some (used_plain form proper k k 0 seen (omega arith) below before.all (omega arith) ∙ at_end seen k (omega arith)) in
      let turned = plain_turns rules id p.first p.rest (suc k) (rows_after seen) h
      (at_place 1 k (suc k) form.plain _ (omega arith) at_k) (by_id 1 k (suc k) form.plain _ (omega arith) proper.plain at_k) p.no_dash (omega arith) f none in
      let same = subst (λ w. Turns rules w (suc k) (suc (suc k)) (rows_after seen ++ row (id, w) ∷ []) h) (sym p.is) turned in
      let used_so = subst (λ u. Turns rules word (suc k) (suc (suc k)) (rows_after seen ++ row u ∷ []) h) (sym (use-plain form proper k p)) same in
      let placed = subst (λ n. Turns rules word (suc k) (suc n) (rows_after seen ++ row (use_of form.plain k word) ∷ []) h) (sym (ap (λ b. cond b (suc k) k) p.plain)) used_so in
      subst (λ rows. Turns rules word (suc k) (suc (next_place k word)) rows h) (rows-more seen word) placed
  word_turns seen word rest h (inr o) c f =
      let k = place_after 0 seen in
      let option = o.option in
      let before = part_counted form seen (word ∷ rest) c in
      let le = before.plain in
      let none : has_row option.name (rows_after seen) ≡ false = has_use option.name (uses form.plain 0 seen)
      ∙ ap is_some (used_said form proper option o.among 0 seen before.all (omega arith)
      ∙ none_of option seen (stood_not (says option) seen word rest (c.options option o.among) (ap is_some o.says))) in
      let turned = long_turns rules option.kind option.name o.text word (suc k) (rows_after seen) h (by_option form option proper.options o.among) o.long f none in
      let used_so = subst (λ u. Turns rules word (suc k) (suc k) (rows_after seen ++ row u ∷ []) h) (sym (use-long form proper k word o.other o.long)) turned in
      let placed = subst (λ n. Turns rules word (suc k) (suc n) (rows_after seen ++ row (use_of form.plain k word) ∷ []) h) (sym (ap (λ b. cond b (suc k) k) o.other)) used_so in
      subst (λ rows. Turns rules word (suc k) (suc (next_place k word)) rows h) (rows-more seen word) placed

  pub record Ends (place : ℕ) (seen words : List Text) (h : Held) : Type 0 where
    pub next_place : ℕ
    pub next_held : Held
    pub passes : walk_passes (shape_of rules) [] (at place h) words ≡ true
    pub goes : fold (walked rules []) (at place h) words ≡ at next_place next_held
    pub fits : Fits rules (rows_after (seen ++ words)) next_held

  words_end : (words seen : List Text) (place : ℕ) (h : Held) → place ≡ suc (place_after 0 seen) → Counted form (seen ++ words) → Fits rules (rows_after seen) h
      → Ends place seen words h
  unfolding walk_passes
  words_end [] seen place h is c f = record {
    next_place = place;
    next_held = h;
    passes = refl;
    goes = refl;
    fits = subst (λ ws. Fits rules (rows_after ws) h) (sym (append-nil seen)) f;
  }
  words_end (word ∷ words) seen place h is c f =
      let all = and_parts (list_all (is_word form) seen) _ (sym (list_all-append (is_word form) seen (word ∷ words)) ∙ c.all) in
      let kind = word_is form word proper (and_parts (is_word form word) _ all.1).0 in
      let turned = subst (λ p. Turns rules word p (suc (next_place (place_after 0 seen) word)) (rows_after (seen ++ word ∷ [])) h) (sym is)
      (word_turns seen word words h kind c f) in
      let further = ap suc (sym (place_after-more 0 seen word)) in
      let counted = subst (Counted form) (sym (append_assoc seen (word ∷ []) words)) c in
      let rest = words_end words (seen ++ word ∷ []) (suc (next_place (place_after 0 seen) word)) turned.next_held further counted turned.fits in
      let passes = turned.passes in
      let goes = turned.goes in
      record {
        next_place = rest.next_place;
        next_held = rest.next_held;
        passes = rw (passes, goes) rest.passes;
        goes = rw goes rest.goes;
        fits = subst (λ ws. Fits rules (rows_after ws) rest.next_held) (append_assoc seen (word ∷ []) words) rest.fits;
      }

  pub walk_ends : (words : List Text) → Counted form words → Ends 1 [] words nothing_held
  walk_ends words c = words_end words [] 1 nothing_held refl c (record { settles = refl; are = refl })
