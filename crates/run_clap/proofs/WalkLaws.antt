-- What `clap` makes of one word of a form.
use Rattle.std.proofs.Common.{arith, ◌≡◌, ◌≤◌, ℕ, suc, ◌==◌, Bool, true, false, List, [], ◌∷◌, ◌++◌, ◌&&◌, append-nil, refl, ap, ◌∙◌, codes}
use Rattle.std.proofs.Common.{Option, Some, None}
use Rattle.std.specs.Str.{bytes_eq}
use Rattle.clap.specs.Lexer.{long_of}
use Rattle.clap.specs.declared.parser.matches.ValueSource.TheVariants.{CommandLine}
use Rattle.clap.specs.declared.builder.value_parser.Reading.TheVariants.{AsWritten}
use Rattle.clap.specs.Walk.{Held, Row, Rule, Walk, arg_by_id, arg_by_index, arg_by_long, idle, reacted, walked, settled, at_row, more_values, without, with_values, has_row}
use Rattle.clap.specs.Walk.{pushed, is_pending}
use Rattle.clap.specs.Simple.{Shape, built}
use Rattle.clap.specs.Takes.{turn_passes, settle_passes}
use Rattle.std.specs.Prelude.{unwrap_or}
use Rattle.run_words.specs.Forms.{OptionKind, Needed, Allowed, Flag}
use Rattle.run_clap.proofs.AppLaws.{app_with}
use Rattle.run_clap.proofs.Lists.{Text, same_is}
use Rattle.run_clap.proofs.RuleLaws.{least, named, option_in, plain_in, seen_of}
use Rattle.std.proofs.lemmas.Bool.{or_parts}

-- the command with these arguments, filled in
abbrev pub shape_of : List Rule → Shape
shape_of rules = record (built (app_with [])).top { rules = rules }

-- ---- rows

abbrev pub row : Text × Text → Row
row u = record { id = u.0; values = u.1 ∷ []; count = None; source = Some CommandLine; reading = AsWritten }

pub at_row-none : (id : Text) (change : Row → List Row) (missing rows : List Row) → has_row id rows ≡ false
    → at_row id change missing rows ≡ rows ++ missing
at_row-none id change missing [] e = refl
at_row-none id change missing (x ∷ xs) e = grind (arith, at_row-none id change missing xs (or_parts (bytes_eq x.id id) (has_row id xs) e).1)

-- a first use of an argument adds its row
with_values-new : (id value : Text) (rows : List Row) → has_row id rows ≡ false
    → with_values id AsWritten CommandLine (value ∷ []) (without id rows) ≡ rows ++ row (id, value) ∷ []
with_values-new id value rows none =
    let same : without id rows ≡ rows = at_row-none id (λ _. []) [] rows none ∙ append-nil rows in
    rw same (at_row-none id (more_values CommandLine (value ∷ [])) (row (id, value) ∷ []) rows none)

abbrev pub at : ℕ → Held → Walk
at position h = record { held = h; waiting = idle; position = position; is_trailing = false; stopped = None }

-- what is held comes to these rows
pub record Fits (rules : List Rule) (rows : List Row) (h : Held) : Type 0 where
  pub settles : settle_passes rules false h ≡ true
  pub are : (settled rules h).rows ≡ rows

-- a word that is met passes, and leads on
pub record Turns (rules : List Rule) (word : Text) (place next : ℕ) (rows : List Row) (h : Held) : Type 0 where
  pub next_held : Held
  pub passes : turn_passes (shape_of rules) [] (at place h) word ≡ true
  pub goes : walked rules [] (at place h) word ≡ at next next_held
  pub fits : Fits rules rows next_held

-- ---- one word

no_dashes : (word : Text) {p : Text × Option Text} → long_of word ≡ Some p → bytes_eq word (45 ∷ 45 ∷ []) ≡ false
no_dashes word {p} e = go (bytes_eq word (45 ∷ 45 ∷ [])) refl
  where
    go : (b : Bool) → bytes_eq word (45 ∷ 45 ∷ []) ≡ b → b ≡ false
    go false f = refl
    go true f = let none : long_of word ≡ None = ap long_of (same_is word (45 ∷ 45 ∷ []) f) in cc

pub long_turns : (rules : List Rule) (kind : OptionKind) (name text word : Text) (place : ℕ) (rows : List Row) (h : Held)
    → arg_by_long rules name ≡ Some (option_in (named name kind)) → long_of word ≡ Some (name, seen_of kind text) → Fits rules rows h → has_row name rows ≡ false
    → Turns rules word place place (rows ++ row (name, unwrap_or (seen_of kind text) (codes "true")) ∷ []) h
unfolding walked
long_turns rules Needed name text word place rows h found long f none =
    let settles = f.settles in
    let no = ap (has_row name) f.are ∙ none in
    let dashes = no_dashes word long in
    record {
      next_held = reacted rules (option_in (named name Needed)) (text ∷ []) h;
      passes = rw (dashes, long, found, settles, no) refl;
      goes = rw (dashes, long, found) refl;
      fits = record { settles = refl; are = with_values-new name text (settled rules h).rows no ∙ ap (λ rs. rs ++ row (name, text) ∷ []) f.are };
    }
long_turns rules Allowed name text word place rows h found long f none =
    let settles = f.settles in
    let no = ap (has_row name) f.are ∙ none in
    let dashes = no_dashes word long in
    record {
      next_held = reacted rules (option_in (named name Allowed)) (text ∷ []) h;
      passes = rw (dashes, long, found, settles, no) refl;
      goes = rw (dashes, long, found) refl;
      fits = record { settles = refl; are = with_values-new name text (settled rules h).rows no ∙ ap (λ rs. rs ++ row (name, text) ∷ []) f.are };
    }
long_turns rules Flag name text word place rows h found long f none =
    let settles = f.settles in
    let no = ap (has_row name) f.are ∙ none in
    let dashes = no_dashes word long in
    record {
      next_held = reacted rules (option_in (named name Flag)) [] h;
      passes = rw (dashes, long, found, settles, no) refl;
      goes = rw (dashes, long, found) refl;
      fits = record { settles = refl; are = with_values-new name (codes "true") (settled rules h).rows no ∙ ap (λ rs. rs ++ row (name, codes "true") ∷ []) f.are };
    }

and_false : (b : Bool) → (b && false) ≡ false
and_false b = grind arith

pub plain_turns : (rules : List Rule) (id : Text) (x : ℕ) (xs : Text) (place : ℕ) (rows : List Row) (h : Held)
    → arg_by_index rules place ≡ Some (plain_in place id) → arg_by_id rules id ≡ Some (plain_in place id) → (x == 45) ≡ false
    → suc place ≤ 18446744073709551615 → Fits rules rows h → has_row id rows ≡ false
    → Turns rules (x ∷ xs) place (suc place) (rows ++ row (id, x ∷ xs) ∷ []) h
unfolding walked
plain_turns rules id x xs place rows h indexed named no_dash few f none =
    let settles = f.settles in
    let no = ap (has_row id) f.are ∙ none in
    let more = least place few in
    let held = and_false (is_pending (plain_in place id) h.pending) in
    record {
      next_held = pushed id (x ∷ xs) (settled rules h);
      passes = rw (no_dash, no_dash, indexed, held, settles) refl;
      goes = rw (no_dash, no_dash, indexed, held, more) refl;
      fits = record {
        settles = rw (named, no) refl;
        are = rw named (with_values-new id (x ∷ xs) (settled rules h).rows no ∙ ap (λ rs. rs ++ row (id, x ∷ xs) ∷ []) f.are);
      };
    }
