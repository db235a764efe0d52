-- The arguments of a form, as `clap` fills them in and finds them.
use Rattle.std.proofs.Common.{◌≡◌, inl, inr, ◌<◌, ◌≤◌, ◌+◌, ℕ, zero, suc, ◌==◌, Bool, true, false, List, [], ◌∷◌, ◌++◌, length, map, refl, ap, ◌∙◌, arith}
use Rattle.std.proofs.Common.{Option, Some, None}
use Rattle.std.proofs.lemmas.Bool.Decides.{nat_tests}
use Rattle.std.specs.Prelude.{slice_get, min}
use Rattle.std.specs.List.{list_all}
use Rattle.clap.specs.Walk.{Rule, arg_by_id, arg_by_index, arg_by_long}
use Rattle.clap.specs.Simple.{filled, filled_from, with_index}
use Rattle.run_words.specs.Forms.{WordFormValue, NamedOption}
use Rattle.run_words.specs.Forms.{OptionKind, Needed, Allowed, Flag}
use Rattle.run_clap.specs.Apps.{form_rules, option_rule, plain_rule}
use Rattle.run_clap.specs.Propers.{apart, names_of}
use Rattle.run_clap.proofs.Lists.{IsIn, Text, apart_first, differs_at, differs_in, in-map, same_text}

abbrev pub plain_in : ℕ → Text → Rule
plain_in place id = with_index place (filled (plain_rule id))

abbrev pub named : Text → OptionKind → NamedOption
named name kind = record { name = name; kind = kind }

-- what `clap` sees behind the name, where a word says this of an option
abbrev pub seen_of : OptionKind → Text → Option Text
seen_of Needed text = Some text
seen_of Allowed text = Some text
seen_of Flag text = None

abbrev pub option_in : NamedOption → Rule
option_in option = filled (option_rule option)

abbrev pub numbered : ℕ → List Text → List Rule
numbered place [] = []
numbered place (id ∷ ids) = plain_in place id ∷ numbered (suc place) ids

-- the arguments of a form, filled in
abbrev pub rules_of : WordFormValue → List Rule
rules_of form = numbered 1 form.plain ++ map option_in form.options

pub least : (place : ℕ) → suc place ≤ 18446744073709551615 → min (place + 1) 18446744073709551615 ≡ suc place
least place le = grind (arith, nat_tests)

filled_plain : (place : ℕ) (ids : List Text) (rest filled_rest : List Rule) → place + length ids ≤ 18446744073709551615
    → ((next : ℕ) → filled_from next rest ≡ filled_rest) → filled_from place (map plain_rule ids ++ rest) ≡ numbered place ids ++ filled_rest
filled_plain place [] rest filled_rest le h = h place
filled_plain place (id ∷ ids) rest filled_rest le h =
    let next = least place (omega arith) in
    rw next (ap (λ rules. plain_in place id ∷ rules) (filled_plain (suc place) ids rest filled_rest (omega arith) h))

filled_options : (place : ℕ) (options : List NamedOption) → filled_from place (map option_rule options) ≡ map option_in options
filled_options place [] = refl
filled_options place (option ∷ options) = ap (λ rules. option_in option ∷ rules) (filled_options place options)

pub rules-are : (form : WordFormValue) → length form.plain < 18446744073709551615 → filled_from 1 (form_rules form) ≡ rules_of form
rules-are form few = filled_plain 1 form.plain (map option_rule form.options) _ (omega arith) (λ next. filled_options next form.options)

-- ---- the argument of a place, an id or a long name

pub at_place : (place k n : ℕ) (ids : List Text) (rest : List Rule) {id : Text} → n ≡ place + k → slice_get ids k ≡ Some id
    → arg_by_index (numbered place ids ++ rest) n ≡ Some (plain_in n id)
at_place place k n [] rest is at = cc
at_place place zero n (x ∷ ids) rest {id} is at =
    let same : place ≡ n = omega arith in
    let here : (n == n) ≡ true = grind (arith, nat_tests) in
    let named : x ≡ id = cc in
    rw (same, here, named) refl
at_place place (suc k) n (x ∷ ids) rest is at =
    let other : (place == n) ≡ false = grind (arith, nat_tests) in
    rw other (at_place (suc place) k n ids rest (omega arith) at)

pub by_id : (place k n : ℕ) (ids : List Text) (rest : List Rule) {id : Text} → n ≡ place + k → apart ids ≡ true → slice_get ids k ≡ Some id
    → arg_by_id (numbered place ids ++ rest) id ≡ Some (plain_in n id)
by_id place k n [] rest is differ at = cc
by_id place zero n (x ∷ ids) rest {id} is differ at =
    let same : place ≡ n = omega arith in
    let named : x ≡ id = cc in
    let here = same_text id in
    rw (named, here, same) refl
by_id place (suc k) n (x ∷ ids) rest is differ at =
    let first = apart_first x ids differ in
    let other = differs_at x ids k first.0 at in
    rw other (by_id (suc place) k n ids rest (omega arith) first.1 at)

behind_plain : (place : ℕ) (ids : List Text) (rest : List Rule) (name : Text) → arg_by_long (numbered place ids ++ rest) name ≡ arg_by_long rest name
behind_plain place [] rest name = refl
behind_plain place (id ∷ ids) rest name = behind_plain (suc place) ids rest name

among_options : (options : List NamedOption) (option : NamedOption) → apart (names_of options) ≡ true → IsIn option options
    → arg_by_long (map option_in options) option.name ≡ Some (option_in option)
among_options [] option differ i = absurd i
among_options (x ∷ options) option differ (inl same) =
    let here = same_text option.name in
    rw (same, here) refl
among_options (x ∷ options) option differ (inr more) =
    let first = apart_first x.name (names_of options) differ in
    let other = differs_in x.name (names_of options) option.name first.0 (in-map (λ (o : NamedOption). o.name) options option more) in
    rw other (among_options options option first.1 more)

pub by_option : (form : WordFormValue) (option : NamedOption) → apart (names_of form.options) ≡ true → IsIn option form.options
    → arg_by_long (rules_of form) option.name ≡ Some (option_in option)
by_option form option differ i = behind_plain 1 form.plain _ option.name ∙ among_options form.options option differ i

-- ---- what holds of each of the arguments

numbered_pass : (p : Rule → Bool) (place : ℕ) (ids : List Text) (rest : List Rule) → ((n : ℕ) (id : Text) → IsIn id ids → p (plain_in n id) ≡ true) → list_all p rest ≡ true
    → list_all p (numbered place ids ++ rest) ≡ true
numbered_pass p place [] rest h more = more
numbered_pass p place (id ∷ ids) rest h more =
    let first = h place id (inl refl) in
    rw first (numbered_pass p (suc place) ids rest (λ n x i. h n x (inr i)) more)

pub mapped_pass : {X : Type 0} (p : Rule → Bool) (f : X → Rule) (xs : List X) → ((x : X) → IsIn x xs → p (f x) ≡ true) → list_all p (map f xs) ≡ true
mapped_pass p f [] h = refl
mapped_pass p f (x ∷ xs) h = let first = h x (inl refl) in rw first (mapped_pass p f xs (λ y i. h y (inr i)))

-- what holds of an option of each kind
pub by_kind : (p : Rule → Bool) → ((name : Text) → p (option_in (named name Needed)) ≡ true) → ((name : Text) → p (option_in (named name Allowed)) ≡ true)
    → ((name : Text) → p (option_in (named name Flag)) ≡ true) → (option : NamedOption) → p (option_in option) ≡ true
by_kind p a b c option = go option.kind option.name
  where
    go : (kind : OptionKind) (name : Text) → p (option_in (named name kind)) ≡ true
    go Needed name = a name
    go Allowed name = b name
    go Flag name = c name

pub rules_pass : (form : WordFormValue) (p : Rule → Bool) → ((n : ℕ) (id : Text) → IsIn id form.plain → p (plain_in n id) ≡ true)
    → ((option : NamedOption) → IsIn option form.options → p (option_in option) ≡ true) → list_all p (rules_of form) ≡ true
rules_pass form p a b = numbered_pass p 1 form.plain _ a (mapped_pass p option_in form.options b)
