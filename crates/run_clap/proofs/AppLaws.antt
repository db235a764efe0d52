-- The command of a form, made argument by argument.
use Rattle.std.proofs.Common.{◌≡◌, ◌+◌, ◌<◌, ℕ, List, [], ◌∷◌, ◌++◌, map, drop, get_or, length, append-nil, append_assoc, refl, sym, ap, ◌∙◌, add-one, drop-cons}
use Rattle.clap.specs.Words.{App, Rule, with_rule}
use Rattle.run_clap.specs.Apps.{empty_app, form_app, form_rules, option_rule, plain_rule, with_rules}
use Rattle.run_words.specs.Forms.{WordFormValue}

pub with_rules-append : (app : App) (xs ys : List Rule) → with_rules app (xs ++ ys) ≡ with_rules (with_rules app xs) ys
with_rules-append app [] ys = refl
with_rules-append app (x ∷ xs) ys = with_rules-append (with_rule app x) xs ys

-- the arguments come behind those that are there
with_rules-are : (app : App) (xs : List Rule)
    → with_rules app xs ≡ record app { top = record app.top { rules = app.top.rules ++ xs } }
with_rules-are app [] = ap (λ (rules : List Rule). record app { top = record app.top { rules = rules } }) (sym (append-nil app.top.rules))
with_rules-are app (x ∷ xs) =
    with_rules-are (with_rule app x) xs
    ∙ ap (λ (rules : List Rule). record app { top = record app.top { rules = rules } }) (append_assoc app.top.rules (x ∷ []) xs)

-- no argument stands in the empty command
abbrev pub app_with : List Rule → App
app_with rules = record empty_app { top = record empty_app.top { rules = rules } }

pub form_app-is : (form : WordFormValue) → form_app form ≡ app_with (form_rules form)
unfolding form_app
form_app-is form = with_rules-are empty_app (form_rules form)

-- the command of a form, made in two steps
pub form_app-made : (form : WordFormValue) (empty plain whole : App) → empty ≡ empty_app → plain ≡ with_rules empty (map plain_rule form.plain)
    → whole ≡ with_rules plain (map option_rule form.options) → whole ≡ form_app form
unfolding form_app
form_app-made form empty plain whole a b c =
    let options = map option_rule form.options in
    c ∙ ap (λ (app : App). with_rules app options) (b ∙ ap (λ (app : App). with_rules app (map plain_rule form.plain)) a)
    ∙ sym (with_rules-append empty_app (map plain_rule form.plain) options)

-- one argument more: with those that are left it is the same command
pub one_more : {A B : Type 0} (rule : B → Rule) (view : A → B) (xs : List A) (place : ℕ) (none : A) (app next : App) {made : Rule} → place < length xs
    → made ≡ rule (view (get_or xs place none)) → next ≡ with_rule app made
    → with_rules next (map rule (map view (drop (place + 1) xs))) ≡ with_rules app (map rule (map view (drop place xs)))
one_more {A = A} rule view xs place none app next less is more =
    let here : drop place xs ≡ get_or xs place none ∷ drop (place + 1) xs = rw add-one (drop-cons xs place none less) in
    ap (λ (a : App). with_rules a (map rule (map view (drop (place + 1) xs)))) (more ∙ ap (with_rule app) is)
    ∙ sym (ap (λ (left : List A). with_rules app (map rule (map view left))) here)
