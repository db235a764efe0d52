-- What stands between the tags of code on a page.
use Rattle.std.proofs.Common.{◌≡◌, ℕ, Bool, true, false, eqb, List, [], ◌∷◌, ◌++◌, refl, sym, ap, ◌∙◌, append_assoc}
use Rattle.std.proofs.lemmas.Bool.{eqb-true}
use Rattle.trace_page.specs.CodeLines.{code_from}
use Rattle.trace_page.specs.Promises.{IsPlain, is_plain}
use Rattle.trace_page.specs.Sheet.{list_head, page_foot, page_head}

-- nothing is shown of a text, and what stands behind it is shown as if it stood alone
pub record Passes (text : List ℕ) : Type 0 where
  pub is : (behind : List ℕ) → code_from 0 (text ++ behind) ≡ code_from 0 behind

pub passes-append : (xs ys : List ℕ) → Passes xs → Passes ys → Passes (xs ++ ys)
passes-append xs ys a b =
    record { is = λ behind. ap (λ text. code_from 0 text) (append_assoc xs ys behind) ∙ (a.is (ys ++ behind) ∙ b.is behind) }

plain-open : (byte : ℕ) → is_plain byte ≡ true → eqb byte 60 ≡ false
plain-open byte plain = test (eqb byte 60) refl
  where
    test : (b : Bool) → eqb byte 60 ≡ b → eqb byte 60 ≡ false
    test true is = let same : byte ≡ 60 = eqb-true byte 60 is in let no : is_plain 60 ≡ true = ap is_plain (sym same) ∙ plain in absurd cc
    test false is = is

plain-passed : (text : List ℕ) → IsPlain text → (behind : List ℕ) → code_from 0 (text ++ behind) ≡ code_from 0 behind
plain-passed [] plain behind = refl
plain-passed (byte ∷ text) plain behind = rw (plain-open byte plain.0) (plain-passed text plain.1 behind)

pub passes-plain : (text : List ℕ) → IsPlain text → Passes text
passes-plain text plain = record { is = plain-passed text plain }

-- a plain text behind `<code>` is shown
pub shows-plain : (text behind : List ℕ) → IsPlain text → code_from 6 (text ++ behind) ≡ text ++ code_from 6 behind
shows-plain [] behind plain = refl
shows-plain (byte ∷ text) behind plain = rw (plain-open byte plain.0) (ap (λ rest. byte ∷ rest) (shows-plain text behind plain.1))

pub head-passes : Passes page_head
unfolding page_head
head-passes = record { is = λ behind. refl }

pub list-passes : Passes list_head
unfolding list_head
list-passes = record { is = λ behind. refl }

pub foot-shows : code_from 0 page_foot ≡ []
unfolding page_foot
foot-shows = refl
