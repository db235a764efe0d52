-- A name, the bytes behind it, and text: where one of them is missing, no file stands there.
use Rattle.std.proofs.Common.{◌≡◌, ◌∙◌, Ok, Err, Result, ap, arith, refl, subst, sym, ◌++◌}
use Rattle.std.specs.Prelude.{MatchResult, None, Some}
use Rattle.std.specs.Result.{result_ok}
use Rattle.std.specs.Str.{IsUtf8}
use Rattle.std.proofs.lemmas.Str.{IsUtf8-from_is_utf8, is_utf8-from_IsUtf8}
use Rattle.device_state.specs.Lists.{NamedFile}
use Rattle.device_state.specs.Strings.{string_text}
use Rattle.device_state.proofs.FileLaws.{file_text-append, names_of}
use Rattle.device_state.proofs.files.next_file.Goals as goal

-- what an answer that was none says, and one that was some
fact_of-none : {T E : Type 0} (answer : Result T E) (P : T → Type 0) (Q : Type 0) (R : E → Type 0) → MatchResult answer P (λ e. Q × R e)
    → None ≡ result_ok answer → Q
fact_of-none (Ok x) P Q R cases none = absurd cc
fact_of-none (Err e) P Q R cases none = cases.0

fact_of-some : {T E : Type 0} (answer : Result T E) (P : T → Type 0) (Q : E → Type 0) (x : T) → MatchResult answer P Q → Some x ≡ result_ok answer → P x
fact_of-some (Ok y) P Q x cases some = let same : y ≡ x = cc in subst P same cases
fact_of-some (Err e) P Q x cases some = absurd cc

pub returns-in_err-name-clause-none : goal.returns-in_err-name-clause-none
returns-in_err-name-clause-none c = λ _ file rest text same.
    c.in_err-name.ensures.none refl file.name (string_text file.bytes ++ rest) (same ∙ file_text-append file rest)

pub returns-in_err-held-clause-none : goal.returns-in_err-held-clause-none
returns-in_err-held-clause-none c = λ _ file rest text same.
    let name = c.in_ok-name.name in
    let parts = names_of file name.string.now rest name.rest.now (omega arith) same c.in_ok-name.ensures.found in
    c.in_err-held.ensures.none refl file.bytes rest parts.1

pub returns-in_err-text-clause-none : goal.returns-in_err-text-clause-none
returns-in_err-text-clause-none c = λ _ file rest text same.
    let name = c.in_ok-name.name in
    let parts = names_of file name.string.now rest name.rest.now (omega arith) same c.in_ok-name.ensures.found in
    fact_of-none c.from_utf8.result _ _ _ c.from_utf8.ensures.cases (sym c.in_err-text.was ∙ c.ok.ensures.value)
    (subst IsUtf8 (sym parts.0) (IsUtf8-from_is_utf8 file.name text))

pub returns-clause-found : goal.returns-clause-found
returns-clause-found c =
    let name = c.in_ok-name.name in
    let held = c.in_ok-held.held in
    let file : NamedFile = record { name = name.string.now; bytes = held.string.now } in
    let text = fact_of-some c.from_utf8.result _ _ c.in_ok-text.text c.from_utf8.ensures.cases (sym c.in_ok-text.was ∙ c.ok.ensures.value) in
    rw text.0 (c.in_ok-name.ensures.found ∙ ap (λ rest. string_text name.string.now ++ rest) c.in_ok-held.ensures.found
    ∙ sym (file_text-append file held.rest.now))

pub returns-clause-utf8 : goal.returns-clause-utf8
returns-clause-utf8 c =
    let text = fact_of-some c.from_utf8.result _ _ c.in_ok-text.text c.from_utf8.ensures.cases (sym c.in_ok-text.was ∙ c.ok.ensures.value) in
    rw text.0 (is_utf8-from_IsUtf8 c.in_ok-name.name.string.now text.1)
