-- The script of one line has the fate whose words these are.
use Rattle.std.proofs.Common.{◌≡◌, ◌∙◌, ◌∷◌, ◌++◌, [], Ok, Err, ap, subst, rules}
use Rattle.std.specs.Prelude.{codes}
use Rattle.std.proofs.lemmas.Slice.Eq.{bytes_eq-Decides}
use Rattle.line_script.specs.Scripts.{IsReading}
use Rattle.line_script.specs.declared.fault.ScriptFault.TheVariants.{TooLong, BadLine}
use Rattle.trace_check.proofs.FateLaws.{script_line, script-fate, script-none}
use Rattle.trace_check.proofs.fate.fate_in.Goals as goal

pub returns-in-Ok-clause-some : goal.returns-in-Ok-clause-some
returns-in-Ok-clause-some c =
    let text : c.deref.result.now ≡ script_line c.args.words.now =
    c.deref.ensures.value ∙ (c.in_ok-extend_from_slice-2.ensures.items ∙ ap (λ xs. xs ++ c.args.words.now)
    (c.in_ok-extend_from_slice.ensures.items ∙ ap (λ xs. xs ++ 49 ∷ 32 ∷ []) c.new-line.ensures.items)) in
    script-fate c.args.words.now c.in-Ok.script _ c.requires (subst (λ t. IsReading t (Ok c.in-Ok.script)) text c.in-Ok.ensures.read)
    (c.in_ok-copy_of-in-Ok.ensures ∙ c.fate.ensures)

pub returns-in-Err-TooLong-clause-none : goal.returns-in-Err-TooLong-clause-none
returns-in-Err-TooLong-clause-none c =
    let text : c.deref.result.now ≡ script_line c.args.words.now =
    c.deref.ensures.value ∙ (c.in_ok-extend_from_slice-2.ensures.items ∙ ap (λ xs. xs ++ c.args.words.now)
    (c.in_ok-extend_from_slice.ensures.items ∙ ap (λ xs. xs ++ 49 ∷ 32 ∷ []) c.new-line.ensures.items)) in
    let other : c.args.words.now ≡ codes "ok" → ⊥ = λ e. search (rules, bytes_eq-Decides) in
    script-none c.args.words.now TooLong c.requires other (λ e. absurd cc)
    (subst (λ t. IsReading t (Err TooLong)) text (subst (λ f. IsReading c.deref.result.now (Err f)) c.in-Err-TooLong.field-0-is c.in-Err-TooLong.ensures.refused))

pub returns-clause-none : goal.returns-clause-none
returns-clause-none c =
    let text : c.deref.result.now ≡ script_line c.args.words.now =
    c.deref.ensures.value ∙ (c.in_ok-extend_from_slice-2.ensures.items ∙ ap (λ xs. xs ++ c.args.words.now)
    (c.in_ok-extend_from_slice.ensures.items ∙ ap (λ xs. xs ++ 49 ∷ 32 ∷ []) c.new-line.ensures.items)) in
    let other : c.args.words.now ≡ codes "ok" → ⊥ = λ e. search (rules, bytes_eq-Decides) in
    script-none c.args.words.now (BadLine c.in-Err-BadLine.field-0-0) c.requires other (λ e. absurd cc)
    (subst (λ t. IsReading t (Err (BadLine c.in-Err-BadLine.field-0-0))) text (subst (λ f. IsReading c.deref.result.now (Err f)) c.in-Err-BadLine.field-0-is c.in-Err-BadLine.ensures.refused))
