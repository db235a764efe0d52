-- A word that is the text of a number is parsed as that number.
use Rattle.std.proofs.Common.{◌≡◌, sym, ap, ◌∙◌, arith, rules}
use Rattle.std.specs.Prelude.{bytes_eq}
use Rattle.std.specs.Fmt.{decimal}
use Rattle.std.proofs.lemmas.Fmt.{IsAscii-decimal, parse-decimal}
use Rattle.std.proofs.lemmas.Str.{IsUtf8-from_ascii}
use Rattle.line_script.proofs.WordLaws.{bytes_is, bytes_same, number_in-none, number_in-only, ok_is}
use Rattle.line_script.proofs.word.number_in.Goals as goal

pub returns-in-Err : goal.returns-in-Err
returns-in-Err c =
    sym (number_in-none c.args.word.now
    (λ number small is. absurd (c.in-Err.ensures.cases.0 (rw is (IsUtf8-from_ascii (decimal number) (IsAscii-decimal number (omega arith)))))))

pub returns-in-Err-parse : goal.returns-in-Err-parse
returns-in-Err-parse c =
    sym (number_in-none c.args.word.now (λ number small is. absurd (cc
    (c.in-Err-parse.is, parse-decimal 32 number c.in-Ok.text.now c.parse.result small (omega arith) (c.in-Ok.ensures.cases.0 ∙ is) c.parse.ensures.value.0))))

pub returns-then-eq : goal.returns-then-eq
returns-then-eq c = search (rules, bytes_is, number_in-only)

pub returns-else-eq : goal.returns-else-eq
returns-else-eq c =
    sym (number_in-none c.args.word.now (λ number small is.
    let same : c.in-Ok-parse.number ≡ number = ok_is c.in-Ok-parse.number number (sym c.in-Ok-parse.is
    ∙ parse-decimal 32 number c.in-Ok.text.now c.parse.result small (omega arith) (c.in-Ok.ensures.cases.0 ∙ is) c.parse.ensures.value.0) in
    let text = c.format.ensures.text ∙ (ap decimal same ∙ (sym is ∙ sym c.in-Ok.ensures.cases.0)) in
    absurd (cc (c.if-eq.false, c.eq.ensures ∙ ap (λ t. bytes_eq t c.in-Ok.text.now) text ∙ bytes_same c.in-Ok.text.now))))
