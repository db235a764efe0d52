use Rattle.std.proofs.Common.{◌≡◌, [], ◌∙◌, ◌++◌, ap, sym, string_bytes}
use Rattle.std.proofs.lemmas.List.{append_assoc, append-nil, nil_from_length}
use Rattle.file_text.specs.Escapes.{escaped, escaped_byte}
use Rattle.file_text.proofs.EscapeLaws.{escaped-more, escaped-nil}
use Rattle.file_text.proofs.escaped.push_escaped.Goals as goal

pub loop-byte-preserved : goal.loop-byte-preserved
loop-byte-preserved c =
    let text = string_bytes c.loop-byte.text in
    let byte = c.in-Some.byte.now in
    let more = c.in-Some.more.now in
    ap (λ s. s ++ escaped more) c.in_ok-push_byte.ensures
    ∙ append_assoc text (escaped_byte byte) (escaped more)
    ∙ ap (λ s. text ++ s) (sym (escaped-more byte more))
    ∙ ap (λ s. text ++ escaped s) (sym c.in-Some.ensures.cases.0)
    ∙ c.loop-byte.invariant

pub returns : goal.returns
returns c =
    let text = string_bytes c.loop-byte.text in
    let none : c.loop-byte.rest.now ≡ [] = nil_from_length c.loop-byte.rest.now c.in_default.ensures.cases in
    sym (append-nil text)
    ∙ ap (λ s. text ++ s) (sym escaped-nil)
    ∙ ap (λ s. text ++ escaped s) (sym none)
    ∙ c.loop-byte.invariant
