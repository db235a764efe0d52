use Rattle.std.proofs.Common.{◌≡◌, [], ◌∙◌, ◌++◌, ap, sym, string_bytes}
use Rattle.std.proofs.lemmas.List.{append_assoc, append-nil, nil_from_length}
use Rattle.cmd_status.specs.PrintedNames.{printed_byte, printed_name}
use Rattle.cmd_status.proofs.PrintedNameLaws.{printed_name-more, printed_name-nil}
use Rattle.cmd_status.proofs.printed_name.push_name.Goals as goal

pub loop-byte-preserved : goal.loop-byte-preserved
loop-byte-preserved c =
    let line = string_bytes c.loop-byte.line in
    let byte = c.in-Some.byte.now in
    let more = c.in-Some.more.now in
    ap (λ s. s ++ printed_name more) c.in_ok-push_byte.ensures
    ∙ append_assoc line (printed_byte byte more) (printed_name more)
    ∙ ap (λ s. line ++ s) (sym (printed_name-more byte more))
    ∙ ap (λ s. line ++ printed_name s) (sym c.in-Some.ensures.cases.0)
    ∙ c.loop-byte.invariant

pub returns : goal.returns
returns c =
    let line = string_bytes c.loop-byte.line in
    let none : c.loop-byte.rest.now ≡ [] = nil_from_length c.loop-byte.rest.now c.in_default.ensures.cases in
    sym (append-nil line)
    ∙ ap (λ s. line ++ s) (sym printed_name-nil)
    ∙ ap (λ s. line ++ printed_name s) (sym none)
    ∙ c.loop-byte.invariant
    ∙ ap (λ s. string_bytes c.args.line.now ++ printed_name s) c.as_bytes-rest.ensures.value
