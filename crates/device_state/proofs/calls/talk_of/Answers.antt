use Rattle.std.proofs.Common.{Err, ap, arith}
use Rattle.hs_folders.proofs.CauseLaws.{ok_is_no_fault}
use Rattle.std.proofs.lemmas.Bool.{true_from_ne_false}
use Rattle.std.proofs.lemmas.Result.{err_from_is_err_and}
use Rattle.device_stream.specs.Parts.{are_talk_parts}
use Rattle.device_state.proofs.StateLaws.{IsDevice-handles, IsState-opened, refused-of_parts, refused-opened}
use Rattle.device_state.proofs.calls.talk_of.Goals as goal

pub returns-in_err-store-clause-refused : goal.returns-in_err-store-clause-refused
returns-in_err-store-clause-refused c =
    let p = err_from_is_err_and c.from_residual-in_err-store.result c.from_residual-in_err-store.ensures.1 in
    let front = c.in_ok-parts.field-0 in
    rw (p.1, p.2) (refused-opened c.args.state.now front.parts front.held.now front.files.now (omega arith) c.in_ok-parts.ensures.eight
    c.in_ok-parts.ensures.is c.in_err-store.field-0.0 c.in_err-store.ensures.refused)

pub returns-in_err-talk-clause-refused : goal.returns-in_err-talk-clause-refused
returns-in_err-talk-clause-refused c =
    let p = err_from_is_err_and c.from_residual-in_err-talk.result c.from_residual-in_err-talk.ensures.1 in
    let front = c.in_ok-parts.field-0 in
    rw (p.1, p.2) (refused-of_parts c.args.state.now front.parts front.held.now front.files.now (omega arith) c.in_ok-parts.ensures.eight
    c.in_ok-parts.ensures.is c.in_err-talk.field-0.0 (λ same. c.in_err-talk.ensures.form.0 (ap Err same)))

pub returns-clause-is : goal.returns-clause-is
returns-clause-is c =
    let front = c.in_ok-parts.field-0 in
    rw c.in_ok-talk.ensures.made (IsState-opened c.args.state.now front.parts front.held.now front.files.now (omega arith) c.in_ok-parts.ensures.eight
    c.in_ok-parts.ensures.is (true_from_ne_false (are_talk_parts front.parts) (λ none. ok_is_no_fault _ _ (c.in_ok-talk.ensures.form.1 none))) c.in_ok-parts.ensures.named c.in_ok-store.ensures.opened)

pub returns-clause-device : goal.returns-clause-device
returns-clause-device c =
    rw c.in_ok-talk.ensures.made (IsDevice-handles c.in_ok-store.store.databases c.in_ok-store.store.user c.in_ok-parts.field-0.parts.handles
    c.in_ok-store.ensures.device c.in_ok-parts.ensures.eight)
