use Rattle.std.proofs.Common.{Err, ap, arith, ◌∙◌, ℕ, List}
use Rattle.hs_folders.proofs.CauseLaws.{ok_is_no_fault}
use Rattle.std.proofs.lemmas.Bool.{true_from_ne_false}
use Rattle.std.proofs.lemmas.Result.{err_from_is_err_and}
use Rattle.device_stream.specs.Parts.{are_talk_parts}
use Rattle.device_state.proofs.StateLaws.{SaysNone-of_list, SaysNone-of_parts, front_text}
use Rattle.device_state.proofs.calls.files_in.Goals as goal

pub returns-in_err-_folder-clause-refused : goal.returns-in_err-_folder-clause-refused
returns-in_err-_folder-clause-refused c =
    let p = err_from_is_err_and c.from_residual-in_err-_folder.result c.from_residual-in_err-_folder.ensures.1 in
    let front = c.in_ok-parts.field-0 in
    rw (p.1, p.2) (SaysNone-of_list c.args.state.now front.parts front.held.now front.files.now (omega arith) c.in_ok-parts.ensures.eight c.in_ok-parts.ensures.is
    c.in_err-_folder.field-0.0 (λ same. c.in_err-_folder.ensures.form (ap Err same)))

pub returns-in_err-_end-clause-refused : goal.returns-in_err-_end-clause-refused
returns-in_err-_end-clause-refused c =
    let p = err_from_is_err_and c.from_residual-in_err-_end.result c.from_residual-in_err-_end.ensures.1 in
    let front = c.in_ok-parts.field-0 in
    rw (p.1, p.2) (SaysNone-of_parts c.args.state.now front.parts front.held.now front.files.now (omega arith) c.in_ok-parts.ensures.eight
    c.in_ok-parts.ensures.is c.in_err-_end.field-0.0 (λ same. c.in_err-_end.ensures.form.0 (ap Err same)))

pub returns-clause-files : goal.returns-clause-files
returns-clause-files c =
    let front = c.in_ok-parts.field-0 in
    let list = c.in_ok-_folder.ensures.ok in
    let whole = c.in_ok-parts.ensures.is ∙ ap (λ (r : List ℕ). front_text front.parts front.held.now r) list.text in
    record {
      parts = front.parts;
      held = front.held.now;
      files = list.files;
      says = record {
        are_parts = true_from_ne_false (are_talk_parts front.parts) (λ none. ok_is_no_fault _ _ (c.in_ok-_end.ensures.form.1 none));
        eight = c.in_ok-parts.ensures.eight;
        named = c.in_ok-parts.ensures.named;
        are_files = list.form;
        is = whole;
      };
      list_is = list.text;
    }
