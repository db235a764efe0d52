use Rattle.std.proofs.Common.{◌∙◌, ap, inl, inr, refl, sym, subst, Err}
use Rattle.hotsync_looks.specs.Looks.{IsTextIn}
use Rattle.hotsync_looks.proofs.LookLaws.{look_done, look_refused}
use Rattle.cmd_status.proofs.PrintedLaws.{printed_weaken}
use Rattle.hotsync_looks.proofs.look.look_at.Goals as goal

pub returns-in-Ok : goal.returns-in-Ok
returns-in-Ok g c =
    let left = g.S.Source.left c.args.source.now in
    let found = c.in-Ok.ensures in
    look_done c.args.words.file.now _ _ c.print_text.ensures.status found.text found.path found.opened
    (inl (record {
      ended = c.print_text.ensures.status;
      printed = printed_weaken (IsTextIn c.args.words.look left) (λ text is. subst (IsTextIn c.args.words.look left) (sym (is ∙ c.deref.ensures.value)) found.text)
          c.print_text.ensures.printed;
      apart = refl;
    }))

pub returns-in-Err : goal.returns-in-Err
returns-in-Err g c =
    let found = c.in-Err.ensures in
    look_refused c.args.words.file.now _ _ c.print_refusal.ensures.status found.refusal found.shown (λ e. found.failed (ap Err e)) found.path
    (inr (record {
      printed = c.print_refusal.ensures.printed;
      apart = refl;
    }))
