-- What was made is printed, or the line of a refusal.
use Rattle.std.proofs.Common.{◌∙◌, ap, refl, subst, sym, inl, inr, Err}
use Rattle.hotsync_looks.specs.Likings.{IsLikedIn}
use Rattle.hotsync_looks.proofs.LikingLaws.{printed_ended, printed_not_failed, refused_failed, refused_not_done, refused_status}
use Rattle.cmd_status.proofs.PrintedLaws.{printed_weaken}
use Rattle.hotsync_looks.proofs.liked.import_file.Goals as goal

pub returns-in-Ok : goal.returns-in-Ok
returns-in-Ok g c =
    let source = g.S.Source.left c.args.source.now in
    let like = g.L.Source.left c.args.like.now in
    let found = c.in-Ok.ensures in
    record {
      ended = printed_ended c.args.words.like.now source like c.print_text.result c.print_text.ensures.status;
      failed = printed_not_failed c.print_text.result c.print_text.ensures.status;
      source_path = found.source_path;
      like_path = found.like_path;
      source_opened = λ done. found.source_opened;
      like_opened = λ done. found.like_opened;
      printed = inl (record {
        ended = c.print_text.ensures.status;
        printed = printed_weaken (IsLikedIn source like) (λ text is. subst (IsLikedIn source like) (sym (is ∙ c.deref.ensures.value)) found.file)
            c.print_text.ensures.printed;
        apart = refl;
      });
    }

pub returns-in-Err : goal.returns-in-Err
returns-in-Err g c =
    let source = g.S.Source.left c.args.source.now in
    let like = g.L.Source.left c.args.like.now in
    let found = c.in-Err.ensures in
    let refused = refused_status c.args.words.like.now source like c.in-Err.refusal c.print_refusal.result c.print_refusal.ensures.status found.refused in
    record {
      ended = inl refused;
      failed = refused_failed c.in-Err.refusal c.print_refusal.result c.print_refusal.ensures.status (λ read. found.failed (ap Err read));
      source_path = found.source_path;
      like_path = found.like_path;
      source_opened = λ done. absurd (refused_not_done c.args.words.like.now source like c.print_refusal.result refused done);
      like_opened = λ done. absurd (refused_not_done c.args.words.like.now source like c.print_refusal.result refused done);
      printed = inr (record { printed = c.print_refusal.ensures.printed; apart = refl });
    }
