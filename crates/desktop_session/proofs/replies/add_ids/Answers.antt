-- All ids are appended.
use Rattle.std.proofs.Common.{◌∙◌, ap, inl, sym, ℕ, List, ◌++◌, arith}
use Rattle.std.specs.Prelude.{Ok}
use Rattle.dlp_replies.specs.ReplyReading.{reply_at}
use Rattle.desktop_session.specs.Answers.{mapped}
use Rattle.desktop_session.proofs.GrowLaws.{grows, whole_same}
use Rattle.desktop_session.proofs.ListedLaws.{ids_said}
use Rattle.desktop_session.proofs.replies.add_ids.Goals as goal

pub loop-place-preserved : goal.loop-place-preserved
loop-place-preserved c =
    c.in_ok-push.ensures.items
    ∙ grows (λ (id : ℕ). id) c.in_ok-ids.ids c.args.all.now.items c.loop-place.place
    (sym c.get.ensures ∙ c.unwrap-id.ensures) c.loop-place.invariant

pub returns-clause-ids : goal.returns-clause-ids
returns-clause-ids c =
    cc (
      whole_same c.in_ok-ids.ids c.args.all.now.items c.loop-place.place (omega arith) c.loop-place.invariant,
      ids_said (reply_at 0x31 c.args.bytes.now)
          c.in_ok-ids.ensures,
    )

pub returns-clause-behind : goal.returns-clause-behind
returns-clause-behind c =
    inl (ap (λ (ids : List ℕ). Ok ids) (whole_same c.in_ok-ids.ids c.args.all.now.items c.loop-place.place (omega arith) c.loop-place.invariant)
    ∙ sym (ap (mapped (λ (more : List ℕ). c.args.all.now.items ++ more)) c.in_ok-ids.ensures))
