use Rattle.std.proofs.Common.{◌+◌, ◌≤◌, length, sym, ap, subst, arith}
use Rattle.std.proofs.lemmas.List.{length-append}
use Rattle.padp_link.specs.Receivers.{ReceiverValue}
use Rattle.padp_link.specs.Senders.{SenderValue}
use Rattle.padp_end.specs.Holding.{AnnouncesShort}
use Rattle.padp_end.proofs.PartLaws.{AnnouncesShort-taken}
use Rattle.padp_end.proofs.end.End.of_parts.Goals as goal

pub invariant_of-result : goal.invariant_of-result
invariant_of-result c =
    let none = ap length c.in_ok-message.ensures in
    let fit : length c.in_ok-message.message + length c.deref.result.now ≤ 65535 = omega arith in
    let pushed = c.push-fits.ensures.pushed (c.push-fits.ensures.fits.1 fit) in
    record {
      last_is = sym (ap (λ (r : ReceiverValue). r.last) c.in_ok-receiver.ensures.made);
      length_is = omega (
        arith,
        ap length pushed,
        length-append c.in_ok-message.message c.deref.result.now,
        ap (λ (s : SenderValue). s.length) c.in-Some.ensures.made,
      );
      short = subst (λ (r : ReceiverValue). AnnouncesShort r.pieces) c.receiver.view_is
          (AnnouncesShort-taken c.receiver.inside.length c.receiver.inside.taken c.receiver.inside.message.items (omega arith));
    }
