use Rattle.hotsync_looks.proofs.LookLaws.{verdict_refuses}
use Rattle.hotsync_looks.proofs.traced.verdict_text.Goals as goal

pub returns-clause-refused : goal.returns-clause-refused
returns-clause-refused c =
    verdict_refuses _ _ c.in_ok-requests.field-0 c.in-Not.rule c.in_ok-frames.ensures.read (rw c.deref.ensures.value at c.in_ok-requests.ensures) c.in-Not.is
