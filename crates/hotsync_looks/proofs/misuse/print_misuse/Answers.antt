use Rattle.hotsync_looks.proofs.MisuseLaws.{tells_misuse, tells_printed, tells_refusal}
use Rattle.hotsync_looks.proofs.misuse.print_misuse.Goals as goal

pub print_refusal-requires : goal.print_refusal-requires
print_refusal-requires g c = tells_refusal _ _ _ c.usage_status-refusal.ensures

pub returns-clause-status : goal.returns-clause-status
returns-clause-status g c = tells_misuse _ _ _ (tells_printed _ _ c.usage_status-refusal.ensures c.print_refusal.ensures.status)

pub returns-clause-fault : goal.returns-clause-fault
returns-clause-fault g c = tells_printed _ _ c.usage_status-refusal.ensures c.print_refusal.ensures.status
