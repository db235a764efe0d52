use Rattle.run_promises.proofs.PartCalls.{parted-next}
use Rattle.run_promises.proofs.promises.what_took_no_part_is_read_whole_next.Goals as goal

pub returns : goal.returns
returns c = parted-next
