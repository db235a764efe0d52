use Rattle.handheld_files.proofs.BoundLaws.{opened-device}
use Rattle.device_state.proofs.state.open_files.Goals as goal

pub returns-in-Ok-clause-device : goal.returns-in-Ok-clause-device
returns-in-Ok-clause-device c = opened-device c.in-Ok.store.databases c.in-Ok.store.user c.in-Ok.ensures.kept
