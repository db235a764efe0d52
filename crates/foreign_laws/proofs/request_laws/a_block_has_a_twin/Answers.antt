use Rattle.foreign_laws.proofs.AskTwins.{twin_app, twin_sort}
use Rattle.foreign_laws.proofs.request_laws.a_block_has_a_twin.Goals as goal

pub returns : goal.returns
returns c = record { app = twin_app; sort = twin_sort }
