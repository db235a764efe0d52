use Rattle.foreign_laws.proofs.RecordTwins.{twin_at, twin_next, twin_of}
use Rattle.foreign_laws.proofs.request_laws.a_record_has_a_twin.Goals as goal

pub returns : goal.returns
returns c = record { by_index = twin_at; by_id = twin_of; changed = twin_next }
