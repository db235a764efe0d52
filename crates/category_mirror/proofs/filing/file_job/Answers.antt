-- A database is opened, unless it is skipped.
use Rattle.std.proofs.Common.{refl}
use Rattle.category_mirror.specs.FilingActs.{SaysFiled, files_under}
use Rattle.session_parts.proofs.SpanLaws.{span_none}
use Rattle.category_mirror.proofs.filing.file_job.Goals as goal

pub returns-in-Some : goal.returns-in-Some
unfolding files_under SaysFiled
returns-in-Some g c = record { spans = rw c.in-Some.is (span_none g.met.L.Link.since_itself refl) }

pub returns-in-None : goal.returns-in-None
unfolding files_under SaysFiled
returns-in-None g c = record { spans = rw c.in-None.is (rw c.rows_app.ensures at c.file_one.ensures.spans) }
