-- Blocks and resources that are written.
use Rattle.install_backup.proofs.WrittenLaws.{app_written, resource_put, sort_written}
use Rattle.install_backup.proofs.laws.what_is_written_is_there.Goals as goal

pub returns : goal.returns
returns c = record {
  app = λ device handle base bytes opened. app_written device handle base bytes opened.stands opened.writable;
  sort = λ device handle base bytes opened. sort_written device handle base bytes opened.stands opened.writable;
  resource = λ device handle base resource has. resource_put device handle base resource has.stands has.takes.writable has.takes.resources
      has.takes.room;
}
