use Rattle.foreign_laws.proofs.AskTwins.{twin_cleans, twin_puts, twin_removes, twin_resets, twin_writes_app, twin_writes_sort}
use Rattle.foreign_laws.proofs.request_laws.a_write_has_a_twin.Goals as goal

pub returns : goal.returns
returns c = record {
  puts = twin_puts;
  removes = twin_removes;
  cleans = twin_cleans;
  resets = twin_resets;
  app = twin_writes_app;
  sort = twin_writes_sort;
}
