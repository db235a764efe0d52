use Rattle.std.proofs.Common.{◌∙◌, ap, sym}
use Rattle.run_words.specs.Views.{ported_view}
use Rattle.call_parts.proofs.RetoldLaws.{unprinted_traced}
use Rattle.port_files.proofs.backup.traced_backup.Goals as goal

pub returns-clause-unprinted : goal.returns-clause-unprinted
returns-clause-unprinted g c =
    unprinted_traced c.backup_talk-synced.result.status c.trace_log-status.result c.backup_talk-synced.ensures.unsaid
    c.trace_log-status.ensures.traces.stands.status_is

pub returns-clause-talked : goal.returns-clause-talked
returns-clause-talked g c = record {
  said = c.backup_talk-synced.result.status;
  talked = c.backup_talk-synced.ensures.talked (ported_view c.args.words.now);
  traces = rw (sym c.deref.ensures.value) c.trace_log-status.ensures.traces;
  silent = λ none. ap (λ sink. g.T.Sink.taken sink) (c.trace_log-status.ensures.silent (c.deref.ensures.value ∙ none));
}
