use Rattle.std.proofs.Common.{◌∙◌, ap, sym}
use Rattle.call_parts.proofs.RetoldLaws.{unprinted_traced}
use Rattle.port_run.proofs.syncing.traced_talk.Goals as goal

pub returns-clause-unprinted : goal.returns-clause-unprinted
returns-clause-unprinted g c =
    unprinted_traced c.talk-synced.result.status c.trace_log-status.result c.talk-synced.ensures.unsaid c.trace_log-status.ensures.traces.stands.status_is

pub returns-clause-talked : goal.returns-clause-talked
returns-clause-talked g c = record {
  said = c.talk-synced.result.status;
  talked = c.talk-synced.ensures.talked;
  traces = rw (sym c.deref.ensures.value) c.trace_log-status.ensures.traces;
  silent = λ none. ap (λ sink. g.T.Sink.taken sink) (c.trace_log-status.ensures.silent (c.deref.ensures.value ∙ none));
}
