use Rattle.std.proofs.Common.{ap}
use Rattle.call_parts.proofs.RetoldLaws.{unprinted_traced}
use Rattle.call_parts.proofs.answer.Answer.traced.Goals as goal

pub returns-clause-unprinted : goal.returns-clause-unprinted
returns-clause-unprinted g c =
    unprinted_traced c.args.self.status c.write_frames-status.result c.requires
    c.write_frames-status.ensures.traces.stands.status_is

pub returns-clause-traced : goal.returns-clause-traced
returns-clause-traced g c =
    let traces = c.write_frames-status.ensures.traces in
    record {
      traced = traces.traced_is;
      silent = λ none. ap (λ sink. g.T.Sink.taken sink) (c.write_frames-status.ensures.silent none);
      failed = traces.stands.failed;
      paths = traces.stands.paths;
    }
