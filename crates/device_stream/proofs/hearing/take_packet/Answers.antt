use Rattle.std.proofs.Common.{◌++◌, ap, subst, sym, ◌∙◌}
use Rattle.std.specs.Option.{option_map}
use Rattle.std.proofs.lemmas.Result.{err_from_is_err_and}
use Rattle.hs_folders.specs.Appends.{AppendsPrefix}
use Rattle.slp_frames.specs.PacketValues.{lent_value}
use Rattle.device_stream.proofs.CourseLaws.{stops-over, stops-unserved, stops-unwritten}
use Rattle.device_stream.proofs.hearing.take_packet.Goals as goal

pub returns-in-Err-clause-stops : goal.returns-in-Err-clause-stops
returns-in-Err-clause-stops g c =
    rw c.serving_end.ensures
    (stops-unserved c.in-Err.fault (g.T.Sink.taken c.args.sink.now) (lent_value c.args.packet) c.requires.going c.in-Err.ensures.refused)

pub returns-in_err-write-clause-stops : goal.returns-in_err-write-clause-stops
returns-in_err-write-clause-stops g c =
    let p = err_from_is_err_and c.from_residual.result c.from_residual.ensures.1 in
    let wrote = c.in_err-write.ensures in
    rw (p.1, p.2)
    (stops-unwritten _ wrote.kind c.in_default.ensures.takes
    (subst (λ s. AppendsPrefix (g.T.Sink.taken c.args.sink.now) (g.T.Sink.taken c.write.new.sink) s) c.deref.ensures.0 wrote.prefix))

pub returns-in-Some-clause-stops : goal.returns-in-Some-clause-stops
returns-in-Some-clause-stops g c =
    rw c.talking_end.ensures
    (stops-over c.in-Some.over c.in_default.ensures.takes (c.in_ok-write.ensures.written
    ∙ ap (λ s. option_map (λ taken. taken ++ s) (g.T.Sink.taken c.args.sink.now)) c.deref.ensures.0) (sym c.over.ensures ∙ c.in-Some.is))
