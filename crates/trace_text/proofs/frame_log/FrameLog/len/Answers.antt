use Rattle.std.proofs.Common.{◌∙◌, ap, sym, length, arith}
use Rattle.trace_text.proofs.LogLaws.{length-frames_in}
use Rattle.trace_text.proofs.frame_log.FrameLog.len.Goals as goal

pub returns-clause-count : goal.returns-clause-count
returns-clause-count c =
    let entries = c.self.inside.entries in
    c.len.ensures ∙ (entries.ok.0 ∙ (sym (length-frames_in c.self.inside.bytes.items 1 entries.items) ∙ ap (λ v. length v.items) c.self.view_is))

pub returns-clause-few : goal.returns-clause-few
returns-clause-few c = (let entries = c.self.inside.entries in omega (arith, c.len.ensures, entries.ok, entries.small))
