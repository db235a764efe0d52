use Rattle.line_steps.proofs.Names.{ap, subst, ◌∙◌, packet_at, fragment_in, Hears, lent_frame, tally_after}
use Rattle.line_steps.proofs.CountingLaws.{landed_here}
use Rattle.line_steps.proofs.taking.hear_frame.Goals as goal

-- src/taking.rt:36:1
pub returns-clause-hears : goal.returns-clause-hears
returns-clause-hears c =
    let frame = lent_frame c.args.frame in
    let id = (packet_at frame.bytes).id in
    let fragment = fragment_in frame in
    subst (λ r. Hears r id fragment c.hear.result c.hear.new.receiver) (ap (λ h. h.receiver) c.hear_harm.ensures.read)
    (c.hear.ensures.hears id fragment c.requires.bears.is c.requires.bears.fragment)

pub returns-clause-tally : goal.returns-clause-tally
returns-clause-tally c here =
    let frame = lent_frame c.args.frame in
    c.hear.ensures.tally ∙ (ap (λ t. tally_after t frame.bytes) c.hear_harm.ensures.tally
    ∙ landed_here {frame = frame} c.args.half.now.reader.tally here c.requires.bears c.requires.goes)
