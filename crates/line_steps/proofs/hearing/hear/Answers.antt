use Rattle.line_steps.proofs.Names.{◌≡◌, ◌++◌, length, take, sym, ap, subst, ◌∙◌, arith, take_all, scan, Hears}
use Rattle.line_steps.proofs.BytesLaws.{scan_again}
use Rattle.line_steps.proofs.HearLaws.{heard_packet, heard_none}
use Rattle.line_steps.proofs.hearing.hear.Goals.{in-Some, in-None}
use Rattle.line_steps.proofs.hearing.hear.Goals as goal

-- src/hearing.rt:24:1
pub returns-clause-hears : goal.returns-clause-hears
returns-clause-hears c id fragment is text =
    let bytes = c.args.bytes.now in
    let all : take c.feed.result bytes ≡ bytes =
    take_all c.feed.result bytes (omega (arith, c.feed.ensures.count, c.requires.short, ap length c.requires.gap)) in
    let held : c.feed.new.self.held ≡ bytes = c.feed.ensures.held ∙ ap (λ s. s ++ take c.feed.result bytes) c.requires.gap ∙ all in
    let found = sym (scan_again text) ∙ ap (λ s. scan s) (sym (held ∙ is)) ∙ c.next.follows.holds-at-none.found in
    elim c.match-next.branch [
      | in-Some w ↦ (let it = heard_packet _ text found w.in-Some.is in
          rw (w.receiver-is, w.heard-is) (subst (λ n. Hears c.args.receiver.now n fragment w.take_packet-heard.result w.take_packet-heard.new.receiver) it.id_is
          (w.take_packet-heard.ensures fragment it.bears)))
      | in-None w ↦ absurd (heard_none found w.in-None.is (rw w.in-None.is at c.next.follows.holds-at-none.all))
    ]
