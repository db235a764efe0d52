use Rattle.line_steps.proofs.Names.{ap, sym, ◌∙◌, arith, inl, ltb-true, ltb-false, fate_with}
use Rattle.line_steps.proofs.FrameLaws.{length-past}
use Rattle.line_steps.proofs.StartingLaws.{comes_at, delivers_late, delivers_now, held_back, kind_late}
use Rattle.line_steps.proofs.ticking.delivers.Goals as goal

-- src/ticking.rt:24:9
pub returns-then-half-len-clause-blocked : goal.returns-then-half-len-clause-blocked
returns-then-half-len-clause-blocked c none =
    inl (omega (arith, c.if-half-len.true, c.len.ensures.count, length-past c.args.wire.now.frames.items c.requires.go))

-- src/ticking.rt:16:1
pub returns-in-Late-clause-there : goal.returns-in-Late-clause-there
returns-in-Late-clause-there c below =
    let comes = comes_at c.requires.head (λ e. omega (arith, c.if-half-len.false, c.len.ensures.count, e)) in
    let it = c.get.ensures in
    delivers_late comes it.here (ltb-true _ _ below)

-- src/ticking.rt:16:1
pub returns-in-Late-clause-blocked : goal.returns-in-Late-clause-blocked
returns-in-Late-clause-blocked c above =
    let comes = comes_at c.requires.head (λ e. omega (arith, c.if-half-len.false, c.len.ensures.count, e)) in
    let it = c.get.ensures in
    held_back c.args.wire.now c.requires.go comes it.here
    (sym (ap (λ v. v.fate) it.is) ∙ ap (λ k. fate_with k c.get.result.fate.bytes.now) c.in-Late.is) (ltb-false _ _ above)

-- src/ticking.rt:16:1
pub returns-in_default : goal.returns-in_default
returns-in_default c =
    let comes = comes_at c.requires.head (λ e. omega (arith, c.if-half-len.false, c.len.ensures.count, e)) in
    let it = c.get.ensures in
    record {
      there = λ is. delivers_now comes it.here
          (λ late. c.in_default.not-Late (kind_late c.get.result.fate.kind c.get.result.fate.bytes.now (ap (λ v. v.fate) it.is ∙ late)));
      blocked = λ is. absurd cc;
    }
