use Rattle.std.proofs.Common.{◌≡◌, ◌+◌, ◌∙◌, ap, arith, length, sym}
use Rattle.std.proofs.lemmas.Str.{chars_past_char, IsUtf8-past_char}
use Rattle.memo_texts.specs.declared.fault.Flaw.TheVariants.{NoByte}
use Rattle.memo_texts.specs.declared.fault.LineFault.TheVariants as line
use Rattle.memo_texts.specs.Flaws.{flaw_at}
use Rattle.memo_texts.proofs.ByteLaws.{flaw_bad, flaw_end, flaw_more, read_bad, read_end, read_more}
use Rattle.memo_texts.proofs.character.text_bytes.Goals as goal

pub loop-ch-preserved : goal.loop-ch-preserved
loop-ch-preserved c =
    let held = c.loop-ch.invariant in
    let parts = c.in-Some.ensures.steps.0 in
    let step = chars_past_char _ _ c.in-Some.ch held.utf8 parts in
    let is = sym c.in-Some-byte_of.ensures in
    let grown = c.in_ok-push-in-Some-byte_of.ensures.items in
    record {
      utf8 = IsUtf8-past_char _ _ c.in-Some.ch held.utf8 parts;
      bytes = read_more c.loop-ch.bytes.items c.push.new.self.items _ _ _ c.in-Some.ch c.in-Some-byte_of.byte step is grown held.bytes;
      flaw = flaw_more c.loop-ch.bytes.items c.push.new.self.items _ _ _ c.in-Some.ch c.in-Some-byte_of.byte step is grown held.flaw;
    }

pub returns-in-None-byte_of-clause-bytes : goal.returns-in-None-byte_of-clause-bytes
returns-in-None-byte_of-clause-bytes c = λ _.
    let held = c.loop-ch.invariant in
    let step = chars_past_char _ _ c.in-Some.ch held.utf8 c.in-Some.ensures.steps.0 in
    let none = sym c.in-None-byte_of.ensures in
    let size : c.len.result ≡ length c.loop-ch.bytes.items = omega arith in
    let told = ap (λ n. line.BadForm (flaw_at (n + 1) (NoByte c.in-Some.ch))) size in
    (told ∙ ap line.BadForm (sym (flaw_bad _ c.in-Some.ch _ _ _ step none held.flaw)), read_bad c.loop-ch.bytes.items _ _ _ c.in-Some.ch step none held.bytes)

pub returns-clause-bytes : goal.returns-clause-bytes
returns-clause-bytes c = read_end c.loop-ch.bytes.items _ _ c.in-None.ensures.steps.0.0 c.loop-ch.invariant.bytes

pub returns-clause-end : goal.returns-clause-end
returns-clause-end c = flaw_end _ _ _ c.in-None.ensures.steps.0.0 c.loop-ch.invariant.flaw
