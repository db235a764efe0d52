-- The bytes of the characters, one after another.
use Rattle.std.proofs.Common.{◌∙◌, ap, sym, arith}
use Rattle.std.proofs.lemmas.Str.{chars_past_char, IsUtf8-past_char}
use Rattle.pdb_values.specs.Users.{user_name_of}
use Rattle.memo_texts.proofs.ByteLaws.{read_bad, read_end, read_more}
use Rattle.run_words.proofs.UserLaws.{some-of, user-empty, user-full, user-long, user-none, zero-of}
use Rattle.run_words.proofs.user.user_in.Goals as goal

pub loop-ch-preserved : goal.loop-ch-preserved
loop-ch-preserved c =
    let held = c.loop-ch.invariant in
    let parts = c.in-Some.ensures.steps.0 in
    let step = chars_past_char _ _ c.in-Some.ch held.utf8 parts in
    record {
      utf8 = IsUtf8-past_char _ _ c.in-Some.ch held.utf8 parts;
      bytes = read_more c.loop-ch.bytes.items c.try_push.new.self.items _ _ _ c.in-Some.ch c.in-Some-byte_of.byte step (sym c.in-Some-byte_of.ensures)
          c.in-Ok.ensures.ok held.bytes;
    }

pub returns-in-None-byte_of : goal.returns-in-None-byte_of
returns-in-None-byte_of c =
    let held = c.loop-ch.invariant in
    let step = chars_past_char _ _ c.in-Some.ch held.utf8 c.in-Some.ensures.steps.0 in
    sym (user-none c.args.word.now (read_bad c.loop-ch.bytes.items _ _ _ c.in-Some.ch step (sym c.in-None-byte_of.ensures) held.bytes))

pub returns-in-Err : goal.returns-in-Err
returns-in-Err c =
    let held = c.loop-ch.invariant in
    let step = chars_past_char _ _ c.in-Some.ch held.utf8 c.in-Some.ensures.steps.0 in
    sym (user-long c.args.word.now c.loop-ch.bytes.items _ _ c.in-Some.ch c.in-Some-byte_of.byte step (sym c.in-Some-byte_of.ensures)
    (omega (arith, c.in-Err.ensures.full)) held.bytes)

pub returns-then-is_empty : goal.returns-then-is_empty
returns-then-is_empty c =
    let all = read_end c.loop-ch.bytes.items _ _ c.in-None.ensures.steps.0.0 c.loop-ch.invariant.bytes in
    sym (user-empty c.args.word.now c.loop-ch.bytes.items all (zero-of _ (sym c.is_empty.ensures ∙ c.if-is_empty.true)))

pub returns : goal.returns
returns c =
    let all = read_end c.loop-ch.bytes.items _ _ c.in-None.ensures.steps.0.0 c.loop-ch.invariant.bytes in
    c.new.ensures ∙ ap user_name_of c.as_slice.ensures.value
    ∙ sym (user-full c.args.word.now c.loop-ch.bytes.items all (some-of _ (sym c.is_empty.ensures ∙ c.if-is_empty.false)))
