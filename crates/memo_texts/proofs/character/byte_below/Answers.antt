use Rattle.std.proofs.lemmas.Bool.{cases_lt}
use Rattle.std.proofs.Common.{◌≡◌, ◌<◌, ◌≤◌, ◌⊎◌, inl, inr, arith, sym, ◌∙◌, ℕ}
use Rattle.palm_records.specs.Characters.{char_of}
use Rattle.memo_texts.proofs.ByteLaws.{byte_below-none, byte_found, high_none}
use Rattle.memo_texts.proofs.character.byte_below.Goals as goal
use Rattle.memo_texts.proofs.character.byte_below.Goals.{else-code-lt256-via-then-code-lt256+else-char_of-ch, else-code-lt256-via-else-code-lt256}

pub returns-then-char_of-ch : goal.returns-then-char_of-ch
returns-then-char_of-ch c =
    sym (byte_found c.from-code.result c.args.ch c.if-code-lt256.true (sym c.char_of.ensures ∙ c.if-char_of-ch.true))

pub returns-then-char_of-ch-2 : goal.returns-then-char_of-ch-2
returns-then-char_of-ch-2 c =
    sym (byte_found c.loop-byte.byte c.args.ch (omega arith) (sym c.char_of-in-loop-byte.ensures ∙ c.if-char_of-ch-2.true))

pub returns : goal.returns
returns c =
    let code = c.from-code.result in
    let far : (256 ≤ code) ⊎ (char_of code ≡ c.args.ch → ⊥) =
    elim c.else-code-lt256.branch [
      | else-code-lt256-via-then-code-lt256+else-char_of-ch w ↦ inr (λ is. w.if-char_of-ch.false (w.char_of.ensures ∙ is))
      | else-code-lt256-via-else-code-lt256 w ↦ inl w.if-code-lt256.false
    ] in
    let none : (b : ℕ) → b < 256 → char_of b ≡ c.args.ch → ⊥ = λ b small is.
    elim (cases_lt b 160) [
      | inl low ↦ c.loop-byte.invariant b (omega (arith, low)) is
      | inr high ↦ high_none code c.args.ch b c.from-code.ensures (omega (arith, high)) small far is
    ] in
    sym (byte_below-none 256 c.args.ch none)
