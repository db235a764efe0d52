use Rattle.std.proofs.Common.{◌∙◌, List, ℕ, length, ap, sym, refl, arith}
use Rattle.dlp_replies.specs.Checks.{first_bad}
use Rattle.dlp_replies.specs.IdLists.{ids_checks, words}
use Rattle.dlp_replies.proofs.IdLaws.{words_len, no_word, first_word, bad_first, good_first}
use Rattle.dlp_replies.proofs.ids.first_bad_id.Goals as goal

pub loop-init : goal.loop-init
loop-init c = record { near = refl; left = omega (arith, words_len c.args.bytes.now); same = refl }

pub returns-in_err-number-clause-bad : goal.returns-in_err-number-clause-bad
returns-in_err-number-clause-bad c =
    rw c.from_residual.ensures (sym (c.loop.invariant.same ∙ ap (λ (ids : List ℕ). first_bad (ids_checks c.loop.place ids))
    (no_word c.loop.rest.now (sym c.in_err-number.ensures))))

pub returns-then-number-gt-GREATEST-clause-bad : goal.returns-then-number-gt-GREATEST-clause-bad
returns-then-number-gt-GREATEST-clause-bad c =
    let first = first_word c.loop.rest.now c.in_ok-number.number c.in_ok-number.after.now (sym c.in_ok-number.ensures) in
    sym (c.loop.invariant.same ∙ ap (λ (ids : List ℕ). first_bad (ids_checks c.loop.place ids)) first ∙ bad_first c.loop.place c.in_ok-number.number
    (words c.in_ok-number.after.now) c.if-number-gt-GREATEST.true)

pub loop-preserved : goal.loop-preserved
loop-preserved c =
    let first = first_word c.loop.rest.now c.in_ok-number.number c.in_ok-number.after.now (sym c.in_ok-number.ensures) in
    let len = ap length first in
    record {
      near = omega arith;
      left = omega (arith, len, c.loop.invariant.left);
      same = c.loop.invariant.same ∙ ap (λ (ids : List ℕ). first_bad (ids_checks c.loop.place ids)) first ∙ good_first c.loop.place c.in_ok-number.number
          (words c.in_ok-number.after.now) c.if-number-gt-GREATEST.false;
    }
