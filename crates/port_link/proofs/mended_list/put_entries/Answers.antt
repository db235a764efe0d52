use Rattle.std.proofs.Common.{◌∙◌, ◌+◌, ◌-◌, ◌++◌, List, ℕ, ap, sym, arith}
use Rattle.std.proofs.lemmas.List.{append-nil}
use Rattle.std.specs.Prelude.{take, drop}
use Rattle.port_link.specs.Mended.{byte_in, entries_again, entry_again}
use Rattle.port_link.proofs.MendedLaws.{entries_on, no_entries}
use Rattle.port_link.proofs.mended_list.put_entries.Goals as goal

pub loop-preserved : goal.loop-preserved
loop-preserved c =
    let rest = c.loop.rest.now in
    let left = c.args.count - (c.loop.counter + 1) in
    let size = c.from-size.ensures ∙ c.byte_in.ensures in
    let out = ap (λ (o : List ℕ). o ++ entries_again left c.from-rest.result.now) c.put_entry.ensures.entry in
    let one = ap (λ (e : List ℕ). (c.loop.out ++ entry_again e) ++ entries_again left c.from-rest.result.now)
    (c.front_of.ensures.front ∙ ap (λ (n : ℕ). take n rest) size) in
    let more = ap (λ (r : List ℕ). (c.loop.out ++ entry_again (take (byte_in 0 rest) rest)) ++ entries_again left r)
    (c.from-rest.ensures ∙ ap (λ (n : ℕ). drop n rest) size) in (
      out ∙ one ∙ more ∙ entries_on c.args.count c.loop.counter c.loop.out rest c.loop-test.true ∙ c.loop.invariant.0,
      omega (arith, c.put_entry.ensures.short, c.loop.invariant.1),
      c.loop.invariant.2,
    )

pub returns-clause-entries : goal.returns-clause-entries
returns-clause-entries c =
    sym (append-nil c.loop.out)
    ∙ ap (λ (xs : List ℕ). c.loop.out ++ xs) (sym (no_entries (c.args.count - c.loop.counter) c.loop.rest.now (omega (arith, c.loop-test.false))))
    ∙ c.loop.invariant.0
