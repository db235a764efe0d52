use Rattle.std.proofs.Common.{◌≡◌, drop, map, List, ℕ}
use Rattle.std.specs.Borrow.{Bor}
use Rattle.clap.specs.Words.{app_of}
use Rattle.run_clap.specs.Apps.{plain_rule, with_rules}
use Rattle.run_clap.proofs.form.with_plain.Given as goal

abbrev pub invariant-loop-name : goal.invariant-loop-name
invariant-loop-name l =
    with_rules (app_of l.more) (map plain_rule (map (λ (name : Bor (List ℕ)). name.now) (drop l.name-index l.names))) ≡ with_rules (app_of l.fn.command) (map plain_rule (map (λ (name : Bor (List ℕ)). name.now) l.names))
