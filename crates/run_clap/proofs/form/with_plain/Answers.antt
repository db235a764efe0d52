-- One argument more.
use Rattle.std.proofs.Common.{◌∙◌, ℕ, List, [], map, sym}
use Rattle.std.proofs.lemmas.List.{at_drop_all}
use Rattle.std.specs.Borrow.{Bor}
use Rattle.clap.specs.Words.{app_of}
use Rattle.run_clap.specs.Apps.{plain_rule, with_rules}
use Rattle.run_clap.proofs.AppLaws.{one_more}
use Rattle.run_clap.proofs.form.with_plain.Goals as goal

pub loop-name-preserved : goal.loop-name-preserved
loop-name-preserved c =
    one_more plain_rule (λ (name : Bor (List ℕ)). name.now) c.args.names.now c.loop-name.name-index (record { ref_ptr = (0, 0); now = [] })
    (app_of c.loop-name.more) (app_of c.in_ok-more.more) c.loop-name-test.true c.plain_arg.ensures.rule c.in_ok-more.ensures
    ∙ c.loop-name.invariant

pub returns : goal.returns
returns c =
    sym (at_drop_all (λ (left : List (Bor (List ℕ))). with_rules (app_of c.loop-name.more) (map plain_rule (map (λ (name : Bor (List ℕ)). name.now) left)))
    c.args.names.now c.loop-name.name-index c.loop-name-test.false)
    ∙ c.loop-name.invariant
