-- Two readings that are planned alike.
use Rattle.std.specs.Prelude.{◌↔◌}
use Rattle.conduit_rules.specs.Choices.{Sides}
use Rattle.conduit_rules.specs.Plans.{IsPlan}
use Rattle.conduit_rules.specs.declared.action.Action.{Action}
use Rattle.conduit_rules.specs.declared.planned.Plan.{Plan}

-- a plan, with all its six lists, is one by the first sides exactly where it is one by the second
abbrev pub HaveSamePlans : Sides → Sides → Type 0
HaveSamePlans one two =
    (action : Action) (plan : Plan) → IsPlan action one plan ↔ IsPlan action two plan
