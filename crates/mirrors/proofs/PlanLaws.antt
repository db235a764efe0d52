-- A plan by a fast reading is one by a slow reading.
use Rattle.std.proofs.Common.{◌↔◌, Bool, List, rules}
use Rattle.pdb_values.specs.declared.record.Record.{Record}
use Rattle.conduit_rules.specs.Choices.{sides_of}
use Rattle.conduit_rules.specs.Plans.{IsPlan}
use Rattle.conduit_rules.specs.Views.{IsHonest, fast_view, slow_view}
use Rattle.conduit_rules.specs.declared.action.Action.{Action}
use Rattle.conduit_rules.specs.declared.planned.Plan.{Plan}
use Rattle.conduit_rules.proofs.ViewLaws.{fast_sides}

pub planned_alike : (action : Action) (base records rows : List Record) (gone_counts : Bool) (plan : Plan) → IsHonest base records
    → IsPlan action (sides_of (fast_view base records) rows base gone_counts) plan
    ↔ IsPlan action (sides_of (slow_view records) rows base gone_counts) plan
planned_alike action base records rows gone_counts plan honest = search (rules, fast_sides)
