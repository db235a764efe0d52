use Rattle.std.proofs.Common.{arith}
use Rattle.padp_end.proofs.ArrivalLaws.{arrival_of-arrived, arrived-fragment}
use Rattle.padp_end.proofs.end.arrival.Goals as goal

pub returns-clause-value : goal.returns-clause-value
returns-clause-value c source =
    arrival_of-arrived (record { dest = c.args.dest; source = source; kind = c.args.kind; id = c.args.id; body = c.args.body.now })
    (λ i. omega (arith, c.type_inv.body i)) c.arrived.result c.arrived.ensures

pub returns-clause-fragment : goal.returns-clause-fragment
returns-clause-fragment c =
    arrived-fragment (record { dest = c.args.dest; source = 0; kind = c.args.kind; id = c.args.id; body = c.args.body.now }) c.arrived.result
    c.arrived.ensures
