use Rattle.std.proofs.Common.{◌∙◌, ap, sym, arith, inl, inr}
use Rattle.padp_end.proofs.ArrivalLaws.{arrival_of-arrived}
use Rattle.padp_end.specs.Arrivals.{arrival_value}
use Rattle.port_link.specs.Desks.{is_greeting}
use Rattle.port_link.proofs.desk.greets.Goals as goal

pub returns-in-Data : goal.returns-in-Data
returns-in-Data c source =
    ap is_greeting (ap arrival_value (sym c.in-Data.is)
    ∙ arrival_of-arrived (record { dest = c.args.dest; source = source; kind = c.args.kind; id = c.args.id; body = c.args.body.now })
    (λ i. omega (arith, c.type_inv.body i)) c.arrived.result c.arrived.ensures)

pub returns-in-Drop : goal.returns-in-Drop
returns-in-Drop c source =
    let is = arrival_of-arrived (record { dest = c.args.dest; source = source; kind = c.args.kind; id = c.args.id; body = c.args.body.now })
    (λ i. omega (arith, c.type_inv.body i)) c.arrived.result c.arrived.ensures in
    elim c.in-Drop.is [
      | inl drop ↦ ap is_greeting (ap arrival_value (sym drop) ∙ is)
      | inr others ↦ elim others [
        | inl tickle ↦ ap is_greeting (ap arrival_value (sym tickle) ∙ is)
        | inr more ↦ elim more [
          | inl stop ↦ ap is_greeting (ap arrival_value (sym stop) ∙ is)
          | inr ack ↦ ap is_greeting (ap arrival_value (sym ack.1) ∙ is)
        ]
      ]
    ]
