-- A line over which nothing was sent.
use Rattle.line_steps.proofs.Names.{rules, ◌≡◌, [], Handheld, Desktop, Half, Wire, IsNew, Turn}

pub at_rest : {wire : Wire} {x y : Half} → wire.frames.items ≡ [] → wire.released ≡ 0 → IsNew x Handheld → IsNew y Desktop → Turn wire x y
at_rest frames released x_new y_new = search rules
