use Rattle.std.proofs.Common.{◌<◌, arith}
use Rattle.std.specs.Prelude.{slice_index}
use Rattle.pdb_values.proofs.DateLaws.{form_of_wire}
use Rattle.pdb_values.proofs.date.PalmDate.read_wire_bytes.Goals as goal

pub returns-clause-form : goal.returns-clause-form
returns-clause-form c =
    let low : slice_index c.args.bytes.now 1 < 256 = omega (arith, c.type_inv.bytes 1) in
    form_of_wire c.of_wire.result c.args.bytes.now c.requires low (rw (c.from.ensures, c.from-2.ensures) at c.of_wire.ensures)
