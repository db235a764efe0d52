use Rattle.std.proofs.Common.{◌<◌, ◌^◌, arith}
use Rattle.pdb_values.proofs.DateLaws.{read_wire_of_wire_of}
use Rattle.pdb_values.proofs.date.PalmDate.to_wire.Goals as goal

pub returns-clause-read_back : goal.returns-clause-read_back
returns-clause-read_back c =
    let fits : c.args.self < 2 ^ 32 = omega arith in
    rw (c.civil_at-time.ensures, c.self.view_is) (read_wire_of_wire_of c.args.self fits)
