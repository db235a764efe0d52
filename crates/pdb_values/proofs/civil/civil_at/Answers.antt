use Rattle.std.proofs.Common.{arith, pos, ◌/◌, w8, w16, FitsSigned, to_z-of_z}
use Rattle.jiff_core.proofs.SignedLemmas.{signed_arith}
use Rattle.pdb_values.proofs.CivilLaws.{day_from, civil_at-civil_of}
use Rattle.pdb_values.proofs.civil.civil_at.Goals as goal

pub overflow_cast-result : goal.overflow_cast-result
overflow_cast-result c =
    let d = c.day_at-date.result in
    let fits : FitsSigned w16 d.year = omega (arith, signed_arith, d.year_in) in
    let same = to_z-of_z fits in
    let h = day_from d (c.args.seconds / 86400) (omega arith) c.day_at-date.ensures in
    rw (c.year.ensures, same, ← h.year) (omega (arith, signed_arith, h.year_high))

pub returns : goal.returns
returns c =
    let d = c.day_at-date.result in
    let year : FitsSigned w16 d.year = omega (arith, signed_arith, d.year_in) in
    let month : FitsSigned w8 (pos d.month) = omega (arith, signed_arith, d.month_in) in
    let day : FitsSigned w8 (pos d.day) = omega (arith, signed_arith, rw c.day.ensures at c.day.type_inv) in
    rw (c.year.ensures, c.month.ensures, c.day.ensures, to_z-of_z year, to_z-of_z month, to_z-of_z day)
    (civil_at-civil_of d c.args.seconds (omega arith) c.day_at-date.ensures)
