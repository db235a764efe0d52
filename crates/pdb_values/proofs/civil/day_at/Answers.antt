use Rattle.std.proofs.Common.{◌∙◌, arith, pos, w64, FitsSigned, to_z-of_z}
use Rattle.jiff_core.proofs.SignedLemmas.{signed_arith}
use Rattle.jiff.proofs.SpanFacts.{date_add-days, can_add-days}
use Rattle.pdb_values.proofs.CivilLaws.{epoch_day-1904}
use Rattle.pdb_values.proofs.civil.day_at.Goals as goal

pub returns : goal.returns
returns c =
    let d = c.date.result in
    let first = epoch_day-1904 d c.date.ensures.0 (omega (arith, signed_arith, c.date.ensures.1)) (omega (arith, signed_arith, c.date.ensures.2)) in
    let fits : FitsSigned w64 (pos c.args.days) = omega (arith, signed_arith) in
    let only = simp to_z-of_z at (rw c.from.ensures at c.days.ensures) in
    let can = (can_add-days d (pos c.args.days) c.days.result only).1 (omega (arith, signed_arith, first), omega (arith, signed_arith, first)) in
    let later = c.saturating_add.ensures.fits can ∙ date_add-days d (pos c.args.days) c.days.result only in
    omega (arith, signed_arith, first, later)
