use Rattle.std.proofs.Common.{arith, ◌≡◌, length, refl}
use Rattle.category_tables.proofs.PlaceLaws.{behind_first, none_behind, unused-map, place_behind}
use Rattle.category_tables.proofs.place.unused.Goals as goal

pub returns-in_err-place-clause-value : goal.returns-in_err-place-clause-value
returns-in_err-place-clause-value c =
    let whole : length c.args.entries.now ≡ 16 = omega arith in
    let found = rw (behind_first c.args.entries.now whole) at c.unused_place.ensures.value in
    none_behind _ _ _ c.in_err-place.was c.from_residual.ensures (rw (unused-map c.args.entries.now, found) refl)

pub returns-clause-value : goal.returns-clause-value
returns-clause-value c =
    let whole : length c.args.entries.now ≡ 16 = omega arith in
    let found = rw (behind_first c.args.entries.now whole) at c.unused_place.ensures.value in
    place_behind _ _ _ c.in_ok-place.was (rw (unused-map c.args.entries.now, found) refl)
