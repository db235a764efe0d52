use Rattle.std.proofs.Common.{◌≡◌, ◌+◌, ◌*◌, pos, arith, ◌∙◌}
use Rattle.jiff_core.proofs.SignedLemmas.{signed_casts}
use Rattle.pdb_values.specs.CivilTimes.{seconds_of}
use Rattle.pdb_values.proofs.CivilLaws.{days_of_date, civil_of_date, counted_is}
use Rattle.pdb_values.proofs.civil.count.Goals as goal

pub overflow_sub-days : goal.overflow_sub-days
overflow_sub-days c =
    let same = c.in-Ok.ensures.value in
    let year : c.in-Ok.date.year ≡ pos c.args.time.year = omega (arith, signed_casts) in
    let month : c.in-Ok.date.month ≡ c.args.time.month = omega (arith, signed_casts) in
    let day : c.in-Ok.date.day ≡ c.args.time.day = omega (arith, signed_casts) in
    omega (
      arith,
      days_of_date c.args.time c.in-Ok.date c.days_since_min-days.result c.if-time-lt1904.false year month day
          (rw c.to_plain.ensures at c.days_since_min-days.ensures.value),
    )

pub returns : goal.returns
returns c =
    let same = c.in-Ok.ensures.value in
    let year : c.in-Ok.date.year ≡ pos c.args.time.year = omega (arith, signed_casts) in
    let month : c.in-Ok.date.month ≡ c.args.time.month = omega (arith, signed_casts) in
    let day : c.in-Ok.date.day ≡ c.args.time.day = omega (arith, signed_casts) in
    let days = days_of_date c.args.time c.in-Ok.date c.days_since_min-days.result c.if-time-lt1904.false year month day
    (rw c.to_plain.ensures at c.days_since_min-days.ensures.value) in
    let civil = civil_of_date c.args.time c.in-Ok.date c.if-time-lt1904.false c.if-time-gt2040.false year month day c.if-time-gt23.false c.if-time-gt59.false
    c.if-time-gt59-2.false in
    let total : c.from.result * 86400 + c.from-2.result * 3600 + c.from-3.result * 60 + c.from-4.result ≡ seconds_of c.args.time = omega (arith, days) in
    c.ok.ensures.value ∙ counted_is c.args.time c.try_from.result civil (rw total at c.try_from.ensures)
