use Rattle.std.proofs.Common.{◌≡◌, ◌∙◌, ℕ, ap, refl, sym}
use Rattle.pdb_values.specs.CivilTimes.{civil_of, place_of}
use Rattle.calendar_export.specs.declared.moment.Moment.{Moment}
use Rattle.calendar_export.specs.Moments.{moment_of}
use Rattle.calendar_export.proofs.moment.moment_of.Goals as goal

civil_of-0 : moment_of (civil_of 0) ≡ record { day = record { year = 1904; month = 1; day = 1 }; hour = 0; minute = 0; second = 0 }
unfolding civil_of place_of
civil_of-0 = refl

first : (date seconds : ℕ) → seconds ≡ date → seconds ≡ 0 → (time : Moment) → moment_of (civil_of 0) ≡ time → time ≡ moment_of (civil_of date)
first date seconds is zero time begin = sym begin ∙ ap (λ n. moment_of (civil_of n)) (sym zero ∙ is)

pub returns-then-seconds-eq0 : goal.returns-then-seconds-eq0
returns-then-seconds-eq0 c = first c.args.date c.seconds.result c.seconds.ensures c.if-seconds-eq0.true _ civil_of-0
