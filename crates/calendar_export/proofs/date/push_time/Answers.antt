use Rattle.std.proofs.Common.{codes}
use Rattle.calendar_export.specs.Moments.{clock_chars, day_chars}
use Rattle.content_lines.proofs.GrowthLaws.{grown-3}
use Rattle.calendar_export.proofs.date.push_time.Goals as goal

pub returns : goal.returns
returns c =
    grown-3 _ _ _ _ (day_chars c.args.day) (codes "T") (clock_chars c.args.time.hour c.args.time.minute 0) c.in_ok-push_day.ensures c.in_ok-push_plain.ensures
    c.in_ok-push_clock.ensures
