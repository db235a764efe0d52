use Rattle.std.proofs.Common.{codes}
use Rattle.calendar_export.specs.Moments.{clock_chars, day_chars}
use Rattle.content_lines.proofs.GrowthLaws.{grown-4}
use Rattle.calendar_export.proofs.moment.push_stamp.Goals as goal

pub returns : goal.returns
returns c =
    grown-4 _ _ _ _ _ (day_chars c.args.time.day) (codes "T") (clock_chars c.args.time.hour c.args.time.minute c.args.time.second) (codes "Z")
    c.in_ok-push_day.ensures c.in_ok-push_plain.ensures c.in_ok-push_clock.ensures c.in_ok-push_plain-2.ensures
