-- The rule of a record of the Date Book.
use Rattle.std.specs.Prelude.{◌≡◌, ℕ, true, Option, None, Some, option_map}
use Rattle.palm_events.specs.declared.repeat.Pattern.{Pattern}
use Rattle.palm_events.specs.declared.repeat.Pattern.TheVariants.{Daily, Weekly, MonthlyByDay, MonthlyByDate, Yearly}
use Rattle.palm_events.specs.declared.repeat.Repeat.{Repeat}
use Rattle.palm_events.specs.declared.rule.Frequency.{Frequency}
use Rattle.palm_events.specs.declared.rule.Frequency.TheVariants.{Daily as RuleDaily, Weekly as RuleWeekly, Monthly as RuleMonthly, MonthlyByDay as RuleMonthlyByDay, Yearly as RuleYearly}
use Rattle.palm_events.specs.declared.rule.Rule.{Rule}
use Rattle.palm_events.specs.Events.{EventValue}
use Rattle.palm_events.specs.Forms.{IsEvent}
use Rattle.palm_events.specs.Rules.{occurs}
use Rattle.palm_events.specs.Shown.{first_shown, first_weekday, shows}

-- the frequency of a pattern
abbrev pub frequency_of : Pattern → Frequency
frequency_of Daily = RuleDaily
frequency_of (Weekly days from_monday) = RuleWeekly days (first_weekday from_monday)
frequency_of (MonthlyByDay week weekday) = RuleMonthlyByDay week weekday
frequency_of MonthlyByDate = RuleMonthly
frequency_of Yearly = RuleYearly

-- the rule of a repeat
abbrev pub repeat_rule : Repeat → Rule
repeat_rule repeat = record {
  frequency = frequency_of repeat.pattern;
  interval = repeat.every;
  until = repeat.until;
}

-- the rule of a repeat, if some day is shown
abbrev pub rule_if_shown : Option ℕ → Option Repeat → Option Rule
rule_if_shown None repeat = None
rule_if_shown (Some number) repeat = option_map repeat_rule repeat

-- the rule of a record: none where it does not repeat, or shows no day
abbrev pub rule_of : EventValue → Option Rule
rule_of event = rule_if_shown (first_shown event) event.repeat

-- with DTSTART on the first day that a record shows, its rule occurs on exactly the days that the
-- record shows, and on DTSTART
abbrev pub TheRuleOccursWhereTheRecordShows : Type 0
TheRuleOccursWhereTheRecordShows =
    (event : EventValue) (rule : Rule) (start : ℕ) → IsEvent event → rule_of event ≡ Some rule
    → first_shown event ≡ Some start
    → ((number : ℕ) → occurs rule start number ≡ shows event number)
    × (occurs rule start start ≡ true)
