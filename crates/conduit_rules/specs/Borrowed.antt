-- What the values that the crate lends inside stand for.
use Rattle.std.specs.Prelude.{◌++◌, option_to_list}
use Rattle.std.specs.Option.{option_copied}
use Rattle.conduit_rules.specs.States.{SideState, nothing, live, archived, BaseState, no_base, row, gone}
use Rattle.conduit_rules.specs.Fates.{Fate}
use Rattle.conduit_rules.specs.declared.holding.Holding.{Holding}
use Rattle.conduit_rules.specs.declared.holding.Holding.TheVariants.{Nothing, Live, Archived}
use Rattle.conduit_rules.specs.declared.basis.Basis.{Basis}
use Rattle.conduit_rules.specs.declared.basis.Basis.TheVariants.{Nothing as BasisNothing, Row, Gone}
use Rattle.conduit_rules.specs.declared.verdict.Verdict.{Verdict}

-- what a side holds
abbrev pub held_of : Holding → SideState
held_of Nothing = nothing
held_of (Live c) = live c.now
held_of (Archived c) = archived c.now

-- what the base has
abbrev pub based_of : Basis → BaseState
based_of BasisNothing = no_base
based_of (Row c) = row c.now
based_of (Gone c) = gone c.now

-- what becomes of an id
abbrev pub fate_of : Verdict → Fate
fate_of v = record {
  keep = option_copied v.keep;
  archive =
      option_to_list (option_copied v.archive) ++ option_to_list (option_copied v.archive_too);
  news = option_copied v.news;
}
