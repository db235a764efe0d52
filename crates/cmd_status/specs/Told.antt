-- What a source and a sink tell at one moment.
use Rattle.std.specs.Prelude.{ℕ, List, Option}
use Rattle.hs_folders.specs.declared.sink.Sink.{Ghosts as SinkMembers}
use Rattle.hs_folders.specs.declared.source.Source.{Ghosts as SourceMembers}

-- what a sink tells
pub record SinkTold : Type 0 where
  pub taken : Option (List ℕ)
  pub paths : Option (List (List ℕ))
  pub faults : ℕ

-- what a source tells
pub record SourceTold : Type 0 where
  pub left : Option (List ℕ)
  pub paths : Option (List (List ℕ))
  pub faults : ℕ

-- what these tell of a sink, the members of its trait
abbrev pub sink_told : {T : Type 0} → SinkMembers T → T → SinkTold
sink_told sinks sink = record {
  taken = sinks.taken sink;
  paths = sinks.paths sink;
  faults = sinks.faults sink;
}

-- likewise of a source
abbrev pub source_told : {S : Type 0} → SourceMembers S → S → SourceTold
source_told sources source = record {
  left = sources.left source;
  paths = sources.paths source;
  faults = sources.faults source;
}
