-- A content that the handheld is given under an id.
use Rattle.std.specs.Prelude.{ℕ}
use Rattle.pdb_values.specs.Contents.{ContentValue}
use Rattle.conduit_rules.specs.ById.{put}
use Rattle.conduit_rules.specs.States.{live}
use Rattle.conduit_rules.specs.Choices.{Sides}

-- the handheld has this content under this id
abbrev pub given_to : Sides → ℕ → ContentValue → Sides
given_to s i c = record s { handheld = put s.handheld i (live c) }
