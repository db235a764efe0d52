-- The bytes of a source.
use Rattle.std.specs.Prelude.{⊤, ℕ}
use Rattle.cmd_status.specs.declared.status.Status.{Status}
use Rattle.cmd_status.specs.declared.status.Status.TheVariants.{NoMemory, SourceRead, TooLong}

-- the most bytes that a source may have
abbrev pub source_limit : ℕ
source_limit = 67108864

-- one of those that a source gives cause for
abbrev pub IsSourceRefusal : Status → Type 0
IsSourceRefusal SourceRead = ⊤
IsSourceRefusal TooLong = ⊤
IsSourceRefusal NoMemory = ⊤
IsSourceRefusal _ = ⊥
