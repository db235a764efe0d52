-- What callers can say of a source in memory beyond what each source tells.
use Rattle.std.specs.Prelude.{ℕ, List}
use Rattle.hs_folders.specs.declared.mem_source.MemSource.{MemSource}

-- The numbers of the calls that are to fail, counted from 1 since the source was made.
abbrev pub failing_calls : MemSource → List ℕ
failing_calls source = source.calls.failing.items

-- How many calls of the trait were made.
abbrev pub calls_made : MemSource → ℕ
calls_made source = source.calls.made
