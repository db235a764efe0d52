-- What callers can say of a sink in memory beyond what each sink tells.
use Rattle.std.specs.Prelude.{ℕ, List}
use Rattle.hs_folders.specs.declared.mem_sink.MemSink.{MemSink}

-- The numbers of the calls that are to fail, counted from 1 since the sink was made.
abbrev pub failing_calls : MemSink → List ℕ
failing_calls sink = sink.calls.failing.items

-- How many calls of the trait were made.
abbrev pub calls_made : MemSink → ℕ
calls_made sink = sink.calls.made
