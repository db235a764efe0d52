-- What the other end heard of what an end said.
use Rattle.std.specs.Prelude.{List}
use Rattle.trace_text.specs.Faults.{data_comes}
use Rattle.trace_text.specs.Past.{PastFrame}
use Rattle.trace_text.specs.declared.frame.End.{End}
use Rattle.trace_text.specs.Parts.{Part, parts}

-- what came of it, in a past that ends at the cursor: what the other end took
abbrev pub heard : End → List PastFrame → List Part
heard X past = parts (data_comes X) past
