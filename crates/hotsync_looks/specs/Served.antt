-- The lines of a talk that ended.
use Rattle.std.specs.Prelude.{ℕ, List, ◌++◌, codes}
use Rattle.cmd_status.specs.Lines.{ended_line, number_line}

-- `served N`, and then `ended`
unfoldable pub served_lines : ℕ → List ℕ
served_lines count = number_line (codes "served ") count ++ ended_line
