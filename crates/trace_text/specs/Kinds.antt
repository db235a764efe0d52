-- The kinds of fates, and which of them have bytes.
use Rattle.std.specs.Prelude.{ℕ, List, []}
use Rattle.trace_text.specs.declared.fate.FateKind.{FateKind}
use Rattle.trace_text.specs.declared.fate.FateKind.TheVariants as kind

-- the bytes of a fate of this kind, of these: all, or none
abbrev pub kind_bytes : FateKind → List ℕ → List ℕ
kind_bytes (kind.Hit place) bytes = bytes
kind_bytes kind.Noise bytes = bytes
kind_bytes _ bytes = []

-- how many that are
abbrev pub kind_count : FateKind → ℕ → ℕ
kind_count (kind.Hit place) count = count
kind_count kind.Noise count = count
kind_count _ count = 0
