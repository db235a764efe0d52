use Rattle.std.proofs.Common.{◌≡◌, string_bytes, take}
use Rattle.pdb_values.specs.Stems.{stem_of}
use Rattle.pdb_values.proofs.name.DbName.file_stem.Given as goal

abbrev pub invariant-loop-byte : goal.invariant-loop-byte
invariant-loop-byte l = string_bytes l.stem ≡ stem_of (take l.byte-index l.byte-items)
