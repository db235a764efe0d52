use Rattle.std.proofs.Common.{◌≤◌, ◌≢◌, vec_len, string_bytes}
use Rattle.std.specs.Prelude.{All, codes}
use Rattle.hs_folders.proofs.system_files.add_entries.Given as goal

abbrev pub invariant-loop-entry : goal.invariant-loop-entry
invariant-loop-entry g l = record { few : vec_len l.names ≤ 4294967295; no_temporary : All (λ name. string_bytes name ≢ codes "hotsync.tmp") l.names.items }
