use Rattle.std.proofs.Common.{◌≡◌, [], length}
use Rattle.std.specs.Prelude.{None, Some, map, string_bytes}
use Rattle.std.specs.BTreeSet.{contains_by}
use Rattle.std.specs.Cmp.Lexicographic.{slice_cmp}
use Rattle.std.specs.Ordering.{nat_cmp}
use Rattle.hs_folders.specs.FileTrees.{file_map}
use Rattle.hs_folders.specs.MemFolders.{calls_made, changes_made, failing_calls, past_moments}
use Rattle.device_state.proofs.ReadLaws.{ReadsUpTo}
use Rattle.device_state.proofs.files.read_files.Given as goal

abbrev pub decreases-loop-rest : goal.decreases-loop-rest
decreases-loop-rest l = length l.rest

abbrev pub invariant-loop-rest : goal.invariant-loop-rest
invariant-loop-rest l = record {
  reads : ReadsUpTo l.bytes l.rest (Some (file_map l.folder.files)) (λ name. contains_by (λ k. slice_cmp nat_cmp name k.now) l.names);
  past : past_moments l.folder ≡ None;
  paths : Some (map string_bytes l.folder.opened.items) ≡ Some [];
  faults : l.folder.calls.faults ≡ 0;
  calls : calls_made l.folder ≡ 0;
  changes : changes_made l.folder ≡ 0;
  failing : failing_calls l.folder ≡ [];
}
