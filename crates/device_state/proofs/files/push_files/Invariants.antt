use Rattle.std.proofs.Common.{◌≡◌, ◌++◌, [], map, take}
use Rattle.std.specs.Prelude.{Some, string_bytes}
use Rattle.std.specs.FinMap as finmap
use Rattle.hs_folders.specs.Changes.{moments_of}
use Rattle.hs_folders.specs.FileTrees.{file_map}
use Rattle.hs_folders.specs.MemFolders.{changes_made, failing_calls}
use Rattle.device_state.specs.Lists.{files_of, list_text}
use Rattle.device_state.proofs.files.push_files.Given as goal

abbrev pub invariant-loop-name : goal.invariant-loop-name
invariant-loop-name l = record {
  listed : map string_bytes l.name-items ≡ finmap.keys (file_map l.fn.folder.files);
  written : l.out.items ≡ l.initial.out.items ++ list_text (take l.name-index (files_of (file_map l.fn.folder.files)));
  contents : Some (file_map l.folder.files) ≡ Some (file_map l.fn.folder.files);
  moments : moments_of l.folder.changes l.folder.files ≡ moments_of l.fn.folder.changes l.fn.folder.files;
  paths : Some (map string_bytes l.folder.opened.items) ≡ Some (map string_bytes l.fn.folder.opened.items);
  faults : l.folder.calls.faults ≡ l.fn.folder.calls.faults;
  changes : changes_made l.folder ≡ changes_made l.fn.folder;
  failing : failing_calls l.folder ≡ [];
}
