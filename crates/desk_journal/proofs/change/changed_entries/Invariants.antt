use Rattle.std.proofs.Common.{◌≡◌, ◌++◌, ◌≤◌, [], length}
use Rattle.hs_folders.specs.Moments.{OnlyRead}
use Rattle.desk_journal.specs.Entries.{AreEntries, entry_values}
use Rattle.desk_journal.proofs.ChangeLaws.{AreChanged}
use Rattle.desk_journal.proofs.change.changed_entries.Given as goal

abbrev pub invariant-loop-entry : goal.invariant-loop-entry
invariant-loop-entry g l = record {
  count : l.entry-iterator.rest.len ≡ length l.entry-iterator.rest.items;
  all : l.yielded ++ l.entry-iterator.rest.items ≡ l.fn.entries.items;
  changed : AreChanged (g.F.Folder.contents l.initial.folder) (entry_values l.yielded) (entry_values l.changed.items);
  form : AreEntries [] (entry_values l.changed.items ++ entry_values l.entry-iterator.rest.items);
  few : length l.changed.items ≤ length l.yielded;
  read : OnlyRead g.F.Folder.contents g.F.Folder.moments g.F.Folder.paths g.F.Folder.faults l.initial.folder l.folder;
  faults : g.F.Folder.faults l.folder ≡ g.F.Folder.faults l.initial.folder;
}
