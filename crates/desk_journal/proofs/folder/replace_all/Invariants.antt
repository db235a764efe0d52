use Rattle.std.proofs.Common.{◌≡◌, take}
use Rattle.std.specs.Option.{option_map}
use Rattle.desk_journal.specs.Entries.{entry_values}
use Rattle.desk_journal.specs.Overlays.{put_all}
use Rattle.desk_journal.specs.Steps.{GoesThroughAll, replacements}
use Rattle.desk_journal.proofs.folder.replace_all.Given as goal

abbrev pub invariant-loop-entry : goal.invariant-loop-entry
invariant-loop-entry g l = record {
  put : g.F.Folder.contents l.folder ≡ option_map (put_all (take l.entry-index (entry_values l.entries))) (g.F.Folder.contents l.initial.folder);
  moments : GoesThroughAll (replacements (take l.entry-index (entry_values l.entries)) (g.F.Folder.contents l.initial.folder))
      (g.F.Folder.moments l.initial.folder) (g.F.Folder.moments l.folder);
  paths : g.F.Folder.paths l.folder ≡ g.F.Folder.paths l.initial.folder;
  count : g.F.Folder.faults l.folder ≡ g.F.Folder.faults l.initial.folder;
}
