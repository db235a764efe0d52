-- What the objects of a call tell at one moment.
use Rattle.std.specs.Prelude.{ℕ, List, Option}
use Rattle.hs_folders.specs.FileMaps.{FileMap}
use Rattle.hs_folders.specs.Moments.{Moments}
use Rattle.hs_folders.specs.declared.folder.Folder.{Ghosts as FolderMembers}
use Rattle.hs_folders.specs.declared.sink.Sink.{Ghosts as SinkMembers}
use Rattle.hs_folders.specs.declared.source.Source.{Ghosts as SourceMembers}
use Rattle.cmd_status.specs.Told.{SinkTold, SourceTold, sink_told, source_told}

-- what a folder tells
pub record FolderTold : Type 0 where
  pub contents : Option FileMap
  pub moments : Moments
  pub paths : Option (List (List ℕ))
  pub faults : ℕ

-- what the objects of a call tell before it, or after it, beside standard output
pub record CallTold : Type 0 where
  pub palm : FolderTold
  pub desk : FolderTold
  pub source : SourceTold
  pub trace : SinkTold

-- what both folders of a call tell
pub record SidesTold : Type 0 where
  pub palm : FolderTold
  pub desk : FolderTold

abbrev pub sides_of : CallTold → SidesTold
sides_of told = record { palm = told.palm; desk = told.desk }

-- what these tell of a folder, by the members of its trait
abbrev pub folder_told : {F : Type 0} → (F → Option FileMap) → (F → Moments)
    → (F → Option (List (List ℕ))) → (F → ℕ) → F → FolderTold
folder_told contents moments paths faults folder = record {
  contents = contents folder;
  moments = moments folder;
  paths = paths folder;
  faults = faults folder;
}

-- what both folders tell, by the members of their traits
abbrev pub sides_told : {H D : Type 0} → FolderMembers H → FolderMembers D → H → D → SidesTold
sides_told palms desks palm desk = record {
  palm = folder_told palms.contents palms.moments palms.paths palms.faults palm;
  desk = folder_told desks.contents desks.moments desks.paths desks.faults desk;
}

-- what the objects of a call tell beside standard output, by the members of their traits
abbrev pub call_told : {H D S T : Type 0} → FolderMembers H → FolderMembers D → SourceMembers S
    → SinkMembers T → H → D → S → T → CallTold
call_told palms desks sources traces palm desk source trace = record {
  palm = folder_told palms.contents palms.moments palms.paths palms.faults palm;
  desk = folder_told desks.contents desks.moments desks.paths desks.faults desk;
  source = source_told sources source;
  trace = sink_told traces trace;
}
