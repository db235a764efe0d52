-- What is known of a call, of its objects as the members of their traits tell them.
use Rattle.hs_folders.specs.declared.folder.Folder.{Ghosts as FolderMembers}
use Rattle.hs_folders.specs.declared.sink.Sink.{Ghosts as SinkMembers}
use Rattle.hs_folders.specs.declared.source.Source.{Ghosts as SourceMembers}
use Rattle.cmd_status.specs.Told.{SinkTold, sink_told}
use Rattle.call_parts.specs.Told.{CallTold, SidesTold, call_told, sides_told}
use Rattle.call_parts.specs.declared.answer.Answer.{Answer}
use Rattle.call_parts.specs.declared.report.Report.{Report}
use Rattle.cmd_status.specs.declared.status.Status.{Status}

-- What is known of a call holds of its objects before it and after it, as the members of their
-- traits tell them, and of what it answered. Standard output comes last among the objects.
abbrev pub OfCall : (CallTold → CallTold → SinkTold → SinkTold → Status → Report → Type 0)
    → {H D S T O : Type 0} → FolderMembers H → FolderMembers D → SourceMembers S → SinkMembers T
    → SinkMembers O → H → D → S → T → O → Answer H D → S → T → O → Type 0
OfCall Fact palms desks sources traces outs palm desk source trace out answer read written said =
    Fact (call_told palms desks sources traces palm desk source trace)
    (call_told palms desks sources traces answer.device answer.desk read written)
    (sink_told outs out) (sink_told outs said) answer.status answer.report

-- likewise of a call beside standard output, which prints nothing yet
abbrev pub OfRun : (CallTold → CallTold → Status → Report → Type 0)
    → {H D S T : Type 0} → FolderMembers H → FolderMembers D → SourceMembers S → SinkMembers T
    → H → D → S → T → Answer H D → S → T → Type 0
OfRun Fact palms desks sources traces palm desk source trace answer read written =
    Fact (call_told palms desks sources traces palm desk source trace)
    (call_told palms desks sources traces answer.device answer.desk read written)
    answer.status answer.report

-- likewise of a session between both folders
abbrev pub OfSides : (SidesTold → SidesTold → Status → Report → Type 0)
    → {H D : Type 0} → FolderMembers H → FolderMembers D → H → D → Answer H D → Type 0
OfSides Fact palms desks palm desk answer =
    Fact (sides_told palms desks palm desk) (sides_told palms desks answer.device answer.desk)
    answer.status answer.report
