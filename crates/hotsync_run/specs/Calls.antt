-- What holds of every call, by what its words ask for.
use Rattle.std.specs.Prelude.{◌≡◌, ◌⊎◌, ⊤, ℕ, Bool, true, false, List, Option, None, Some, String, map, string_bytes}
use Rattle.std.specs.declared.alloc.Global.{Global}
use Rattle.run_words.specs.Commands.{WordTask, Sync, DryRun, LookAt, Scan, Make, Install, Backup, Restore, Emulate, Categories, Help, task_of}
use Rattle.run_words.specs.Faults.{Fault}
use Rattle.run_words.specs.declared.topic.CommandWord.{CommandWord}
use Rattle.run_words.specs.declared.topic.CommandWord.TheVariants as word
use Rattle.hotsync_looks.specs.Helped.{IsHelped}
use Rattle.hotsync_looks.specs.JointFaults.{word_at_fault}
use Rattle.hotsync_looks.specs.Looks.{IsLook}
use Rattle.hotsync_looks.specs.Misuses.{IsMisuse}
use Rattle.cmd_files.specs.Backups.{backup_command}
use Rattle.cmd_session.specs.DryRuns.{IsDryRun}
use Rattle.cmd_files.specs.Emulations.{IsEmulation, emulation_paths}
use Rattle.cmd_session.specs.Filings.{categories_command}
use Rattle.cmd_files.specs.Installs.{install_command, install_paths}
use Rattle.cmd_session.specs.Makes.{IsMake}
use Rattle.hs_folders.specs.declared.folder.Folder.{Ghosts as FolderMembers}
use Rattle.hs_folders.specs.declared.sink.Sink.{Ghosts as SinkMembers}
use Rattle.hs_folders.specs.declared.source.Source.{Ghosts as SourceMembers}
use Rattle.cmd_status.specs.Printed.{IsPrinted}
use Rattle.cmd_files.specs.Restores.{restore_command}
use Rattle.cmd_session.specs.Runs.{IsRun, run_paths}
use Rattle.call_parts.specs.SessionCalls.{IsSessionCall, Paths, between_paths}
use Rattle.hotsync_looks.specs.Scans.{IsScanned}
use Rattle.cmd_status.specs.Told.{SinkTold, sink_told}
use Rattle.call_parts.specs.Told.{CallTold, call_told}
use Rattle.call_parts.specs.declared.answer.Answer.{Answer}
use Rattle.call_parts.specs.declared.report.Report.{Report}
use Rattle.cmd_status.specs.declared.status.Status.{Status}
use Rattle.cmd_status.specs.declared.status.Status.TheVariants.{NoMemory}

-- what words ask for, where the seconds of the date now are these, if it can be told
abbrev pub task_in : Option ℕ → List (String Global) → Option WordTask
task_in now words = task_of now (map string_bytes words)

-- the word at fault in words that ask for nothing, where it can be named
abbrev pub fault_in : Option ℕ → List (String Global) → Option Fault
fault_in now words = word_at_fault now (map string_bytes words)

-- a line of a refusal alone, which one of both took
abbrev pub IsRefused : SinkTold → SinkTold → SinkTold → SinkTold → Status → Type 0
IsRefused out out_after err err_after status =
    (IsPrinted (λ text. ⊥) out out_after status × (err_after ≡ err))
    ⊎ (IsPrinted (λ text. ⊥) err err_after status × (out_after ≡ out))

-- a call that does nothing ends with the usage line, and with the word at fault behind it where it
-- is named
pub record IsNothing (out out_after err err_after : SinkTold) (status : Status) : Type 0 where
  pub ended : IsMisuse status ⊎ (status ≡ NoMemory)
  pub printed : IsRefused out out_after err err_after status

-- the standard output of a command is its result, so that no line of a refusal is to stand in it
abbrev pub gives_result : Option CommandWord → Bool
gives_result (Some word.Check) = true
gives_result (Some word.Show) = true
gives_result (Some word.Export) = true
gives_result (Some word.Import) = true
gives_result (Some word.Verify) = true
gives_result (Some word.Picture) = true
gives_result (Some word.Packet) = true
gives_result other = false

-- What is known of a call: words out of the form give the usage line. Only a run sends anything, a
-- dry one in memory, a session between made folders, an install, a backup, a restore and categories
-- that are brought together; a handheld over captured bytes says what it would have sent.
abbrev pub IsCall : Option WordTask → CallTold → CallTold → SinkTold → SinkTold → SinkTold → SinkTold
    → Status → Report → Type 0
IsCall None before after out out_after err err_after status report =
    IsNothing out out_after err err_after status
IsCall (Some (Sync run)) before after out out_after err err_after status report =
    IsRun run before after out out_after status report
IsCall (Some (DryRun run)) before after out out_after err err_after status report =
    IsDryRun run before after out out_after status report
IsCall (Some (LookAt look file)) before after out out_after err err_after status report =
    IsLook look file before.source after.source out out_after err err_after status
IsCall (Some (Scan bytes)) before after out out_after err err_after status report =
    IsScanned bytes out out_after err err_after status
IsCall (Some (Make seed count)) before after out out_after err err_after status report =
    IsMake seed count out out_after status report
IsCall (Some (Install words)) before after out out_after err err_after status report =
    IsSessionCall (install_command words) before after out out_after status report
IsCall (Some (Backup words)) before after out out_after err err_after status report =
    IsSessionCall (backup_command words) before after out out_after status report
IsCall (Some (Restore words)) before after out out_after err err_after status report =
    IsSessionCall (restore_command words) before after out out_after status report
IsCall (Some (Emulate capture)) before after out out_after err err_after status report =
    IsEmulation capture before after out out_after status report
IsCall (Some (Categories words)) before after out out_after err err_after status report =
    IsSessionCall (categories_command words) before after out out_after status report
IsCall (Some (Help topic)) before after out out_after err err_after status report =
    IsHelped topic out out_after err err_after status

-- What is known of a call holds of its objects before it and after it, as the members of their
-- traits tell them, standard output and standard error behind the others, and of what it answered.
abbrev pub OfProgram : (CallTold → CallTold → SinkTold → SinkTold → SinkTold → SinkTold → Status
    → Report → Type 0) → {H D S T O E : Type 0} → FolderMembers H → FolderMembers D
    → SourceMembers S → SinkMembers T → SinkMembers O → SinkMembers E → H → D → S → T → O → E
    → Answer H D → S → T → O → E → Type 0
OfProgram Fact palms desks sources traces outs errs palm desk source trace out err answer read
    written said told =
    Fact (call_told palms desks sources traces palm desk source trace)
    (call_told palms desks sources traces answer.device answer.desk read written)
    (sink_told outs out) (sink_told outs said) (sink_told errs err) (sink_told errs told)
    answer.status answer.report

-- the words ask for a session: for a run, a dry one too, for one between made folders, for an
-- install, a backup, a restore or categories; or for a handheld's end of one, over captured bytes
abbrev pub HasSession : Option WordTask → Type 0
HasSession (Some (Sync run)) = ⊤
HasSession (Some (DryRun run)) = ⊤
HasSession (Some (Make seed count)) = ⊤
HasSession (Some (Install words)) = ⊤
HasSession (Some (Backup words)) = ⊤
HasSession (Some (Restore words)) = ⊤
HasSession (Some (Emulate capture)) = ⊤
HasSession (Some (Categories words)) = ⊤
HasSession _ = ⊥

-- the words ask for something that reads the source before it touches a folder: all but a handheld
-- over captured bytes, which hears them as it goes
abbrev pub ReadsFirst : Option WordTask → Type 0
ReadsFirst (Some (Emulate capture)) = ⊥
ReadsFirst _ = ⊤

-- no path
abbrev pub no_paths : Paths
no_paths = record { handheld = None; desktop = None; source = None; trace = None }

-- the paths that words give to each object: those of a run, of an install, of a backup, of a
-- restore and of categories, the file of a look, and those of a handheld over captured bytes
abbrev pub paths_of : Option WordTask → Paths
paths_of (Some (Sync run)) = run_paths run
paths_of (Some (DryRun run)) = run_paths run
paths_of (Some (Install words)) = install_paths words
paths_of (Some (Backup words)) = between_paths words
paths_of (Some (Restore words)) = between_paths words
paths_of (Some (Emulate capture)) = emulation_paths capture
paths_of (Some (Categories words)) = between_paths words
paths_of (Some (LookAt look file)) = record no_paths { source = Some file }
paths_of _ = no_paths
