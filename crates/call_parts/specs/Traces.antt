-- The trace of a session.
use Rattle.std.specs.Prelude.{◌≡◌, ◌≢◌, ◌≤◌, ℕ, List, [], ◌++◌, Option, None}
use Rattle.std.specs.Option.{option_map}
use Rattle.hs_folders.specs.Appends.{AppendsPrefix}
use Rattle.hs_folders.specs.Causes.{Rose}
use Rattle.trace_text.specs.TraceLines.{trace_text}
use Rattle.call_parts.specs.Causes.{IsTracedStatus}
use Rattle.call_parts.specs.LineRuns.{frames_in}
use Rattle.cmd_status.specs.Told.{SinkTold}
use Rattle.call_parts.specs.declared.report.Report.{Report}
use Rattle.cmd_status.specs.declared.status.Status.{Status}
use Rattle.cmd_status.specs.declared.status.Status.TheVariants.{Done, TraceWrite, NoMemory}

-- What a trace took: the text, wherever the run is told as done, and else unless the trace failed
-- or memory ran out; or else a first part of it. Where none is named it took nothing of it.
pub record TakesTrace (path : Option (List ℕ)) (text : List ℕ) (before after : SinkTold)
    (status : Status) : Type 0 where
  pub part : AppendsPrefix before.taken after.taken text
  pub done : path ≢ None → status ≡ Done
      → after.taken ≡ option_map (λ taken. taken ++ text) before.taken
  pub whole : path ≢ None → ¬ Rose before.faults after.faults → status ≢ NoMemory
      → after.taken ≡ option_map (λ taken. taken ++ text) before.taken

-- what is known of a status once the trace was to be written
pub record StandsTraced (before after : SinkTold) (status traced : Status) : Type 0 where
  pub status_is : IsTracedStatus status traced
  pub failed : traced ≡ TraceWrite → Rose before.faults after.faults
  pub paths : after.paths ≡ before.paths
  pub later : before.faults ≤ after.faults

-- a text was to be written
pub record TracesText (text : List ℕ) (before after : SinkTold) (status traced : Status)
    : Type 0 where
  pub stands : StandsTraced before after status traced
  pub part : AppendsPrefix before.taken after.taken text
  pub done : traced ≡ Done → after.taken ≡ option_map (λ taken. taken ++ text) before.taken
  pub whole : ¬ Rose before.faults after.faults → traced ≢ NoMemory
      → after.taken ≡ option_map (λ taken. taken ++ text) before.taken

-- likewise where a path is named
pub record TracesFrames (path : Option (List ℕ)) (text : List ℕ) (before after : SinkTold)
    (status traced : Status) : Type 0 where
  pub stands : StandsTraced before after status traced
  pub traced_is : TakesTrace path text before after traced

-- The trace of a run, by the frames of its report. It is blamed only where its count rose.
pub record TracesReport (path : Option (List ℕ)) (report : Report) (before after : SinkTold)
    (status : Status) : Type 0 where
  pub traced : TakesTrace path (trace_text (frames_in report)) before after status
  pub silent : report.frames.items ≡ [] → after.taken ≡ before.taken
  pub failed : status ≡ TraceWrite → Rose before.faults after.faults
  pub paths : after.paths ≡ before.paths
