-- A call over a cable, over the port, folder, file and standard output of the system.
use Rattle.std.specs.Prelude.{◌≡◌, ℕ, List, Option, None}
use Rattle.run_words.specs.Cables.{Cable, sync_of}
use Rattle.cmd_status.specs.Codes.{code_of}
use Rattle.cmd_status.specs.Told.{SinkTold}
use Rattle.cmd_status.specs.declared.status.Status.{Status}
use Rattle.port_run.specs.Syncs.{IsSyncCall}
use Rattle.port_run.specs.Told.{SyncTold}
use Rattle.port_run.specs.declared.synced.CableReport.{CableReport}

-- objects that tell nothing of what they give, take or hold, as those of the system
pub record AreUntold (before : SyncTold) (out : SinkTold) : Type 0 where
  pub given : before.port.given ≡ None
  pub taken : before.port.taken ≡ None
  pub desk : before.desk.contents ≡ None
  pub trace : before.trace.taken ≡ None
  pub printed : out.taken ≡ None

-- a call for this session, over such objects, ended with this exit status
pub record IsSystemSync (cable : Option Cable) (code : ℕ) : Type 0 where
  pub before : SyncTold
  pub after : SyncTold
  pub out : SinkTold
  pub out_after : SinkTold
  pub untold : AreUntold before out
  pub status : Status
  pub report : CableReport
  pub called : IsSyncCall cable before after out out_after status report
  pub code_is : code ≡ code_of status

-- The program ended with the exit status of such a call, for these words and the date now. Nothing
-- says which date the system tells.
pub record EndsSync (words : List (List ℕ)) (code : ℕ) : Type 0 where
  pub now : Option ℕ
  pub ended : IsSystemSync (sync_of now words) code
