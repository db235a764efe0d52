-- What holds of a call that shows the packets in some bytes.
use Rattle.std.specs.Prelude.{◌≡◌, ◌⊎◌, ℕ, List}
use Rattle.hs_folders.specs.Causes.{Rose}
use Rattle.slp_frames.specs.PacketScan.{scan}
use Rattle.trace_text.specs.PacketLists.{ShowsPackets}
use Rattle.cmd_status.specs.Printed.{IsShown}
use Rattle.cmd_status.specs.Told.{SinkTold}
use Rattle.cmd_status.specs.declared.status.Status.{Status}
use Rattle.cmd_status.specs.declared.status.Status.TheVariants.{Done, OutWrite, NoMemory}

-- What is known of it: a line for each packet, and their number, unless standard output fails or
-- memory runs out.
pub record IsScanned (bytes : List ℕ) (out out_after err err_after : SinkTold) (status : Status)
    : Type 0 where
  pub ended : (status ≡ Done) ⊎ (status ≡ OutWrite) ⊎ (status ≡ NoMemory)
  pub printed : IsShown (ShowsPackets (scan bytes)) out out_after err err_after status
  pub complete : ¬ Rose out.faults out_after.faults → (status ≡ Done) ⊎ (status ≡ NoMemory)
