-- Why a call over a cable is refused before its session.
use Rattle.std.specs.Prelude.{◌≡◌, ◌⊎◌, Option}
use Rattle.hs_folders.specs.FileMaps.{FileMap}
use Rattle.run_words.specs.Cables.{Cable}
use Rattle.call_parts.specs.Refusals.{DesktopRefuses, HasDesktop, TraceRefuses}
use Rattle.cmd_status.specs.declared.status.Status.{Status}
use Rattle.cmd_status.specs.declared.status.Status.TheVariants.{PortFailed, NoMemory}

-- one of those that opening a port gives cause for
abbrev pub IsPortRefusal : Status → Type 0
IsPortRefusal refusal = (refusal ≡ PortFailed) ⊎ (refusal ≡ NoMemory)

-- the port is opened first, then the desktop's folder is judged, whose files are these, and last
-- the trace is opened
abbrev pub IsRefused : Cable → Option FileMap → Status → Type 0
IsRefused cable kept refusal =
    IsPortRefusal refusal
    ⊎ (DesktopRefuses kept refusal ⊎ (HasDesktop kept × TraceRefuses cable.trace refusal))
