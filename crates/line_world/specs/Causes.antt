-- Why a line is down, and what its link answers then.
use Rattle.std.specs.Prelude.{◌≡◌, ℕ, ◌+◌, ◌≤◌, ◌<◌, ⊤, List, [], ◌∷◌, ◌++◌, length, if◌then◌else◌, Option, Some, None, IsSome}
use Rattle.std.specs.List.{AllByRecursion}
use Rattle.dlp_commands.specs.declared.link.LinkFault.{LinkFault}
use Rattle.dlp_commands.specs.declared.link.LinkFault.TheVariants as link
use Rattle.line_steps.specs.declared.harm.Stop.TheVariants as stop
use Rattle.line_steps.specs.declared.sending.Halt.{Halt}
use Rattle.line_steps.specs.declared.sending.Halt.TheVariants as halt
use Rattle.trace_text.specs.declared.frame.End.{End}
use Rattle.trace_text.specs.Fates.{is_fault}
use Rattle.trace_text.specs.Frames.{past_of}
use Rattle.trace_text.specs.TraceLines.{FrameValue}
use Rattle.line_laws.specs.Framing.{CameByCursor}
use Rattle.line_steps.specs.Halting.{IsSpent}
use Rattle.line_world.specs.Stops.{AllRunOn, EndsBy, EndsInAbort}
use Rattle.line_world.specs.declared.down.Down.{Down}
use Rattle.line_world.specs.declared.down.Down.TheVariants as down
use Rattle.line_world.specs.declared.stop.Break.{Break}
use Rattle.line_world.specs.declared.stop.Break.TheVariants.{NoMemory, Line, Keeper}

-- why it is over with the line itself: where memory ran out elsewhere, or the folder failed, it is
-- at rest
abbrev pub halt_of : Break → Halt
halt_of NoMemory = halt.NoMemory
halt_of (Line halt) = halt
halt_of Keeper = halt.NoMemory

-- the end whose piece was sent ten times, where that is the cause
abbrev pub down_end : Option Down → Option End
down_end (Some (down.LineDown end frames)) = Some end
down_end _ = None

-- the cause of a run that ended so, behind so many frames; where memory ran out there is none
abbrev pub IsCauseOf : Break → ℕ → Option Down → Type 0
IsCauseOf NoMemory count cause = cause ≡ None
IsCauseOf (Line halt.NoMemory) count cause = cause ≡ None
IsCauseOf (Line (halt.Stopped stop.Unplugged)) count cause = cause ≡ Some (down.Unplugged count)
IsCauseOf (Line (halt.Stopped stop.Aborted)) count cause = cause ≡ Some (down.Aborted count)
IsCauseOf (Line (halt.Stopped stop.Undetected)) count cause = cause ≡ Some (down.Undetected count)
IsCauseOf (Line (halt.Down end)) count cause = down_end cause ≡ Some end
IsCauseOf Keeper count cause = cause ≡ Some down.Keeper

-- the folder's failure is told as that, and nothing else is
abbrev pub KeeperOnly : Break → Option Down → Type 0
KeeperOnly ended cause = cause ≡ Some down.Keeper → ended ≡ Keeper

-- what a link answers for a cause
abbrev pub link_fault : Option Down → LinkFault
link_fault None = link.NoMemory
link_fault (Some cause) = link.Down

-- a cause stands exactly where the link is down
abbrev pub IsCause : Option LinkFault → Option Down → Type 0
IsCause None cause = cause ≡ None
IsCause (Some link.Down) cause = IsSome cause
IsCause (Some link.NoMemory) cause = cause ≡ None

-- This end has spent its tries: its last ten data frames bear one key, no acknowledgement of it
-- behind the first of them came, and ten faults stand among the last frames, none of which ends the
-- run.
pub record SpentIn (end : End) (frames : List FrameValue) : Type 0 where
  pub cursor : End → ℕ
  pub came : CameByCursor 1 cursor frames
  pub spent : IsSpent end cursor (past_of frames)
  pub go : AllRunOn frames

-- the numbers of the frames that the line did harm, in order
abbrev pub faults_in : List FrameValue → List ℕ
faults_in [] = []
faults_in (frame ∷ later) =
    if is_fault frame.fate then frame.number ∷ faults_in later else faults_in later

-- where there are ten of them, these are the last ten
abbrev pub AreLastTen : List ℕ → List FrameValue → Type 0
AreLastTen numbers frames =
    10 ≤ length (faults_in frames) → (before : List ℕ) × (faults_in frames ≡ before ++ numbers)

-- what a cause names, where it names frames
abbrev pub NamesLast : Option Down → List FrameValue → Type 0
NamesLast (Some (down.LineDown end numbers)) frames =
    (length numbers ≡ 10) × AreLastTen numbers frames
NamesLast cause frames = ⊤

-- the last ten frames that the line did harm, all among the last 64
pub record AreTenFaults (numbers : List ℕ) (frames : List FrameValue) : Type 0 where
  pub before : List ℕ
  pub is : faults_in frames ≡ before ++ numbers
  pub ten : length numbers ≡ 10
  pub near : AllByRecursion (λ number. length frames < number + 64) numbers

-- The frames bear a cause out: where an end has spent its tries, or the folder failed, none of them
-- ends the run.
abbrev pub BearsOut : Option Down → List FrameValue → Type 0
BearsOut None frames = ⊤
BearsOut (Some (down.LineDown end numbers)) frames =
    SpentIn end frames × AreTenFaults numbers frames
BearsOut (Some (down.Unplugged number)) frames =
    (number ≡ length frames) × EndsBy stop.Unplugged frames
BearsOut (Some (down.Aborted number)) frames =
    (number ≡ length frames) × EndsBy stop.Aborted frames × EndsInAbort frames
BearsOut (Some (down.Undetected number)) frames =
    (number ≡ length frames) × EndsBy stop.Undetected frames
BearsOut (Some down.Keeper) frames = AllRunOn frames

-- why it is over with the line, by the cause and how many frames there are; where the folder
-- failed, or there is no cause, it is at rest
abbrev pub IsHaltOf : Option Down → ℕ → Halt → Type 0
IsHaltOf None count ended = ended ≡ halt.NoMemory
IsHaltOf (Some (down.LineDown end numbers)) count ended = ended ≡ halt.Down end
IsHaltOf (Some (down.Unplugged number)) count ended =
    (number ≡ count) × (ended ≡ halt.Stopped stop.Unplugged)
IsHaltOf (Some (down.Aborted number)) count ended =
    (number ≡ count) × (ended ≡ halt.Stopped stop.Aborted)
IsHaltOf (Some (down.Undetected number)) count ended =
    (number ≡ count) × (ended ≡ halt.Stopped stop.Undetected)
IsHaltOf (Some down.Keeper) count ended = ended ≡ halt.NoMemory
