-- The memory that a line takes: only its log of frames grows.
use Rattle.std.specs.Prelude.{◌≡◌, ◌⊎◌, ◌+◌, ◌≤◌, ◌<◌, Result, IfErr, length}
use Rattle.trace_text.specs.FrameLogs.{FrameLogValue, KeepsRoom, byte_count}
use Rattle.line_steps.specs.declared.sending.Halt.{Halt}
use Rattle.line_steps.specs.declared.sending.Halt.TheVariants.{NoMemory}

-- The frames outgrow the room that the log had, or their bytes left less of it than one frame may
-- take: a packet, and as much noise.
abbrev pub Outgrows : FrameLogValue → FrameLogValue → Type 0
Outgrows old new =
    (old.room ≤ length new.items) ⊎ (old.byte_room < byte_count new.items + 2080)

-- The log keeps its room, and memory runs out only where it outgrows the room that it had.
abbrev pub WantsRoom : {A : Type 0} → Result A Halt → FrameLogValue → FrameLogValue → Type 0
WantsRoom result old new =
    KeepsRoom old new × IfErr result (λ halt. halt ≡ NoMemory → Outgrows old new)
