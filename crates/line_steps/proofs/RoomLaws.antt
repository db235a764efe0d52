-- The room of the log of frames, over steps one after the other.
use Rattle.line_steps.proofs.Names.{Result, Ok, Err, ◌≡◌, ap, inl, inr, arith, FrameLogValue, KeepsRoom}
use Rattle.line_steps.specs.Rooms.{Outgrows, WantsRoom}
use Rattle.line_steps.specs.declared.sending.Halt.{Halt}

pub keeps_more : {first second third : FrameLogValue} → KeepsRoom first second → KeepsRoom second third → KeepsRoom first third
keeps_more kept more = record { frames = omega (arith, kept.frames, more.frames); bytes = omega (arith, kept.bytes, more.bytes) }

outgrows_more : (first second third : FrameLogValue) → KeepsRoom first second → Outgrows second third → Outgrows first third
outgrows_more first second third kept (inl frames) = inl (omega (arith, kept.frames, frames))
outgrows_more first second third kept (inr bytes) = inr (omega (arith, kept.bytes, bytes))

-- other frames take no room
pub keeps_marked : (old new : FrameLogValue) → new ≡ record old { items = new.items } → KeepsRoom old new
keeps_marked old new is = record { frames = omega (arith, ap (λ v. v.room) is); bytes = omega (arith, ap (λ v. v.byte_room) is) }

-- a step behind others that kept the room
pub room_behind : {A : Type 0} (result : Result A Halt) (first second third : FrameLogValue) → KeepsRoom first second
    → WantsRoom result second third → WantsRoom result first third
room_behind (Ok done) first second third kept it = (keeps_more kept it.0, tt)
room_behind (Err halt) first second third kept it = (keeps_more kept it.0, λ is. outgrows_more first second third kept (it.1 is))
