-- A handheld in its caller's memory: what the calls answer.
use Rattle.std.specs.Prelude.{◌≡◌, ◌⊎◌, ◌&&◌, MatchBool, ℕ, Bool, true, false, nat_le, List, length, take, ℤ, pos, negsuc, Option, None, Some, Result, Ok, Err, if◌then◌else◌}
use Rattle.device_state.specs.Calls.{Begins, GoesOn}
use Rattle.device_state.specs.Refusals.{RefusesState}
use Rattle.device_state.specs.declared.calls.Step.{Step}
use Rattle.device_state.specs.declared.fault.StateFault.{StateFault}
use Rattle.device_state.specs.declared.fault.StateFault.TheVariants.{Form, BadFiles, NoMemory}
use Rattle.device_stream.specs.declared.talk_end.TalkEnd.{TalkEnd}
use Rattle.device_stream.specs.declared.talk_end.TalkEnd.TheVariants.{Ended, Aborted, BadHello}
use Rattle.hotsync_c.specs.Rooms.{put_first}
use Rattle.hotsync_c.specs.declared.handheld.HsTold.{HsTold}

-- the number that C gets for a refusal: -2, -10 and -1
abbrev pub fault_answer : StateFault → ℤ
fault_answer Form = negsuc 1
fault_answer BadFiles = negsuc 9
fault_answer NoMemory = negsuc 0

-- how far a talk is: 0 where it goes on, 1 to 3 where it is over, 4 where the piece that waits had
-- its ten tries
abbrev pub phase_of : Option TalkEnd → Bool → ℕ
phase_of (Some Ended) spent = 1
phase_of (Some Aborted) spent = 2
phase_of (Some BadHello) spent = 3
phase_of None false = 0
phase_of None true = 4

-- the memory of a caller that a call may write
pub record Rooms : Type 0 where
  pub state : List ℕ
  pub said : List ℕ
  pub told : HsTold

-- such memory with this in it
abbrev pub rooms_of : List ℕ → List ℕ → HsTold → Rooms
rooms_of state said told = record { state = state; said = said; told = told }

-- both texts have room
abbrev pub have_room : List ℕ → List ℕ → Rooms → Bool
have_room state said rooms =
    nat_le (length state) (length rooms.state) && nat_le (length said) (length rooms.said)

-- Both texts stand at the front of their rooms, or where one has no room neither does. The answer
-- and what is told say how long they are, in either case.
pub record PutsStep (state said : List ℕ) (phase : ℕ) (old new : Rooms) (answer : ℤ) : Type 0 where
  pub answer_is : answer ≡ pos (length state)
  pub told_is : new.told ≡ record { said = length said; phase = phase }
  pub state_is : new.state
      ≡ (if have_room state said old then put_first state old.state else old.state)
  pub said_is : new.said
      ≡ (if have_room state said old then put_first said old.said else old.said)

-- a step of such a state, of what is said, and of a phase
abbrev pub Stepping : Type 1
Stepping = List ℕ → List ℕ → ℕ → Type 0

-- a call that puts such a step into the rooms, or refuses so and leaves them as they were
abbrev pub AnswersStep : Stepping → (StateFault → Type 0) → Rooms → Rooms → ℤ → Type 0
AnswersStep IsStep Refuses old new answer =
    ((state : List ℕ) × (said : List ℕ) × (phase : ℕ) × IsStep state said phase
    × PutsStep state said phase old new answer)
    ⊎ ((fault : StateFault) × Refuses fault × (answer ≡ fault_answer fault) × (new ≡ old))

-- a handheld with these files begins
abbrev pub IsFirstStep : List ℕ → Stepping
IsFirstStep files state said phase = Begins files state said × (phase ≡ 0)

-- a handheld goes on
abbrev pub IsNextStep : List ℕ → List ℕ → Stepping
IsNextStep before bytes state said phase =
    (over : Option TalkEnd) × (spent : Bool) × GoesOn before bytes state said over spent
    × (phase ≡ phase_of over spent)

-- why a handheld doesn't go on: its bytes are none, or as many as it should have aren't there
abbrev pub RefusesFirst : List ℕ → ℕ → StateFault → Type 0
RefusesFirst room count fault =
    MatchBool (nat_le count (length room)) (RefusesState (take count room) fault) (fault ≡ Form)

-- what is answered of the handheld at the front of a room
abbrev pub IsStepOf : List ℕ → ℕ → List ℕ → Result Step StateFault → Type 0
IsStepOf room count bytes (Ok step) =
    IsNextStep (take count room) bytes step.state.items step.said.items
    (phase_of step.over step.spent)
IsStepOf room count bytes (Err fault) = RefusesFirst room count fault
