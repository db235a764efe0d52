-- What a call answers that puts a text into a room.
use Rattle.std.specs.Prelude.{◌≡◌, ◌⊎◌, ◌+◌, ℕ, ℤ, negsuc, List}
use Rattle.pdb_files.specs.declared.fault.FileFault.{FileFault}
use Rattle.pdb_files.specs.declared.fault.FileFault.TheVariants.{NoMemory}
use Rattle.hotsync_c.specs.declared.refusal.Refusal.{Refusal}
use Rattle.hotsync_c.specs.declared.refusal.Refusal.TheVariants.{Memory, Form, BadLine, Absent, Nothing, BadRecord, Labels, Memos}
use Rattle.hotsync_c.specs.Rooms.{PutsIn}

-- the number that C gets for a refusal: -1, -2, -100 - N for line N, -3, and -11 to -14
abbrev pub answer_of : Refusal → ℤ
answer_of Memory = negsuc 0
answer_of Form = negsuc 1
answer_of (BadLine line) = negsuc (99 + line)
answer_of Absent = negsuc 2
answer_of Nothing = negsuc 10
answer_of (BadRecord index place) = negsuc 11
answer_of Labels = negsuc 12
answer_of Memos = negsuc 13

-- the refusal of a file
abbrev pub refusal_of : FileFault → Refusal
refusal_of NoMemory = Memory
refusal_of _ = Form

-- a call that puts such a text into the room, or refuses so and leaves the room as it was; a
-- refusal has this number
abbrev pub AnswersBy : {R : Type 0} → (R → ℤ) → (List ℕ → Type 0) → (R → Type 0) → List ℕ → List ℕ
    → ℤ → Type 0
AnswersBy {R} number IsText Refuses room room_after answer =
    ((text : List ℕ) × IsText text × PutsIn text room room_after answer)
    ⊎ ((refusal : R) × Refuses refusal × (answer ≡ number refusal) × (room_after ≡ room))

-- the same of the refusals above
abbrev pub Answers : (List ℕ → Type 0) → (Refusal → Type 0) → List ℕ → List ℕ → ℤ → Type 0
Answers = AnswersBy answer_of
