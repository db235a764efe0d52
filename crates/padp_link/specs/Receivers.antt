-- What contracts see of the end that receives, and what it answers to a data fragment.
use Rattle.std.specs.Prelude.{◌≡◌, ℕ, ◌+◌, ◌-◌, Bool, true, false, not, ◌&&◌, nat_eq, nat_le, List, [], ◌∷◌, ◌++◌, length, replicate, Option, Some, None}
use Rattle.std.specs.Prelude.{if◌then◌else◌}
use Rattle.std.specs.List.{flat_map}
use Rattle.std.specs.Bool.{beq}
use Rattle.padp_link.specs.Numbers.{first_flag, last_flag}
use Rattle.padp_link.specs.declared.piece.Key.{Key}
use Rattle.padp_link.specs.declared.receiver.Taken.{Taken}
use Rattle.padp_link.specs.declared.receiver.Taken.TheVariants.{Accepted, Whole, Repeated, Dropped}
use Rattle.padp_link.specs.FragmentText.{FragmentValue, has_flag}
use Rattle.padp_link.specs.Pieces.{fragments, key_of, piece_count, piece_of}

-- the transaction whose message it waits for, the pieces of it that it took, and the key of the
-- last piece that it ever took
pub record ReceiverValue : Type 0 where
  pub awaited : Option ℕ
  pub pieces : List FragmentValue
  pub last : Option Key

-- the bytes of pieces, one after the other
abbrev pub bytes_of : List FragmentValue → List ℕ
bytes_of pieces = flat_map (λ piece. piece.bytes) pieces

-- the pieces are a whole message: they have as many bytes as the first one announces
abbrev pub is_complete : List FragmentValue → Bool
is_complete [] = false
is_complete (first ∷ later) = nat_eq (length (bytes_of (first ∷ later))) first.size

-- the message, where it is whole
abbrev pub whole_of : List FragmentValue → Option (List ℕ)
whole_of pieces = if is_complete pieces then Some (bytes_of pieces) else None

-- a later piece goes on where so many bytes of a message of this length were taken: it isn't a
-- first one, it stands at that
-- place, doesn't pass the end of the message, and is the last one exactly where it reaches that end
abbrev pub goes_on : ℕ → ℕ → FragmentValue → Bool
goes_on size taken fragment =
    not (has_flag first_flag fragment.flags) && nat_eq fragment.size taken
    && nat_le (taken + length fragment.bytes) size && beq
    (has_flag last_flag fragment.flags) (nat_eq (taken + length fragment.bytes) size)

-- the fragment is the next piece: the first one of the message, or the one that goes on behind
-- those that were taken
abbrev pub is_next_piece : List FragmentValue → FragmentValue → Bool
is_next_piece [] fragment = has_flag first_flag fragment.flags
is_next_piece (first ∷ later) fragment =
    goes_on first.size (length (bytes_of (first ∷ later))) fragment

-- this transaction is awaited
abbrev pub is_awaited : Option ℕ → ℕ → Bool
is_awaited None id = false
is_awaited (Some awaited) id = nat_eq awaited id

-- a data fragment in a packet of this transaction is the next one
abbrev pub is_next : ReceiverValue → ℕ → FragmentValue → Bool
is_next receiver id fragment =
    is_awaited receiver.awaited id && is_next_piece receiver.pieces fragment

-- the answer: a fragment with the key of the last piece is a repeat; of the others the next one is
-- taken, and is the whole
-- message with those before it or isn't; all else is dropped
abbrev pub Answers : ReceiverValue → ℕ → FragmentValue → Taken → Type 0
Answers receiver id fragment Repeated = receiver.last ≡ Some (key_of id fragment)
Answers receiver id fragment Accepted =
    ¬ (receiver.last ≡ Some (key_of id fragment)) × (is_next receiver id fragment ≡ true)
    × (is_complete (receiver.pieces ++ fragment ∷ []) ≡ false)
Answers receiver id fragment Whole =
    ¬ (receiver.last ≡ Some (key_of id fragment)) × (is_next receiver id fragment ≡ true)
    × (is_complete (receiver.pieces ++ fragment ∷ []) ≡ true)
Answers receiver id fragment Dropped =
    ¬ (receiver.last ≡ Some (key_of id fragment)) × (is_next receiver id fragment ≡ false)

-- the receiver after it took the next piece
abbrev pub with_piece : ReceiverValue → ℕ → FragmentValue → ReceiverValue
with_piece receiver id fragment =
    record {
      awaited = receiver.awaited;
      pieces = receiver.pieces ++ fragment ∷ [];
      last = Some (key_of id fragment);
    }

-- the receiver after an answer: a repeat and what is dropped change nothing
abbrev pub after_answer : ReceiverValue → ℕ → FragmentValue → Taken → ReceiverValue
after_answer receiver id fragment Repeated = receiver
after_answer receiver id fragment Accepted = with_piece receiver id fragment
after_answer receiver id fragment Whole = with_piece receiver id fragment
after_answer receiver id fragment Dropped = receiver

-- the receiver gives these answers to these fragments one after the other, all in packets of one
-- transaction, and ends so
abbrev pub AnswersAll : ReceiverValue → ℕ → List FragmentValue → List Taken → ReceiverValue → Type 0
AnswersAll receiver id [] [] end = receiver ≡ end
AnswersAll receiver id [] (answer ∷ answers) end = ⊥
AnswersAll receiver id (fragment ∷ fragments) [] end = ⊥
AnswersAll receiver id (fragment ∷ fragments) (answer ∷ answers) end =
    Answers receiver id fragment answer
    × AnswersAll (after_answer receiver id fragment answer) id fragments answers end

-- the answers to so many pieces of a message: the last one makes it whole
abbrev pub answers_to_all : ℕ → List Taken
answers_to_all count = replicate (count - 1) Accepted ++ Whole ∷ []

-- where the receiver gave these answers to all pieces of a message and ended so, it took each,
-- has them, and has the message
abbrev pub GetsMessage : ReceiverValue → ℕ → List ℕ → List Taken → ReceiverValue → Type 0
GetsMessage receiver id message answers end =
    AnswersAll receiver id (fragments id message) answers end
    → (answers ≡ answers_to_all (piece_count (length message)))
    × (end.pieces ≡ fragments id message) × (whole_of end.pieces ≡ Some message)

-- this follows where the receiver awaits the message and took no piece of it, nor one with the key
-- of its first piece before
abbrev pub WhereAwaited : ReceiverValue → ℕ → List ℕ → Type 0 → Type 0
WhereAwaited receiver id message Fact =
    receiver.awaited ≡ Some id → receiver.pieces ≡ []
    → ¬ (receiver.last ≡ Some ((piece_of id (length message) 0).key)) → Fact
