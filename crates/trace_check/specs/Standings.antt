-- Where an end stands in its messages, and the parts that it may say there.
use Rattle.std.specs.Prelude.{◌≡◌, ℕ, zero, suc, ◌+◌, ◌-◌, List, [], ◌∷◌, length}
use Rattle.cmp_hello.specs.declared.hello.HelloKind.{HelloKind}
use Rattle.padp_link.specs.declared.piece.Key.{Key}
use Rattle.padp_link.specs.Neighbours.{session_id}
use Rattle.padp_link.specs.Pieces.{piece_count, piece_of}
use Rattle.trace_text.specs.Parts.{Part}
use Rattle.trace_check.specs.Messages.{parts_behind, IsGreeting}
use Rattle.trace_check.specs.declared.standing.Standing.{Standing}

-- the part with this key and these bytes
abbrev pub part_with : Key → List ℕ → Part
part_with key bytes = record { key = key; bytes = bytes }

-- at first
abbrev pub start : Standing
start = record { begun = 0; size = 0; wanted = 0 }

-- the part is the piece of this number of a message of this size under this id, by its key and how
-- many bytes it has
pub record IsPiece (id size number : ℕ) (part : Part) : Type 0 where
  pub key_is : part.key ≡ (piece_of id size number).key
  pub count : length part.bytes ≡ (piece_of id size number).length

-- the part goes on where an end stands that wants so many parts: it begins the next message, or is
-- the next piece of the last one
abbrev pub GoesOnBy : ℕ → Standing → Part → Type 0
GoesOnBy zero old part = IsPiece (session_id old.begun) part.key.size 0 part
GoesOnBy (suc wanted) old part =
    IsPiece (session_id (old.begun - 1)) old.size (piece_count old.size - suc wanted) part

-- what the part must be so that the first message, where it ends with the part, is a greeting of
-- this kind
abbrev pub GreetsBy : HelloKind → ℕ → ℕ → Part → Type 0
GreetsBy kind zero wanted part = parts_behind part ≡ 0 → IsGreeting kind part.bytes
GreetsBy kind (suc zero) zero part = Unit {0}
GreetsBy kind (suc zero) (suc zero) part = ⊥
GreetsBy kind (suc zero) (suc (suc wanted)) part = Unit {0}
GreetsBy kind (suc (suc begun)) wanted part = Unit {0}

-- the part may be said where the end stands
pub record MaySay (kind : HelloKind) (old : Standing) (part : Part) : Type 0 where
  pub goes_on : GoesOnBy old.wanted old part
  pub greets : GreetsBy kind old.begun old.wanted part

-- where the end stands behind the part
abbrev pub next_by : ℕ → Standing → Part → Standing
next_by zero old part = record {
  begun = old.begun + 1;
  size = part.key.size;
  wanted = parts_behind part;
}
next_by (suc wanted) old part = record { begun = old.begun; size = old.size; wanted = wanted }

abbrev pub next : Standing → Part → Standing
next old part = next_by old.wanted old part

-- where it stands behind these parts
abbrev pub standing_behind : Standing → List Part → Standing
standing_behind old [] = old
standing_behind old (part ∷ later) = standing_behind (next old part) later

-- these parts may be said one after the other
abbrev pub MaySayAll : HelloKind → Standing → List Part → Type 0
MaySayAll kind old [] = Unit {0}
MaySayAll kind old (part ∷ later) = MaySay kind old part × MaySayAll kind (next old part) later

-- how many whole messages it said that stands here
abbrev pub wholes_by : ℕ → ℕ → ℕ
wholes_by zero begun = begun
wholes_by (suc wanted) begun = begun - 1

abbrev pub wholes_at : Standing → ℕ
wholes_at standing = wholes_by standing.wanted standing.begun
