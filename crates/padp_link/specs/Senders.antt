-- What contracts see of the end that sends.
use Rattle.std.specs.Prelude.{◌≡◌, ℕ, ◌+◌, ◌<◌, Option, slice_get}
use Rattle.std.specs.Option.{option_map}
use Rattle.padp_link.specs.declared.piece.Key.{Key}
use Rattle.padp_link.specs.declared.piece.Piece.{Piece}
use Rattle.padp_link.specs.Pieces.{piece_count, pieces}

-- a message, how many of its pieces are acknowledged, and how often the next one was sent
pub record SenderValue : Type 0 where
  pub id : ℕ
  pub length : ℕ
  pub acknowledged : ℕ
  pub tries : ℕ

-- the piece that waits: the one behind those that are acknowledged, if there is one
abbrev pub waiting : SenderValue → Option Piece
waiting sender = slice_get (pieces sender.id sender.length) sender.acknowledged

-- the key that its acknowledgement bears
abbrev pub waiting_key : SenderValue → Option Key
waiting_key sender = option_map (λ piece. piece.key) (waiting sender)

-- a piece waits
abbrev pub Waits : SenderValue → Type 0
Waits sender = sender.acknowledged < piece_count sender.length

-- the last piece waits
abbrev pub WaitsOnLast : SenderValue → Type 0
WaitsOnLast sender = sender.acknowledged + 1 ≡ piece_count sender.length
