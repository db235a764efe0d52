-- How an end holds what it takes and what it sends.
use Rattle.std.specs.Prelude.{◌≡◌, ◌≤◌, ⊤, ℕ, List, [], ◌∷◌, length, Option}
use Rattle.padp_link.specs.declared.piece.Key.{Key}
use Rattle.padp_link.specs.FragmentText.{FragmentValue}
use Rattle.padp_link.specs.Receivers.{ReceiverValue}
use Rattle.padp_link.specs.Senders.{SenderValue}

-- the first piece announces a message that isn't too long
abbrev pub AnnouncesShort : List FragmentValue → Type 0
AnnouncesShort [] = ⊤
AnnouncesShort (first ∷ later) = first.size ≤ 65535

-- it knows the key of the last piece that its receiver took, its sender sends this message, and it
-- takes none that is too long
pub record HoldsMessage (receiver : ReceiverValue) (last : Option Key) (sender : SenderValue)
    (message : List ℕ) : Type 0 where
  pub last_is : last ≡ receiver.last
  pub length_is : sender.length ≡ length message
  pub short : AnnouncesShort receiver.pieces
