-- What a packet is for the end that it arrived at, by pilot-link's pi-slp.h and padp.c.
use Rattle.std.specs.Prelude.{◌≡◌, ℕ, List}
use Rattle.padp_link.specs.declared.fragment.PadpKind.{PadpKind}
use Rattle.padp_link.specs.declared.fragment.PadpKind.TheVariants as kind
use Rattle.padp_link.specs.declared.arrival.Arrived.{Arrived}
use Rattle.padp_link.specs.declared.arrival.Arrived.TheVariants.{Drop, Tickle, Stop, Ack, Data}
use Rattle.padp_link.specs.Numbers.{dlp_socket, padp_type}
use Rattle.padp_link.specs.FragmentText.{FragmentValue, FragmentText}
use Rattle.padp_link.specs.FragmentValues.{fragment_value}
use Rattle.padp_link.specs.Pieces.{key_of}

-- a packet bears this fragment: it goes to the socket of the desktop link protocol, it is of the
-- type of this protocol, and its body is the fragment's text
pub record Bears (dest type : ℕ) (body : List ℕ) (fragment : FragmentValue) : Type 0 where
  pub socket_is : dest ≡ dlp_socket
  pub type_is : type ≡ padp_type
  pub text : FragmentText fragment body

-- it bears one of this kind
abbrev pub BearsKind : ℕ → ℕ → List ℕ → PadpKind → Type 0
BearsKind dest type body of_kind =
    (fragment : FragmentValue) × Bears dest type body fragment × (fragment.kind ≡ of_kind)

-- what it is for an end; it is dropped exactly where it bears no fragment
abbrev pub HasArrived : ℕ → ℕ → ℕ → List ℕ → Arrived → Type 0
HasArrived dest type id body Drop = (fragment : FragmentValue) → ¬ (Bears dest type body fragment)
HasArrived dest type id body Tickle = BearsKind dest type body kind.Tickle
HasArrived dest type id body Stop = BearsKind dest type body kind.Abort
HasArrived dest type id body (Ack key) =
    (fragment : FragmentValue) × Bears dest type body fragment × (fragment.kind ≡ kind.Ack)
    × (key ≡ key_of id fragment)
HasArrived dest type id body (Data from fragment) =
    Bears dest type body (fragment_value fragment) × (fragment.kind ≡ kind.Data) × (from ≡ id)
