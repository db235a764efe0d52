-- A link and the handheld behind its port, where it is told: what holds of both between two calls,
-- and what the link tells of its talk.
use Rattle.std.specs.Prelude.{◌≡◌, ◌-◌, ℕ, Bool, true, false, List, [], length, take, nat_eq, Option, Some, None, if◌then◌else◌}
use Rattle.std.specs.Option.{option_map}
use Rattle.dlp_commands.specs.DeviceRuns.{Exchange, exchanged}
use Rattle.dlp_commands.specs.Talks.{Talk}
use Rattle.padp_end.specs.Ends.{EndValue, first_end}
use Rattle.padp_link.specs.Neighbours.{session_id}
use Rattle.padp_link.specs.Senders.{waiting}
use Rattle.device_stream.specs.Hands.{Hand}
use Rattle.port_laws.specs.Palms.{IsOurs, Palm, is_first}
use Rattle.port_laws.specs.Talking.{Resting, Stands}
use Rattle.port_link.specs.Calls.{LinkValue}
use Rattle.port_link.specs.declared.port_cause.PortCause.{PortCause}

-- before its first call nothing was said
pub record IsUnsaid (end : EndValue) (held : List ℕ) (id : ℕ) (palm : Palm) : Type 0 where
  pub first : is_first palm ≡ true
  pub ours : IsOurs palm.hand
  pub end_is : end ≡ first_end
  pub held_is : held ≡ []
  pub id_is : id ≡ 255

-- between two requests all was taken that was said, and each request has the next transaction
pub record IsStill (end : EndValue) (held : List ℕ) (id : ℕ) (palm : Palm) : Type 0 where
  pub ours : IsOurs palm.hand
  pub stands : Stands (Resting palm.hand) end held palm
  pub quiet : waiting end.sender ≡ None
  pub sender_is : end.sender.id ≡ id
  pub id_is : id ≡ session_id (length palm.hand.performed)
  pub even : length palm.hand.replies ≡ length palm.hand.performed

abbrev pub IsBegun : Bool → EndValue → List ℕ → ℕ → Palm → Type 0
IsBegun false end held id palm = IsUnsaid end held id palm
IsBegun true end held id palm = IsStill end held id palm

-- so it is while the link answers, where a handheld is told
abbrev pub IsStanding : Option PortCause → Bool → EndValue → List ℕ → ℕ → Option Palm → Type 0
IsStanding (Some cause) begun end held id told = Unit {0}
IsStanding None begun end held id None = Unit {0}
IsStanding None begun end held id (Some palm) = IsBegun begun end held id palm

-- ---- the talk

-- each request that was performed with its reply
abbrev pub exchanges_of : Hand → List Exchange
exchanges_of hand = exchanged hand.performed hand.replies

-- all but the last
abbrev pub but_last : List Exchange → List Exchange
but_last exchanges = take (length exchanges - 1) exchanges

-- those that were answered where one request was left, under this transaction: the last one that
-- was performed is that one, where it bears it
abbrev pub answered_but : ℕ → Hand → List Exchange
answered_but id hand =
    if nat_eq hand.end.sender.id id then but_last (exchanges_of hand) else exchanges_of hand

abbrev pub talk_at : Option PortCause → Bool → ℕ → EndValue → Palm → Talk
talk_at (Some cause) true id end palm = record {
  device = palm.hand.device;
  exchanges = answered_but id palm.hand;
  left = Some end.message;
}
talk_at (Some cause) false id end palm =
    record { device = palm.hand.device; exchanges = exchanges_of palm.hand; left = None }
talk_at None begun id end palm =
    record { device = palm.hand.device; exchanges = exchanges_of palm.hand; left = None }

-- what a link tells
abbrev pub talk_of : LinkValue → Option Talk
talk_of link =
    option_map (talk_at link.cause link.begun link.id link.scene.desk.end) link.scene.palm
