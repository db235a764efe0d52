-- Whose turn it is.
use Rattle.line_steps.proofs.Names.{rules, ℕ, [], Some, End, Apart, Half, Wire, Holds, IsAllTaken}

pub apart_turned : {X Y : End} → Apart X Y → Apart Y X
apart_turned apart = search rules

pub settled_turned : {wire : Wire} {x y : Half} → IsAllTaken wire x y → IsAllTaken wire y x
settled_turned settled = search rules

pub holds_turned : {wire : Wire} {x y : Half} → Holds wire x y → Holds wire y x
holds_turned holds = search rules

pub settled_holds : {wire : Wire} {x y : Half} → IsAllTaken wire x y → Holds wire x y
settled_holds settled = search rules

-- an end that waits for a message of this transaction
abbrev pub expecting : Half → ℕ → Half
expecting half id = record half { receiver = record { awaited = Some id; pieces = []; last = half.receiver.last } }
