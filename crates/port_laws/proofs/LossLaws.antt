-- What may happen by itself, one thing after the other, and what of it leads back.
use Rattle.std.proofs.Common.{List, [], ◌∷◌, ◌++◌, refl, sym, subst}
use Rattle.std.proofs.lemmas.List.{append-nil}
use Rattle.port_laws.specs.Palms.{AllMove, LosesBack, LosesToward, Moves, MovesOn, Palm}
use Rattle.slp_frames.specs.PacketText.{PacketValue}

-- nothing happens
pub moves-itself : (palm : Palm) → MovesOn palm palm
moves-itself palm = ([], refl)

-- one thing happens
pub moves-once : {old new : Palm} → Moves old new → MovesOn old new
moves-once {new} move = (new ∷ [], (move, refl))

-- and then other things
all_move-then : (a : Palm) (between : List Palm) (b : Palm) (more : List Palm) (c : Palm) → AllMove a between b → AllMove b more c
    → AllMove a (between ++ more) c
all_move-then a [] b more c first next = subst (λ (palm : Palm). AllMove palm more c) first next
all_move-then a (palm ∷ between) b more c first next = (first.0, all_move-then palm between b more c first.1 next)

pub moves-then : {a b c : Palm} → MovesOn a b → MovesOn b c → MovesOn a c
moves-then {a} {b} {c} first next = (first.0 ++ next.0, all_move-then a first.0 b next.0 c first.1 next.1)

-- the last packets that were said toward the handheld are lost
pub lost_toward : (palm : Palm) (packets : List PacketValue) → MovesOn (record palm { toward = palm.toward ++ packets }) palm
lost_toward palm [] = subst (λ (toward : List PacketValue). MovesOn (record palm { toward = toward }) palm) (sym (append-nil palm.toward)) (moves-itself palm)
lost_toward palm (packet ∷ packets) =
    let rest = lost_toward palm packets in
    let next : Palm = record palm { toward = palm.toward ++ packets } in (
      next ∷ rest.0,
      (LosesToward (palm.toward ++ packets) (record { before = palm.toward; packet = packet; after = packets; old_is = refl; new_is = refl }) refl, rest.1),
    )

-- and so are the last ones that it said
pub lost_back : (palm : Palm) (packets : List PacketValue) → MovesOn (record palm { back = palm.back ++ packets }) palm
lost_back palm [] = subst (λ (back : List PacketValue). MovesOn (record palm { back = back }) palm) (sym (append-nil palm.back)) (moves-itself palm)
lost_back palm (packet ∷ packets) =
    let rest = lost_back palm packets in
    let next : Palm = record palm { back = palm.back ++ packets } in (
      next ∷ rest.0,
      (LosesBack (palm.back ++ packets) (record { before = palm.back; packet = packet; after = packets; old_is = refl; new_is = refl }) refl, rest.1),
    )
