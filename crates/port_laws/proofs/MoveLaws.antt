-- What happens by itself behind a port leaves all as it stands.
use Rattle.std.proofs.Common.{◌≡◌, ℕ, List, [], ◌∷◌, ◌++◌, length, refl, subst, sym, ap, ◌∙◌}
use Rattle.std.proofs.lemmas.List.{append_assoc, map-append}
use Rattle.port_laws.proofs.MomentLaws.{loses, says_again, takes, turned}
use Rattle.port_laws.specs.Cables.{Cable, Parcel, packets_in, packets_of, parcels}
use Rattle.device_stream.specs.Hands.{with_end}
use Rattle.device_stream.specs.Talks.{Takes}
use Rattle.padp_end.specs.Ends.{EndValue, end_takes, end_waits}
use Rattle.padp_link.specs.Neighbours.{session_id}
use Rattle.slp_frames.specs.PacketText.{PacketValue}
use Rattle.port_laws.proofs.HandLaws.{hand_takes, packets_in-parcels, still_at}
use Rattle.port_laws.specs.Palms.{AllMove, HandStops, HandTakes, LosesBack, LosesOne, LosesToward, Moves, MovesOn, Palm, Repeats, Stops, TakesNext}
use Rattle.port_laws.specs.Palms.{with_repeat}
use Rattle.port_laws.specs.Talking.{IsAt, Stage, Stands, side}

-- ---- lists that are under way

-- a part of a mapped list is mapped of a part
pub record Parted (queue : List Parcel) (before after : List PacketValue) (packet : PacketValue) : Type 0 where
  pub front : List Parcel
  pub lost : Parcel
  pub behind : List Parcel
  pub is : queue ≡ front ++ lost ∷ behind
  pub front_is : packets_in front ≡ before
  pub lost_is : lost.packet ≡ packet
  pub behind_is : packets_in behind ≡ after

pub head_of : {X : Type 0} {x y : X} {xs ys : List X} → (x ∷ xs) ≡ (y ∷ ys) → (x ≡ y) × (xs ≡ ys)
head_of e = (cc, cc)

pub no_head : {X : Type 0} {y : X} {ys : List X} → [] ≡ (y ∷ ys) → ⊥
no_head e = cc

pub parted : (queue : List Parcel) (before after : List PacketValue) (packet : PacketValue) → packets_in queue ≡ before ++ packet ∷ after
    → Parted queue before after packet
parted [] [] after packet is = absurd (no_head is)
parted [] (p ∷ before) after packet is = absurd (no_head is)
parted (first ∷ queue) [] after packet is =
    let parts = head_of is in
    record { front = []; lost = first; behind = queue; is = refl; front_is = refl; lost_is = parts.0; behind_is = parts.1 }
parted (first ∷ queue) (p ∷ before) after packet is =
    let parts = head_of is in
    let later = parted queue before after packet parts.1 in
    record {
      front = first ∷ later.front;
      lost = later.lost;
      behind = later.behind;
      is = ap (λ (q : List Parcel). first ∷ q) later.is;
      front_is = ap (λ (ps : List PacketValue). first.packet ∷ ps) later.front_is ∙ ap (λ (q : PacketValue). q ∷ before) parts.0;
      lost_is = later.lost_is;
      behind_is = later.behind_is;
    }

pub joined : (front behind : List Parcel) (before after : List PacketValue) → packets_in front ≡ before → packets_in behind ≡ after
    → packets_in (front ++ behind) ≡ before ++ after
joined front behind before after front_is behind_is =
    map-append (λ (each : Parcel). each.packet) front behind ∙ ap (λ (ps : List PacketValue). ps ++ packets_in behind) front_is
    ∙ ap (λ (ps : List PacketValue). before ++ ps) behind_is

-- ---- a packet is lost

loses_toward : (stage : Stage) (end : EndValue) (held : List ℕ) (old : Palm) (toward : List PacketValue) → Stands stage end held old → LosesOne old.toward toward
    → Stands stage end held (record old { toward = toward })
loses_toward stage end held old toward stands loss =
    let parts = parted stands.there loss.before loss.after loss.packet (stands.there_is ∙ loss.old_is) in
    record {
      desk = stands.desk;
      hand = stands.hand;
      there = parts.front ++ parts.behind;
      back = stands.back;
      came = stands.came;
      cable = loses (side end stands.desk) (side old.hand.end stands.hand) parts.front parts.lost parts.behind stands.back
          (subst (λ (q : List Parcel). Cable (side end stands.desk) (side old.hand.end stands.hand) q stands.back) parts.is stands.cable);
      there_is = joined parts.front parts.behind loss.before loss.after parts.front_is parts.behind_is ∙ sym loss.new_is;
      back_is = stands.back_is;
      held_is = stands.held_is;
      part_open = stands.part_open;
      id_is = stands.id_is;
      at = stands.at;
    }

loses_back : (stage : Stage) (end : EndValue) (held : List ℕ) (old : Palm) (back : List PacketValue) → Stands stage end held old → LosesOne old.back back
    → Stands stage end held (record old { back = back })
loses_back stage end held old back stands loss =
    let desk = side end stands.desk in
    let hand = side old.hand.end stands.hand in
    let parts = parted stands.back (stands.came ++ loss.before) loss.after loss.packet
    (stands.back_is ∙ ap (λ (ps : List PacketValue). stands.came ++ ps) loss.old_is ∙ sym (append_assoc stands.came loss.before (loss.packet ∷ loss.after))) in
    record {
      desk = stands.desk;
      hand = stands.hand;
      there = stands.there;
      back = parts.front ++ parts.behind;
      came = stands.came;
      cable = turned hand desk (parts.front ++ parts.behind) stands.there (loses hand desk parts.front parts.lost parts.behind stands.there
          (subst (λ (q : List Parcel). Cable hand desk q stands.there) parts.is (turned desk hand stands.there stands.back stands.cable)));
      there_is = stands.there_is;
      back_is = joined parts.front parts.behind (stands.came ++ loss.before) loss.after parts.front_is parts.behind_is
          ∙ append_assoc stands.came loss.before loss.after ∙ ap (λ (ps : List PacketValue). stands.came ++ ps) (sym loss.new_is);
      held_is = stands.held_is;
      part_open = stands.part_open;
      id_is = stands.id_is;
      at = stands.at;
    }

-- ---- the handheld takes a packet

-- the oldest one
pub record Oldest (queue : List Parcel) (packet : PacketValue) (later : List PacketValue) : Type 0 where
  pub first : Parcel
  pub rest : List Parcel
  pub is : queue ≡ first ∷ rest
  pub first_is : first.packet ≡ packet
  pub rest_is : packets_in rest ≡ later

pub oldest_of : (queue : List Parcel) (packet : PacketValue) (later : List PacketValue) → packets_in queue ≡ packet ∷ later → Oldest queue packet later
oldest_of [] packet later is = absurd (no_head is)
oldest_of (first ∷ rest) packet later is =
    let parts = head_of is in
    record { first = first; rest = rest; is = refl; first_is = parts.0; rest_is = parts.1 }

takes_next : (stage : Stage) (end : EndValue) (held : List ℕ) (old new : Palm) → Stands stage end held old → HandTakes old new → Stands stage end held new
takes_next stage end held old new stands took =
    let desk = side end stands.desk in
    let hand = side old.hand.end stands.hand in
    let parts = oldest_of stands.there took.packet took.later (stands.there_is ∙ took.toward_is) in
    let done = hand_takes stage desk old.hand stands.hand parts.first parts.rest stands.back took.said took.hand
    (subst (λ (q : List Parcel). Cable desk hand q stands.back) parts.is stands.cable) stands.id_is stands.at
    (subst (λ (p : PacketValue). Takes old.hand p took.said took.hand) (sym parts.first_is) took.takes) took.short in
    subst (Stands stage end held) (sym took.new_is) (record {
      desk = stands.desk;
      hand = done.count;
      there = parts.rest;
      back = stands.back ++ done.more;
      came = stands.came;
      cable = done.cable;
      there_is = parts.rest_is;
      back_is = joined stands.back done.more (stands.came ++ old.back) (packets_of took.said) stands.back_is done.more_is
          ∙ append_assoc stands.came old.back (packets_of took.said);
      held_is = stands.held_is;
      part_open = stands.part_open;
      id_is = done.id_is;
      at = done.at;
    })

-- ---- the handheld breaks down

-- what is behind the packet that its end took
abbrev stopped : Palm → PacketValue → List PacketValue → Palm
stopped old packet later = record {
  hand = with_end old.hand (end_takes old.hand.end packet).end;
  toward = later;
  back = old.back ++ packets_of (end_takes old.hand.end packet).said;
  part = old.part;
}

stops : (stage : Stage) (end : EndValue) (held : List ℕ) (old new : Palm) → Stands stage end held old → HandStops old new → Stands stage end held new
stops stage end held old new stands stop =
    let desk = side end stands.desk in
    let hand = side old.hand.end stands.hand in
    let parts = oldest_of stands.there stop.packet stop.later (stands.there_is ∙ stop.toward_is) in
    let took = takes desk hand parts.first parts.rest stands.back
    (subst (λ (q : List Parcel). Cable desk hand q stands.back) parts.is stands.cable) in
    let answer = end_takes old.hand.end parts.first.packet in
    let queue = stands.back ++ parcels took.next.count answer.said in
    let at = still_at stage desk hand took.next old.hand old.hand.over took.stays stands.at in
    let whole : Stands stage end held (stopped old parts.first.packet stop.later) = record {
      desk = stands.desk;
      hand = took.next.count;
      there = parts.rest;
      back = queue;
      came = stands.came;
      cable = subst (λ (e : EndValue). Cable desk (side e took.next.count) parts.rest queue) took.end_is took.cable;
      there_is = parts.rest_is;
      back_is = joined stands.back (parcels took.next.count answer.said) (stands.came ++ old.back) (packets_of answer.said) stands.back_is
          (packets_in-parcels took.next.count answer.said)
          ∙ append_assoc stands.came old.back (packets_of answer.said);
      held_is = stands.held_is;
      part_open = stands.part_open;
      id_is = subst (λ (e : EndValue). e.sender.id ≡ session_id (length old.hand.performed)) took.end_is (took.stays.id ∙ stands.id_is);
      at = subst (λ (e : EndValue). IsAt stage desk (side e took.next.count) (with_end old.hand e)) took.end_is at;
    } in
    subst (Stands stage end held) (sym stop.new_is)
    (subst (λ (p : PacketValue). Stands stage end held (stopped old p stop.later)) parts.first_is whole)

-- ---- the handheld says a piece again

repeats : (stage : Stage) (end : EndValue) (held : List ℕ) (old : Palm) → Stands stage end held old → Stands stage end held (with_repeat old)
repeats stage end held old stands =
    let desk = side end stands.desk in
    let hand = side old.hand.end stands.hand in
    let again = says_again desk hand stands.there stands.back stands.cable in
    let said = (end_waits old.hand.end).0 in
    let at = still_at stage desk hand again.next old.hand old.hand.over again.stays stands.at in
    record {
      desk = stands.desk;
      hand = again.next.count;
      there = stands.there;
      back = stands.back ++ parcels again.next.count said;
      came = stands.came;
      cable = subst (λ (e : EndValue). Cable desk (side e again.next.count) stands.there (stands.back ++ parcels again.next.count said)) again.end_is again.cable;
      there_is = stands.there_is;
      back_is = joined stands.back (parcels again.next.count said) (stands.came ++ old.back) (packets_of said) stands.back_is
          (packets_in-parcels again.next.count said)
          ∙ append_assoc stands.came old.back (packets_of said);
      held_is = stands.held_is;
      part_open = stands.part_open;
      id_is = subst (λ (e : EndValue). e.sender.id ≡ session_id (length old.hand.performed)) again.end_is (again.stays.id ∙ stands.id_is);
      at = subst (λ (e : EndValue). IsAt stage desk (side e again.next.count) (with_end old.hand e)) again.end_is at;
    }

-- ---- any number of times

moves : (stage : Stage) (end : EndValue) (held : List ℕ) (old new : Palm) → Stands stage end held old → Moves old new → Stands stage end held new
moves stage end held old new stands (LosesToward toward loss is) =
    subst (Stands stage end held) (sym is) (loses_toward stage end held old toward stands loss)
moves stage end held old new stands (LosesBack back loss is) = subst (Stands stage end held) (sym is) (loses_back stage end held old back stands loss)
moves stage end held old new stands (TakesNext took) = takes_next stage end held old new stands took
moves stage end held old new stands (Stops stop) = stops stage end held old new stands stop
moves stage end held old new stands (Repeats is) = subst (Stands stage end held) (sym is) (repeats stage end held old stands)

all_move : (stage : Stage) (end : EndValue) (held : List ℕ) (old : Palm) (between : List Palm) (new : Palm) → Stands stage end held old
    → AllMove old between new → Stands stage end held new
all_move stage end held old [] new stands all = subst (Stands stage end held) (sym all) stands
all_move stage end held old (next ∷ later) new stands all = all_move stage end held next later new (moves stage end held old next stands all.0) all.1

pub moves_on : (stage : Stage) (end : EndValue) (held : List ℕ) (old new : Palm) → Stands stage end held old → MovesOn old new → Stands stage end held new
moves_on stage end held old new stands all = all_move stage end held old all.0 new stands all.1
