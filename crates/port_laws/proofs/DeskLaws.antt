-- A desktop's end over a handheld and a cable.
use Rattle.std.proofs.Common.{◌≡◌, ℕ, List, [], ◌∷◌, ◌++◌, length, inl, inr, refl, subst, sym, ap, ◌∙◌, arith}
use Rattle.std.proofs.lemmas.List.{append-nil, append_assoc}
use Rattle.port_laws.proofs.MomentLaws.{says_again, takes, turned}
use Rattle.port_laws.specs.Cables.{BearsFor, Cable, Side, Parcel, packets_of, parcels}
use Rattle.port_laws.specs.Moments.{HeardRightly, StaysOn}
use Rattle.device_stream.specs.Hands.{Hand}
use Rattle.padp_end.specs.Ends.{Answer, EndValue, end_takes, end_waits}
use Rattle.padp_end.specs.Outgoings.{OutgoingFragment, abort}
use Rattle.padp_link.specs.Neighbours.{session_id}
use Rattle.slp_frames.specs.Histories.{Continues}
use Rattle.slp_frames.specs.PacketScan.{scan}
use Rattle.slp_frames.specs.PacketText.{PacketValue}
use Rattle.port_laws.proofs.HandLaws.{packets_in-parcels}
use Rattle.port_laws.proofs.SayLaws.{abort-arrives}
use Rattle.port_laws.proofs.StepLaws.{more-from}
use Rattle.port_laws.proofs.MoveLaws.{joined, moves_on, head_of, oldest_of}
use Rattle.port_laws.specs.Palms.{Gives, Palm}
use Rattle.port_laws.specs.Talking.{Asking, DeskTook, Greeting, IsAt, Resting, Stage, Stands, Waking, Woken, side, with_said}

-- ---- the stage, as the desktop's end goes on

desk_at : (stage : Stage) (was next palm : Side) (hand : Hand) → StaysOn palm was next → IsAt stage was palm hand → IsAt stage next palm hand
desk_at (Waking first) was next palm hand stays at =
    let before = at.over.all in
    let none = at.begun in
    let over = stays.over at.over in
    let after = over.all in
    record { did = at.did; greeted_is = at.greeted_is; begun = omega (arith, before, none, after); over = over }
desk_at (Woken first) was next palm hand stays at =
    let before = at.waking.over.all in
    let none = at.waking.begun in
    let over = stays.over at.waking.over in
    let after = over.all in
    record {
      waking = record {
        did = at.waking.did;
        greeted_is = at.waking.greeted_is;
        begun = omega (arith, before, none, after);
        over = over;
      };
      other = stays.other at.other;
    }
desk_at (Greeting first) was next palm hand stays at = record {
  did = at.did;
  greets = elim at.greets [ inl fresh ↦ inl fresh | inr all ↦ inr (stays.over all) ];
  over = stays.other at.over;
}
desk_at (Asking first request) was next palm hand stays (inl at) =
    inl (record { did = at.did; over = stays.other at.over; message_is = stays.message ∙ at.message_is })
desk_at (Asking first request) was next palm hand stays (inr at) = inr (record {
  step = at.step;
  performed_is = at.performed_is;
  replies_are = at.replies_are;
  over = stays.over at.over;
})
desk_at (Resting first) was next palm hand stays at =
    record { did = at.did; over = stays.over at.over; other = stays.other at.other }

-- ---- what the reader holds

no_ends : {X : Type 0} (xs ys : List X) → xs ++ ys ≡ [] → xs ≡ []
no_ends [] ys is = refl
no_ends (x ∷ xs) ys is = absurd cc

-- bytes that can't be in a packet are dropped
pub desk_drops : (stage : Stage) (end : EndValue) (held now : List ℕ) (palm : Palm) → Stands stage end held palm → Continues held [] now
    → Stands stage end now palm
desk_drops stage end held now palm stands goes = record {
  desk = stands.desk;
  hand = stands.hand;
  there = stands.there;
  back = stands.back;
  came = stands.came;
  cable = stands.cable;
  there_is = stands.there_is;
  back_is = stands.back_is;
  held_is = λ more. sym (goes.scans more) ∙ stands.held_is more;
  part_open = stands.part_open;
  id_is = stands.id_is;
  at = stands.at;
}

-- bytes come
pub desk_reads : (stage : Stage) (end : EndValue) (held now bytes : List ℕ) (old new : Palm) → Stands stage end held old → scan held ≡ []
    → Gives bytes old new → Continues (held ++ bytes) [] now → Stands stage end now new
desk_reads stage end held now bytes old new before none gives goes =
    let stands = moves_on stage end held old gives.between before gives.moves in
    let none_came : stands.came ≡ [] = no_ends stands.came (scan (gives.between.part ++ []))
    (sym (stands.held_is []) ∙ ap scan (append-nil held) ∙ none) in
    let hand_is : gives.between.hand ≡ new.hand = sym gives.hand_is in
    record {
      desk = stands.desk;
      hand = stands.hand;
      there = stands.there;
      back = stands.back;
      came = gives.packets;
      cable = subst (λ (h : Hand). Cable (side end stands.desk) (side h.end stands.hand) stands.there stands.back) hand_is stands.cable;
      there_is = stands.there_is ∙ sym gives.toward_is;
      back_is = stands.back_is ∙ ap (λ (ps : List PacketValue). ps ++ gives.between.back) none_came ∙ gives.back_is;
      held_is = λ more. sym (goes.scans more) ∙ ap scan (append_assoc held bytes more) ∙ stands.held_is (bytes ++ more)
          ∙ ap (λ (ps : List PacketValue). ps ++ scan (gives.between.part ++ (bytes ++ more))) none_came
          ∙ ap scan (sym (append_assoc gives.between.part bytes more)) ∙ gives.continues.scans more;
      part_open = gives.part_open;
      id_is = subst (λ (h : Hand). h.end.sender.id ≡ session_id (length h.performed)) hand_is stands.id_is;
      at = subst (λ (h : Hand). IsAt stage (side end stands.desk) (side h.end stands.hand) h) hand_is stands.at;
    }

-- ---- a packet comes

-- the packets that came are this one and those behind it
came_is : (stage : Stage) (end : EndValue) (held now : List ℕ) (palm : Palm) (packet : PacketValue) → (stands : Stands stage end held palm)
    → Continues held (packet ∷ []) now → stands.came ≡ packet ∷ scan now
came_is stage end held now palm packet stands goes =
    let whole = sym (goes.scans []) ∙ stands.held_is [] in
    let part_open : scan (palm.part ++ []) ≡ [] = ap scan (append-nil palm.part) ∙ stands.part_open in
    sym (ap (λ (b : List ℕ). packet ∷ scan b) (sym (append-nil now)) ∙ whole ∙ ap (λ (ps : List PacketValue). stands.came ++ ps) part_open ∙ append-nil stands.came)

pub desk_takes : (stage : Stage) (end : EndValue) (held now : List ℕ) (palm : Palm) (packet : PacketValue) → Stands stage end held palm
    → Continues held (packet ∷ []) now → DeskTook stage end now palm packet
desk_takes stage end held now palm packet stands goes =
    let desk = side end stands.desk in
    let hand = side palm.hand.end stands.hand in
    let came = came_is stage end held now palm packet stands goes in
    let parts = oldest_of stands.back packet (scan now ++ palm.back) (stands.back_is ∙ ap (λ (ps : List PacketValue). ps ++ palm.back) came) in
    let took = takes hand desk parts.first parts.rest stands.there
    (subst (λ (q : List Parcel). Cable hand desk q stands.there) parts.is (turned desk hand stands.there stands.back stands.cable)) in
    let said = (end_takes end packet).said in
    let answer_is : end_takes end parts.first.packet ≡ end_takes end packet = ap (end_takes end) parts.first_is in
    let end_is : took.next.end ≡ (end_takes end packet).end = took.end_is ∙ ap (λ (a : Answer). a.end) answer_is in
    let said_is : (end_takes end parts.first.packet).said ≡ said = ap (λ (a : Answer). a.said) answer_is in
    let heard_is : (end_takes end parts.first.packet).heard ≡ (end_takes end packet).heard = ap (λ (a : Answer). a.heard) answer_is in
    let cable : Cable took.next hand (stands.there ++ parcels took.next.count said) parts.rest
    = turned hand took.next parts.rest (stands.there ++ parcels took.next.count said)
    (subst (λ (s : List OutgoingFragment). Cable hand took.next parts.rest (stands.there ++ parcels took.next.count s)) said_is took.cable) in
    let at = desk_at stage desk took.next hand palm.hand took.stays stands.at in
    let right : HeardRightly hand desk took.next (end_takes end packet).heard = subst (HeardRightly hand desk took.next) heard_is took.heard in
    record {
      before = stands.desk;
      hand = stands.hand;
      stands = record {
        desk = took.next.count;
        hand = stands.hand;
        there = stands.there ++ parcels took.next.count said;
        back = parts.rest;
        came = scan now;
        cable = subst (λ (e : EndValue). Cable (side e took.next.count) hand (stands.there ++ parcels took.next.count said) parts.rest) end_is cable;
        there_is = joined stands.there (parcels took.next.count said) palm.toward (packets_of said) stands.there_is (packets_in-parcels took.next.count said);
        back_is = parts.rest_is;
        held_is = λ more. (head_of (sym (goes.scans more) ∙ stands.held_is more ∙ ap (λ (ps : List PacketValue). ps ++ scan (palm.part ++ more)) came)).1;
        part_open = stands.part_open;
        id_is = stands.id_is;
        at = subst (λ (e : EndValue). IsAt stage (side e took.next.count) hand palm.hand) end_is at;
      };
      hand_is = refl;
      was = stands.at;
      right = subst (λ (e : EndValue). HeardRightly hand desk (side e took.next.count) (end_takes end packet).heard) end_is right;
      stays = subst (λ (e : EndValue). StaysOn hand desk (side e took.next.count)) end_is took.stays;
    }

-- ---- silence

pub desk_waits : (stage : Stage) (end : EndValue) (held : List ℕ) (palm : Palm) → Stands stage end held palm
    → Stands stage (end_waits end).1 held (with_said palm (end_waits end).0)
desk_waits stage end held palm stands =
    let desk = side end stands.desk in
    let hand = side palm.hand.end stands.hand in
    let again = says_again hand desk stands.back stands.there (turned desk hand stands.there stands.back stands.cable) in
    let said = (end_waits end).0 in
    let cable = turned hand again.next stands.back (stands.there ++ parcels again.next.count said) again.cable in
    let at = desk_at stage desk again.next hand palm.hand again.stays stands.at in
    record {
      desk = again.next.count;
      hand = stands.hand;
      there = stands.there ++ parcels again.next.count said;
      back = stands.back;
      came = stands.came;
      cable = subst (λ (e : EndValue). Cable (side e again.next.count) hand (stands.there ++ parcels again.next.count said) stands.back) again.end_is cable;
      there_is = joined stands.there (parcels again.next.count said) palm.toward (packets_of said) stands.there_is (packets_in-parcels again.next.count said);
      back_is = stands.back_is;
      held_is = stands.held_is;
      part_open = stands.part_open;
      id_is = stands.id_is;
      at = subst (λ (e : EndValue). IsAt stage (side e again.next.count) hand palm.hand) again.end_is at;
    }

-- ---- the end of the connection

pub desk_aborts : (stage : Stage) (end : EndValue) (held : List ℕ) (palm : Palm) (id : ℕ) → Stands stage end held palm
    → Stands stage end held (with_said palm (abort id ∷ []))
desk_aborts stage end held palm id stands =
    let desk = side end stands.desk in
    let hand = side palm.hand.end stands.hand in
    record {
      desk = stands.desk;
      hand = stands.hand;
      there = stands.there ++ parcels stands.desk (abort id ∷ []);
      back = stands.back;
      came = stands.came;
      cable = record {
        x_sends = stands.cable.x_sends;
        y_sends = stands.cable.y_sends;
        there_is = more-from hand desk stands.there (abort id) stands.cable.there_is (subst (BearsFor desk hand stands.desk) (sym (abort-arrives id)) tt);
        back_is = stands.cable.back_is;
        one = stands.cable.one;
      };
      there_is = joined stands.there (parcels stands.desk (abort id ∷ [])) palm.toward (packets_of (abort id ∷ [])) stands.there_is
          (packets_in-parcels stands.desk (abort id ∷ []));
      back_is = stands.back_is;
      held_is = stands.held_is;
      part_open = stands.part_open;
      id_is = stands.id_is;
      at = stands.at;
    }
