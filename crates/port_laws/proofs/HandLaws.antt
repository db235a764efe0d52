-- A handheld takes a packet.
use Rattle.std.proofs.Common.{◌≡◌, ◌≤◌, ℕ, ◌+◌, Bool, true, false, List, [], ◌∷◌, ◌++◌, length, Option, Some, None, inl, inr, refl, subst, sym, ap, ◌∙◌, arith}
use Rattle.std.specs.Option.{unwrap_or}
use Rattle.std.proofs.lemmas.Bool.{cases_Bool, cond-false, cond-true}
use Rattle.std.proofs.lemmas.List.{append-nil, append_assoc, length-append, map-append}
use Rattle.port_laws.proofs.MomentLaws.{begins, expects, takes}
use Rattle.port_laws.specs.Cables.{Cable, Count, IsAhead, IsOver, Side, Parcel, packet_of, packets_in, packets_of, parcels}
use Rattle.port_laws.specs.Moments.{HeardRightly, StaysOn}
use Rattle.device_stream.specs.declared.talk_end.TalkEnd.{TalkEnd}
use Rattle.device_stream.specs.declared.talk_end.TalkEnd.TheVariants.{Aborted, BadHello, Ended}
use Rattle.device_stream.specs.Hands.{Hand, awaiting, greeted_by, heard_by, is_farewell, is_init, message_of, taken_by, with_delivery, with_end, with_reply}
use Rattle.device_stream.specs.Laws.{DidNothing}
use Rattle.device_stream.specs.Talks.{Takes}
use Rattle.dlp_commands.specs.DeviceSteps.{DeviceStep, MayGive, served}
use Rattle.padp_end.specs.Ends.{EndValue, end_begins, end_expects, end_takes}
use Rattle.padp_end.specs.Outgoings.{OutgoingFragment}
use Rattle.padp_end.specs.declared.heard.Heard.{Heard}
use Rattle.padp_end.specs.declared.heard.Heard.TheVariants as heard
use Rattle.padp_link.proofs.NeighbourLaws.{next_id_differs}
use Rattle.padp_link.specs.Neighbours.{session_id}
use Rattle.padp_link.specs.Pieces.{piece_count}
use Rattle.padp_link.specs.Senders.{SenderValue, waiting}
use Rattle.palm_device.specs.Devices.{Device}
use Rattle.slp_frames.specs.PacketText.{PacketValue}
use Rattle.port_laws.specs.Talking.{Asking, Greeting, IsAt, IsBefore, Resting, Stage, Waking, Woken, side}

-- ---- the packets of what is said

pub packets_in-parcels : (count : Count) (said : List OutgoingFragment) → packets_in (parcels count said) ≡ packets_of said
packets_in-parcels count [] = refl
packets_in-parcels count (first ∷ later) = ap (λ (ps : List PacketValue). packet_of first ∷ ps) (packets_in-parcels count later)

-- ---- what was heard

-- what the handheld did then
pub record Took (stage : Stage) (desk : Side) (there queue : List Parcel) (done : List OutgoingFragment × Hand) : Type 0 where
  pub count : Count
  pub more : List Parcel
  pub cable : Cable desk (side done.1.end count) there (queue ++ more)
  pub more_is : packets_in more ≡ packets_of done.0
  pub id_is : done.1.end.sender.id ≡ session_id (length done.1.performed)
  pub at : IsAt stage desk (side done.1.end count) done.1

-- what is known of it before
pub record Hearing (stage : Stage) (desk was next : Side) (old : Hand) (hears : Heard) (there queue : List Parcel) : Type 0 where
  pub cable : Cable desk next there queue
  pub right : HeardRightly desk was next hears
  pub stays : StaysOn desk was next
  pub id_is : was.end.sender.id ≡ session_id (length old.performed)
  pub at : IsAt stage desk was old

-- the hand with an end, and over so
abbrev pub closed : Hand → EndValue → Option TalkEnd → Hand
closed old end over = record {
  device = old.device;
  end = end;
  performed = old.performed;
  replies = old.replies;
  greeted = old.greeted;
  over = over;
}

did_still : (first old : Hand) (end : EndValue) (over : Option TalkEnd) → DidNothing first old → DidNothing first (closed old end over)
did_still first old end over did = record { device_is = did.device_is; performed_is = did.performed_is; replies_are = did.replies_are }

pub still_at : (stage : Stage) (desk was next : Side) (old : Hand) (over : Option TalkEnd) → StaysOn desk was next → IsAt stage desk was old
    → IsAt stage desk next (closed old next.end over)
still_at (Waking first) desk was next old over stays at =
    record { did = did_still first old next.end over at.did; greeted_is = at.greeted_is; begun = at.begun; over = stays.other at.over }
still_at (Woken first) desk was next old over stays at = record {
  waking = record {
    did = did_still first old next.end over at.waking.did;
    greeted_is = at.waking.greeted_is;
    begun = at.waking.begun;
    over = stays.other at.waking.over;
  };
  other = stays.over at.other;
}
still_at (Greeting first) desk was next old over stays at = record {
  did = did_still first old next.end over at.did;
  greets = elim at.greets [ inl fresh ↦ inl fresh | inr all ↦ inr (stays.other all) ];
  over = stays.over at.over;
}
still_at (Asking first request) desk was next old over stays (inl at) =
    inl (record { did = did_still first old next.end over at.did; over = stays.over at.over; message_is = at.message_is })
still_at (Asking first request) desk was next old over stays (inr at) = inr (record {
  step = subst (λ (m : List ℕ). DeviceStep first.device request m old.device) (sym stays.message) at.step;
  performed_is = at.performed_is;
  replies_are = subst (λ (m : List ℕ). old.replies ≡ first.replies ++ m ∷ []) (sym stays.message) at.replies_are;
  over = stays.other at.over;
})
still_at (Resting first) desk was next old over stays at =
    record { did = did_still first old next.end over at.did; over = stays.other at.over; other = stays.over at.other }

still : (stage : Stage) (desk was next : Side) (old : Hand) (hears : Heard) (there queue : List Parcel) (over : Option TalkEnd)
    → Hearing stage desk was next old hears there queue → Took stage desk there queue ([], closed old next.end over)
still stage desk was next old hears there queue over hearing = record {
  count = next.count;
  more = [];
  cable = subst (λ (q : List Parcel). Cable desk next there q) (sym (append-nil queue)) hearing.cable;
  more_is = refl;
  id_is = hearing.stays.id ∙ hearing.id_is;
  at = still_at stage desk was next old over hearing.stays hearing.at;
}

delivered : (stage : Stage) (desk was next : Side) (old : Hand) (hears : Heard) (there queue : List Parcel)
    → Hearing stage desk was next old hears there queue → Took stage desk there queue ([], with_delivery (with_end old next.end))
delivered stage desk was next old hears there queue hearing =
    let hand = with_end old next.end in
    let ends : Hand = record hand { over = Some Ended } in
    elim (cases_Bool (is_farewell next.end.message)) [
      | inl is ↦ subst (λ (h : Hand). Took stage desk there queue ([], h)) (sym (cond-true (is_farewell next.end.message) ends hand is))
          (still stage desk was next old hears there queue (Some Ended) hearing)
      | inr not ↦ subst (λ (h : Hand). Took stage desk there queue ([], h)) (sym (cond-false (is_farewell next.end.message) ends hand not))
          (still stage desk was next old hears there queue old.over hearing)
    ]

-- ---- a message

-- the first message greets it, and no request is performed
greets_at : (stage : Stage) (desk was next : Side) (old : Hand) → StaysOn desk was next → IsOver desk next → IsAhead desk was → IsAt stage desk was old → (id : ℕ)
    → IsAt stage desk (side (end_expects next.end id) next.count)
    (record { device = old.device; end = end_expects next.end id; performed = old.performed; replies = old.replies; greeted = true; over = old.over })
greets_at (Waking first) desk was next old stays over ahead at id = let none = at.begun in let e : ⊥ = omega (arith, none, ahead) in absurd e
greets_at (Woken first) desk was next old stays over ahead at id = let none = at.waking.begun in let e : ⊥ = omega (arith, none, ahead) in absurd e
greets_at (Resting first) desk was next old stays over ahead at id = let all = at.over.all in let e : ⊥ = omega (arith, all, ahead) in absurd e
greets_at (Greeting first) desk was next old stays over ahead at id = record {
  did = record { device_is = at.did.device_is; performed_is = at.did.performed_is; replies_are = at.did.replies_are };
  greets = inr (record { all = over.all; last = over.last });
  over = let o = stays.over at.over in record { all = o.all; last = o.last };
}
greets_at (Asking first request) desk was next old stays over ahead (inl at) id = inl (record {
  did = record { device_is = at.did.device_is; performed_is = at.did.performed_is; replies_are = at.did.replies_are };
  over = let o = stays.over at.over in record { all = o.all; last = o.last };
  message_is = at.message_is;
})
greets_at (Asking first request) desk was next old stays over ahead (inr at) id = let all = at.over.all in let e : ⊥ = omega (arith, all, ahead) in absurd e

greeted : (stage : Stage) (desk was next : Side) (old : Hand) (there queue : List Parcel) (message : List ℕ)
    → Hearing stage desk was next old heard.Message there queue → Took stage desk there queue ([], greeted_by (with_end old next.end) message)
greeted stage desk was next old there queue message hearing =
    let hand = with_end old next.end in
    let begins : Hand = record hand { end = end_expects hand.end (session_id 1); greeted = true } in
    let ends : Hand = record hand { over = Some BadHello } in
    elim (cases_Bool (is_init message)) [
      | inl is ↦ subst (λ (h : Hand). Took stage desk there queue ([], h)) (sym (cond-true (is_init message) begins ends is)) (record {
        count = next.count;
        more = [];
        cable = subst (λ (q : List Parcel). Cable desk (side begins.end next.count) there q) (sym (append-nil queue))
            (expects desk next there queue (session_id 1) hearing.cable (hearing.right.over refl));
        more_is = refl;
        id_is = hearing.stays.id ∙ hearing.id_is;
        at = greets_at stage desk was next old hearing.stays (hearing.right.over refl) (hearing.right.ahead refl) hearing.at (session_id 1);
      })
      | inr not ↦ subst (λ (h : Hand). Took stage desk there queue ([], h)) (sym (cond-false (is_init message) begins ends not))
          (still stage desk was next old heard.Message there queue (Some BadHello) hearing)
    ]

-- the end that says the reply
replied_end : (desk next : Side) (there queue : List Parcel) (reply : List ℕ) (number : ℕ) → Cable desk next there queue → IsOver desk next
    → Cable desk (side (awaiting next.end reply number) next.count) there queue × (waiting next.end.sender ≡ None → waiting (awaiting next.end reply number).sender ≡ None)
    × ((awaiting next.end reply number).sender ≡ next.end.sender)
replied_end desk next there queue reply number cable over =
    let later = end_expects next.end (session_id number) in
    elim (cases_Bool (is_farewell reply)) [
      | inl is ↦ subst (λ (e : EndValue). Cable desk (side e next.count) there queue × (waiting next.end.sender ≡ None → waiting e.sender ≡ None) × (e.sender ≡ next.end.sender))
          (sym (cond-true (is_farewell reply) next.end later is)) (cable, λ none. none, refl)
      | inr not ↦ subst (λ (e : EndValue). Cable desk (side e next.count) there queue × (waiting next.end.sender ≡ None → waiting e.sender ≡ None) × (e.sender ≡ next.end.sender))
          (sym (cond-false (is_farewell reply) next.end later not)) (expects desk next there queue (session_id number) cable over, λ none. none, refl)
    ]

-- a request is performed, and its reply begins
replies : (first : Hand) (request : List ℕ) (desk was next : Side) (old : Hand) (there queue : List Parcel) (free : ℕ)
    → Hearing (Asking first request) desk was next old heard.Message there queue → MayGive old.device (message_of next.end) free
    → IsBefore first request desk was old
    → length (served old.device free (message_of next.end)).0 ≤ 65535
    → Took (Asking first request) desk there queue
    (with_reply (with_end old next.end) (message_of next.end) (served old.device free (message_of next.end)))
replies first request desk was next old there queue free hearing may before short =
    let asked = message_of next.end in
    let reply = (served old.device free asked).0 in
    let number = length old.performed + 1 in
    let end = awaiting next.end reply (number + 1) in
    let ready = replied_end desk next there queue reply (number + 1) hearing.cable (hearing.right.over refl) in
    let over = hearing.right.over refl in
    let back = hearing.stays.over before.over in
    let last : piece_count end.sender.length ≤ end.sender.acknowledged + 1
    = subst (λ (s : SenderValue). piece_count s.length ≤ s.acknowledged + 1) (sym ready.2) back.last in
    let id_is : end.sender.id ≡ session_id (length old.performed) = ap (λ (s : SenderValue). s.id) ready.2 ∙ hearing.stays.id ∙ hearing.id_is in
    let began = begins desk (side end next.count) there queue (session_id number) reply ready.0
    (record { all = over.all; last = over.last }) (record { all = back.all; last = last }) (ready.1 (hearing.right.answered refl)) short
    (inr (λ same. next_id_differs (length old.performed) (sym id_is ∙ same))) in
    let heard_is : asked ≡ request = ap (λ (m : Option (List ℕ)). unwrap_or m []) (hearing.right.whole refl) ∙ before.message_is in
    let step : DeviceStep old.device asked reply (served old.device free asked).1 = record { free = free; may = may; is = refl } in
    record {
      count = began.next.count;
      more = parcels began.next.count (end_begins end (session_id number) reply).0;
      cable = subst (λ (e : EndValue). Cable desk (side e began.next.count) there (queue ++ parcels began.next.count (end_begins end (session_id number) reply).0))
          began.end_is began.cable;
      more_is = packets_in-parcels began.next.count (end_begins end (session_id number) reply).0;
      id_is = ap session_id (sym (length-append old.performed (asked ∷ [])));
      at = inr (record {
        step = subst (λ (d : Device). DeviceStep d request reply (served old.device free asked).1) before.did.device_is
            (subst (λ (m : List ℕ). DeviceStep old.device m reply (served old.device free asked).1) heard_is step);
        performed_is = ap (λ (l : List (List ℕ)). l ++ asked ∷ []) before.did.performed_is ∙ ap (λ (m : List ℕ). first.performed ++ m ∷ []) heard_is;
        replies_are = ap (λ (l : List (List ℕ)). l ++ reply ∷ []) before.did.replies_are;
        over = record { all = began.other.all; last = began.other.last };
      });
    }

-- ---- whatever was heard

heard_message : (stage : Stage) (desk was next : Side) (old : Hand) (there queue : List Parcel) (free : ℕ)
    → Hearing stage desk was next old heard.Message there queue → (old.greeted ≡ true → MayGive old.device (message_of next.end) free)
    → length (heard_by (with_end old next.end) free heard.Message).1.end.message ≤ 65535
    → Took stage desk there queue (heard_by (with_end old next.end) free heard.Message)
heard_message stage desk was next old there queue free hearing may short =
    let hand = with_end old next.end in
    let request = with_reply hand (message_of hand.end) (served hand.device free (message_of hand.end)) in
    let first : List OutgoingFragment × Hand = ([], greeted_by hand (message_of hand.end)) in
    elim (cases_Bool old.greeted) [
      | inl known ↦ subst (Took stage desk there queue) (sym (cond-true old.greeted request first known))
          (performs stage hearing.at known hearing (subst (λ (d : List OutgoingFragment × Hand). length d.1.end.message ≤ 65535)
          (cond-true old.greeted request first known) short))
      | inr fresh ↦ subst (Took stage desk there queue) (sym (cond-false old.greeted request first fresh))
          (greeted stage desk was next old there queue (message_of hand.end) hearing)
    ] where
      unlike : {b : Bool} → b ≡ true → b ≡ false → ⊥
      unlike known fresh = cc

      performs : (stage : Stage) → IsAt stage desk was old → old.greeted ≡ true → Hearing stage desk was next old heard.Message there queue
          → length (served old.device free (message_of next.end)).0 ≤ 65535
          → Took stage desk there queue (with_reply (with_end old next.end) (message_of next.end) (served old.device free (message_of next.end)))
      performs (Waking first) at known hearing fits = absurd (unlike known at.greeted_is)
      performs (Woken first) at known hearing fits = absurd (unlike known at.waking.greeted_is)
      performs (Resting first) at known hearing fits =
          let taken = at.over.all in let ahead = hearing.right.ahead refl in let e : ⊥ = omega (arith, taken, ahead) in absurd e
      performs (Greeting first) at known hearing fits = elim at.greets [
        | inl fresh ↦ absurd (unlike known fresh)
        | inr all ↦ (let taken = all.all in let ahead = hearing.right.ahead refl in let e : ⊥ = omega (arith, taken, ahead) in absurd e)
      ]
      performs (Asking first request) (inl before) known hearing fits =
          replies first request desk was next old there queue free hearing (may known) before fits
      performs (Asking first request) (inr behind) known hearing fits =
          let taken = behind.over.all in
          let ahead = hearing.right.ahead refl in
          let e : ⊥ = omega (arith, taken, ahead) in absurd e

after_heard : (stage : Stage) (desk was next : Side) (old : Hand) (there queue : List Parcel) (free : ℕ) (hears : Heard)
    → Hearing stage desk was next old hears there queue → (old.greeted ≡ true → hears ≡ heard.Message → MayGive old.device (message_of next.end) free)
    → length (heard_by (with_end old next.end) free hears).1.end.message ≤ 65535
    → Took stage desk there queue (heard_by (with_end old next.end) free hears)
after_heard stage desk was next old there queue free heard.Nothing hearing may short = still stage desk was next old heard.Nothing there queue old.over hearing
after_heard stage desk was next old there queue free heard.Tickle hearing may short = still stage desk was next old heard.Tickle there queue old.over hearing
after_heard stage desk was next old there queue free heard.Delivered hearing may short = delivered stage desk was next old heard.Delivered there queue hearing
after_heard stage desk was next old there queue free heard.Stop hearing may short =
    still stage desk was next old heard.Stop there queue (Some Aborted) hearing
after_heard stage desk was next old there queue free heard.Message hearing may short =
    heard_message stage desk was next old there queue free hearing (λ known. may known refl) short

-- ---- a packet

-- the handheld took the oldest packet
pub record HandTook (stage : Stage) (desk : Side) (there back : List Parcel) (said : List OutgoingFragment) (new : Hand) : Type 0 where
  pub count : Count
  pub more : List Parcel
  pub cable : Cable desk (side new.end count) there (back ++ more)
  pub more_is : packets_in more ≡ packets_of said
  pub id_is : new.end.sender.id ≡ session_id (length new.performed)
  pub at : IsAt stage desk (side new.end count) new

pub hand_takes : (stage : Stage) (desk : Side) (old : Hand) (count : Count) (first : Parcel) (there back : List Parcel) (said : List OutgoingFragment) (new : Hand)
    → Cable desk (side old.end count) (first ∷ there) back → old.end.sender.id ≡ session_id (length old.performed)
    → IsAt stage desk (side old.end count) old → Takes old first.packet said new → length new.end.message ≤ 65535 → HandTook stage desk there back said new
unfolding taken_by
hand_takes stage desk old count first there back said new cable id_is at taking short =
    let was = side old.end count in
    let answer = end_takes old.end first.packet in
    let took = takes desk was first there back cable in
    let queue = back ++ parcels took.next.count answer.said in
    let done = heard_by (with_end old answer.end) taking.free answer.heard in
    let hearing : Hearing stage desk was took.next old answer.heard there queue
    = record { cable = took.cable; right = took.heard; stays = took.stays; id_is = id_is; at = at } in
    let end_is = took.end_is in
    let last : done.1 ≡ new = ap (λ (d : List OutgoingFragment × Hand). d.1) taking.is in
    let after : Took stage desk there queue done
    = subst (λ (e : EndValue). Took stage desk there queue (heard_by (with_end old e) taking.free answer.heard)) end_is
    (after_heard stage desk was took.next old there queue taking.free answer.heard hearing
    (λ known message. subst (λ (e : EndValue). MayGive old.device (message_of e) taking.free) (sym end_is) (taking.may known message))
    (subst (λ (e : EndValue). length (heard_by (with_end old e) taking.free answer.heard).1.end.message ≤ 65535) (sym end_is)
    (subst (λ (h : Hand). length h.end.message ≤ 65535) (sym last) short))) in
    let said_is : answer.said ++ done.0 ≡ said = ap (λ (d : List OutgoingFragment × Hand). d.0) taking.is in
    let whole : HandTook stage desk there back (answer.said ++ done.0) done.1 = record {
      count = after.count;
      more = parcels took.next.count answer.said ++ after.more;
      cable = subst (λ (q : List Parcel). Cable desk (side done.1.end after.count) there q)
          (append_assoc back (parcels took.next.count answer.said) after.more) after.cable;
      more_is = map-append (λ (each : Parcel). each.packet) (parcels took.next.count answer.said) after.more
          ∙ ap (λ (ps : List PacketValue). ps ++ packets_in after.more) (packets_in-parcels took.next.count answer.said)
          ∙ ap (λ (ps : List PacketValue). packets_of answer.said ++ ps) after.more_is
          ∙ sym (map-append packet_of answer.said done.0);
      id_is = after.id_is;
      at = after.at;
    } in
    subst (λ (s : List OutgoingFragment). HandTook stage desk there back s new) said_is
    (subst (λ (h : Hand). HandTook stage desk there back (answer.said ++ done.0) h) last whole)
