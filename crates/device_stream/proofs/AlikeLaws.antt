-- Hands that are alike say the same, and a talk has one form of parts.
use Rattle.std.proofs.Common.{◌≡◌, ℕ, suc, ◌+◌, ◌%◌, Bool, true, false, List, [], ◌∷◌, ◌++◌, length, nat_lt, refl, sym, ap, subst, ◌∙◌, Some, arith}
use Rattle.std.proofs.Common.{if◌then◌else◌}
use Rattle.std.proofs.lemmas.Bool.{and_parts, ltb-true}
use Rattle.std.proofs.lemmas.List.{length-append, length-replicate}
use Rattle.padp_end.proofs.PartLaws.{end_of-same}
use Rattle.padp_end.specs.Ends.{EndValue, end_begins, end_expects, end_takes}
use Rattle.padp_end.specs.Outgoings.{OutgoingFragment}
use Rattle.padp_end.specs.Parts.{are_end_parts}
use Rattle.padp_end.specs.declared.heard.Heard.{Heard}
use Rattle.padp_end.specs.declared.heard.Heard.TheVariants as heard
use Rattle.padp_link.specs.Neighbours.{session_id}
use Rattle.palm_device.specs.Devices.{Device}
use Rattle.slp_frames.specs.PacketText.{PacketValue}
use Rattle.dlp_commands.specs.DeviceSteps.{served}
use Rattle.device_stream.proofs.CourseLaws.{talks-then}
use Rattle.device_stream.specs.Alikeness.{Alike, SaysAlike, TakesAlike, TalksAlike}
use Rattle.device_stream.specs.Hands.{Hand, MayServe, greeted_by, heard_by, is_farewell, is_init, message_of, replying, taken_by, waited_by, with_end}
use Rattle.device_stream.specs.Hands.{with_reply}
use Rattle.device_stream.specs.Parts.{SameTalkParts, are_talk_parts, hand_of}
use Rattle.device_stream.specs.Talks.{Takes, Talks}
use Rattle.device_stream.specs.declared.parts.TalkParts.{TalkParts}
use Rattle.device_stream.specs.declared.talk_end.TalkEnd.TheVariants.{Aborted, BadHello, Ended}

-- ---- an equivalence

pub Alike-itself : (x : Hand) → Alike x x
Alike-itself x = record { device_is = refl; end_is = refl; greeted_is = refl; over_is = refl; next_is = refl }

pub Alike-back : (x y : Hand) → Alike x y → Alike y x
Alike-back x y alike = record {
  device_is = sym alike.device_is;
  end_is = sym alike.end_is;
  greeted_is = sym alike.greeted_is;
  over_is = sym alike.over_is;
  next_is = sym alike.next_is;
}

pub Alike-through : (x y z : Hand) → Alike x y → Alike y z → Alike x z
Alike-through x y z first next = record {
  device_is = next.device_is ∙ first.device_is;
  end_is = next.end_is ∙ first.end_is;
  greeted_is = next.greeted_is ∙ first.greeted_is;
  over_is = next.over_is ∙ first.over_is;
  next_is = next.next_is ∙ first.next_is;
}

-- ---- transactions

session_id-next : (number : ℕ) → session_id (number + 1) ≡ number % 253 + 1
session_id-next number = let e : number + 1 ≡ suc number = omega arith in ap session_id e

same_round : (n m : ℕ) → session_id (n + 1) ≡ session_id (m + 1) → n % 253 ≡ m % 253
same_round n m same = omega (arith, sym (session_id-next n) ∙ same ∙ session_id-next m)

-- where one request has the same transaction, so has the one behind it
session_id-more : (n m : ℕ) → session_id (n + 1) ≡ session_id (m + 1) → session_id (n + 1 + 1) ≡ session_id (m + 1 + 1)
session_id-more n m same =
    let round : n % 253 ≡ m % 253 = same_round n m same in
    let more : (n + 1) % 253 ≡ (m + 1) % 253 = omega arith in
    session_id-next (n + 1) ∙ ap (λ (r : ℕ). r + 1) more ∙ sym (session_id-next (m + 1))

-- so the reply to it is the same
replying-next : (end : EndValue) (n m : ℕ) (reply : List ℕ) → session_id (n + 1) ≡ session_id (m + 1)
    → replying end (n + 1) reply ≡ replying end (m + 1) reply
replying-next end n m reply same =
    let more = session_id-more n m same in
    (λ i. end_begins (if is_farewell reply then end else end_expects end (more i)) (same i) reply)

-- ---- a hand with other texts

abbrev with_texts : Hand → List (List ℕ) → List (List ℕ) → Hand
with_texts hand performed replies = record {
  device = hand.device;
  end = hand.end;
  performed = performed;
  replies = replies;
  greeted = hand.greeted;
  over = hand.over;
}

abbrev HasNext : Hand → List (List ℕ) → Type 0
HasNext hand performed = session_id (length performed + 1) ≡ session_id (length hand.performed + 1)

alike_texts : (x : Hand) (performed replies : List (List ℕ)) → HasNext x performed → Alike x (with_texts x performed replies)
alike_texts x performed replies next = record { device_is = refl; end_is = refl; greeted_is = refl; over_is = refl; next_is = next }

texts_of : (x y : Hand) → Alike x y → with_texts x y.performed y.replies ≡ y
texts_of x y alike = (λ i. record {
  device = sym alike.device_is i;
  end = sym alike.end_is i;
  performed = y.performed;
  replies = y.replies;
  greeted = sym alike.greeted_is i;
  over = sym alike.over_is i;
})

-- ---- what is heard

delivered-texts : (ends : Bool) (x : Hand) (performed replies : List (List ℕ)) → HasNext x performed
    → SaysAlike ([], if ends then record x { over = Some Ended } else x)
    ([], if ends then record (with_texts x performed replies) { over = Some Ended } else with_texts x performed replies)
delivered-texts true x performed replies next = record { said_is = refl; alike = alike_texts (record x { over = Some Ended }) performed replies next }
delivered-texts false x performed replies next = record { said_is = refl; alike = alike_texts x performed replies next }

greeted-texts : (init : Bool) (x : Hand) (performed replies : List (List ℕ)) → HasNext x performed
    → SaysAlike ([], if init then record x { end = end_expects x.end (session_id 1); greeted = true } else record x { over = Some BadHello }) (
      [],
      if init then record (with_texts x performed replies) { end = end_expects x.end (session_id 1); greeted = true }
          else record (with_texts x performed replies) { over = Some BadHello },
    )
greeted-texts true x performed replies next = record {
  said_is = refl;
  alike = alike_texts (record x { end = end_expects x.end (session_id 1); greeted = true }) performed replies next;
}
greeted-texts false x performed replies next = record { said_is = refl; alike = alike_texts (record x { over = Some BadHello }) performed replies next }

replied-texts : (x : Hand) (performed replies : List (List ℕ)) (request : List ℕ) (done : List ℕ × Device) → HasNext x performed
    → SaysAlike (with_reply x request done) (with_reply (with_texts x performed replies) request done)
replied-texts x performed replies request done next =
    let same = replying-next x.end (length performed) (length x.performed) done.0 next in
    let more : (texts : List (List ℕ)) → length (texts ++ request ∷ []) + 1 ≡ length texts + 1 + 1 = λ texts. omega (arith, length-append texts (request ∷ [])) in
    record {
      said_is = ap (λ (r : List OutgoingFragment × EndValue). r.0) same;
      alike = record {
        device_is = refl;
        end_is = ap (λ (r : List OutgoingFragment × EndValue). r.1) same;
        greeted_is = refl;
        over_is = refl;
        next_is = ap session_id (more performed) ∙ session_id-more (length performed) (length x.performed) next ∙ ap session_id (sym (more x.performed));
      };
    }

message-texts : (greeted : Bool) (x : Hand) (performed replies : List (List ℕ)) (message : List ℕ) (done : List ℕ × Device) → HasNext x performed
    → SaysAlike (if greeted then with_reply x message done else ([], greeted_by x message))
    (if greeted then with_reply (with_texts x performed replies) message done else ([], greeted_by (with_texts x performed replies) message))
message-texts true x performed replies message done next = replied-texts x performed replies message done next
message-texts false x performed replies message done next = greeted-texts (is_init message) x performed replies next

heard_by-texts : (x : Hand) (performed replies : List (List ℕ)) (free : ℕ) (hears : Heard) → HasNext x performed
    → SaysAlike (heard_by x free hears) (heard_by (with_texts x performed replies) free hears)
heard_by-texts x performed replies free heard.Nothing next = record { said_is = refl; alike = alike_texts x performed replies next }
heard_by-texts x performed replies free heard.Tickle next = record { said_is = refl; alike = alike_texts x performed replies next }
heard_by-texts x performed replies free heard.Delivered next = delivered-texts (is_farewell x.end.message) x performed replies next
heard_by-texts x performed replies free heard.Message next =
    message-texts x.greeted x performed replies (message_of x.end) (served x.device free (message_of x.end)) next
heard_by-texts x performed replies free heard.Stop next =
    record { said_is = refl; alike = alike_texts (record x { over = Some Aborted }) performed replies next }

-- ---- a packet, and silence

taken_by-texts : (x : Hand) (performed replies : List (List ℕ)) (free : ℕ) (packet : PacketValue) → HasNext x performed
    → SaysAlike (taken_by x free packet) (taken_by (with_texts x performed replies) free packet)
unfolding taken_by
taken_by-texts x performed replies free packet next =
    let answer = end_takes x.end packet in
    let says = heard_by-texts (with_end x answer.end) performed replies free answer.heard next in
    record { said_is = ap (λ (s : List OutgoingFragment). answer.said ++ s) says.said_is; alike = says.alike }

taken_by-alike : (x y : Hand) (free : ℕ) (packet : PacketValue) → Alike x y → SaysAlike (taken_by x free packet) (taken_by y free packet)
taken_by-alike x y free packet alike =
    subst (λ (h : Hand). SaysAlike (taken_by x free packet) (taken_by h free packet)) (texts_of x y alike)
    (taken_by-texts x y.performed y.replies free packet alike.next_is)

waited_by-texts : (x : Hand) (performed replies : List (List ℕ)) → HasNext x performed
    → SaysAlike (waited_by x) (waited_by (with_texts x performed replies))
waited_by-texts x performed replies next = record {
  said_is = refl;
  alike = record { device_is = refl; end_is = refl; greeted_is = refl; over_is = refl; next_is = next };
}

pub waited_by-alike : (x y : Hand) → Alike x y → SaysAlike (waited_by x) (waited_by y)
waited_by-alike x y alike =
    subst (λ (h : Hand). SaysAlike (waited_by x) (waited_by h)) (texts_of x y alike) (waited_by-texts x y.performed y.replies alike.next_is)

pub Takes-alike : (x y new : Hand) (packet : PacketValue) (said : List OutgoingFragment) → Alike x y → Takes x packet said new → TakesAlike y packet said new
Takes-alike x y new packet said alike takes =
    let says = taken_by-alike x y takes.free packet alike in
    let said_is = says.said_is ∙ ap (λ (d : List OutgoingFragment × Hand). d.0) takes.is in
    record {
      other = (taken_by y takes.free packet).1;
      takes = record {
        going = alike.over_is ∙ takes.going;
        free = takes.free;
        may = subst (λ (h : Hand). MayServe h packet takes.free) (texts_of x y alike) takes.may;
        is = (λ i. (said_is i, (taken_by y takes.free packet).1));
      };
      alike = subst (λ (h : Hand). Alike h (taken_by y takes.free packet).1) (ap (λ (d : List OutgoingFragment × Hand). d.1) takes.is) says.alike;
    }

pub Talks-alike : (x y new : Hand) (packets : List PacketValue) (said : List OutgoingFragment) → Alike x y → Talks x packets said new
    → TalksAlike y packets said new
Talks-alike x y new [] said alike talks =
    record { other = y; talks = (talks.0, refl); alike = subst (λ (h : Hand). Alike h y) (sym talks.1) alike }
Talks-alike x y new (packet ∷ packets) said alike (first, later, between, is, takes, rest) =
    let one = Takes-alike x y between packet first alike takes in
    let more = Talks-alike between one.other new packets later one.alike rest in
    record { other = more.other; talks = (first, later, one.other, is, one.takes, more.talks); alike = more.alike }

pub Talks-again : (first apart made new : Hand) (packets later : List PacketValue) (said more : List OutgoingFragment) → Talks first packets said apart
    → Alike apart made → Talks made later more new → TalksAlike first (packets ++ later) (said ++ more) new
Talks-again first apart made new packets later said more talks alike rest =
    let again = Talks-alike made apart new later more (Alike-back apart made alike) rest in
    record { other = again.other; talks = talks-then first packets said apart later more again.other talks again.talks; alike = again.alike }

-- ---- parts

pub hand_of-same : (device other : Device) (x y : TalkParts) → are_talk_parts x ≡ true → are_talk_parts y ≡ true
    → Alike (hand_of device x) (hand_of other y) → SameTalkParts x y
hand_of-same device other x y x_are y_are alike =
    let x_parts = and_parts (are_end_parts x.end) (nat_lt x.number 253) x_are in
    let y_parts = and_parts (are_end_parts y.end) (nat_lt y.number 253) y_are in
    let x_few = ltb-true _ _ x_parts.1 in
    let y_few = ltb-true _ _ y_parts.1 in
    let round = same_round (length (hand_of other y).performed) (length (hand_of device x).performed) alike.next_is in
    record {
      end_is = end_of-same x.end y.end x_parts.0 y_parts.0 alike.end_is;
      handles_are = ap (λ (d : Device). d.handles) alike.device_is;
      number_is = omega (arith, length-replicate {A = List ℕ});
      greeted_is = alike.greeted_is;
      over_is = alike.over_is;
    }
