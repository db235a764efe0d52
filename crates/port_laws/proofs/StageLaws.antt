-- The stages of a session over a handheld and a cable, from the opening on.
use Rattle.std.proofs.Common.{◌≡◌, ◌≤◌, ◌<◌, ℕ, true, false, List, [], ◌∷◌, ◌++◌, length, Some, None, inl, inr, refl, subst, sym, ap, ◌∙◌, arith}
use Rattle.std.proofs.lemmas.Bool.{and_parts, eqb-true, not-true}
use Rattle.port_laws.proofs.MomentLaws.{begins, expects, turned}
use Rattle.port_laws.specs.Cables.{Cable, Count, IsOver, Way, packets_of, parcels}
use Rattle.port_laws.specs.Moments.{BeginsOne}
use Rattle.device_stream.specs.Hands.{Hand}
use Rattle.padp_end.specs.Ends.{EndValue, end_begins, end_expects, end_takes, first_end}
use Rattle.padp_end.specs.declared.heard.Heard.TheVariants as heard
use Rattle.padp_link.proofs.SenderLaws.{waiting_is, waiting_none}
use Rattle.padp_link.specs.Neighbours.{session_id}
use Rattle.padp_link.specs.Pieces.{piece_count}
use Rattle.padp_link.specs.Senders.{waiting}
use Rattle.slp_frames.specs.PacketScan.{scan}
use Rattle.slp_frames.specs.PacketText.{PacketValue}
use Rattle.port_laws.proofs.HandLaws.{packets_in-parcels}
use Rattle.port_laws.proofs.MoveLaws.{joined}
use Rattle.port_laws.specs.Palms.{Palm, is_first, is_nil}
use Rattle.port_laws.specs.Talking.{Asking, DeskTook, Greeting, IsAt, IsReplyOf, Resting, Stage, Stands, Waking, Woken, side, with_said}
use Rattle.dlp_commands.proofs.TableLaws.{none_is}

-- the same at another stage
pub at_stage : (stage next : Stage) (end : EndValue) (held : List ℕ) (palm : Palm) → (stands : Stands stage end held palm)
    → IsAt next (side end stands.desk) (side palm.hand.end stands.hand) palm.hand → Stands next end held palm
at_stage stage next end held palm stands at = record {
  desk = stands.desk;
  hand = stands.hand;
  there = stands.there;
  back = stands.back;
  came = stands.came;
  cable = stands.cable;
  there_is = stands.there_is;
  back_is = stands.back_is;
  held_is = stands.held_is;
  part_open = stands.part_open;
  id_is = stands.id_is;
  at = at;
}

-- ---- what was heard

-- the wake
pub desk_woken : (was : Hand) (end : EndValue) (now : List ℕ) (palm : Palm) (packet : PacketValue) → DeskTook (Waking was) end now palm packet
    → (end_takes end packet).heard ≡ heard.Message
    → Stands (Woken was) (end_takes end packet).end now (with_said palm (end_takes end packet).said)
desk_woken was end now palm packet took hears =
    at_stage (Waking was) (Woken was) (end_takes end packet).end now (with_said palm (end_takes end packet).said) took.stands (record {
      waking = took.stands.at;
      other = subst (λ (count : Count). IsOver (side palm.hand.end count) (side (end_takes end packet).end took.stands.desk)) (sym took.hand_is)
          (took.right.over hears);
    })

-- the acknowledgement of the init
pub desk_greeted : (was : Hand) (end : EndValue) (now : List ℕ) (palm : Palm) (packet : PacketValue) → DeskTook (Greeting was) end now palm packet
    → (end_takes end packet).heard ≡ heard.Delivered
    → Stands (Resting was) (end_takes end packet).end now (with_said palm (end_takes end packet).said)
desk_greeted was end now palm packet took hears =
    at_stage (Greeting was) (Resting was) (end_takes end packet).end now (with_said palm (end_takes end packet).said) took.stands (record {
      did = took.stands.at.did;
      over = subst (λ (count : Count). IsOver (side (end_takes end packet).end took.stands.desk) (side palm.hand.end count)) (sym took.hand_is)
          (took.right.delivered hears);
      other = took.stands.at.over;
    })

-- a reply: it is the device's, to this request
pub desk_replied : (was : Hand) (request : List ℕ) (end : EndValue) (now : List ℕ) (palm : Palm) (packet : PacketValue)
    → DeskTook (Asking was request) end now palm packet → (end_takes end packet).heard ≡ heard.Message → IsReplyOf was request end now palm packet
desk_replied was request end now palm packet took hears = elim took.was [
  | inl before ↦ (let ahead = took.right.ahead hears in let all = before.over.all in let e : ⊥ = omega (arith, ahead, all) in absurd e)
  | inr behind ↦ record {
    reply = palm.hand.end.message;
    whole = took.right.whole hears;
    step = behind.step;
    performed_is = behind.performed_is;
    replies_are = behind.replies_are;
    quiet = took.right.answered hears;
    stands = at_stage (Asking was request) (Resting palm.hand) (end_takes end packet).end now
        (with_said palm (end_takes end packet).said) took.stands (record {
          did = record { device_is = refl; performed_is = refl; replies_are = refl };
          over = subst (λ (count : Count). IsOver (side (end_takes end packet).end took.stands.desk) (side palm.hand.end count)) (sym took.hand_is)
              (took.stays.over behind.over);
          other = subst (λ (count : Count). IsOver (side palm.hand.end count) (side (end_takes end packet).end took.stands.desk)) (sym took.hand_is)
              (took.right.over hears);
        });
  }
]

-- ---- a message begins

-- it is awaited what comes back
pub desk_expects : (was : Hand) (end : EndValue) (held : List ℕ) (palm : Palm) (id : ℕ) → Stands (Resting was) end held palm
    → Stands (Resting was) (end_expects end id) held palm
desk_expects was end held palm id stands =
    let desk = side end stands.desk in
    let hand = side palm.hand.end stands.hand in
    record {
      desk = stands.desk;
      hand = stands.hand;
      there = stands.there;
      back = stands.back;
      came = stands.came;
      cable = turned hand (side (end_expects end id) stands.desk) stands.back stands.there
          (expects hand desk stands.back stands.there id (turned desk hand stands.there stands.back stands.cable) stands.at.other);
      there_is = stands.there_is;
      back_is = stands.back_is;
      held_is = stands.held_is;
      part_open = stands.part_open;
      id_is = stands.id_is;
      at = record {
        did = stands.at.did;
        over = record { all = stands.at.over.all; last = stands.at.over.last };
        other = record { all = stands.at.other.all; last = stands.at.other.last };
      };
    }

-- what is under way then
begun : (stage next : Stage) (end : EndValue) (held : List ℕ) (palm : Palm) (id : ℕ) (message : List ℕ) → (stands : Stands stage end held palm)
    → (began : BeginsOne (side palm.hand.end stands.hand) (side end stands.desk) id message stands.back stands.there)
    → IsAt next (side (end_begins end id message).1 began.next.count) (side palm.hand.end stands.hand) palm.hand
    → Stands next (end_begins end id message).1 held (with_said palm (end_begins end id message).0)
begun stage next end held palm id message stands began at =
    let hand = side palm.hand.end stands.hand in
    let said = (end_begins end id message).0 in
    record {
      desk = began.next.count;
      hand = stands.hand;
      there = stands.there ++ parcels began.next.count said;
      back = stands.back;
      came = stands.came;
      cable = subst (λ (e : EndValue). Cable (side e began.next.count) hand (stands.there ++ parcels began.next.count said) stands.back) began.end_is
          (turned hand began.next stands.back (stands.there ++ parcels began.next.count said) began.cable);
      there_is = joined stands.there (parcels began.next.count said) palm.toward (packets_of said) stands.there_is (packets_in-parcels began.next.count said);
      back_is = stands.back_is;
      held_is = stands.held_is;
      part_open = stands.part_open;
      id_is = stands.id_is;
      at = at;
    }

-- a request
pub desk_asks : (was : Hand) (end : EndValue) (held : List ℕ) (palm : Palm) (id : ℕ) (request : List ℕ) → Stands (Resting was) end held palm
    → waiting end.sender ≡ None → (end.sender.id ≡ id → ⊥) → length request ≤ 65535
    → Stands (Asking was request) (end_begins end id request).1 held (with_said palm (end_begins end id request).0)
desk_asks was end held palm id request stands quiet apart short =
    let desk = side end stands.desk in
    let hand = side palm.hand.end stands.hand in
    let began = begins hand desk stands.back stands.there id request (turned desk hand stands.there stands.back stands.cable)
    stands.at.other stands.at.over quiet short (inr apart) in
    begun (Resting was) (Asking was request) end held palm id request stands began
    (inl (record {
      did = stands.at.did;
      over = record { all = began.other.all; last = began.other.last };
      message_is = refl;
    }))

-- the init
pub desk_greets : (was : Hand) (end : EndValue) (held : List ℕ) (palm : Palm) (id : ℕ) (init : List ℕ) → Stands (Woken was) end held palm
    → length init ≤ 65535 → Stands (Greeting was) (end_begins end id init).1 held (with_said palm (end_begins end id init).0)
desk_greets was end held palm id init stands short =
    let desk = side end stands.desk in
    let hand = side palm.hand.end stands.hand in
    let waking = stands.at.waking in
    let quiet : waiting end.sender ≡ None = stands.cable.there_is.knows.quiet waking.begun in
    let began = begins hand desk stands.back stands.there id init (turned desk hand stands.there stands.back stands.cable)
    stands.at.other waking.over quiet short (inl waking.begun) in
    begun (Woken was) (Greeting was) end held palm id init stands began
    (record {
      did = waking.did;
      greets = inl waking.greeted_is;
      over = record { all = began.other.all; last = began.other.last };
    })

-- ---- the opening

nil_is : {X : Type 0} (xs : List X) → is_nil xs ≡ true → xs ≡ []
nil_is [] is = refl
nil_is (x ∷ xs) is = absurd cc

-- what the test of a first palm tells
pub record Opened (palm : Palm) : Type 0 where
  pub toward : palm.toward ≡ []
  pub back : palm.back ≡ []
  pub part : palm.part ≡ []
  pub greeted : palm.hand.greeted ≡ false
  pub performed : palm.hand.performed ≡ []
  pub replies : palm.hand.replies ≡ []
  pub last : palm.hand.end.receiver.last ≡ None
  pub id : palm.hand.end.sender.id ≡ 255
  pub size : palm.hand.end.sender.length ≡ 10
  pub acknowledged : palm.hand.end.sender.acknowledged ≡ 0
  pub message : length palm.hand.end.message ≡ 10

pub opened : (palm : Palm) → is_first palm ≡ true → Opened palm
opened palm is =
    let a = and_parts _ _ is in
    let b = and_parts _ _ a.0 in
    let c = and_parts _ _ b.0 in
    let h9 = and_parts _ _ c.0 in
    let h8 = and_parts _ _ h9.0 in
    let h7 = and_parts _ _ h8.0 in
    let h6 = and_parts _ _ h7.0 in
    let h5 = and_parts _ _ h6.0 in
    let h4 = and_parts _ _ h5.0 in
    let h3 = and_parts _ _ h4.0 in
    let h2 = and_parts _ _ h3.0 in
    let h1 = and_parts _ _ h2.0 in
    let h0 = and_parts _ _ h1.0 in
    record {
      toward = nil_is palm.toward c.1;
      back = nil_is palm.back b.1;
      part = nil_is palm.part a.1;
      greeted = not-true palm.hand.greeted h0.0;
      performed = nil_is palm.hand.performed h1.1;
      replies = nil_is palm.hand.replies h2.1;
      last = none_is palm.hand.end.receiver.last h5.1;
      id = eqb-true _ _ h6.1;
      size = eqb-true _ _ h7.1;
      acknowledged = eqb-true _ _ h8.1;
      message = eqb-true _ _ h9.1;
    }

-- the desktop awaits the wake
pub desk_opens : (palm : Palm) → is_first palm ≡ true → Stands (Waking palm.hand) (end_expects first_end 255) [] palm
desk_opens palm is =
    let first = opened palm is in
    let none : Count = record { taken = 0; begun = 0 } in
    let woke : Count = record { taken = 0; begun = 1 } in
    let end = end_expects first_end 255 in
    let desk = side end none in
    let hand = side palm.hand.end woke in
    let size = first.size in
    let acknowledged = first.acknowledged in
    let message = first.message in
    let waits : palm.hand.end.sender.acknowledged < piece_count palm.hand.end.sender.length = omega (arith, acknowledged) in
    let quiet : waiting end.sender ≡ None = waiting_none end.sender (omega arith) in
    let there : Way desk hand [] = record {
      taken = omega arith;
      begun = omega arith;
      low = 0;
      low_is = omega arith;
      answered = λ silent. absurd (differ (sym silent ∙ waiting_is palm.hand.end.sender waits));
      rise = record { taken = omega arith; begun = omega arith };
      bear = tt;
      knows = record {
        none = λ e. first.last;
        quiet = λ e. quiet;
        newest = λ e some. absurd (some refl);
        older = λ e k now. let no : ⊥ = omega (arith, e) in absurd no;
      };
      parts = λ some few. let no : ⊥ = omega (arith, few) in absurd no;
    } in
    let back : Way hand desk [] = record {
      taken = omega arith;
      begun = omega arith;
      low = 0;
      low_is = omega arith;
      answered = λ silent. omega arith;
      rise = record { taken = omega arith; begun = omega arith };
      bear = tt;
      knows = record {
        none = λ e. refl;
        quiet = λ e. let no : ⊥ = omega (arith, e) in absurd no;
        newest = λ e some. let no : ⊥ = omega (arith, e) in absurd no;
        older = λ e k now. absurd (differ now);
      };
      parts = λ some few. let no : ⊥ = omega (arith, some, acknowledged) in absurd no;
    } in
    let over : IsOver desk hand = record { all = refl; last = omega arith } in
    record {
      desk = none;
      hand = woke;
      there = [];
      back = [];
      came = [];
      cable = record {
        x_sends = record { length_is = refl; short = omega arith; within = omega arith };
        y_sends = record { length_is = size ∙ sym message; short = omega (arith, message); within = omega (arith, acknowledged) };
        there_is = there;
        back_is = back;
        one = inl over;
      };
      there_is = sym first.toward;
      back_is = sym first.back;
      held_is = λ more. ap (λ (part : List ℕ). scan (part ++ more)) (sym first.part);
      part_open = ap scan first.part;
      id_is = first.id ∙ ap (λ (p : List (List ℕ)). session_id (length p)) (sym first.performed);
      at = record { did = record { device_is = refl; performed_is = refl; replies_are = refl }; greeted_is = first.greeted; begun = refl; over = over };
    } where
      differ : {X : Type 0} {x : X} → None ≡ Some x → ⊥
      differ e = cc
