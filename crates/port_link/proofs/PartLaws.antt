-- Where the parts of a message come from.
use Rattle.std.proofs.Common.{◌≡◌, ℕ, Bool, true, List, [], ◌∷◌, ◌++◌, refl, sym, ap, subst, ◌∙◌, inl, inr, nat_eq, ◌&&◌, length}
use Rattle.std.specs.Prelude.{Option, Some, None, Result, Ok, Err, is_some, if◌then◌else◌}
use Rattle.std.proofs.lemmas.Bool.{and_parts, cases_Bool, cond-false, cond-true}
use Rattle.std.proofs.lemmas.List.{append-nil, append_assoc}
use Rattle.padp_end.proofs.TakingLaws.{data_taken-new, data_taken-repeat, new_taken-next, new_taken-other}
use Rattle.padp_end.specs.Arrivals.{Arrival, Drop, Tickle, Stop, Ack, Data, arrival_of}
use Rattle.padp_end.specs.Ends.{Answer, EndValue, arrival_taken, goes_on_with, is_acked, is_key, is_ready, silent, tried_again, with_next}
use Rattle.padp_end.specs.Outgoings.{OutgoingFragment}
use Rattle.padp_end.specs.declared.heard.Heard.TheVariants as heard
use Rattle.padp_link.specs.declared.piece.Piece.{Piece}
use Rattle.padp_link.specs.FragmentText.{FragmentValue}
use Rattle.padp_link.specs.Pieces.{key_of}
use Rattle.padp_link.specs.Receivers.{ReceiverValue, bytes_of, is_awaited, is_complete, is_next, is_next_piece, whole_of}
use Rattle.padp_link.specs.Senders.{waiting, waiting_key}
use Rattle.slp_frames.proofs.ScanLaws.{continues_append, continues_now, continues_then}
use Rattle.slp_frames.specs.Histories.{Continues}
use Rattle.port_line.specs.declared.port_fault.PortFault.{PortFault}
use Rattle.port_link.specs.declared.awaited.Awaited.{Awaited}
use Rattle.port_link.specs.declared.awaited.Awaited.TheVariants.{Message}
use Rattle.port_link.specs.declared.desk.Desk.{Desk}
use Rattle.port_link.specs.declared.turn.Turn.{Turn}
use Rattle.port_link.specs.Answered.{AreAmong, AreHeard, IsAnswered, IsScanned, bytes_read, packets_of, part_of, parts_of}
use Rattle.port_link.specs.Calls.{Converses, Says}
use Rattle.port_link.specs.Causes.{cause_of}
use Rattle.port_link.specs.Courses.{Course, Holds, Scene}
use Rattle.port_link.specs.Desks.{Event, Awaits, Begins, Came, Read, Reaction, desk_after, idle_silence, reacts, silence, waiting_silence}
use Rattle.port_link.specs.Listening.{EndsWith, Listens}
use Rattle.port_link.proofs.CourseLaws.{course-then}
use Rattle.port_link.proofs.WholeLaws.{fault-caused}
use Rattle.port_link.proofs.StandLaws.{through_heard}

-- ---- packets

scanned : (events : List Event) (held now : List ℕ) → Holds held events now → Continues (held ++ bytes_read events) (packets_of events) now
scanned [] held now holds = subst (λ (s : List ℕ). Continues s [] now) (sym (append-nil held)) holds
scanned (Awaits id ∷ events) held now holds =
    continues_then (continues_append held (bytes_read events) holds.0 [] holds.1) (scanned events holds.0 now holds.2)
scanned (Begins id message ∷ events) held now holds =
    continues_then (continues_append held (bytes_read events) holds.0 [] holds.1) (scanned events holds.0 now holds.2)
scanned (Came packet ∷ events) held now holds =
    continues_then (continues_append held (bytes_read events) holds.0 (packet ∷ []) holds.1) (scanned events holds.0 now holds.2)
scanned (Read bytes ∷ events) held now holds =
    subst (λ (s : List ℕ). Continues s (packets_of events) now) (append_assoc held bytes (bytes_read events))
    (continues_then (continues_append (held ++ bytes) (bytes_read events) holds.0 [] holds.1.1) (scanned events holds.0 now holds.2))

pub course-scanned : (events : List Event) (fault : Option PortFault) (old new : Scene) → Course events fault old new → IsScanned events old new
course-scanned events fault old new course = continues_now (old.held ++ bytes_read events) new.held (packets_of events) (scanned events old.held new.held course.holds)

-- ---- lists among others

among-behind : {X : Type 0} (xs before all : List X) → AreAmong xs all → AreAmong xs (before ++ all)
among-behind [] before all among = tt
among-behind (x ∷ xs) before all among =
    (before ++ among.0, among.1, ap (λ (l : List _). before ++ l) among.2 ∙ sym (append_assoc before among.0 (x ∷ among.1)), among.3)

among-then : {X : Type 0} (xs all ys more : List X) → AreAmong xs all → AreAmong ys more → AreAmong (xs ++ ys) (all ++ more)
among-then [] all ys more first next = among-behind ys all more next
among-then (x ∷ xs) all ys more first next =
    (first.0, first.1 ++ more, ap (λ (l : List _). l ++ more) first.2 ∙ append_assoc first.0 (x ∷ first.1) more, among-then xs first.1 ys more first.3 next)

-- ---- one packet

-- a receiver that took these parts, which are among those
pub record Gains (id : ℕ) (old new : ReceiverValue) (came : List FragmentValue) : Type 0 where
  pub parts : List FragmentValue
  pub pieces : new.pieces ≡ old.pieces ++ parts
  pub awaited : new.awaited ≡ Some id
  pub among : AreAmong parts came

gains-none : (id : ℕ) (old : ReceiverValue) {new : ReceiverValue} (came : List FragmentValue) → old.awaited ≡ Some id → new ≡ old → Gains id old new came
gains-none id old {new} came awaited same =
    subst (λ (r : ReceiverValue). Gains id old r came) (sym same)
    (record { parts = []; pieces = sym (append-nil old.pieces); awaited = awaited; among = tt })

awaited-id : (awaited : Option ℕ) (id other : ℕ) → awaited ≡ Some id → is_awaited awaited other ≡ true → nat_eq id other ≡ true
awaited-id awaited id other is there = sym (ap (λ (a : Option ℕ). is_awaited a other) is) ∙ there

gains-arrival : (id : ℕ) (end : EndValue) (arrival : Arrival) → end.receiver.awaited ≡ Some id
    → Gains id end.receiver (arrival_taken end arrival).end.receiver (part_of id arrival)
gains-arrival id end Drop awaited = gains-none id end.receiver [] awaited refl
gains-arrival id end Tickle awaited = gains-none id end.receiver [] awaited refl
gains-arrival id end Stop awaited = gains-none id end.receiver [] awaited refl
gains-arrival id end (Ack key) awaited = elim (cases_Bool (is_acked (waiting_key end.sender) key)) [
  | inl same ↦ gains-none id end.receiver [] awaited
      (ap (λ (a : Answer). a.end.receiver) (cond-true (is_acked (waiting_key end.sender) key) (goes_on_with (with_next end)) (silent end heard.Nothing) same))
  | inr other ↦ gains-none id end.receiver [] awaited
      (ap (λ (a : Answer). a.end.receiver) (cond-false (is_acked (waiting_key end.sender) key) (goes_on_with (with_next end)) (silent end heard.Nothing) other))
]
gains-arrival id end (Data other fragment) awaited = elim (cases_Bool (is_key end.receiver.last (key_of other fragment))) [
  | inl same ↦ gains-none id end.receiver (part_of id (Data other fragment)) awaited
      (ap (λ (a : Answer). a.end.receiver) (data_taken-repeat end other fragment same))
  | inr new ↦ elim (cases_Bool (is_ready (waiting end.sender) fragment && is_next end.receiver other fragment)) [
    | inl next ↦ (let is = data_taken-new end other fragment new ∙ new_taken-next end other fragment next in
        let test = (and_parts (is_awaited end.receiver.awaited other) (is_next_piece end.receiver.pieces fragment)
        (and_parts (is_ready (waiting end.sender) fragment) (is_next end.receiver other fragment) next).1).0 in
        let same = awaited-id end.receiver.awaited id other awaited test in
        subst (λ (a : Answer). Gains id end.receiver a.end.receiver (part_of id (Data other fragment))) (sym is)
        (record {
          parts = fragment ∷ [];
          pieces = refl;
          awaited = awaited;
          among = subst (λ (b : Bool). AreAmong (fragment ∷ []) (if b then fragment ∷ [] else [])) (sym same) ([], [], refl, tt);
        }))
    | inr not_next ↦ gains-none id end.receiver (part_of id (Data other fragment)) awaited
        (ap (λ (a : Answer). a.end.receiver) (data_taken-new end other fragment new ∙ new_taken-other end other fragment not_next))
  ]
]

-- ---- silence

tried-same : (end : EndValue) (piece : Option Piece) → (tried_again end piece).1.receiver ≡ end.receiver
tried-same end None = refl
tried-same end (Some piece) = elim (cases_Bool (nat_eq end.sender.tries 10)) [
  | inl spent ↦ ap (λ (x : List OutgoingFragment × EndValue). x.1.receiver) (cond-true _ _ _ spent)
  | inr more ↦ ap (λ (x : List OutgoingFragment × EndValue). x.1.receiver) (cond-false _ _ _ more)
]

silence-same : (desk : Desk) → (silence desk).desk.end.receiver ≡ desk.end.receiver
silence-same desk = elim (cases_Bool (is_some (waiting desk.end.sender))) [
  | inl waits ↦ ap (λ (r : Reaction). r.desk.end.receiver) (cond-true (is_some (waiting desk.end.sender)) (waiting_silence desk) (idle_silence desk) waits)
      ∙ tried-same desk.end (waiting desk.end.sender)
  | inr idle ↦ ap (λ (r : Reaction). r.desk.end.receiver) (cond-false (is_some (waiting desk.end.sender)) (waiting_silence desk) (idle_silence desk) idle)
]

-- ---- events

gains-then : {id : ℕ} {a b c : ReceiverValue} (came later : List FragmentValue) → Gains id a b came → Gains id b c later → Gains id a c (came ++ later)
gains-then {id} {a} {b} {c} came later first next = record {
  parts = first.parts ++ next.parts;
  pieces = next.pieces ∙ ap (λ (l : List FragmentValue). l ++ next.parts) first.pieces ∙ append_assoc a.pieces first.parts next.parts;
  awaited = next.awaited;
  among = among-then first.parts came next.parts later first.among next.among;
}

pub events-gain : (id : ℕ) (desk : Desk) (events : List Event) → AreHeard events → desk.end.receiver.awaited ≡ Some id
    → Gains id desk.end.receiver (desk_after desk events).end.receiver (parts_of id (packets_of events))
events-gain id desk [] hears awaited = gains-none id desk.end.receiver [] awaited refl
events-gain id desk (Awaits other ∷ events) hears awaited = absurd hears.0
events-gain id desk (Begins other message ∷ events) hears awaited = absurd hears.0
events-gain id desk (Came packet ∷ events) hears awaited =
    let first = gains-arrival id desk.end (arrival_of packet) awaited in
    gains-then (part_of id (arrival_of packet)) (parts_of id (packets_of events)) first
    (events-gain id (reacts desk (Came packet)).desk events hears.1 first.awaited)
events-gain id desk (Read [] ∷ events) hears awaited =
    let first = gains-none id desk.end.receiver [] awaited (silence-same desk) in
    gains-then [] (parts_of id (packets_of events)) first (events-gain id (silence desk).desk events hears.1 first.awaited)
events-gain id desk (Read (byte ∷ bytes) ∷ events) hears awaited = events-gain id desk events hears.1 awaited

-- ---- a request

heard-then : (es fs : List Event) → AreHeard es → AreHeard fs → AreHeard (es ++ fs)
heard-then [] fs first next = next
heard-then (event ∷ es) fs first next = (first.0, heard-then es fs first.1 next)

-- events came while it listened
pub record Heard-since (old new : Scene) : Type 0 where
  pub events : List Event
  pub hears : AreHeard events
  pub course : Course events None old new

listens-came : (awaited : Awaited) (old new : Scene) (turn : Turn) → Listens awaited old new (Ok turn) → Heard-since old new
listens-came awaited old new turn listens = go listens.between new listens.course listens.ends where
  go : (between last : Scene) → Course listens.events None old between → EndsWith awaited (length listens.events) (Ok turn) between last → Heard-since old last
  go between last course (inl ends) = record {
    events = listens.events ++ ends.0.0 ∷ [];
    hears = heard-then listens.events (ends.0.0 ∷ []) (through_heard awaited old.desk listens.events listens.through) (ends.0.1, tt);
    course = course-then course ends.0.3;
  }
  go between last course (inr ends) = record {
    events = listens.events;
    hears = through_heard awaited old.desk listens.events listens.through;
    course = subst (λ (s : Scene). Course listens.events None old s) (sym ends.2) course;
  }

whole-bytes : (pieces : List FragmentValue) (reply : List ℕ) → whole_of pieces ≡ Some reply → reply ≡ bytes_of pieces
whole-bytes pieces reply is = elim (cases_Bool (is_complete pieces)) [
  | inl whole ↦ (let e : Some (bytes_of pieces) ≡ Some reply = sym (cond-true _ _ _ whole) ∙ is in cc)
  | inr part ↦ (let e : None ≡ Some reply = sym (cond-false _ _ _ part) ∙ is in absurd cc)
]

answered-by : (id : ℕ) (request reply : List ℕ) (old opened new : Scene) (acts : Course (Awaits id ∷ Begins id request ∷ []) None old opened)
    → Heard-since opened new → whole_of new.desk.end.receiver.pieces ≡ Some reply → IsAnswered id request reply old new
answered-by id request reply old opened new acts came whole =
    let gains = events-gain id opened.desk came.events came.hears (ap (λ (d : Desk). d.end.receiver.awaited) acts.desk) in
    let pieces = ap (λ (d : Desk). d.end.receiver.pieces) came.course.desk ∙ gains.pieces
    ∙ ap (λ (d : Desk). d.end.receiver.pieces ++ gains.parts) acts.desk in
    record {
      events = came.events;
      heard = came.hears;
      course = course-then acts came.course;
      parts = gains.parts;
      among = gains.among;
      reply_is = whole-bytes new.desk.end.receiver.pieces reply whole ∙ ap bytes_of pieces;
    }

says-answered : (id : ℕ) (request reply : List ℕ) (old new : Scene) (answer : Result Turn PortFault) → None ≡ cause_of answer
    → Says Message (Awaits id ∷ Begins id request ∷ []) old new answer → whole_of new.desk.end.receiver.pieces ≡ Some reply
    → IsAnswered id request reply old new
says-answered id request reply old new (Ok turn) none (inl says) whole =
    answered-by id request reply old says.0 new says.1 (listens-came Message says.0 new turn says.2) whole
says-answered id request reply old new (Err fault) none (inl says) whole = absurd (fault-caused fault none)
says-answered id request reply old new answer none (inr says) whole = absurd (fault-caused says.0 (none ∙ ap cause_of says.1))

pub converses-answered : (id : ℕ) (request reply : List ℕ) (old new : Scene) → Converses id request reply old new None → IsAnswered id request reply old new
converses-answered id request reply old new it = says-answered id request reply old new it.answer it.cause_is it.says (it.reply_is refl)
