-- A request over a port with a handheld behind it.
use Rattle.std.proofs.Common.{◌≡◌, ◌≤◌, ℕ, ◌+◌, List, [], ◌∷◌, length, nat_eq, inl, inr, refl, sym, subst, ◌∙◌, arith}
use Rattle.std.specs.Prelude.{Option, Some, None, is_some}
use Rattle.std.proofs.lemmas.Bool.{cases_Bool, cond-false, cond-true}
use Rattle.std.proofs.lemmas.Bool.Decides.{nat_tests}
use Rattle.device_stream.specs.Hands.{Hand}
use Rattle.padp_end.proofs.TakingLaws.{IsNext, IsOther, IsRepeat, data_case}
use Rattle.padp_end.specs.Arrivals.{Ack, Arrival, Data, Drop, Stop, Tickle, arrival_of}
use Rattle.padp_end.specs.Ends.{Answer, EndValue, arrival_taken, end_begins, end_expects, goes_on_with, is_acked, silent, tried_again, with_answer_at, with_next}
use Rattle.padp_end.specs.Outgoings.{OutgoingFragment, pieces_said}
use Rattle.padp_end.specs.declared.heard.Heard.TheVariants as heard
use Rattle.padp_link.specs.Senders.{SenderValue, waiting, waiting_key}
use Rattle.padp_link.specs.declared.piece.Piece.{Piece}
use Rattle.port_laws.proofs.DeskLaws.{desk_drops}
use Rattle.port_laws.proofs.StageLaws.{desk_asks, desk_expects}
use Rattle.port_laws.specs.Palms.{Palm}
use Rattle.port_laws.specs.Talking.{Asking, Resting}
use Rattle.port_line.specs.declared.port_fault.PortFault.{PortFault}
use Rattle.port_link.specs.declared.desk.Desk.{Desk}
use Rattle.port_link.specs.Answered.{AreHeard}
use Rattle.port_link.specs.Behind.{PalmEnds}
use Rattle.port_link.specs.Courses.{Course, IsHeard, Scene}
use Rattle.port_link.specs.Desks.{Awaits, Begins, Came, Event, Reaction, Read, desk_after, idle_silence, reacts, silence, waiting_silence}
use Rattle.port_link.specs.Greetings.{id_behind}
use Rattle.port_link.specs.Standing.{IsStill}
use Rattle.port_link.proofs.StandLaws.{Stood, ends_stood, hears_stood, said_nothing, told_as}

-- ---- what heard events leave of an end

-- its message and the transaction of it
pub record Keeps (old new : EndValue) : Type 0 where
  pub id : new.sender.id ≡ old.sender.id
  pub message : new.message ≡ old.message

keeps-itself : (end : EndValue) → Keeps end end
keeps-itself end = record { id = refl; message = refl }

answer_id : (sender : SenderValue) (waits : Option Piece) → (with_answer_at sender waits).id ≡ sender.id
answer_id sender None = refl
answer_id sender (Some piece) = refl

takes_keeps : (end : EndValue) (arrival : Arrival) → Keeps end (arrival_taken end arrival).end
takes_keeps end Drop = keeps-itself end
takes_keeps end Tickle = keeps-itself end
takes_keeps end Stop = keeps-itself end
takes_keeps end (Ack key) = elim (cases_Bool (is_acked (waiting_key end.sender) key)) [
  | inl same ↦ subst (λ (a : Answer). Keeps end a.end)
      (sym (cond-true (is_acked (waiting_key end.sender) key) (goes_on_with (with_next end)) (silent end heard.Nothing) same))
      (record { id = refl; message = refl })
  | inr other ↦ subst (λ (a : Answer). Keeps end a.end)
      (sym (cond-false (is_acked (waiting_key end.sender) key) (goes_on_with (with_next end)) (silent end heard.Nothing) other)) (keeps-itself end)
]
takes_keeps end (Data id fragment) = elim (data_case end id fragment) [
  | IsRepeat same is ↦ subst (λ (a : Answer). Keeps end a.end) (sym is) (keeps-itself end)
  | IsNext is ↦ subst (λ (a : Answer). Keeps end a.end) (sym is) (record { id = answer_id end.sender (waiting end.sender); message = refl })
  | IsOther is ↦ subst (λ (a : Answer). Keeps end a.end) (sym is) (keeps-itself end)
]

waits_keeps : (end : EndValue) (waits : Option Piece) → Keeps end (tried_again end waits).1
waits_keeps end None = keeps-itself end
waits_keeps end (Some piece) =
    let more : List OutgoingFragment × EndValue
    = (pieces_said end.message (Some piece), record end { sender = record end.sender { tries = end.sender.tries + 1 } }) in
    let none : List OutgoingFragment × EndValue = ([], end) in
    elim (cases_Bool (nat_eq end.sender.tries 10)) [
      | inl spent ↦ subst (λ (s : List OutgoingFragment × EndValue). Keeps end s.1) (sym (cond-true (nat_eq end.sender.tries 10) none more spent))
          (keeps-itself end)
      | inr left ↦ subst (λ (s : List OutgoingFragment × EndValue). Keeps end s.1) (sym (cond-false (nat_eq end.sender.tries 10) none more left))
          (record { id = refl; message = refl })
    ]

silence_keeps : (desk : Desk) → Keeps desk.end (silence desk).desk.end
silence_keeps desk = elim (cases_Bool (is_some (waiting desk.end.sender))) [
  | inl waits ↦ subst (λ (r : Reaction). Keeps desk.end r.desk.end)
      (sym (cond-true (is_some (waiting desk.end.sender)) (waiting_silence desk) (idle_silence desk) waits)) (waits_keeps desk.end (waiting desk.end.sender))
  | inr idle ↦ subst (λ (r : Reaction). Keeps desk.end r.desk.end)
      (sym (cond-false (is_some (waiting desk.end.sender)) (waiting_silence desk) (idle_silence desk) idle)) (keeps-itself desk.end)
]

pub event_keeps : (desk : Desk) (event : Event) → IsHeard event → Keeps desk.end (reacts desk event).desk.end
event_keeps desk (Awaits id) heard = absurd heard
event_keeps desk (Begins id message) heard = absurd heard
event_keeps desk (Came packet) heard = takes_keeps desk.end (arrival_of packet)
event_keeps desk (Read []) heard = silence_keeps desk
event_keeps desk (Read (byte ∷ bytes)) heard = keeps-itself desk.end

pub keeps-then : (a b c : EndValue) → Keeps a b → Keeps b c → Keeps a c
keeps-then a b c first next = record { id = next.id ∙ first.id; message = next.message ∙ first.message }

pub events_keep : (desk : Desk) (events : List Event) → AreHeard events → Keeps desk.end (desk_after desk events).end
events_keep desk [] heard = keeps-itself desk.end
events_keep desk (event ∷ events) heard =
    keeps-then desk.end (reacts desk event).desk.end (desk_after (reacts desk event).desk events).end (event_keeps desk event heard.0)
    (events_keep (reacts desk event).desk events heard.1)

-- ---- the request is said

pub id_differs : (id : ℕ) → id ≡ id_behind id → ⊥
id_differs id same = grind (arith, nat_tests)

-- what stands then
pub record Asked (was : Hand) (request : List ℕ) (id : ℕ) (end : EndValue) (held : List ℕ) (told : Option Palm) : Type 0 where
  pub stood : Stood (Asking was request) end held told
  pub id_is : end.sender.id ≡ id
  pub message_is : end.message ≡ request

pub acts_asked : (fault : Option PortFault) (id number : ℕ) (request : List ℕ) (old new : Scene) (palm : Palm) → length request ≤ 65535
    → IsStill old.desk.end old.held number palm → old.palm ≡ Some palm → id ≡ id_behind number
    → Course (Awaits id ∷ Begins id request ∷ []) fault old new → Asked palm.hand request id new.desk.end new.held new.palm
acts_asked fault id number request old new palm short still told_is id_is course =
    let end = old.desk.end in
    let holds = course.holds in
    let palms = course.palms in
    let awaited = end_expects end id in
    let apart : awaited.sender.id ≡ id → ⊥ = λ same. id_differs number (sym still.sender_is ∙ same ∙ id_is) in
    let first = desk_expects palm.hand end holds.0 palm id (desk_drops (Resting palm.hand) end old.held holds.0 palm still.stands holds.1) in
    let between : palms.1.between ≡ Some palm = palms.1.comes ∙ told_is in
    let quiet = hears_stood (Resting palm.hand) awaited holds.0 palm [] palms.0 (said_nothing (Resting palm.hand) awaited holds.0 palm first)
    (told_as _ palm between palms.1.hears) in
    let began = desk_asks palm.hand awaited holds.2.0 quiet.palm id request
    (desk_drops (Resting palm.hand) awaited holds.0 holds.2.0 quiet.palm quiet.stands holds.2.1) still.quiet apart short in
    let said = hears_stood (Asking palm.hand request) (end_begins awaited id request).1 holds.2.0 quiet.palm (end_begins awaited id request).0 palms.2.0 began
    (told_as _ quiet.palm (palms.2.1.comes ∙ quiet.told_is) palms.2.1.hears) in
    let ended = ends_stood fault (Asking palm.hand request) (end_begins awaited id request).1 holds.2.0 new.held said.palm new.palm said.stands holds.2.2
    (subst (λ (o : Option Palm). PalmEnds fault o new.palm) said.told_is palms.2.2) in
    subst (λ (d : Desk). Asked palm.hand request id d.end new.held new.palm) (sym course.desk)
    (record { stood = ended; id_is = refl; message_is = refl })
