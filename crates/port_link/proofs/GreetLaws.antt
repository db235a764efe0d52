-- The greetings over a port with a handheld behind it.
use Rattle.std.proofs.Common.{◌≡◌, ℕ, ◌-◌, nat_eq, Bool, true, false, List, [], ◌∷◌, length, inl, inr, refl, sym, ap, subst, ◌∙◌, arith}
use Rattle.std.specs.Prelude.{Option, Some, None, Result, Ok, Err, is_some, if◌then◌else◌}
use Rattle.std.specs.Result.{result_err}
use Rattle.device_stream.specs.Hands.{Hand}
use Rattle.device_stream.specs.Laws.{DidNothing}
use Rattle.padp_end.specs.Ends.{EndValue, end_begins, end_expects, end_takes, first_end, is_spent}
use Rattle.padp_end.specs.declared.heard.Heard.{Heard}
use Rattle.padp_end.specs.declared.heard.Heard.TheVariants as heard
use Rattle.padp_link.specs.Neighbours.{session_id}
use Rattle.padp_link.specs.Senders.{waiting}
use Rattle.port_laws.proofs.DeskLaws.{desk_drops, desk_takes}
use Rattle.port_laws.proofs.StageLaws.{at_stage, desk_greeted, desk_greets, desk_opens, desk_woken, opened}
use Rattle.palm_device.specs.Bounds.{IsBounded}
use Rattle.palm_device.specs.Devices.{Device}
use Rattle.palm_device.specs.Soundness.{IsDevice}
use Rattle.port_laws.specs.Palms.{IsOurs, Palm, is_first}
use Rattle.port_laws.specs.Talking.{Greeting, Resting, Stage, Stands, Waking, Woken}
use Rattle.port_line.specs.declared.port_fault.PortFault.{PortFault}
use Rattle.port_line.specs.declared.port_fault.PortFault.TheVariants.{Failed, NoMemory}
use Rattle.slp_frames.specs.PacketText.{PacketValue}
use Rattle.port_link.specs.declared.awaited.Awaited.{Awaited}
use Rattle.port_link.specs.declared.awaited.Awaited.TheVariants.{Delivery, Wake}
use Rattle.port_link.specs.declared.desk.Desk.{Desk}
use Rattle.port_link.specs.declared.port_cause.PortCause.{PortCause}
use Rattle.port_link.specs.declared.turn.Turn.{Turn}
use Rattle.port_link.specs.declared.turn.Turn.TheVariants as then
use Rattle.port_link.specs.Behind.{PalmEnds}
use Rattle.port_link.specs.Calls.{GoesOnFrom, Greets, Inits, Says, rate_unless}
use Rattle.port_link.specs.Causes.{cause_of, waking_cause}
use Rattle.port_link.specs.Courses.{Course, Happens, Scene}
use Rattle.padp_end.specs.Arrivals.{arrival_of}
use Rattle.port_link.specs.Desks.{Awaits, Begins, Came, Event, Reaction, Read, idle_silence, is_greeting, reacts, silence, turn_of, waiting_silence}
use Rattle.port_link.specs.Greetings.{init_text}
use Rattle.port_link.specs.Listening.{EndsWith, Listens}
use Rattle.port_link.specs.Standing.{IsStill, IsUnsaid}
use Rattle.port_link.proofs.AskLaws.{events_keep}
use Rattle.port_link.proofs.ReplyLaws.{heard_once}
use Rattle.port_link.proofs.StandLaws.{Stood, ends_stood, events_stood, hears_stood, said_nothing, through_heard, told_as}
use Rattle.port_link.proofs.WholeLaws.{fault-caused, heard-message, silence-not_whole}

-- ---- the handheld performed nothing

-- it stands at a stage at which nothing was performed since
pub record Met (was : Hand) (end : EndValue) (held : List ℕ) (told : Option Palm) : Type 0 where
  pub palm : Palm
  pub told_is : told ≡ Some palm
  pub did : DidNothing was palm.hand

pub met_waking : (was : Hand) (end : EndValue) (held : List ℕ) (told : Option Palm) → Stood (Waking was) end held told → Met was end held told
met_waking was end held told stood = record { palm = stood.palm; told_is = stood.told_is; did = stood.stands.at.did }

pub met_greeting : (was : Hand) (end : EndValue) (held : List ℕ) (told : Option Palm) → Stood (Greeting was) end held told → Met was end held told
met_greeting was end held told stood = record { palm = stood.palm; told_is = stood.told_is; did = stood.stands.at.did }

-- ---- listening keeps a stage

happens_stood : (stage : Stage) (answer : Result Turn PortFault) (old new : Scene) → Stood stage old.desk.end old.held old.palm → Happens answer old new
    → Stood stage new.desk.end new.held new.palm
happens_stood stage (Ok turn) old new stood happens =
    subst (λ (d : Desk). Stood stage d.end new.held new.palm) (sym happens.3.desk)
    (events_stood None stage old.desk (happens.0 ∷ []) old.held new.held old.palm new.palm (happens.1, tt) stood happens.3.holds happens.3.palms)
happens_stood stage (Err fault) old new stood happens =
    subst (λ (d : Desk). Stood stage d.end new.held new.palm) (sym happens.2.desk)
    (events_stood (Some fault) stage old.desk happens.0 old.held new.held old.palm new.palm (heard_once happens.0 happens.1) stood happens.2.holds happens.2.palms)

between_stood : (stage : Stage) (awaited : Awaited) (answer : Result Turn PortFault) (old new : Scene) → Stood stage old.desk.end old.held old.palm
    → (listens : Listens awaited old new answer) → Stood stage listens.between.desk.end listens.between.held listens.between.palm
between_stood stage awaited answer old new stood listens =
    subst (λ (d : Desk). Stood stage d.end listens.between.held listens.between.palm) (sym listens.course.desk)
    (events_stood None stage old.desk listens.events old.held listens.between.held old.palm listens.between.palm
    (through_heard awaited old.desk listens.events listens.through) stood listens.course.holds listens.course.palms)

ends_on : (stage : Stage) (awaited : Awaited) (count : ℕ) (answer : Result Turn PortFault) (old new : Scene) → Stood stage old.desk.end old.held old.palm
    → EndsWith awaited count answer old new → Stood stage new.desk.end new.held new.palm
ends_on stage awaited count (Ok turn) old new stood (inl ends) = happens_stood stage (Ok turn) old new stood ends.0
ends_on stage awaited count (Ok turn) old new stood (inr ends) = subst (λ (s : Scene). Stood stage s.desk.end s.held s.palm) (sym ends.2) stood
ends_on stage awaited count (Err fault) old new stood ends = happens_stood stage (Err fault) old new stood ends

pub listens_stood : (stage : Stage) (awaited : Awaited) (answer : Result Turn PortFault) (old new : Scene) → Stood stage old.desk.end old.held old.palm
    → Listens awaited old new answer → Stood stage new.desk.end new.held new.palm
listens_stood stage awaited answer old new stood listens =
    ends_on stage awaited (length listens.events) answer listens.between new (between_stood stage awaited answer old new stood listens) listens.ends

-- ---- the wake is awaited

pub opens_stood : (fault : Option PortFault) (palm : Palm) (old new : Scene) (id : ℕ) → IsUnsaid old.desk.end old.held id palm → old.palm ≡ Some palm
    → Course (Awaits 255 ∷ []) fault old new → Stood (Waking palm.hand) new.desk.end new.held new.palm
opens_stood fault palm old new id unsaid told course =
    let end = end_expects old.desk.end 255 in
    let holds = course.holds in
    let palms = course.palms in
    let first : Stands (Waking palm.hand) end old.held palm
    = subst (λ (e : EndValue). Stands (Waking palm.hand) (end_expects e 255) old.held palm) (sym unsaid.end_is)
    (subst (λ (h : List ℕ). Stands (Waking palm.hand) (end_expects first_end 255) h palm) (sym unsaid.held_is) (desk_opens palm unsaid.first)) in
    let dropped = desk_drops (Waking palm.hand) end old.held holds.0 palm first holds.1 in
    let said = hears_stood (Waking palm.hand) end holds.0 palm [] palms.0 (said_nothing (Waking palm.hand) end holds.0 palm dropped)
    (told_as _ palm (palms.1.comes ∙ told) palms.1.hears) in
    let ended = ends_stood fault (Waking palm.hand) end holds.0 new.held said.palm new.palm said.stands holds.2
    (subst (λ (o : Option Palm). PalmEnds fault o new.palm) said.told_is palms.2) in
    subst (λ (d : Desk). Stood (Waking palm.hand) d.end new.held new.palm) (sym course.desk) ended

-- a first message that came
came_woken : (was : Hand) (old new : Scene) (palm : Palm) (packet : PacketValue) → Stands (Waking was) old.desk.end old.held palm → old.palm ≡ Some palm
    → (end_takes old.desk.end packet).heard ≡ heard.Message → Course (Came packet ∷ []) None old new → Stood (Woken was) new.desk.end new.held new.palm
came_woken was old new palm packet stands told hears course =
    let end = (end_takes old.desk.end packet).end in
    let holds = course.holds in
    let palms = course.palms in
    let woken = desk_woken was old.desk.end holds.0 palm packet (desk_takes (Waking was) old.desk.end old.held holds.0 palm packet stands holds.1) hears in
    let said = hears_stood (Woken was) end holds.0 palm (end_takes old.desk.end packet).said palms.0 woken (told_as _ palm (palms.1.comes ∙ told) palms.1.hears) in
    let ended = ends_stood None (Woken was) end holds.0 new.held said.palm new.palm said.stands holds.2
    (subst (λ (o : Option Palm). PalmEnds None o new.palm) said.told_is palms.2) in
    subst (λ (d : Desk). Stood (Woken was) d.end new.held new.palm) (sym course.desk) ended

event_woken : (was : Hand) (old new : Scene) (event : Event) → Stood (Waking was) old.desk.end old.held old.palm
    → then.Whole ≡ (reacts old.desk event).turn → Course (event ∷ []) None old new → Stood (Woken was) new.desk.end new.held new.palm
event_woken was old new (Awaits id) stood turn course = cc
event_woken was old new (Begins id message) stood turn course = cc
event_woken was old new (Came packet) stood turn course =
    came_woken was old new stood.palm packet stood.stands stood.told_is (heard-message (end_takes old.desk.end packet).heard packet turn) course
event_woken was old new (Read []) stood turn course = absurd (silence-not_whole old.desk turn)
event_woken was old new (Read (byte ∷ bytes)) stood turn course = cc

undelivered : (old new : Scene) → Listens Wake old new (Ok then.Delivered) → ⊥
undelivered old new listens = go listens.ends where
  go : EndsWith Wake (length listens.events) (Ok then.Delivered) listens.between new → ⊥
  go (inl ends) = let e : false ≡ true = ends.1 in cc
  go (inr ends) = let e : then.Delivered ≡ then.GoesOn = ends.1 in cc

-- what was answered where all went well
pub whole_only : (old new : Scene) (answer : Result Turn PortFault) → None ≡ waking_cause answer → Listens Wake old new answer → answer ≡ Ok then.Whole
whole_only old new (Ok then.Whole) none listens = refl
whole_only old new (Ok then.Delivered) none listens = absurd (undelivered old new listens)
whole_only old new (Ok then.GoesOn) none listens = cc
whole_only old new (Ok then.Quiet) none listens = cc
whole_only old new (Ok then.Spent) none listens = cc
whole_only old new (Ok then.Silent) none listens = cc
whole_only old new (Ok then.Aborted) none listens = cc
whole_only old new (Ok then.Greeted) none listens = cc
whole_only old new (Err Failed) none listens = cc
whole_only old new (Err NoMemory) none listens = cc

pub listens_woken : (was : Hand) (old new : Scene) → Stood (Waking was) old.desk.end old.held old.palm → Listens Wake old new (Ok then.Whole)
    → Stood (Woken was) new.desk.end new.held new.palm
listens_woken was old new stood listens = go listens.ends where
  go : EndsWith Wake (length listens.events) (Ok then.Whole) listens.between new → Stood (Woken was) new.desk.end new.held new.palm
  go (inl ends) = event_woken was listens.between new ends.0.0 (between_stood (Waking was) Wake (Ok then.Whole) old new stood listens) ends.0.2 ends.0.3
  go (inr ends) = let e : then.Whole ≡ then.GoesOn = ends.1 in cc

-- ---- the init

pub inits_stood : (fault : Option PortFault) (was : Hand) (old new : Scene) → Stood (Woken was) old.desk.end old.held old.palm
    → Course (Begins 255 init_text ∷ []) fault old new → Stood (Greeting was) new.desk.end new.held new.palm
inits_stood fault was old new stood course =
    let end = (end_begins old.desk.end 255 init_text).1 in
    let holds = course.holds in
    let palms = course.palms in
    let dropped = desk_drops (Woken was) old.desk.end old.held holds.0 stood.palm stood.stands holds.1 in
    let began = desk_greets was old.desk.end holds.0 stood.palm 255 init_text dropped (omega arith) in
    let said = hears_stood (Greeting was) end holds.0 stood.palm (end_begins old.desk.end 255 init_text).0 palms.0 began
    (told_as _ stood.palm (palms.1.comes ∙ stood.told_is) palms.1.hears) in
    let ended = ends_stood fault (Greeting was) end holds.0 new.held said.palm new.palm said.stands holds.2
    (subst (λ (o : Option Palm). PalmEnds fault o new.palm) said.told_is palms.2) in
    subst (λ (d : Desk). Stood (Greeting was) d.end new.held new.palm) (sym course.desk) ended

-- the init was delivered, and nothing of it waits
pub record Greeted (was : Hand) (end : EndValue) (held : List ℕ) (told : Option Palm) : Type 0 where
  pub stood : Stood (Resting was) end held told
  pub quiet : waiting end.sender ≡ None

no-turn : (b : Bool) (x y : Turn) → (then.Delivered ≡ x → ⊥) → (then.Delivered ≡ y → ⊥) → then.Delivered ≡ (if b then x else y) → ⊥
no-turn true x y not_x not_y e = not_x e
no-turn false x y not_x not_y e = not_y e

no-reaction : (b : Bool) (x y : Reaction) → (then.Delivered ≡ x.turn → ⊥) → (then.Delivered ≡ y.turn → ⊥) → then.Delivered ≡ (if b then x else y).turn → ⊥
no-reaction true x y not_x not_y e = not_x e
no-reaction false x y not_x not_y e = not_y e

heard-delivered : (hears : Heard) (packet : PacketValue) → then.Delivered ≡ turn_of hears packet → hears ≡ heard.Delivered
heard-delivered heard.Nothing packet e = absurd (no-turn (is_greeting (arrival_of packet)) then.Greeted then.GoesOn
    (λ (e : then.Delivered ≡ then.Greeted). cc) (λ (e : then.Delivered ≡ then.GoesOn). cc) e)
heard-delivered heard.Tickle packet e = cc
heard-delivered heard.Delivered packet e = refl
heard-delivered heard.Message packet e = cc
heard-delivered heard.Stop packet e = cc

silence-not_delivered : (desk : Desk) → then.Delivered ≡ (silence desk).turn → ⊥
silence-not_delivered desk e =
    no-reaction (is_some (waiting desk.end.sender)) (waiting_silence desk) (idle_silence desk)
    (λ (e : then.Delivered ≡ (waiting_silence desk).turn). no-turn (is_spent desk.end) then.Spent then.GoesOn
    (λ (e : then.Delivered ≡ then.Spent). cc) (λ (e : then.Delivered ≡ then.GoesOn). cc) e)
    (λ (e : then.Delivered ≡ (idle_silence desk).turn). no-turn (nat_eq (desk.patience - 1) 0) then.Silent then.Quiet
    (λ (e : then.Delivered ≡ then.Silent). cc) (λ (e : then.Delivered ≡ then.Quiet). cc) e)
    e

came_greeted : (was : Hand) (old new : Scene) (palm : Palm) (packet : PacketValue) → Stands (Greeting was) old.desk.end old.held palm → old.palm ≡ Some palm
    → (end_takes old.desk.end packet).heard ≡ heard.Delivered → Course (Came packet ∷ []) None old new → Greeted was new.desk.end new.held new.palm
came_greeted was old new palm packet stands told hears course =
    let end = (end_takes old.desk.end packet).end in
    let holds = course.holds in
    let palms = course.palms in
    let took = desk_takes (Greeting was) old.desk.end old.held holds.0 palm packet stands holds.1 in
    let said = hears_stood (Resting was) end holds.0 palm (end_takes old.desk.end packet).said palms.0
    (desk_greeted was old.desk.end holds.0 palm packet took hears) (told_as _ palm (palms.1.comes ∙ told) palms.1.hears) in
    let ended = ends_stood None (Resting was) end holds.0 new.held said.palm new.palm said.stands holds.2
    (subst (λ (o : Option Palm). PalmEnds None o new.palm) said.told_is palms.2) in
    subst (λ (d : Desk). Greeted was d.end new.held new.palm) (sym course.desk) (record { stood = ended; quiet = took.right.quiet hears })

event_greeted : (was : Hand) (old new : Scene) (event : Event) → Stood (Greeting was) old.desk.end old.held old.palm
    → then.Delivered ≡ (reacts old.desk event).turn → Course (event ∷ []) None old new → Greeted was new.desk.end new.held new.palm
event_greeted was old new (Awaits id) stood turn course = cc
event_greeted was old new (Begins id message) stood turn course = cc
event_greeted was old new (Came packet) stood turn course =
    came_greeted was old new stood.palm packet stood.stands stood.told_is (heard-delivered (end_takes old.desk.end packet).heard packet turn) course
event_greeted was old new (Read []) stood turn course = absurd (silence-not_delivered old.desk turn)
event_greeted was old new (Read (byte ∷ bytes)) stood turn course = cc

listens_greeted : (was : Hand) (old new : Scene) (answer : Result Turn PortFault) → None ≡ cause_of answer
    → Stood (Greeting was) old.desk.end old.held old.palm → Listens Delivery old new answer → Greeted was new.desk.end new.held new.palm
listens_greeted was old new (Ok then.Delivered) none stood listens = go listens.ends where
  go : EndsWith Delivery (length listens.events) (Ok then.Delivered) listens.between new → Greeted was new.desk.end new.held new.palm
  go (inl ends) = event_greeted was listens.between new ends.0.0 (between_stood (Greeting was) Delivery (Ok then.Delivered) old new stood listens) ends.0.2 ends.0.3
  go (inr ends) = let e : then.Delivered ≡ then.GoesOn = ends.1 in cc
listens_greeted was old new (Ok then.Whole) none stood listens = go listens.ends where
  go : EndsWith Delivery (length listens.events) (Ok then.Whole) listens.between new → Greeted was new.desk.end new.held new.palm
  go (inl ends) = let e : false ≡ true = ends.1 in cc
  go (inr ends) = let e : then.Whole ≡ then.GoesOn = ends.1 in cc
listens_greeted was old new (Ok then.GoesOn) none stood listens = cc
listens_greeted was old new (Ok then.Quiet) none stood listens = cc
listens_greeted was old new (Ok then.Spent) none stood listens = cc
listens_greeted was old new (Ok then.Silent) none stood listens = cc
listens_greeted was old new (Ok then.Aborted) none stood listens = cc
listens_greeted was old new (Ok then.Greeted) none stood listens = cc
listens_greeted was old new (Err fault) none stood listens = absurd (fault-caused fault none)

-- the transaction of what an end says stays while it listens
happens_id : (answer : Result Turn PortFault) (old new : Scene) → Happens answer old new → new.desk.end.sender.id ≡ old.desk.end.sender.id
happens_id (Ok turn) old new happens =
    ap (λ (d : Desk). d.end.sender.id) happens.3.desk ∙ (events_keep old.desk (happens.0 ∷ []) (happens.1, tt)).id
happens_id (Err fault) old new happens =
    ap (λ (d : Desk). d.end.sender.id) happens.2.desk ∙ (events_keep old.desk happens.0 (heard_once happens.0 happens.1)).id

ends_id : (awaited : Awaited) (count : ℕ) (answer : Result Turn PortFault) (old new : Scene) → EndsWith awaited count answer old new
    → new.desk.end.sender.id ≡ old.desk.end.sender.id
ends_id awaited count (Ok turn) old new (inl ends) = happens_id (Ok turn) old new ends.0
ends_id awaited count (Ok turn) old new (inr ends) = ap (λ (s : Scene). s.desk.end.sender.id) ends.2
ends_id awaited count (Err fault) old new ends = happens_id (Err fault) old new ends

listens_id : (awaited : Awaited) (answer : Result Turn PortFault) (old new : Scene) → Listens awaited old new answer
    → new.desk.end.sender.id ≡ old.desk.end.sender.id
listens_id awaited answer old new listens =
    ends_id awaited (length listens.events) answer listens.between new listens.ends
    ∙ ap (λ (d : Desk). d.end.sender.id) listens.course.desk
    ∙ (events_keep old.desk listens.events (through_heard awaited old.desk listens.events listens.through)).id

-- ---- the whole greeting

waits_stood : (palm : Palm) (old between : Scene) (id : ℕ) (answer : Result Turn PortFault) → IsUnsaid old.desk.end old.held id palm → old.palm ≡ Some palm
    → Says Wake (Awaits 255 ∷ []) old between answer → Stood (Waking palm.hand) between.desk.end between.held between.palm
waits_stood palm old between id answer unsaid told (inl says) =
    listens_stood (Waking palm.hand) Wake answer says.0 between (opens_stood None palm old says.0 id unsaid told says.1) says.2
waits_stood palm old between id answer unsaid told (inr says) = opens_stood (Some says.0) palm old between id unsaid told says.2

fault_wakes : (fault : PortFault) → None ≡ waking_cause (Err fault) → ⊥
fault_wakes Failed e = cc
fault_wakes NoMemory e = cc

waits_woken : (palm : Palm) (old between : Scene) (id : ℕ) (answer : Result Turn PortFault) → None ≡ waking_cause answer
    → IsUnsaid old.desk.end old.held id palm → old.palm ≡ Some palm
    → Says Wake (Awaits 255 ∷ []) old between answer → Stood (Woken palm.hand) between.desk.end between.held between.palm
waits_woken palm old between id answer none unsaid told (inl says) =
    listens_woken palm.hand says.0 between (opens_stood None palm old says.0 id unsaid told says.1)
    (subst (λ (a : Result Turn PortFault). Listens Wake says.0 between a) (whole_only says.0 between answer none says.2) says.2)
waits_woken palm old between id answer none unsaid told (inr says) =
    absurd (fault_wakes says.0 (none ∙ ap waking_cause says.1))

-- how the link stands behind it
pub record HasMet (was : Palm) (new : Scene) (result : Result ℕ PortCause) : Type 0 where
  pub met : Met was.hand new.desk.end new.held new.palm
  pub still : None ≡ result_err result → IsStill new.desk.end new.held 255 met.palm

still_of : (was : Palm) (end : EndValue) (held : List ℕ) (told : Option Palm) → is_first was ≡ true → IsOurs was.hand → (greeted : Greeted was.hand end held told)
    → end.sender.id ≡ 255 → IsStill end held 255 greeted.stood.palm
still_of was end held told first ours greeted id_is =
    let start = opened was first in
    let palm = greeted.stood.palm in
    let at = greeted.stood.stands.at in
    let performed : palm.hand.performed ≡ [] = at.did.performed_is ∙ start.performed in
    let replies : palm.hand.replies ≡ [] = at.did.replies_are ∙ start.replies in
    record {
      ours = subst (λ (d : Device). IsDevice d × IsBounded d) (sym at.did.device_is) ours;
      stands = at_stage (Resting was.hand) (Resting palm.hand) end held palm greeted.stood.stands (record {
        did = record { device_is = refl; performed_is = refl; replies_are = refl };
        over = at.over;
        other = at.other;
      });
      quiet = greeted.quiet;
      sender_is = id_is;
      id_is = ap (λ (ps : List (List ℕ)). session_id (length ps)) (sym performed);
      even = ap (λ (rs : List (List ℕ)). length rs) replies ∙ ap (λ (ps : List (List ℕ)). length ps) (sym performed);
    }

rate_given : (cause : Option PortCause) (rate : ℕ) → None ≡ result_err (rate_unless cause rate) → None ≡ cause
rate_given None rate none = refl
rate_given (Some cause) rate none = cc

inits_met : (was : Palm) (old new : Scene) (rate : ℕ) (answer : Result Turn PortFault) → is_first was ≡ true → IsOurs was.hand
    → Stood (Woken was.hand) old.desk.end old.held old.palm → Says Delivery (Begins 255 init_text ∷ []) old new answer
    → HasMet was new (rate_unless (cause_of answer) rate)
inits_met was old new rate answer first ours stood (inl says) =
    let greeting = inits_stood None was.hand old says.0 stood says.1 in
    let listened = listens_stood (Greeting was.hand) Delivery answer says.0 new greeting says.2 in
    go (cause_of answer) refl greeting listened where
      id_is : new.desk.end.sender.id ≡ 255
      id_is = listens_id Delivery answer says.0 new says.2 ∙ ap (λ (d : Desk). d.end.sender.id) says.1.desk

      go : (cause : Option PortCause) → cause_of answer ≡ cause → Stood (Greeting was.hand) says.0.desk.end says.0.held says.0.palm
          → Stood (Greeting was.hand) new.desk.end new.held new.palm → HasMet was new (rate_unless cause rate)
      go (Some cause) is greeting listened = record { met = met_greeting was.hand new.desk.end new.held new.palm listened; still = λ none. cc }
      go None is greeting listened =
          let greeted = listens_greeted was.hand says.0 new answer (sym is) greeting says.2 in
          record {
            met = record { palm = greeted.stood.palm; told_is = greeted.stood.told_is; did = greeted.stood.stands.at.did };
            still = λ none. still_of was new.desk.end new.held new.palm first ours greeted id_is;
          }
inits_met was old new rate answer first ours stood (inr says) =
    let greeting = inits_stood (Some says.0) was.hand old new stood says.2 in
    record {
      met = met_greeting was.hand new.desk.end new.held new.palm greeting;
      still = λ none. absurd (fault-caused says.0 (rate_given (cause_of answer) rate none ∙ ap cause_of says.1));
    }

pub greets_met : (was : Palm) (old new : Scene) (id : ℕ) (result : Result ℕ PortCause) → IsUnsaid old.desk.end old.held id was → old.palm ≡ Some was
    → Greets old new result → HasMet was new result
greets_met was old new id result unsaid told greets = go (waking_cause greets.answer) refl greets.goes_on where
  waking : Stood (Waking was.hand) greets.between.desk.end greets.between.held greets.between.palm
  waking = waits_stood was old greets.between id greets.answer unsaid told greets.waits

  stays : (result : Result ℕ PortCause) (cause : PortCause) → new ≡ greets.between → result ≡ Err cause → HasMet was new result
  stays result cause same is = record {
    met = subst (λ (s : Scene). Met was.hand s.desk.end s.held s.palm) (sym same)
        (met_waking was.hand greets.between.desk.end greets.between.held greets.between.palm waking);
    still = λ none. failed (none ∙ ap result_err is);
  } where
    failed : {X : Type 0} → None ≡ Some cause → X
    failed e = cc

  woke : (wake : Result ℕ PortCause) → None ≡ waking_cause greets.answer → Inits wake greets.between new result → HasMet was new result
  woke (Err cause) none inits = stays result cause inits.0 inits.1
  woke (Ok rate) none inits =
      subst (HasMet was new) (sym inits.2) (inits_met was greets.between new rate inits.0 unsaid.first unsaid.ours
      (waits_woken was old greets.between id greets.answer none unsaid told greets.waits) inits.1)

  go : (cause : Option PortCause) → waking_cause greets.answer ≡ cause → GoesOnFrom cause greets.between new result → HasMet was new result
  go (Some cause) is goes = stays result cause goes.0 goes.1
  go None is goes = woke goes.0 (sym is) goes.2
