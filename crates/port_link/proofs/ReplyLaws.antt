-- A reply over a port with a handheld behind it, and a request without one.
use Rattle.std.proofs.Common.{◌≡◌, ◌⊎◌, ◌≤◌, ◌<◌, ◌^◌, get_or, ℕ, ◌+◌, ◌-◌, true, false, List, [], ◌∷◌, ◌++◌, length, take, nat_eq, inl, inr, refl, sym, ap, subst, ◌∙◌, arith}
use Rattle.std.specs.Prelude.{Option, Some, None, Result, Ok, Err}
use Rattle.std.specs.Option.{option_map}
use Rattle.std.proofs.lemmas.Bool.{cond-false, cond-true, eq-eqb, ne_eqb}
use Rattle.std.proofs.lemmas.List.{length-append, take-append-le}
use Rattle.std.proofs.Math.Seq.{take-length}
use Rattle.dlp_commands.specs.DeviceRuns.{Exchange, exchanged}
use Rattle.dlp_commands.proofs.StepLaws.{bounded_stays, sound_stays, stepped}
use Rattle.dlp_commands.specs.DeviceSteps.{DeviceStep}
use Rattle.dlp_commands.specs.Talks.{WasAnswered, WasLeft}
use Rattle.device_stream.specs.Hands.{Hand}
use Rattle.padp_end.specs.Ends.{EndValue, end_takes}
use Rattle.padp_end.specs.declared.heard.Heard.TheVariants as heard
use Rattle.padp_link.proofs.NeighbourLaws.{next_id_differs}
use Rattle.padp_link.specs.Neighbours.{session_id}
use Rattle.padp_link.specs.Receivers.{whole_of}
use Rattle.padp_link.specs.Senders.{waiting}
use Rattle.palm_device.specs.Devices.{Device}
use Rattle.port_laws.proofs.DeskLaws.{desk_takes}
use Rattle.port_laws.proofs.StageLaws.{at_stage, desk_replied}
use Rattle.port_laws.specs.Palms.{Palm}
use Rattle.port_laws.specs.Talking.{Asking, IsBefore, IsBehind, Resting, Stands, side}
use Rattle.port_line.specs.declared.port_fault.PortFault.{PortFault}
use Rattle.slp_frames.specs.PacketText.{PacketValue}
use Rattle.port_link.specs.declared.awaited.Awaited.TheVariants.{Message}
use Rattle.port_link.specs.declared.desk.Desk.{Desk}
use Rattle.port_link.specs.declared.port_cause.PortCause.{PortCause}
use Rattle.port_link.specs.declared.turn.Turn.{Turn}
use Rattle.port_link.specs.declared.turn.Turn.TheVariants as then
use Rattle.port_link.specs.Answered.{AreHeard}
use Rattle.port_link.specs.Behind.{PalmEnds}
use Rattle.port_link.specs.Calls.{Says}
use Rattle.port_link.specs.Causes.{cause_of}
use Rattle.port_link.specs.Courses.{Course, Happens, IsHeardOnce, Scene}
use Rattle.port_link.specs.Desks.{Awaits, Begins, Came, Event, Read, reacts}
use Rattle.port_link.specs.Greetings.{id_behind}
use Rattle.port_link.specs.Listening.{EndsWith, Listens}
use Rattle.port_link.specs.Standing.{IsStill, answered_but, but_last, exchanges_of, talk_at}
use Rattle.port_link.proofs.AskLaws.{Asked, acts_asked, events_keep}
use Rattle.port_link.proofs.StandLaws.{Stood, ends_stood, events_stood, hears_stood, through_heard, told_as}
use Rattle.port_link.proofs.WholeLaws.{fault-caused, heard-message, not_delivered, silence-not_whole}

-- ---- events behind a request

pub heard_once : (events : List Event) → IsHeardOnce events → AreHeard events
heard_once [] once = tt
heard_once (event ∷ events) once = (once.0, subst AreHeard (sym once.1) tt)

course_asked : (fault : Option PortFault) (was : Hand) (request : List ℕ) (id : ℕ) (events : List Event) (old new : Scene) → AreHeard events
    → Asked was request id old.desk.end old.held old.palm → Course events fault old new → Asked was request id new.desk.end new.held new.palm
course_asked fault was request id events old new heard asked course =
    let stood = events_stood fault (Asking was request) old.desk events old.held new.held old.palm new.palm heard asked.stood course.holds course.palms in
    let keeps = events_keep old.desk events heard in
    subst (λ (d : Desk). Asked was request id d.end new.held new.palm) (sym course.desk)
    (record { stood = stood; id_is = keeps.id ∙ asked.id_is; message_is = keeps.message ∙ asked.message_is })

happens_asked : (was : Hand) (request : List ℕ) (id : ℕ) (answer : Result Turn PortFault) (old new : Scene)
    → Asked was request id old.desk.end old.held old.palm → Happens answer old new → Asked was request id new.desk.end new.held new.palm
happens_asked was request id (Ok turn) old new asked happens =
    course_asked None was request id (happens.0 ∷ []) old new (happens.1, tt) asked happens.3
happens_asked was request id (Err fault) old new asked happens =
    course_asked (Some fault) was request id happens.0 old new (heard_once happens.0 happens.1) asked happens.2

ends_asked : (was : Hand) (request : List ℕ) (id count : ℕ) (answer : Result Turn PortFault) (old new : Scene)
    → Asked was request id old.desk.end old.held old.palm → EndsWith Message count answer old new → Asked was request id new.desk.end new.held new.palm
ends_asked was request id count (Ok turn) old new asked (inl ends) = happens_asked was request id (Ok turn) old new asked ends.0
ends_asked was request id count (Ok turn) old new asked (inr ends) =
    subst (λ (s : Scene). Asked was request id s.desk.end s.held s.palm) (sym ends.2) asked
ends_asked was request id count (Err fault) old new asked ends = happens_asked was request id (Err fault) old new asked ends

between_asked : (was : Hand) (request : List ℕ) (id : ℕ) (answer : Result Turn PortFault) (old new : Scene)
    → Asked was request id old.desk.end old.held old.palm → (listens : Listens Message old new answer)
    → Asked was request id listens.between.desk.end listens.between.held listens.between.palm
between_asked was request id answer old new asked listens =
    course_asked None was request id listens.events old listens.between (through_heard Message old.desk listens.events listens.through) asked listens.course

-- whatever is answered
pub says_asked : (palm : Palm) (request : List ℕ) (id number : ℕ) (answer : Result Turn PortFault) (old new : Scene) → length request ≤ 65535
    → IsStill old.desk.end old.held number palm → old.palm ≡ Some palm → id ≡ id_behind number
    → Says Message (Awaits id ∷ Begins id request ∷ []) old new answer → Asked palm.hand request id new.desk.end new.held new.palm
says_asked palm request id number answer old new short still told id_is (inl says) =
    let asked = acts_asked None id number request old says.0 palm short still told id_is says.1 in
    ends_asked palm.hand request id (length says.2.events) answer says.2.between new (between_asked palm.hand request id answer says.0 new asked says.2) says.2.ends
says_asked palm request id number answer old new short still told id_is (inr says) =
    acts_asked (Some says.0) id number request old new palm short still told id_is says.2

-- ---- the reply

-- it was taken, and the handheld is this then
pub record Taken (was : Hand) (request : List ℕ) (end : EndValue) (held : List ℕ) (told : Option Palm) : Type 0 where
  pub hand : Hand
  pub reply : List ℕ
  pub whole : whole_of end.receiver.pieces ≡ Some reply
  pub step : DeviceStep was.device request reply hand.device
  pub performed_is : hand.performed ≡ was.performed ++ request ∷ []
  pub replies_are : hand.replies ≡ was.replies ++ reply ∷ []
  pub quiet : waiting end.sender ≡ None
  pub stood : Stood (Resting hand) end held told

came_taken : (was : Hand) (request : List ℕ) (old new : Scene) (palm : Palm) (packet : PacketValue) → Stands (Asking was request) old.desk.end old.held palm
    → old.palm ≡ Some palm → (end_takes old.desk.end packet).heard ≡ heard.Message → Course (Came packet ∷ []) None old new
    → Taken was request new.desk.end new.held new.palm
came_taken was request old new palm packet stands told hears course =
    let end = (end_takes old.desk.end packet).end in
    let holds = course.holds in
    let palms = course.palms in
    let replied = desk_replied was request old.desk.end holds.0 palm packet (desk_takes (Asking was request) old.desk.end old.held holds.0 palm packet stands holds.1) hears in
    let said = hears_stood (Resting palm.hand) end holds.0 palm (end_takes old.desk.end packet).said palms.0 replied.stands
    (told_as _ palm (palms.1.comes ∙ told) palms.1.hears) in
    let ended = ends_stood None (Resting palm.hand) end holds.0 new.held said.palm new.palm said.stands holds.2
    (subst (λ (o : Option Palm). PalmEnds None o new.palm) said.told_is palms.2) in
    subst (λ (d : Desk). Taken was request d.end new.held new.palm) (sym course.desk) (record {
      hand = palm.hand;
      reply = replied.reply;
      whole = replied.whole;
      step = replied.step;
      performed_is = replied.performed_is;
      replies_are = replied.replies_are;
      quiet = replied.quiet;
      stood = ended;
    })

event_taken : (was : Hand) (request : List ℕ) (old new : Scene) (event : Event) → Stood (Asking was request) old.desk.end old.held old.palm
    → then.Whole ≡ (reacts old.desk event).turn → Course (event ∷ []) None old new → Taken was request new.desk.end new.held new.palm
event_taken was request old new (Awaits id) stood turn course = cc
event_taken was request old new (Begins id message) stood turn course = cc
event_taken was request old new (Came packet) stood turn course =
    came_taken was request old new stood.palm packet stood.stands stood.told_is (heard-message (end_takes old.desk.end packet).heard packet turn) course
event_taken was request old new (Read []) stood turn course = absurd (silence-not_whole old.desk turn)
event_taken was request old new (Read (byte ∷ bytes)) stood turn course = cc

listens_taken : (was : Hand) (request : List ℕ) (id : ℕ) (answer : Result Turn PortFault) (old new : Scene) → None ≡ cause_of answer
    → Asked was request id old.desk.end old.held old.palm → Listens Message old new answer → Taken was request new.desk.end new.held new.palm
listens_taken was request id (Ok then.Whole) old new none asked listens = go listens.ends where
  go : EndsWith Message (length listens.events) (Ok then.Whole) listens.between new → Taken was request new.desk.end new.held new.palm
  go (inl ends) = event_taken was request listens.between new ends.0.0 (between_asked was request id (Ok then.Whole) old new asked listens).stood ends.0.2 ends.0.3
  go (inr ends) = let e : then.Whole ≡ then.GoesOn = ends.1 in cc
listens_taken was request id (Ok then.Delivered) old new none asked listens = absurd (not_delivered old new listens)
listens_taken was request id (Ok then.GoesOn) old new none asked listens = cc
listens_taken was request id (Ok then.Quiet) old new none asked listens = cc
listens_taken was request id (Ok then.Spent) old new none asked listens = cc
listens_taken was request id (Ok then.Silent) old new none asked listens = cc
listens_taken was request id (Ok then.Aborted) old new none asked listens = cc
listens_taken was request id (Ok then.Greeted) old new none asked listens = cc
listens_taken was request id (Err fault) old new none asked listens = absurd (fault-caused fault none)

pub says_taken : (palm : Palm) (request : List ℕ) (id number : ℕ) (answer : Result Turn PortFault) (old new : Scene) → length request ≤ 65535
    → IsStill old.desk.end old.held number palm → old.palm ≡ Some palm → id ≡ id_behind number → None ≡ cause_of answer
    → Says Message (Awaits id ∷ Begins id request ∷ []) old new answer → Taken palm.hand request new.desk.end new.held new.palm
says_taken palm request id number answer old new short still told id_is none (inl says) =
    listens_taken palm.hand request id answer says.0 new none (acts_asked None id number request old says.0 palm short still told id_is says.1) says.2
says_taken palm request id number answer old new short still told id_is none (inr says) = absurd (fault-caused says.0 (none ∙ ap cause_of says.1))

-- ---- what the link tells

pub exchanged-more : (xs ys : List (List ℕ)) (x y : List ℕ) → length ys ≡ length xs
    → exchanged (xs ++ x ∷ []) (ys ++ y ∷ []) ≡ exchanged xs ys ++ record { request = x; reply = y } ∷ []
exchanged-more [] [] x y same = refl
exchanged-more [] (b ∷ ys) x y same = absurd (omega (arith, same))
exchanged-more (a ∷ xs) [] x y same = absurd (omega (arith, same))
exchanged-more (a ∷ xs) (b ∷ ys) x y same = ap (λ l. record { request = a; reply = b } ∷ l) (exchanged-more xs ys x y (omega (arith, same)))

pub exchanges_more : (was hand : Hand) (request reply : List ℕ) → length was.replies ≡ length was.performed → hand.performed ≡ was.performed ++ request ∷ []
    → hand.replies ≡ was.replies ++ reply ∷ [] → exchanges_of hand ≡ exchanges_of was ++ record { request = request; reply = reply } ∷ []
exchanges_more was hand request reply even performed replies =
    ap (λ (ps : List (List ℕ)). exchanged ps hand.replies) performed ∙ ap (λ (rs : List (List ℕ)). exchanged (was.performed ++ request ∷ []) rs) replies
    ∙ exchanged-more was.performed was.replies request reply even

but_last-more : (exchanges : List Exchange) (exchange : Exchange) → but_last (exchanges ++ exchange ∷ []) ≡ exchanges
but_last-more exchanges exchange =
    let size : length (exchanges ++ exchange ∷ []) - 1 ≡ length exchanges = let n = length-append exchanges (exchange ∷ []) in omega (arith, n) in
    ap (λ (n : ℕ). take n (exchanges ++ exchange ∷ [])) size ∙ take-append-le (length exchanges) exchanges (exchange ∷ []) (omega arith)
    ∙ take-length exchanges

-- an exchange that was answered
pub taken_answered : (was : Palm) (request : List ℕ) (number id : ℕ) (old end : EndValue) (oldheld held : List ℕ) (told : Option Palm)
    → ((i : ℕ) → get_or request i 0 < 2 ^ 8) → IsStill old oldheld number was → id ≡ session_id (length was.hand.performed + 1) → end.sender.id ≡ id
    → (taken : Taken was.hand request end held told)
    → WasAnswered (talk_at None true number old was) request taken.reply (option_map (talk_at None true id end) told)
    × IsStill end held id taken.stood.palm
taken_answered was request number id old end oldheld held told bytes still id_is sender_is taken =
    let palm = taken.stood.palm in
    let did = taken.stood.stands.at.did in
    let exchange : Exchange = record { request = request; reply = taken.reply } in
    let performed : palm.hand.performed ≡ was.hand.performed ++ request ∷ [] = did.performed_is ∙ taken.performed_is in
    let replies : palm.hand.replies ≡ was.hand.replies ++ taken.reply ∷ [] = did.replies_are ∙ taken.replies_are in
    let many : length palm.hand.performed ≡ length was.hand.performed + 1 = ap (λ (l : List (List ℕ)). length l) performed ∙ length-append was.hand.performed (request ∷ []) in
    let stepped_is = stepped was.hand.device palm.hand.device request taken.reply
    (subst (λ (d : Device). DeviceStep was.hand.device request taken.reply d) (sym did.device_is) taken.step) in
    let more : length palm.hand.replies ≡ length was.hand.replies + 1 = ap (λ (l : List (List ℕ)). length l) replies ∙ length-append was.hand.replies (taken.reply ∷ []) in (
      record {
        device = palm.hand.device;
        step = subst (λ (d : Device). DeviceStep was.hand.device request taken.reply d) (sym did.device_is) taken.step;
        none_left = refl;
        is = ap (option_map (talk_at None true id end)) taken.stood.told_is
            ∙ ap (λ (es : List Exchange). Some (record { device = palm.hand.device; exchanges = es; left = None }))
            (exchanges_more was.hand palm.hand request taken.reply still.even performed replies);
      },
      record {
        ours = (
          sound_stays was.hand.device palm.hand.device request taken.reply still.ours.0 stepped_is,
          bounded_stays was.hand.device palm.hand.device request taken.reply bytes still.ours.0 still.ours.1 stepped_is,
        );
        stands = rested palm end held taken.stood.stands;
        quiet = taken.quiet;
        sender_is = sender_is;
        id_is = id_is ∙ ap session_id (sym many);
        even = more ∙ ap (λ (n : ℕ). n + 1) still.even ∙ sym many;
      },
    ) where
      rested : (palm : Palm) (end : EndValue) (held : List ℕ) → Stands (Resting taken.hand) end held palm → Stands (Resting palm.hand) end held palm
      rested palm end held stands = at_stage (Resting taken.hand) (Resting palm.hand) end held palm stands (record {
        did = record { device_is = refl; performed_is = refl; replies_are = refl };
        over = stands.at.over;
        other = stands.at.other;
      })

-- one that wasn't
pub asked_left : (cause : PortCause) (was : Palm) (request : List ℕ) (number id : ℕ) (old end : EndValue) (oldheld held : List ℕ) (told : Option Palm)
    → IsStill old oldheld number was → id ≡ session_id (length was.hand.performed + 1) → Asked was.hand request id end held told
    → WasLeft (talk_at None true number old was) request (option_map (talk_at (Some cause) true id end) told)
asked_left cause was request number id old end oldheld held told still id_is asked = go asked.stood.stands.at where
  go : IsBefore was.hand request (side end asked.stood.stands.desk) (side asked.stood.palm.hand.end asked.stood.stands.hand) asked.stood.palm.hand
      ⊎ IsBehind was.hand request (side end asked.stood.stands.desk) (side asked.stood.palm.hand.end asked.stood.stands.hand) asked.stood.palm.hand
      → WasLeft (talk_at None true number old was) request (option_map (talk_at (Some cause) true id end) told)
  go (inl before) =
      let hand = asked.stood.palm.hand in
      let other : nat_eq hand.end.sender.id id ≡ false = ne_eqb _ _ (λ same. next_id_differs (length was.hand.performed)
      (sym (asked.stood.stands.id_is ∙ ap (λ (ps : List (List ℕ)). session_id (length ps)) before.did.performed_is) ∙ same ∙ id_is)) in
      let exchanges : answered_but id hand ≡ exchanges_of was.hand = cond-false (nat_eq hand.end.sender.id id) (but_last (exchanges_of hand)) (exchanges_of hand) other
      ∙ ap (λ (ps : List (List ℕ)). exchanged ps hand.replies) before.did.performed_is
      ∙ ap (λ (rs : List (List ℕ)). exchanged was.hand.performed rs) before.did.replies_are in
      record {
        device = hand.device;
        step = inl before.did.device_is;
        none_left = refl;
        is = ap (option_map (talk_at (Some cause) true id end)) asked.stood.told_is
            ∙ ap (λ (es : List Exchange). Some (record { device = hand.device; exchanges = es; left = Some end.message })) exchanges
            ∙ ap (λ (m : List ℕ). Some (record { device = hand.device; exchanges = exchanges_of was.hand; left = Some m })) asked.message_is;
      }
  go (inr behind) =
      let hand = asked.stood.palm.hand in
      let many : length hand.performed ≡ length was.hand.performed + 1
      = ap (λ (l : List (List ℕ)). length l) behind.performed_is ∙ length-append was.hand.performed (request ∷ []) in
      let same : nat_eq hand.end.sender.id id ≡ true = eq-eqb _ _ (asked.stood.stands.id_is ∙ ap session_id many ∙ sym id_is) in
      let exchange : Exchange = record { request = request; reply = hand.end.message } in
      let exchanges : answered_but id hand ≡ exchanges_of was.hand = cond-true (nat_eq hand.end.sender.id id) (but_last (exchanges_of hand)) (exchanges_of hand) same
      ∙ ap but_last (exchanges_more was.hand hand request hand.end.message still.even behind.performed_is behind.replies_are)
      ∙ but_last-more (exchanges_of was.hand) exchange in
      record {
        device = hand.device;
        step = inr (hand.end.message, behind.step);
        none_left = refl;
        is = ap (option_map (talk_at (Some cause) true id end)) asked.stood.told_is
            ∙ ap (λ (es : List Exchange). Some (record { device = hand.device; exchanges = es; left = Some end.message })) exchanges
            ∙ ap (λ (m : List ℕ). Some (record { device = hand.device; exchanges = exchanges_of was.hand; left = Some m })) asked.message_is;
      }
