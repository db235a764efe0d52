-- What a handheld behind a link performed, by the link's calls.
use Rattle.std.proofs.Common.{◌≡◌, ◌⊎◌, ◌+◌, ℕ, Bool, true, false, List, [], ◌∷◌, ◌++◌, length, inl, inr, refl, sym, ap, subst, ◌∙◌, arith}
use Rattle.std.specs.Prelude.{Option, Some, None}
use Rattle.std.specs.Option.{option_map}
use Rattle.std.proofs.lemmas.List.{append-nil, append_assoc, length-append}
use Rattle.dlp_commands.proofs.StepLaws.{ran_joined}
use Rattle.dlp_commands.specs.DeviceRuns.{DeviceRun, Exchange, Ran, exchanged}
use Rattle.dlp_commands.specs.DeviceSteps.{DeviceStep}
use Rattle.dlp_commands.specs.Talks.{Talk, WasLeft}
use Rattle.device_stream.specs.Hands.{Hand}
use Rattle.device_stream.specs.Laws.{DidNothing, DidOnce, DidOne}
use Rattle.padp_end.specs.Ends.{EndValue, first_end}
use Rattle.padp_link.specs.Neighbours.{session_id}
use Rattle.palm_device.specs.Devices.{Device}
use Rattle.port_laws.specs.Palms.{IsFirstTold, IsOurs, Palm, is_first}
use Rattle.port_laws.specs.Talking.{IsBefore, IsBehind, Resting, Stage, side}
use Rattle.port_link.specs.declared.awaited.Awaited.TheVariants.{Tick}
use Rattle.port_link.specs.declared.desk.Desk.{Desk}
use Rattle.port_link.specs.declared.port_cause.PortCause.{PortCause}
use Rattle.port_link.specs.Calls.{AreCalls, AsksGreeted, Call, Hello, Exchange as Asking, HailsFirst, IsCall, LinkValue, Bears, LeavesWith, Lingers, first_link, with_linger}
use Rattle.port_link.specs.Courses.{Scene, scene}
use Rattle.port_link.specs.Greetings.{id_behind}
use Rattle.port_link.specs.Logs.{EntryValue}
use Rattle.port_link.specs.Hands.{HasOneMore}
use Rattle.port_link.specs.Standing.{IsStill, exchanges_of, talk_at}
use Rattle.port_link.proofs.AskLaws.{Asked}
use Rattle.port_link.proofs.GreetLaws.{greets_met, listens_stood}
use Rattle.port_link.proofs.LinkLaws.{Standing, asks_told, hello_told, standing_first, standing_told}
use Rattle.port_link.proofs.ReplyLaws.{asked_left, exchanged-more, exchanges_more, says_asked, says_taken}
use Rattle.port_link.proofs.RoundLaws.{round}
use Rattle.port_link.proofs.StandLaws.{Stood}
use Rattle.port_laws.proofs.TakeLaws.{some_of}

-- ---- a hand since an earlier time

-- what it performed since it was another one
pub record HandSince (from hand : Hand) : Type 0 where
  pub requests : List (List ℕ)
  pub replies : List (List ℕ)
  pub run : DeviceRun from.device requests replies hand.device
  pub performed_is : hand.performed ≡ from.performed ++ requests
  pub replies_are : hand.replies ≡ from.replies ++ replies

since-itself : (hand : Hand) → HandSince hand hand
since-itself hand = record {
  requests = [];
  replies = [];
  run = record { same = refl; ran = refl };
  performed_is = sym (append-nil hand.performed);
  replies_are = sym (append-nil hand.replies);
}

pub since-once : {from old new : Hand} → HandSince from old → DidOnce old new → HandSince from new
since-once {from} {old} {new} since (inl did) = record {
  requests = since.requests;
  replies = since.replies;
  run = subst (λ (d : Device). DeviceRun from.device since.requests since.replies d) (sym did.device_is) since.run;
  performed_is = did.performed_is ∙ since.performed_is;
  replies_are = did.replies_are ∙ since.replies_are;
}
since-once {from} {old} {new} since (inr did) =
    let exchange : Exchange = record { request = did.request; reply = did.reply } in
    record {
      requests = since.requests ++ did.request ∷ [];
      replies = since.replies ++ did.reply ∷ [];
      run = record {
        same = omega (arith, since.run.same, length-append since.requests (did.request ∷ []), length-append since.replies (did.reply ∷ []));
        ran = subst (λ (es : List Exchange). Ran from.device es new.device) (sym (exchanged-more since.requests since.replies did.request did.reply since.run.same))
            (ran_joined from.device old.device new.device (exchanged since.requests since.replies) (exchange ∷ []) since.run.ran (new.device, did.step, refl));
      };
      performed_is = did.performed_is ∙ ap (λ (l : List (List ℕ)). l ++ did.request ∷ []) since.performed_is
          ∙ append_assoc from.performed since.requests (did.request ∷ []);
      replies_are = did.replies_are ∙ ap (λ (l : List (List ℕ)). l ++ did.reply ∷ []) since.replies_are
          ∙ append_assoc from.replies since.replies (did.reply ∷ []);
    }

-- ---- a link's handheld

-- it tells what was answered, and one request at most was performed beside that
abbrev Once : Talk → Hand → Type 0
Once talk hand = (exchanges_of hand ≡ talk.exchanges) ⊎ HasOneMore talk hand

abbrev talk_by : LinkValue → Palm → Talk
talk_by link palm = talk_at link.cause link.begun link.id link.scene.desk.end palm

-- the handheld behind a link, and what it performed since it was another one
pub record RanAt (from : Hand) (link : LinkValue) : Type 0 where
  pub palm : Palm
  pub told_is : link.scene.palm ≡ Some palm
  pub stands : Standing link
  pub since : HandSince from palm.hand
  pub device_is : (talk_by link palm).device ≡ palm.hand.device
  pub once : Once (talk_by link palm) palm.hand

-- a link that answers, or that was never greeted, tells all that was performed
abbrev settled : Palm → Talk
settled palm = record { device = palm.hand.device; exchanges = exchanges_of palm.hand; left = None }

settled-at : (cause : Option PortCause) (begun : Bool) (id : ℕ) (end : EndValue) (palm : Palm) → ((cause ≡ None → ⊥) → begun ≡ false)
    → talk_at cause begun id end palm ≡ settled palm
settled-at None begun id end palm not = refl
settled-at (Some cause) begun id end palm not =
    let still : begun ≡ false = not (λ e. cc) in
    ap (λ (b : Bool). talk_at (Some cause) b id end palm) still

settled-ran : (from : Hand) (link : LinkValue) (palm : Palm) → ((link.cause ≡ None → ⊥) → link.begun ≡ false) → link.scene.palm ≡ Some palm
    → Standing link → HandSince from palm.hand → RanAt from link
settled-ran from link palm not told stands since =
    let is = settled-at link.cause link.begun link.id link.scene.desk.end palm not in
    record {
      palm = palm;
      told_is = told;
      stands = stands;
      since = since;
      device_is = ap (λ (t : Talk). t.device) is;
      once = inl (sym (ap (λ (t : Talk). t.exchanges) is));
    }

-- ---- the calls

hello-ran : (from : Hand) (old new : LinkValue) → old.cause ≡ None → RanAt from old → HailsFirst old new → RanAt from new
hello-ran from old new none ran hails =
    let says = hails.says in
    let unsaid = standing_told false old.scene.desk.end old.scene.held old.id ran.palm none hails.first ran.told_is ran.stands in
    let met = (greets_met ran.palm old.scene new.scene old.id hails.answer unsaid ran.told_is says.greets).met in
    settled-ran from new met.palm (λ failed. says.not_begun failed ∙ hails.first) met.told_is
    (hello_told hails.answer old new none hails.first ran.stands says).stands (since-once ran.since (inl met.did))

-- it was answered
answered-ran : (from : Hand) (request reply : List ℕ) (old new : LinkValue) → old.cause ≡ None → new.cause ≡ None → RanAt from old
    → AsksGreeted request reply old new → RanAt from new
answered-ran from request reply old new none fine ran asks =
    let was = ran.palm in
    let still = standing_told true old.scene.desk.end old.scene.held old.id was none asks.greeted ran.told_is ran.stands in
    let says = asks.asks.converses.says in
    let taken = says_taken was request new.id old.id asks.asks.converses.answer old.scene new.scene asks.short still ran.told_is asks.asks.id
    (sym fine ∙ asks.asks.converses.cause_is) says in
    let palm = taken.stood.palm in
    let did = taken.stood.stands.at.did in
    let one : DidOne was.hand palm.hand = record {
      request = request;
      reply = taken.reply;
      step = subst (λ (d : Device). DeviceStep was.hand.device request taken.reply d) (sym did.device_is) taken.step;
      performed_is = did.performed_is ∙ taken.performed_is;
      replies_are = did.replies_are ∙ taken.replies_are;
    } in
    settled-ran from new palm (λ failed. absurd (failed fine)) taken.stood.told_is
    (asks_told request reply old new asks.short asks.bytes none asks.greeted ran.stands asks.asks).stands (since-once ran.since (inr one))

-- it was left
left-ran : (from : Hand) (request reply : List ℕ) (cause : PortCause) (old new : LinkValue) → old.cause ≡ None → new.cause ≡ Some cause → RanAt from old
    → AsksGreeted request reply old new → RanAt from new
left-ran from request reply cause old new none failed ran asks = go asked.stood.stands.at where
  was : Palm
  was = ran.palm

  still : IsStill old.scene.desk.end old.scene.held old.id was
  still = standing_told true old.scene.desk.end old.scene.held old.id was none asks.greeted ran.told_is ran.stands

  next : new.id ≡ session_id (length was.hand.performed + 1)
  next = asks.asks.id ∙ ap id_behind still.id_is ∙ sym (round (length was.hand.performed))

  asked : Asked was.hand request new.id new.scene.desk.end new.scene.held new.scene.palm
  asked = says_asked was request new.id old.id asks.asks.converses.answer old.scene new.scene asks.short still ran.told_is asks.asks.id asks.asks.converses.says

  palm : Palm
  palm = asked.stood.palm

  left : WasLeft (talk_at None true old.id old.scene.desk.end was) request (option_map (talk_at (Some cause) true new.id new.scene.desk.end) new.scene.palm)
  left = asked_left cause was request old.id new.id old.scene.desk.end new.scene.desk.end old.scene.held new.scene.held new.scene.palm still next asked

  told : talk_by new palm ≡ record { device = left.device; exchanges = exchanges_of was.hand; left = Some request }
  told =
      ap (λ (c : Option PortCause). talk_at c new.begun new.id new.scene.desk.end palm) failed
      ∙ ap (λ (b : Bool). talk_at (Some cause) b new.id new.scene.desk.end palm) (asks.asks.begun ∙ asks.greeted)
      ∙ some_of (sym (ap (option_map (talk_at (Some cause) true new.id new.scene.desk.end)) asked.stood.told_is) ∙ left.is)

  device_is : (talk_by new palm).device ≡ palm.hand.device
  device_is =
      ap (λ (c : Option PortCause). (talk_at c new.begun new.id new.scene.desk.end palm).device) failed
      ∙ ap (λ (b : Bool). (talk_at (Some cause) b new.id new.scene.desk.end palm).device) (asks.asks.begun ∙ asks.greeted)

  stands : Standing new
  stands = (asks_told request reply old new asks.short asks.bytes none asks.greeted ran.stands asks.asks).stands

  made : DidOnce was.hand palm.hand → Once (talk_by new palm) palm.hand → RanAt from new
  made did once = record {
    palm = palm;
    told_is = asked.stood.told_is;
    stands = stands;
    since = since-once ran.since did;
    device_is = device_is;
    once = once;
  }

  go : IsBefore was.hand request (side new.scene.desk.end asked.stood.stands.desk) (side palm.hand.end asked.stood.stands.hand) palm.hand
      ⊎ IsBehind was.hand request (side new.scene.desk.end asked.stood.stands.desk) (side palm.hand.end asked.stood.stands.hand) palm.hand → RanAt from new
  go (inl before) =
      made (inl before.did)
      (inl (ap (λ (ps : List (List ℕ)). exchanged ps palm.hand.replies) before.did.performed_is
      ∙ ap (λ (rs : List (List ℕ)). exchanged was.hand.performed rs) before.did.replies_are ∙ sym (ap (λ (t : Talk). t.exchanges) told)))
  go (inr behind) =
      let exchange : Exchange = record { request = request; reply = palm.hand.end.message } in
      made (inr (record {
        request = request;
        reply = palm.hand.end.message;
        step = behind.step;
        performed_is = behind.performed_is;
        replies_are = behind.replies_are;
      })) (inr (record {
        request = request;
        reply = palm.hand.end.message;
        left = ap (λ (t : Talk). t.left) told;
        more = exchanges_more was.hand palm.hand request palm.hand.end.message still.even behind.performed_is behind.replies_are
            ∙ ap (λ (es : List Exchange). es ++ exchange ∷ []) (sym (ap (λ (t : Talk). t.exchanges) told));
      }))

asks-ran : (from : Hand) (request reply : List ℕ) (old new : LinkValue) → old.cause ≡ None → RanAt from old → AsksGreeted request reply old new → RanAt from new
asks-ran from request reply old new none ran asks = go new.cause refl where
  go : (cause : Option PortCause) → new.cause ≡ cause → RanAt from new
  go None is = answered-ran from request reply old new none is ran asks
  go (Some cause) is = left-ran from request reply cause old new none is ran asks

call-ran : (from : Hand) (call : Call) (old new : LinkValue) (cause : Option PortCause) → old.cause ≡ cause → RanAt from old → IsCall cause call old new
    → RanAt from new
call-ran from call old new (Some cause) is ran it = subst (RanAt from) (sym it) ran
call-ran from Hello old new None is ran it = hello-ran from old new is ran it
call-ran from (Asking request reply) old new None is ran it = asks-ran from request reply old new is ran it

pub calls-ran : (from : Hand) (calls : List Call) (old new : LinkValue) → RanAt from old → AreCalls old calls new → RanAt from new
calls-ran from [] old new ran it = subst (RanAt from) (sym it) ran
calls-ran from (call ∷ calls) old new ran it = calls-ran from calls it.0 new (call-ran from call old it.0 old.cause refl ran it.1) it.2

-- ---- from where

-- from the first call on
pub first-ran : (given : Option (List (List ℕ))) (taken : Option (List ℕ)) (told : Option Palm) (paths : Option (List (List ℕ))) (faults : ℕ) (palm : Palm)
    → told ≡ Some palm → is_first palm ≡ true → IsOurs palm.hand → RanAt palm.hand (first_link given taken told paths faults)
first-ran given taken told paths faults palm is first ours =
    settled-ran palm.hand (first_link given taken told paths faults) palm (λ failed. absurd (failed refl)) is
    (standing_first first_end [] told (subst IsFirstTold (sym is) (first, ours)) refl refl) (since-itself palm.hand)

-- from any time on
pub later-ran : {from : Hand} {link : LinkValue} → (ran : RanAt from link) → RanAt ran.palm.hand link
later-ran {from} {link} ran = record {
  palm = ran.palm;
  told_is = ran.told_is;
  stands = ran.stands;
  since = since-itself ran.palm.hand;
  device_is = ran.device_is;
  once = ran.once;
}

-- ---- while it lingers

bears-stood : (stage : Stage) (ticks : List Scene) (old new : Scene) → Stood stage old.desk.end old.held old.palm → Bears ticks old new
    → Stood stage new.desk.end new.held new.palm
bears-stood stage [] old new stood bears = subst (λ (s : Scene). Stood stage s.desk.end s.held s.palm) (sym bears) stood
bears-stood stage (between ∷ later) old new stood bears =
    bears-stood stage later between new (listens_stood stage Tick bears.0 old between stood bears.2) bears.3

lingers-stood : (stage : Stage) (old new : Scene) → Stood stage old.desk.end old.held old.palm → Lingers old new
    → Stood stage new.desk.end new.held new.palm
lingers-stood stage old new stood lingers =
    let last = bears-stood stage lingers.ticks (with_linger old) lingers.last stood lingers.bears in
    elim lingers.ends [
      | inl all ↦ subst (λ (s : Scene). Stood stage s.desk.end s.held s.palm) (sym all.1) last
      | inr over ↦ listens_stood stage Tick over.1.answer lingers.last new last over.1.listens
    ]

-- the handheld that a port tells then did nothing since
pub record LastPalm (hand : Hand) (told : Option Palm) : Type 0 where
  pub palm : Palm
  pub palm_is : told ≡ Some palm
  pub did : DidNothing hand palm.hand

same-palm : (link : LinkValue) (palm : Palm) (told : Option Palm) → link.scene.palm ≡ Some palm → told ≡ link.scene.palm → LastPalm palm.hand told
same-palm link palm told is same =
    record { palm = palm; palm_is = same ∙ is; did = record { device_is = refl; performed_is = refl; replies_are = refl } }

pub last-palm : {from : Hand} (link : LinkValue) (ran : RanAt from link) (given : Option (List (List ℕ))) (taken : Option (List ℕ)) (told : Option Palm)
    (log : List EntryValue) → LeavesWith link.begun link.cause link.scene given taken told log → LastPalm ran.palm.hand told
last-palm {from} link ran given taken told log leaves = go link.begun link.cause refl refl leaves where
  rests : (desk : Desk) (held : List ℕ) → link.begun ≡ true → link.cause ≡ None → Lingers link.scene (scene given taken told held desk log)
      → LastPalm ran.palm.hand told
  rests desk held begun none lingers =
      let still = standing_told true link.scene.desk.end link.scene.held link.id ran.palm none begun ran.told_is ran.stands in
      let stood = lingers-stood (Resting ran.palm.hand) link.scene (scene given taken told held desk log)
      (record { palm = ran.palm; told_is = ran.told_is; stands = still.stands }) lingers in
      record { palm = stood.palm; palm_is = stood.told_is; did = stood.stands.at.did }

  go : (begun : Bool) (cause : Option PortCause) → link.begun ≡ begun → link.cause ≡ cause → LeavesWith begun cause link.scene given taken told log
      → LastPalm ran.palm.hand told
  go true None begun none leaves = rests leaves.1 leaves.0 begun none leaves.2
  go false None begun none leaves = same-palm link ran.palm told ran.told_is leaves.2
  go true (Some cause) begun none leaves = same-palm link ran.palm told ran.told_is leaves.2
  go false (Some cause) begun none leaves = same-palm link ran.palm told ran.told_is leaves.2
