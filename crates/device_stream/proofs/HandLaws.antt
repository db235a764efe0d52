-- What a packet makes of a hand.
use Rattle.std.proofs.Common.{◌≡◌, ◌⊎◌, ℕ, ◌+◌, true, List, [], ◌∷◌, ◌++◌, length, Some, inl, inr, refl, sym, ap, subst, ◌∙◌, arith}
use Rattle.std.proofs.lemmas.Bool.{cases_Bool, cond-false, cond-true}
use Rattle.std.proofs.lemmas.List.{length-append}
use Rattle.dlp_commands.proofs.StepLaws.{ran_joined}
use Rattle.dlp_commands.specs.DeviceRuns.{DeviceRun, Exchange, Ran, exchanged}
use Rattle.dlp_commands.specs.DeviceSteps.{MayGive, served}
use Rattle.padp_end.proofs.TakingLaws.{end_takes-known, end_takes-repeat, end_takes-whole}
use Rattle.padp_end.specs.Ends.{EndValue, end_expects, end_takes}
use Rattle.padp_end.specs.Outgoings.{OutgoingFragment, acknowledgement}
use Rattle.padp_end.specs.declared.heard.Heard.{Heard}
use Rattle.padp_end.specs.declared.heard.Heard.TheVariants as heard
use Rattle.padp_link.specs.Neighbours.{session_id}
use Rattle.padp_link.specs.Pieces.{key_of}
use Rattle.palm_device.specs.Devices.{Device}
use Rattle.slp_frames.specs.PacketText.{PacketValue}
use Rattle.device_stream.specs.declared.talk_end.TalkEnd.TheVariants.{BadHello, Ended}
use Rattle.device_stream.specs.Hands.{Hand, awaiting, with_delivery, greeted_by, heard_by, is_farewell, is_init, message_of, with_reply, taken_by}
use Rattle.device_stream.specs.Hands.{with_end, woken}
use Rattle.device_stream.specs.Laws.{DidNothing, DidOnce, DidOne, DoesNothingAgain}
use Rattle.device_stream.specs.Talks.{Takes, Talks}
use Rattle.line_world.proofs.TalkLaws.{exchanged-more}

-- ---- what is heard

-- where no message is heard, or the first one is, nothing is said and nothing is performed, and the last piece stays
pub record Rests (old : Hand) (said : List OutgoingFragment) (new : Hand) : Type 0 where
  pub quiet : said ≡ []
  pub nothing : DidNothing old new
  pub last_is : new.end.receiver.last ≡ old.end.receiver.last

rests-itself : (hand : Hand) → Rests hand [] hand
rests-itself hand = record { quiet = refl; nothing = record { device_is = refl; performed_is = refl; replies_are = refl }; last_is = refl }

rests-delivered : (hand : Hand) → Rests hand [] (with_delivery hand)
rests-delivered hand =
    let ends : Hand = record hand { over = Some Ended } in
    elim (cases_Bool (is_farewell hand.end.message)) [
      | inl is ↦ subst (Rests hand []) (sym (cond-true (is_farewell hand.end.message) ends hand is))
          (record { quiet = refl; nothing = record { device_is = refl; performed_is = refl; replies_are = refl }; last_is = refl })
      | inr not ↦ subst (Rests hand []) (sym (cond-false (is_farewell hand.end.message) ends hand not)) (rests-itself hand)
    ]

rests-greeted : (hand : Hand) (message : List ℕ) → Rests hand [] (greeted_by hand message)
rests-greeted hand message =
    let begins : Hand = record hand { end = end_expects hand.end (session_id 1); greeted = true } in
    let ends : Hand = record hand { over = Some BadHello } in
    elim (cases_Bool (is_init message)) [
      | inl is ↦ subst (Rests hand []) (sym (cond-true (is_init message) begins ends is))
          (record { quiet = refl; nothing = record { device_is = refl; performed_is = refl; replies_are = refl }; last_is = refl })
      | inr not ↦ subst (Rests hand []) (sym (cond-false (is_init message) begins ends not))
          (record { quiet = refl; nothing = record { device_is = refl; performed_is = refl; replies_are = refl }; last_is = refl })
    ]

-- a request is performed, and the last piece stays
pub record Serves (old new : Hand) : Type 0 where
  pub one : DidOne old new
  pub last_is : new.end.receiver.last ≡ old.end.receiver.last

last-awaiting : (end : EndValue) (reply : List ℕ) (number : ℕ) → (awaiting end reply number).receiver.last ≡ end.receiver.last
last-awaiting end reply number = elim (cases_Bool (is_farewell reply)) [
  | inl is ↦ ap (λ (e : EndValue). e.receiver.last) (cond-true (is_farewell reply) end (end_expects end (session_id number)) is)
  | inr not ↦ ap (λ (e : EndValue). e.receiver.last) (cond-false (is_farewell reply) end (end_expects end (session_id number)) not)
]

serves-replied : (hand : Hand) (free : ℕ) → MayGive hand.device (message_of hand.end) free
    → Serves hand (with_reply hand (message_of hand.end) (served hand.device free (message_of hand.end))).1
serves-replied hand free may = record {
  one = record {
    request = message_of hand.end;
    reply = (served hand.device free (message_of hand.end)).0;
    step = record { free = free; may = may; is = refl };
    performed_is = refl;
    replies_are = refl;
  };
  last_is = last-awaiting hand.end (served hand.device free (message_of hand.end)).0 (length hand.performed + 1 + 1);
}

-- what is heard rests a hand, or is a request
abbrev Does : Hand → Heard → List OutgoingFragment × Hand → Type 0
Does old hears done = Rests old done.0 done.1 ⊎ ((hears ≡ heard.Message) × Serves old done.1)

pub heard_by-does : (hand : Hand) (free : ℕ) (hears : Heard) → (hand.greeted ≡ true → hears ≡ heard.Message → MayGive hand.device (message_of hand.end) free)
    → Does hand hears (heard_by hand free hears)
heard_by-does hand free heard.Nothing may = inl (rests-itself hand)
heard_by-does hand free heard.Tickle may = inl (rests-itself hand)
heard_by-does hand free heard.Delivered may = inl (rests-delivered hand)
heard_by-does hand free heard.Stop may =
    inl (record { quiet = refl; nothing = record { device_is = refl; performed_is = refl; replies_are = refl }; last_is = refl })
heard_by-does hand free heard.Message may =
    let request = with_reply hand (message_of hand.end) (served hand.device free (message_of hand.end)) in
    let first : List OutgoingFragment × Hand = ([], greeted_by hand (message_of hand.end)) in
    elim (cases_Bool hand.greeted) [
      | inl greeted ↦ subst (Does hand heard.Message) (sym (cond-true hand.greeted request first greeted))
          (inr (refl, serves-replied hand free (may greeted refl)))
      | inr fresh ↦ subst (Does hand heard.Message) (sym (cond-false hand.greeted request first fresh))
          (inl (rests-greeted hand (message_of hand.end)))
    ]

-- ---- a packet

-- what a hand said to a packet, and whether it performed a request
pub record Taking (old : Hand) (packet : PacketValue) (said : List OutgoingFragment) (new : Hand) : Type 0 where
  pub more : List OutgoingFragment
  pub said_is : said ≡ (end_takes old.end packet).said ++ more
  pub does : Does (with_end old (end_takes old.end packet).end) (end_takes old.end packet).heard (more, new)

pub taking_of : {old : Hand} {packet : PacketValue} {said : List OutgoingFragment} {new : Hand} → Takes old packet said new → Taking old packet said new
unfolding taken_by
taking_of {old} {packet} {said} {new} takes =
    let hand = with_end old (end_takes old.end packet).end in
    let done = heard_by hand takes.free (end_takes old.end packet).heard in
    record {
      more = done.0;
      said_is = sym (ap (λ (d : List OutgoingFragment × Hand). d.0) takes.is);
      does = subst (λ (h : Hand). Does hand (end_takes old.end packet).heard (done.0, h)) (ap (λ (d : List OutgoingFragment × Hand). d.1) takes.is)
          (heard_by-does hand takes.free (end_takes old.end packet).heard takes.may);
    }

pub takes-once : (old new : Hand) (packet : PacketValue) (said : List OutgoingFragment) → Takes old packet said new → DidOnce old new
takes-once old new packet said takes = elim (taking_of takes).does [
  | inl rests ↦ inl (record { device_is = rests.nothing.device_is; performed_is = rests.nothing.performed_is; replies_are = rests.nothing.replies_are })
  | inr serves ↦ inr (record {
    request = serves.1.one.request;
    reply = serves.1.one.reply;
    step = serves.1.one.step;
    performed_is = serves.1.one.performed_is;
    replies_are = serves.1.one.replies_are;
  })
]

-- ---- packets

-- the run goes on by what was done
pub run-on : (device : Device) {old new : Hand} → DeviceRun device old.performed old.replies old.device → DidOnce old new
    → DeviceRun device new.performed new.replies new.device
run-on device {old} {new} run (inl did) =
    subst (λ (d : Device). DeviceRun device new.performed new.replies d) (sym did.device_is)
    (subst (λ (ps : List (List ℕ)). DeviceRun device ps new.replies old.device) (sym did.performed_is)
    (subst (λ (rs : List (List ℕ)). DeviceRun device old.performed rs old.device) (sym did.replies_are) run))
run-on device {old} {new} run (inr did) =
    let exchange : Exchange = record { request = did.request; reply = did.reply } in
    let longer : DeviceRun device (old.performed ++ did.request ∷ []) (old.replies ++ did.reply ∷ []) new.device = record {
      same = omega (arith, run.same, length-append old.performed (did.request ∷ []), length-append old.replies (did.reply ∷ []));
      ran = subst (λ (es : List Exchange). Ran device es new.device) (sym (exchanged-more old.performed old.replies did.request did.reply (sym run.same)))
          (ran_joined device old.device new.device (exchanged old.performed old.replies) (exchange ∷ []) run.ran (new.device, did.step, refl));
    } in
    subst (λ (ps : List (List ℕ)). DeviceRun device ps new.replies new.device) (sym did.performed_is)
    (subst (λ (rs : List (List ℕ)). DeviceRun device (old.performed ++ did.request ∷ []) rs new.device) (sym did.replies_are) longer)

talks-run : (device : Device) (old : Hand) (packets : List PacketValue) (said : List OutgoingFragment) (new : Hand) → Talks old packets said new
    → DeviceRun device old.performed old.replies old.device → DeviceRun device new.performed new.replies new.device
talks-run device old [] said new talks run =
    subst (λ (h : Hand). DeviceRun device h.performed h.replies h.device) (sym talks.1) run
talks-run device old (packet ∷ packets) said new (first, later, between, is, takes, rest) run =
    talks-run device between packets later new rest (run-on device run (takes-once old between packet first takes))

pub woken-run : (device : Device) (packets : List PacketValue) (said : List OutgoingFragment) (hand : Hand) → Talks (woken device) packets said hand
    → DeviceRun device hand.performed hand.replies hand.device
woken-run device packets said hand talks = talks-run device (woken device) packets said hand talks (record { same = refl; ran = refl })

-- ---- a repeat

last-does : {old : Hand} {hears : Heard} {done : List OutgoingFragment × Hand} → Does old hears done → done.1.end.receiver.last ≡ old.end.receiver.last
last-does (inl rests) = rests.last_is
last-does (inr serves) = serves.1.last_is

-- where the end said nothing, nothing was said
quiet-does : (old : Hand) (packet : PacketValue) {said : List OutgoingFragment} {new : Hand} (taking : Taking old packet said new)
    → (end_takes old.end packet).said ≡ [] → said ≡ []
quiet-does old packet taking none = elim taking.does [
  | inl rests ↦ taking.said_is ∙ ap (λ (s : List OutgoingFragment). s ++ taking.more) none ∙ rests.quiet
  | inr serves ↦ (let e : acknowledgement (end_takes-whole old.end packet serves.0).key ∷ [] ≡ [] =
      sym (end_takes-whole old.end packet serves.0).said_is ∙ none in absurd cc)
]

pub takes-again : (old new : Hand) (packet : PacketValue) (said : List OutgoingFragment) → Takes old packet said new → DoesNothingAgain packet said new
unfolding taken_by
takes-again old new packet said takes id fragment free is some =
    let taking = taking_of takes in
    let known : new.end.receiver.last ≡ Some (key_of id fragment) =
    last-does taking.does ∙ end_takes-known old.end packet id fragment is (λ none. some (quiet-does old packet taking none)) in
    ap (λ answer. (answer.said ++ (heard_by (with_end new answer.end) free answer.heard).0, (heard_by (with_end new answer.end) free answer.heard).1))
    (end_takes-repeat new.end packet id fragment is known)
