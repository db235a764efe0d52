-- What one packet does to a talk.
use Rattle.std.proofs.Common.{◌≡◌, ◌≤◌, ℕ, true, false, List, [], ◌∷◌, ◌++◌, length, Option, None, Some, sym, ap, subst, ◌∙◌, arith}
use Rattle.std.proofs.Common.{◌⊎◌, inl, inr, refl}
use Rattle.std.specs.Prelude.{Result, Ok, Err, OnOk, OnErr}
use Rattle.std.proofs.lemmas.Bool.{both_ways, cases_Bool, cond-false, cond-true}
use Rattle.std.proofs.lemmas.Grind.{flat_map-append}
use Rattle.std.proofs.lemmas.List.{append-nil}
use Rattle.hs_folders.specs.FileMaps.{FileMap}
use Rattle.hs_folders.specs.Moments.{EachMomentSince, IsBeforeOrAfter, Moments}
use Rattle.handheld_files.specs.Openings.{Stands}
use Rattle.handheld_server.specs.Keeping.{Touches, wrote_user}
use Rattle.dlp_commands.specs.DeviceSteps.{DeviceStep, served}
use Rattle.handheld_server.specs.Servers.{store_of}
use Rattle.line_world.specs.Folders.{ServedSince}
use Rattle.line_world.specs.SinceLaws.{served-itself, served-none, served-once}
use Rattle.padp_end.specs.Arrivals.{Ack, Arrival, Data, Drop, Stop, Tickle, arrival_of}
use Rattle.padp_end.specs.Ends.{Answer, EndValue, arrival_taken, end_takes, goes_on_with, is_acked, silent, with_next}
use Rattle.padp_end.proofs.SayingLaws.{acknowledgement_length}
use Rattle.padp_end.proofs.TakingLaws.{IsNext, IsOther, IsRepeat, data_case, end_takes-whole}
use Rattle.padp_link.specs.Senders.{waiting_key}
use Rattle.trace_text.specs.Frames.{padp_packet}
use Rattle.padp_end.specs.Outgoings.{OutgoingFragment, said_text}
use Rattle.padp_end.specs.declared.heard.Heard.{Heard}
use Rattle.padp_end.specs.declared.heard.Heard.TheVariants as heard
use Rattle.slp_frames.specs.PacketText.{PacketValue}
use Rattle.device_stream.specs.Hands.{Hand, MayServe, with_delivery, greeted_by, heard_by, is_farewell, message_of, with_reply, taken_by, with_end}
use Rattle.device_stream.specs.declared.talk_end.TalkEnd.TheVariants.{Aborted, Ended}
use Rattle.device_stream.specs.Talks.{TalkValue, talk_server}
use Rattle.device_stream.specs.Takings.{HasTaken, Performs, Serves}

-- ---- the folder

-- nothing was performed, and the server is the same
pub performs-itself : {F : Type 0} (contents : F → Option FileMap) (moments : F → Moments) (paths : F → Option (List (List ℕ))) (faults : F → ℕ)
    (old new : TalkValue F) → talk_server new ≡ talk_server old → new.hand.performed ≡ old.hand.performed → new.hand.replies ≡ old.hand.replies
    → Performs contents moments paths faults old new
performs-itself contents moments paths faults old new server performed replies = record {
  exchanges = [];
  few = omega arith;
  performed_is = performed ∙ sym (append-nil old.hand.performed);
  replies_are = replies ∙ sym (append-nil old.hand.replies);
  since = subst (λ s. ServedSince contents moments paths faults (talk_server old) s []) (sym server)
      (served-itself contents moments paths faults (talk_server old));
}

-- one request was performed
pub performs-once : {F : Type 0} (contents : F → Option FileMap) (moments : F → Moments) (paths : F → Option (List (List ℕ))) (faults : F → ℕ)
    (old new : TalkValue F) (request reply : List ℕ) → DeviceStep old.hand.device request reply new.hand.device
    → (Stands (contents old.folder) old.hand.device.databases old.hand.device.user
    → Stands (contents new.folder) new.hand.device.databases new.hand.device.user)
    → EachMomentSince (IsBeforeOrAfter (contents old.folder) (contents new.folder)) (moments old.folder) (moments new.folder)
    → paths new.folder ≡ paths old.folder → faults old.folder ≤ faults new.folder
    → Touches contents (wrote_user request reply) (store_of (talk_server old)) (store_of (talk_server new))
    → new.hand.performed ≡ old.hand.performed ++ request ∷ [] → new.hand.replies ≡ old.hand.replies ++ reply ∷ []
    → Performs contents moments paths faults old new
performs-once contents moments paths faults old new request reply step stands each same later touches performed replies = record {
  exchanges = record { request = request; reply = reply } ∷ [];
  few = omega arith;
  performed_is = performed;
  replies_are = replies;
  since = served-once contents moments paths faults (talk_server old) (talk_server new) request reply step stands each same later touches;
}

-- none was, and the folder stayed
pub performs-none : {F : Type 0} (contents : F → Option FileMap) (moments : F → Moments) (paths : F → Option (List (List ℕ))) (faults : F → ℕ)
    (old new : TalkValue F) → new.hand.device ≡ old.hand.device → contents new.folder ≡ contents old.folder → moments new.folder ≡ moments old.folder
    → paths new.folder ≡ paths old.folder → faults old.folder ≤ faults new.folder → new.hand.performed ≡ old.hand.performed
    → new.hand.replies ≡ old.hand.replies → Performs contents moments paths faults old new
performs-none contents moments paths faults old new device stays quiet same later performed replies = record {
  exchanges = [];
  few = omega arith;
  performed_is = performed ∙ sym (append-nil old.hand.performed);
  replies_are = replies ∙ sym (append-nil old.hand.replies);
  since = served-none contents moments paths faults (talk_server old) (talk_server new) device stays quiet same later;
}

pub performs-from : {F : Type 0} (contents : F → Option FileMap) (moments : F → Moments) (paths : F → Option (List (List ℕ))) (faults : F → ℕ)
    {seen old new : TalkValue F} → seen ≡ old → Performs contents moments paths faults seen new → Performs contents moments paths faults old new
performs-from contents moments paths faults {new} same does = subst (λ t. Performs contents moments paths faults t new) same does

-- ---- what is said

pub said_text-append : (first later : List OutgoingFragment) → said_text (first ++ later) ≡ said_text first ++ said_text later
said_text-append first later = flat_map-append (λ (outgoing : OutgoingFragment). padp_packet outgoing.id outgoing.fragment) first later

taken_by-heard : (old : Hand) (free : ℕ) (packet : PacketValue) {hears : Heard} → (end_takes old.end packet).heard ≡ hears
    → taken_by old free packet
    ≡ (
      (end_takes old.end packet).said ++ (heard_by (with_end old (end_takes old.end packet).end) free hears).0,
      (heard_by (with_end old (end_takes old.end packet).end) free hears).1,
    )
unfolding taken_by
taken_by-heard old free packet is =
    ap (λ (h : Heard). (
      (end_takes old.end packet).said ++ (heard_by (with_end old (end_takes old.end packet).end) free h).0,
      (heard_by (with_end old (end_takes old.end packet).end) free h).1,
    )) is

has-said : (old : Hand) (free : ℕ) (packet : PacketValue) {hears : Heard} {text : List ℕ} (more : List OutgoingFragment) {new : Hand}
    → old.over ≡ None → (end_takes old.end packet).heard ≡ hears → MayServe old packet free
    → heard_by (with_end old (end_takes old.end packet).end) free hears ≡ (more, new)
    → text ≡ said_text (end_takes old.end packet).said ++ said_text more → HasTaken old packet text new
has-said old free packet more going is may does text_is = record {
  said = (end_takes old.end packet).said ++ more;
  takes = record {
    going = going;
    free = free;
    may = may;
    is = taken_by-heard old free packet is
        ∙ ap (λ (d : List OutgoingFragment × Hand). ((end_takes old.end packet).said ++ d.0, d.1)) does;
  };
  text_is = text_is ∙ sym (said_text-append (end_takes old.end packet).said more);
}

-- only a message may be a request
may-otherwise : (old : Hand) (packet : PacketValue) (free : ℕ) {hears : Heard} → (end_takes old.end packet).heard ≡ hears → (hears ≡ heard.Message → ⊥)
    → MayServe old packet free
may-otherwise old packet free is other greeted message = absurd (other (sym is ∙ message))

-- where its end heard this and the talk says no more than its end
says-no-more : (old : Hand) (packet : PacketValue) {hears : Heard} {text : List ℕ} {new : Hand} → old.over ≡ None
    → (end_takes old.end packet).heard ≡ hears → (hears ≡ heard.Message → ⊥)
    → heard_by (with_end old (end_takes old.end packet).end) 0 hears ≡ ([], new) → text ≡ said_text (end_takes old.end packet).said
    → HasTaken old packet text new
says-no-more old packet going is other does text_is =
    has-said old 0 packet [] going is (may-otherwise old packet 0 is other) does (text_is ∙ sym (append-nil (said_text (end_takes old.end packet).said)))

abbrev alone : Hand → List OutgoingFragment × Hand
alone hand = ([], hand)

module _ (old : Hand) (packet : PacketValue) {result : Heard} {text : List ℕ} {new : Hand} {end : EndValue} (going : old.over ≡ None)
    (hears : result ≡ (end_takes old.end packet).heard) (end_is : end ≡ (end_takes old.end packet).end) where
  pub silent-taken : (result ≡ heard.Nothing) ⊎ (result ≡ heard.Tickle) → new ≡ with_end old end → text ≡ said_text (end_takes old.end packet).said
      → HasTaken old packet text new
  silent-taken (inl nothing) new_is text_is =
      says-no-more old packet going (sym hears ∙ nothing) (λ is. (let e : heard.Nothing ≡ heard.Message = is in cc))
      (ap alone (sym (new_is ∙ ap (with_end old) end_is))) text_is
  silent-taken (inr tickle) new_is text_is =
      says-no-more old packet going (sym hears ∙ tickle) (λ is. (let e : heard.Tickle ≡ heard.Message = is in cc))
      (ap alone (sym (new_is ∙ ap (with_end old) end_is))) text_is

  pub delivered-taken : result ≡ heard.Delivered → new ≡ with_delivery (with_end old end) → text ≡ said_text (end_takes old.end packet).said
      → HasTaken old packet text new
  delivered-taken is new_is text_is =
      says-no-more old packet going (sym hears ∙ is) (λ is. (let e : heard.Delivered ≡ heard.Message = is in cc))
      (ap alone (sym (new_is ∙ ap (λ (e : EndValue). with_delivery (with_end old e)) end_is))) text_is

  pub stop-taken : result ≡ heard.Stop → new ≡ record (with_end old end) { over = Some Aborted } → text ≡ said_text (end_takes old.end packet).said
      → HasTaken old packet text new
  stop-taken is new_is text_is =
      says-no-more old packet going (sym hears ∙ is) (λ is. (let e : heard.Stop ≡ heard.Message = is in cc))
      (ap alone (sym (new_is ∙ ap (λ (e : EndValue). (let h : Hand = record (with_end old e) { over = Some Aborted } in h)) end_is))) text_is

  pub greeting-taken : old.greeted ≡ false → result ≡ heard.Message → new ≡ greeted_by (with_end old end) (message_of end)
      → text ≡ said_text (end_takes old.end packet).said → HasTaken old packet text new
  greeting-taken fresh is new_is text_is =
      let hand = with_end old (end_takes old.end packet).end in
      has-said old 0 packet [] going (sym hears ∙ is) (λ greeted message. absurd (both_ways _ fresh greeted))
      (cond-false old.greeted (with_reply hand (message_of hand.end) (served hand.device 0 (message_of hand.end))) (alone (greeted_by hand (message_of hand.end))) fresh
      ∙ ap alone (sym (new_is ∙ ap (λ (e : EndValue). greeted_by (with_end old e) (message_of e)) end_is)))
      (text_is ∙ sym (append-nil (said_text (end_takes old.end packet).said)))

  pub serving-taken : {before : List ℕ} → old.greeted ≡ true → result ≡ heard.Message → Serves (with_end old end) before text new
      → before ≡ said_text (end_takes old.end packet).said → HasTaken old packet text new
  serving-taken {before} greeted is serves before_is =
      let hand = with_end old (end_takes old.end packet).end in
      let it = subst (λ (e : EndValue). Serves (with_end old e) before text new) end_is serves in
      has-said old it.free packet it.said going (sym hears ∙ is) (λ _ message. it.may)
      (cond-true old.greeted (with_reply hand (message_of hand.end) (served hand.device it.free (message_of hand.end)))
      (alone (greeted_by hand (message_of hand.end))) greeted ∙ it.is)
      (it.text_is ∙ ap (λ (b : List ℕ). b ++ said_text it.said) before_is)

-- what an end says to a message's last piece has 16 bytes
pub message-room : (old : EndValue) (packet : PacketValue) {result : Heard} {text : List ℕ} → result ≡ (end_takes old packet).heard → result ≡ heard.Message
    → text ≡ said_text (end_takes old packet).said → length text ≤ 16
message-room old packet hears is text_is =
    let whole = end_takes-whole old packet (sym hears ∙ is) in
    omega (arith, ap length (text_is ∙ ap said_text whole.said_is), acknowledgement_length whole.key)

pub taken-from : {seen old : Hand} {packet : PacketValue} {text : List ℕ} {new : Hand} → seen ≡ old → HasTaken seen packet text new
    → HasTaken old packet text new
taken-from {packet} {text} {new} same taken = subst (λ (h : Hand). HasTaken h packet text new) same taken

-- ---- the message that is sent

-- no packet changes the message of an end
message-arrival : (end : EndValue) (arrival : Arrival) → (arrival_taken end arrival).end.message ≡ end.message
message-arrival end Drop = refl
message-arrival end Tickle = refl
message-arrival end Stop = refl
message-arrival end (Ack key) = elim (cases_Bool (is_acked (waiting_key end.sender) key)) [
  | inl same ↦ ap (λ (a : Answer). a.end.message)
      (cond-true (is_acked (waiting_key end.sender) key) (goes_on_with (with_next end)) (silent end heard.Nothing) same)
  | inr other ↦ ap (λ (a : Answer). a.end.message)
      (cond-false (is_acked (waiting_key end.sender) key) (goes_on_with (with_next end)) (silent end heard.Nothing) other)
]
message-arrival end (Data id fragment) = elim (data_case end id fragment) [
  | IsRepeat same is ↦ ap (λ (a : Answer). a.end.message) is
  | IsNext is ↦ ap (λ (a : Answer). a.end.message) is
  | IsOther is ↦ ap (λ (a : Answer). a.end.message) is
]

pub end_takes-message : (end : EndValue) (packet : PacketValue) → (end_takes end packet).end.message ≡ end.message
end_takes-message end packet = message-arrival end (arrival_of packet)

pub message-delivered : (hand : Hand) → (with_delivery hand).end.message ≡ hand.end.message
message-delivered hand =
    let ends : Hand = record hand { over = Some Ended } in
    elim (cases_Bool (is_farewell hand.end.message)) [
      | inl is ↦ ap (λ (h : Hand). h.end.message) (cond-true (is_farewell hand.end.message) ends hand is)
      | inr not ↦ ap (λ (h : Hand). h.end.message) (cond-false (is_farewell hand.end.message) ends hand not)
    ]

-- so a message that isn't too long stays so
pub short-then : {old new : List ℕ} → new ≡ old → length old ≤ 65535 → length new ≤ 65535
short-then same short = subst (λ (m : List ℕ). length m ≤ 65535) (sym same) short

-- a reply isn't too long, and where none was given the message is the one before
pub short-served : {T E : Type 0} (answer : Result T E) (old new : Hand) → OnOk answer (length new.end.message ≤ 65535) → OnErr answer (new ≡ old)
    → length old.end.message ≤ 65535 → length new.end.message ≤ 65535
short-served (Ok done) old new ok refused short = ok
short-served (Err fault) old new ok refused short = short-then (ap (λ (h : Hand). h.end.message) refused) short
