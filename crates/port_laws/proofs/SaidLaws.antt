-- The bytes of what an end says hold its packets, and nothing else.
use Rattle.std.proofs.Common.{◌≡◌, ◌≤◌, ◌+◌, ℕ, List, [], ◌∷◌, ◌++◌, length, drop, nat_eq, refl, sym, ap, subst, ◌∙◌, arith, inl, inr}
use Rattle.std.specs.Prelude.{Option, Some, None}
use Rattle.std.proofs.lemmas.Bool.{cases_Bool, cond-false, cond-true}
use Rattle.std.proofs.lemmas.List.{append-nil, append_assoc, drop_all, length-take}
use Rattle.port_laws.specs.Cables.{packet_of, packets_of}
use Rattle.device_stream.specs.Hands.{Hand, awaiting, greeted_by, heard_by, message_of, taken_by, with_end, with_reply}
use Rattle.dlp_commands.specs.DeviceSteps.{served}
use Rattle.padp_end.proofs.TakingLaws.{IsNext, IsOther, IsRepeat, data_case}
use Rattle.padp_end.specs.Arrivals.{Ack, Arrival, Data, Drop, Stop, Tickle, arrival_of}
use Rattle.padp_end.specs.Ends.{Answer, EndValue, arrival_taken, end_begins, end_takes, end_waits, goes_on_with, is_acked, silent, tried_again, with_message, with_next}
use Rattle.padp_end.specs.Outgoings.{OutgoingFragment, acknowledgement, pieces_said, said_text}
use Rattle.padp_end.specs.declared.heard.Heard.{Heard}
use Rattle.padp_end.specs.declared.heard.Heard.TheVariants as heard
use Rattle.padp_link.proofs.WaitingLaws.{waiting-piece_of}
use Rattle.padp_link.specs.Neighbours.{session_id}
use Rattle.padp_link.specs.Pieces.{key_of}
use Rattle.padp_link.specs.Senders.{SenderValue, waiting, waiting_key}
use Rattle.padp_link.specs.declared.piece.Key.{Key}
use Rattle.padp_link.specs.declared.piece.Piece.{Piece}
use Rattle.slp_frames.proofs.PlaceLaws.{length-packet_text}
use Rattle.slp_frames.proofs.ScanLaws.{continues_packet}
use Rattle.slp_frames.specs.Histories.{Continues}
use Rattle.slp_frames.specs.PacketScan.{scan}
use Rattle.slp_frames.specs.PacketText.{HasText, PacketValue, packet_text, text_len}
use Rattle.slp_frames.specs.Places.{Begins}

-- ---- the text of a packet, with what follows

-- a reader that took the text of a packet hands it out, and holds nothing
pub text-continues : (packet : PacketValue) → HasText packet → Continues (packet_text packet) (packet ∷ []) []
text-continues packet short =
    let begins : Begins packet (packet_text packet) = record { has_text = short; rest = []; is = sym (append-nil (packet_text packet)) } in
    let size = length-packet_text packet in
    subst (λ (held : List ℕ). Continues (packet_text packet) (packet ∷ []) held)
    (drop_all (text_len (length packet.body)) (packet_text packet) (omega (arith, size)))
    (continues_packet packet (packet_text packet) begins)

-- ---- what may be said

-- each of these has a text
abbrev pub HaveTexts : List OutgoingFragment → Type 0
HaveTexts [] = Unit {0}
HaveTexts (first ∷ later) = HasText (packet_of first) × HaveTexts later

pub have_texts-append : (first later : List OutgoingFragment) → HaveTexts first → HaveTexts later → HaveTexts (first ++ later)
have_texts-append [] later has more = more
have_texts-append (one ∷ first) later has more = (has.0, have_texts-append first later has.1 more)

pub scanned-append : (said : List OutgoingFragment) (more : List ℕ) → HaveTexts said → scan (said_text said ++ more) ≡ packets_of said ++ scan more
scanned-append [] more has = refl
scanned-append (one ∷ said) more has =
    ap scan (append_assoc (packet_text (packet_of one)) (said_text said) more)
    ∙ (text-continues (packet_of one) has.0).scans (said_text said ++ more)
    ∙ ap (λ (ps : List PacketValue). packet_of one ∷ ps) (scanned-append said more has.1)

-- the packets of the bytes of what is said are those that are said
abbrev pub IsScannedOf : List OutgoingFragment → Type 0
IsScannedOf said = scan (said_text said) ≡ packets_of said

pub scanned : (said : List OutgoingFragment) → HaveTexts said → IsScannedOf said
scanned said has = ap scan (sym (append-nil (said_text said))) ∙ scanned-append said [] has ∙ append-nil (packets_of said)

-- ---- what is said has texts

ack_texts : (key : Key) → HaveTexts (acknowledgement key ∷ [])
ack_texts key = (omega arith, tt)

-- a fragment without bytes
pub empty_scanned : (said : OutgoingFragment) → said.fragment.bytes ≡ [] → IsScannedOf (said ∷ [])
empty_scanned said none = scanned (said ∷ []) (omega (arith, ap length none), tt)

waiting_texts : (message : List ℕ) (sender : SenderValue) (waits : Option Piece) → waiting sender ≡ waits → HaveTexts (pieces_said message waits)
waiting_texts message sender None is = tt
waiting_texts message sender (Some piece) is =
    let found = waiting-piece_of sender piece is in
    let short : piece.length ≤ 1024 = omega (arith, ap (λ (p : Piece). p.length) found.1) in
    let taken = length-take piece.length (drop piece.place message) in
    (omega (arith, short, taken), tt)

pub begins_texts : (end : EndValue) (id : ℕ) (message : List ℕ) → HaveTexts (end_begins end id message).0
begins_texts end id message = waiting_texts message (with_message end id message).sender (waiting (with_message end id message).sender) refl

waits_at : (end : EndValue) (waits : Option Piece) → waiting end.sender ≡ waits → HaveTexts (tried_again end waits).0
waits_at end None is = tt
waits_at end (Some piece) is =
    let more : List OutgoingFragment × EndValue = (pieces_said end.message (Some piece), record end { sender = record end.sender { tries = end.sender.tries + 1 } }) in
    let none : List OutgoingFragment × EndValue = ([], end) in
    elim (cases_Bool (nat_eq end.sender.tries 10)) [
      | inl spent ↦ subst (λ (s : List OutgoingFragment × EndValue). HaveTexts s.0) (sym (cond-true (nat_eq end.sender.tries 10) none more spent)) tt
      | inr left ↦ subst (λ (s : List OutgoingFragment × EndValue). HaveTexts s.0) (sym (cond-false (nat_eq end.sender.tries 10) none more left))
          (waiting_texts end.message end.sender (Some piece) is)
    ]

pub waits_texts : (end : EndValue) → HaveTexts (end_waits end).0
waits_texts end = waits_at end (waiting end.sender) refl

takes_at : (end : EndValue) (arrival : Arrival) → HaveTexts (arrival_taken end arrival).said
takes_at end Drop = tt
takes_at end Tickle = tt
takes_at end Stop = tt
takes_at end (Ack key) = elim (cases_Bool (is_acked (waiting_key end.sender) key)) [
  | inl same ↦ subst (λ (a : Answer). HaveTexts a.said)
      (sym (cond-true (is_acked (waiting_key end.sender) key) (goes_on_with (with_next end)) (silent end heard.Nothing) same))
      (waiting_texts end.message (with_next end).sender (waiting (with_next end).sender) refl)
  | inr other ↦ subst (λ (a : Answer). HaveTexts a.said)
      (sym (cond-false (is_acked (waiting_key end.sender) key) (goes_on_with (with_next end)) (silent end heard.Nothing) other)) tt
]
takes_at end (Data id fragment) = elim (data_case end id fragment) [
  | IsRepeat same is ↦ subst (λ (a : Answer). HaveTexts a.said) (sym is) (ack_texts (key_of id fragment))
  | IsNext is ↦ subst (λ (a : Answer). HaveTexts a.said) (sym is) (ack_texts (key_of id fragment))
  | IsOther is ↦ subst (λ (a : Answer). HaveTexts a.said) (sym is) tt
]

pub takes_texts : (end : EndValue) (packet : PacketValue) → HaveTexts (end_takes end packet).said
takes_texts end packet = takes_at end (arrival_of packet)

-- a handheld that heard a message says its reply, or nothing
heard_texts : (hand : Hand) (free : ℕ) (hears : Heard) → HaveTexts (heard_by hand free hears).0
heard_texts hand free heard.Nothing = tt
heard_texts hand free heard.Tickle = tt
heard_texts hand free heard.Delivered = tt
heard_texts hand free heard.Stop = tt
heard_texts hand free heard.Message =
    let done = served hand.device free (message_of hand.end) in
    let request = with_reply hand (message_of hand.end) done in
    let first : List OutgoingFragment × Hand = ([], greeted_by hand (message_of hand.end)) in
    elim (cases_Bool hand.greeted) [
      | inl known ↦ subst (λ (d : List OutgoingFragment × Hand). HaveTexts d.0) (sym (cond-true hand.greeted request first known))
          (begins_texts (awaiting hand.end done.0 (length hand.performed + 1 + 1)) (session_id (length hand.performed + 1)) done.0)
      | inr fresh ↦ subst (λ (d : List OutgoingFragment × Hand). HaveTexts d.0) (sym (cond-false hand.greeted request first fresh)) tt
    ]

pub taken_texts : (old : Hand) (free : ℕ) (packet : PacketValue) → HaveTexts (taken_by old free packet).0
unfolding taken_by
taken_texts old free packet =
    let answer = end_takes old.end packet in
    have_texts-append answer.said (heard_by (with_end old answer.end) free answer.heard).0 (takes_texts old.end packet)
    (heard_texts (with_end old answer.end) free answer.heard)

-- ---- so it is scanned

pub begins_scanned : (end : EndValue) (id : ℕ) (message : List ℕ) → IsScannedOf (end_begins end id message).0
begins_scanned end id message = scanned (end_begins end id message).0 (begins_texts end id message)

pub waits_scanned : (end : EndValue) → IsScannedOf (end_waits end).0
waits_scanned end = scanned (end_waits end).0 (waits_texts end)

pub takes_scanned : (end : EndValue) (packet : PacketValue) → IsScannedOf (end_takes end packet).said
takes_scanned end packet = scanned (end_takes end packet).said (takes_texts end packet)
