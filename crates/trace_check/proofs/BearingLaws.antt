-- What stands in the bytes of a frame.
use Rattle.std.proofs.Common.{◌≡◌, ℕ, ◌+◌, ◌-◌, ◌≤◌, Bool, true, false, nat_eq, List, [], ◌∷◌, ◌++◌, length, take, drop, get_or, Option, Some, None, sym, ap, subst, ◌∙◌, arith, rules, inl, inr, if◌then◌else◌}
use Rattle.std.specs.Prelude.{◌↔◌, IsTrue}
use Rattle.std.proofs.lemmas.Bool.Decides.{nat_tests}
use Rattle.std.proofs.lemmas.List.{append-nil, length-take, length-drop}
use Rattle.slp_frames.specs.PacketText.{PacketValue, packet_text, HasText, text_len}
use Rattle.slp_frames.specs.PacketScan.{packet_at, has_packet, is_open, fields_at, Whole, Open, Dead, place_of, scan}
use Rattle.slp_frames.specs.PacketValues.{lent_value, handed_out}
use Rattle.slp_frames.specs.Places.{Begins}
use Rattle.slp_frames.specs.declared.packet.PacketLent.{PacketLent}
use Rattle.slp_frames.proofs.PlaceLaws.{place_of-packet, length-packet_text, length-behind, cases_place, place_of-open}
use Rattle.slp_frames.proofs.ScanLaws.{scan-dead, scan-open, scan-packet, scan_packet_text}
use Rattle.padp_link.specs.FragmentText.{FragmentValue, FragmentText, fragment_text}
use Rattle.trace_text.specs.Frames.{BearsFragment, MayBear, fields_of, fragment_in, padp_packet}
use Rattle.trace_text.specs.TraceLines.{FrameValue}
use Rattle.trace_check.specs.Bearing.{IsPacket, Bears}

whole_from : (whole unfinished : Bool) {p q : PacketValue} → (if whole then Whole p else (if unfinished then Open else Dead)) ≡ Whole q → p ≡ q
whole_from true unfinished e = cc
whole_from false true e = absurd cc
whole_from false false e = absurd cc

-- ---- a packet alone

begins-alone : {bytes : List ℕ} {packet : PacketValue} → IsPacket bytes packet → Begins packet bytes
begins-alone {bytes} {packet} is = record { has_text = is.has_text; rest = []; is = is.is ∙ sym (append-nil (packet_text packet)) }

-- the packet that a text is
pub packet_read : {bytes : List ℕ} {packet : PacketValue} → IsPacket bytes packet → packet_at bytes ≡ packet
unfolding place_of
packet_read {bytes} {packet} is = whole_from (has_packet bytes) (is_open bytes) (place_of-packet packet bytes (begins-alone is))

pub packet_length : {bytes : List ℕ} {packet : PacketValue} → IsPacket bytes packet → length bytes ≡ text_len (length packet.body)
packet_length {bytes} {packet} is = ap length is.is ∙ length-packet_text packet

pub packet_scanned : {bytes : List ℕ} {packet : PacketValue} → IsPacket bytes packet → scan bytes ≡ packet ∷ []
packet_scanned {bytes} {packet} is = ap scan is.is ∙ scan_packet_text packet is.has_text

-- a packet that is found is no longer than the bytes
found-inside : (bytes : List ℕ) (packet : PacketValue) (later : List PacketValue) → scan bytes ≡ packet ∷ later → text_len (length packet.body) ≤ length bytes
found-inside [] packet later found = absurd cc
found-inside (byte ∷ bytes) packet later found = elim (cases_place (byte ∷ bytes)) [
  | inl stands ↦
      let same : stands.0 ≡ packet = (let e = sym (scan-packet (byte ∷ bytes) stands.1) ∙ found in cc) in
      let len = length-behind stands.1 in
      subst (λ p. text_len (length p.body) ≤ length (byte ∷ bytes)) same (omega (arith, len))
  | inr (inl opens) ↦ absurd (let e = sym (scan-open (byte ∷ bytes) (place_of-open (byte ∷ bytes) opens)) ∙ found in cc)
  | inr (inr dead) ↦
      let below = found-inside bytes packet later (sym (scan-dead (byte ∷ bytes) dead) ∙ found) in
      omega (arith, below)
]

-- one as long as the bytes is all of them
pub found-alone : (bytes : List ℕ) (packet : PacketValue) (later : List PacketValue) → scan bytes ≡ packet ∷ later
    → text_len (length packet.body) ≡ length bytes → IsPacket bytes packet
found-alone [] packet later found all = absurd cc
found-alone (byte ∷ bytes) packet later found all = elim (cases_place (byte ∷ bytes)) [
  | inl stands ↦
      let same : stands.0 ≡ packet = (let e = sym (scan-packet (byte ∷ bytes) stands.1) ∙ found in cc) in
      let len = length-behind stands.1 in
      let none : length stands.1.rest ≡ 0 = omega (arith, len, all, ap (λ (p : PacketValue). length p.body) same) in
      subst (IsPacket (byte ∷ bytes)) same (record { has_text = stands.1.has_text; is = stands.1.is ∙ nothing_left (packet_text stands.0) stands.1.rest none })
  | inr (inl opens) ↦ absurd (let e = sym (scan-open (byte ∷ bytes) (place_of-open (byte ∷ bytes) opens)) ∙ found in cc)
  | inr (inr dead) ↦
      let below = found-inside bytes packet later (sym (scan-dead (byte ∷ bytes) dead) ∙ found) in
      absurd (omega (arith, below, all))
] where
  nothing_left : (front rest : List ℕ) → length rest ≡ 0 → front ++ rest ≡ front
  nothing_left front [] none = append-nil front
  nothing_left front (first ∷ rest) none = absurd (omega (arith, none))

-- where a packet is handed out, it is all of the bytes exactly if it is as long
pub handed-alone : (bytes : List ℕ) (result : Option PacketLent) (packet : PacketLent) (later : List PacketValue) → scan bytes ≡ handed_out result ++ later
    → result ≡ Some packet → IsTrue (nat_eq (10 + length packet.body.now + 2) (length bytes)) ↔ ((found : PacketValue) × IsPacket bytes found)
handed-alone bytes result packet later found is =
    let here : scan bytes ≡ lent_value packet ∷ later = found ∙ ap (λ r. handed_out r ++ later) is in (
      λ long. (lent_value packet, found-alone bytes (lent_value packet) later here (eqb-true long)),
      λ alone. (let e = sym (packet_scanned alone.1) ∙ here in let same : alone.0 ≡ lent_value packet = cc in
          eqb-same (sym (packet_length alone.1 ∙ ap (λ (p : PacketValue). text_len (length p.body)) same))),
    )
  where
    eqb-true : {a b : ℕ} → nat_eq a b ≡ true → a ≡ b
    eqb-true same = grind (arith, nat_tests)

    eqb-same : {a b : ℕ} → a ≡ b → nat_eq a b ≡ true
    eqb-same same = grind (arith, nat_tests)

-- where none is, they are none
pub handed-none : (bytes : List ℕ) (result : Option PacketLent) (later : List PacketValue) → scan bytes ≡ handed_out result ++ later → later ≡ []
    → result ≡ None → IsTrue false ↔ ((found : PacketValue) × IsPacket bytes found)
handed-none bytes result later found none is =
    let here : scan bytes ≡ [] = found ∙ (ap (λ r. handed_out r ++ later) is ∙ none) in
    (λ none_is. absurd cc, λ alone. (let e = sym (packet_scanned alone.1) ∙ here in absurd cc))

-- its fields stand at their places
pub packet-fields : {bytes : List ℕ} {packet : PacketValue} → IsPacket bytes packet → IsPacket bytes (record {
  dest = get_or bytes 3 0;
  source = get_or bytes 4 0;
  kind = get_or bytes 5 0;
  id = get_or bytes 8 0;
  body = take (length bytes - 2 - 10) (drop 10 bytes);
})
unfolding fields_at
packet-fields {bytes} {packet} is =
    let read = packet_read is in
    let len = packet_length is in
    let body : take (fields_at bytes).size (drop 10 bytes) ≡ packet.body = ap (λ (p : PacketValue). p.body) read in
    let short = length-take (fields_at bytes).size (drop 10 bytes) in
    let left = length-drop 10 bytes in
    let size : (fields_at bytes).size ≡ length bytes - 2 - 10 = omega (arith, len, short, left, ap length body) in
    subst (IsPacket bytes) (sym read ∙ ap (λ n. record {
      dest = get_or bytes 3 0;
      source = get_or bytes 4 0;
      kind = get_or bytes 5 0;
      id = get_or bytes 8 0;
      body = take n (drop 10 bytes);
    }) size) is

-- ---- a fragment in a packet

-- the packet of this transaction with this fragment
abbrev pub packet_of : ℕ → FragmentValue → PacketValue
packet_of id fragment = record { dest = 3; source = 3; kind = 2; id = id; body = fragment_text fragment }

fragment_fits : (id : ℕ) {fragment : FragmentValue} → FragmentText fragment (fragment_text fragment) → HasText (packet_of id fragment)
fragment_fits id text = search rules

fields_again : {fragment : FragmentValue} → FragmentText fragment (fragment_text fragment) → fields_of (fragment_text fragment) ≡ fragment
fields_again text = search rules

pub bears-packet : {bytes : List ℕ} {id : ℕ} {fragment : FragmentValue} → Bears bytes id fragment → IsPacket bytes (packet_of id fragment)
bears-packet {bytes} {id} {fragment} bears = record { has_text = fragment_fits id bears.text; is = bears.is }

-- the transaction and the fragment are those that are read
pub bears-read : (frame : FrameValue) {id : ℕ} {fragment : FragmentValue} → Bears frame.bytes id fragment
    → ((packet_at frame.bytes).id ≡ id) × (fragment_in frame ≡ fragment)
bears-read frame {id} {fragment} bears =
    let packet = packet_read (bears-packet bears) in
    (ap (λ (p : PacketValue). p.id) packet, ap (λ (p : PacketValue). fields_of p.body) packet ∙ fields_again bears.text)

pub bears-fragment : (frame : FrameValue) (id : ℕ) (fragment : FragmentValue) → Bears frame.bytes id fragment → MayBear frame.fate fragment.kind
    → BearsFragment frame
bears-fragment frame id fragment bears may =
    let read = bears-read frame bears in
    record {
      is = bears.is ∙ (ap (λ n. padp_packet n fragment) (sym read.0) ∙ ap (padp_packet (packet_at frame.bytes).id) (sym read.1));
      fragment = subst (λ (f : FragmentValue). FragmentText f (fragment_text f)) (sym read.1) bears.text;
      kind = subst (λ (f : FragmentValue). MayBear frame.fate f.kind) (sym read.1) may;
    }

pub fragment-bears : (frame : FrameValue) → BearsFragment frame → Bears frame.bytes (packet_at frame.bytes).id (fragment_in frame)
fragment-bears frame bears = record { text = bears.fragment; is = bears.is }

-- a frame that bears this fragment may bear its kind
pub fragment-may : (frame : FrameValue) (id : ℕ) (fragment : FragmentValue) → Bears frame.bytes id fragment → BearsFragment frame
    → MayBear frame.fate fragment.kind
fragment-may frame id fragment bears known = subst (λ (f : FragmentValue). MayBear frame.fate f.kind) (bears-read frame bears).1 known.kind

-- what no packet bears
pub bears-found : {bytes : List ℕ} {id : ℕ} {fragment : FragmentValue} {packet : PacketValue} → Bears bytes id fragment → IsPacket bytes packet
    → packet ≡ packet_of id fragment
bears-found bears is = sym (packet_read is) ∙ packet_read (bears-packet bears)
