-- The tests by which the program tells what stands at a place.
use Rattle.std.proofs.lemmas.Bool.Decides.{nat_tests}
use Rattle.std.proofs.lemmas.Grind.{common_steps}
use Rattle.std.proofs.Common.{◌≡◌, ℕ, ◌+◌, ◌<◌, ◌≤◌, min, Bool, true, false, cond, ◌&&◌, List, ◌++◌, length, take, drop, nat_eq, nat_lt, sym, ap, subst, ◌∙◌}
use Rattle.std.proofs.Common.{arith}
use Rattle.std.specs.List.{starts_with}
use Rattle.std.proofs.Math.Seq.{take-append-add}
use Rattle.std.proofs.lemmas.List.{append_assoc, length-append, length-take-le, length-drop, take_min, take-append-drop}
use Rattle.std.proofs.lemmas.Bool.{false_from_ne_true, both_ways, le-ltb, lt-ltb, cond-true, cond-false, and_left, and_right}
use Rattle.byteorder.specs.Endian.{big_bytes}
use Rattle.slp_frames.specs.Crc.{crc_of}
use Rattle.slp_frames.specs.PacketText.{header_text, header_of, PacketValue, packet_text, text_len}
use Rattle.slp_frames.specs.Places.{Begins}
use Rattle.slp_frames.specs.PacketScan.{fields_at, packet_at, has_header, is_open, Whole, Open, Dead, place_of}
use Rattle.slp_frames.specs.Numbers.{sync_bytes, header_len, max_body}
use Rattle.slp_frames.proofs.PlaceLaws.{starts_then, length-header_text, crc_bytes, packet_text-parts, length-behind, has_packet_stands, has_header-header_text}
use Rattle.slp_frames.proofs.PlaceLaws.{header_stands, place_of-packet, place_of-open}

-- without a packet it is open or dead
no_packet : (bytes : List ℕ) → (Begins (packet_at bytes) bytes → ⊥) → place_of bytes ≡ cond (is_open bytes) Open Dead
unfolding place_of
no_packet bytes none = grind (arith, cond-false, false_from_ne_true, has_packet_stands)

-- fewer than ten bytes
short : (bytes : List ℕ) {agrees : Bool} → length bytes < header_len → starts_with nat_eq sync_bytes (take (min 3 (length bytes)) bytes) ≡ agrees
    → place_of bytes ≡ cond agrees Open Dead
unfolding is_open
short bytes {agrees} few test =
    let same : starts_with nat_eq sync_bytes (take 3 bytes) ≡ agrees = subst (λ (s : List ℕ). starts_with nat_eq sync_bytes s ≡ agrees) (take_min 3 bytes)
    test in
    let is : is_open bytes ≡ agrees = cond-true _ _ _ (lt-ltb (length bytes) header_len few) ∙ same in
    no_packet bytes (λ begins. omega (arith, length-behind begins)) ∙ ap (λ (b : Bool). cond b Open Dead) is

pub place_of_short : (bytes : List ℕ) → length bytes < header_len → starts_with nat_eq sync_bytes (take (min 3 (length bytes)) bytes) ≡ true
    → place_of bytes ≡ Open
place_of_short bytes few test = short bytes few test

pub place_of_no_sync : (bytes : List ℕ) → length bytes < header_len → starts_with nat_eq sync_bytes (take (min 3 (length bytes)) bytes) ≡ false
    → place_of bytes ≡ Dead
place_of_no_sync bytes few test = short bytes few test

-- from ten bytes on
open_by_header : (bytes : List ℕ) → header_len ≤ length bytes → is_open bytes ≡ (has_header bytes && nat_lt (length bytes) (text_len (fields_at bytes).size))
unfolding is_open
open_by_header bytes ten = cond-false _ _ _ (le-ltb (length bytes) header_len ten)

pub place_of_no_header : (bytes : List ℕ) → header_len ≤ length bytes → has_header bytes ≡ false → place_of bytes ≡ Dead
place_of_no_header bytes ten none =
    grind (arith, nat_tests, common_steps, packet_text-parts, both_ways, has_header-header_text, crc_bytes, no_packet, cond-false, open_by_header, and_left)

pub place_of_unfinished : (bytes : List ℕ) → has_header bytes ≡ true → length bytes < text_len (fields_at bytes).size → place_of bytes ≡ Open
place_of_unfinished bytes test unfinished = grind (arith, header_stands, place_of-open)

-- what the CRC of a packet is made of
abbrev before_crc : PacketValue → List ℕ
before_crc packet = header_text (header_of packet) ++ packet.body

-- where all of a packet's length is there
record IsLongEnough (bytes : List ℕ) : Type 0 where
  size : length (packet_at bytes).body ≡ (fields_at bytes).size
  front : take (header_len + (fields_at bytes).size) bytes ≡ before_crc (packet_at bytes)
  front_len : length (before_crc (packet_at bytes)) ≡ header_len + (fields_at bytes).size

long_enough : (bytes : List ℕ) → has_header bytes ≡ true → text_len (fields_at bytes).size ≤ length bytes → IsLongEnough bytes
long_enough bytes test long =
    grind (arith, nat_tests, common_steps, length-take-le, length-drop, header_stands, length-header_text, take-append-add, length-append)

-- behind so many bytes stands their CRC
abbrev pub has_crc : ℕ → List ℕ → Bool
has_crc count bytes = starts_with nat_eq (drop count bytes) (big_bytes 2 (crc_of (take count bytes)))

-- behind what the CRC is made of stands the CRC
begins_by_crc : {bytes : List ℕ} → IsLongEnough bytes → (fields_at bytes).size ≤ max_body → has_crc (header_len + (fields_at bytes).size) bytes ≡ true
    → Begins (packet_at bytes) bytes
unfolding packet_text
begins_by_crc {bytes} long fits test =
    let packet = packet_at bytes in
    let count = header_len + (fields_at bytes).size in
    let crc : big_bytes 2 (crc_of (take count bytes)) ≡ crc_bytes packet = ap (λ (s : List ℕ). big_bytes 2 (crc_of s)) long.front in
    let behind = starts_then (drop count bytes) (crc_bytes packet) (subst (λ (mark : List ℕ). starts_with nat_eq (drop count bytes) mark ≡ true) crc test) in
    let rest = drop (length (crc_bytes packet)) (drop count bytes) in
    let is : bytes ≡ before_crc packet ++ (crc_bytes packet ++ rest) = sym (take-append-drop count bytes) ∙ cc (long.front, behind) in
    record { has_text = omega (arith, long.size); rest = rest; is = is ∙ sym (append_assoc (before_crc packet) (crc_bytes packet) rest) }

crc_by_begins : {bytes : List ℕ} → IsLongEnough bytes → Begins (packet_at bytes) bytes → has_crc (header_len + (fields_at bytes).size) bytes ≡ true
unfolding packet_text
crc_by_begins long begins = grind (arith, nat_tests, common_steps)

pub place_of_whole : (bytes : List ℕ) → has_header bytes ≡ true → text_len (fields_at bytes).size ≤ length bytes
    → has_crc (header_len + (fields_at bytes).size) bytes ≡ true → place_of bytes ≡ Whole (packet_at bytes)
place_of_whole bytes test long crc = grind (arith, place_of-packet, begins_by_crc, long_enough, header_stands)

pub place_of_wrong_crc : (bytes : List ℕ) → has_header bytes ≡ true → text_len (fields_at bytes).size ≤ length bytes
    → has_crc (header_len + (fields_at bytes).size) bytes ≡ false → place_of bytes ≡ Dead
place_of_wrong_crc bytes test long wrong =
    grind (arith, nat_tests, common_steps, no_packet, both_ways, crc_by_begins, long_enough, cond-false, open_by_header, and_right, le-ltb)

pub ruleset short_places = (place_of_short, place_of_no_sync)

pub ruleset long_places = (place_of_no_header, place_of_unfinished, place_of_whole, place_of_wrong_crc)
