-- What stands at the front of bytes, by the relations of specs/Places.antt and by `place_of`.
use Rattle.std.proofs.lemmas.Grind.{common_steps}
use Rattle.std.proofs.Common.{◌≡◌, ℕ, ◌+◌, ◌≤◌, ◌⊎◌, inl, inr, Bool, true, cond, ◌&&◌, List, [], ◌++◌, length, take, drop, nat_eq, nat_lt, nat_le, refl, sym}
use Rattle.std.proofs.Common.{ap, ◌∙◌, arith}
use Rattle.std.specs.List.{starts_with}
use Rattle.std.proofs.lemmas.List.{append_assoc, length-append, length-take, take_at, drop_at}
use Rattle.std.proofs.lemmas.Bool.{and_parts, and_from, le-leb, leb-true, le-ltb, lt-ltb, ltb-true, cond-true, cond-false, cases_lt, false_from_ne_true}
use Rattle.std.proofs.lemmas.Bool.Decides.{Decides-eqb, nat_tests}
use Rattle.std.proofs.lemmas.Slice.Eq.{starts_is}
use Rattle.slp_frames.specs.PacketText.{HeaderValue, header_text, header_of, PacketValue, packet_text, HasText, text_len}
use Rattle.byteorder.specs.Endian.{big_bytes}
use Rattle.slp_frames.specs.Crc.{crc_of}
use Rattle.slp_frames.specs.Places.{Begins, IsOpen, IsDead}
use Rattle.slp_frames.specs.PacketScan.{fields_at, packet_at, has_packet, has_header, is_open, Place, Whole, Open, Dead, place_of}
use Rattle.slp_frames.specs.Numbers.{sync_bytes, max_body}

-- ---- `starts_with` as a split

pub starts : (front rest : List ℕ) → starts_with nat_eq (front ++ rest) front ≡ true
starts front rest = (starts_is Decides-eqb (front ++ rest) front _ refl).1 rest refl

pub starts_then : (bytes front : List ℕ) → starts_with nat_eq bytes front ≡ true → bytes ≡ front ++ drop (length front) bytes
starts_then bytes front h = (starts_is Decides-eqb bytes front _ refl).0 h

-- ---- a header and a packet are read as they were written

pub length-header_text : (header : HeaderValue) → length (header_text header) ≡ 10
unfolding header_text
length-header_text header = refl

pub header_stands_first : (header : HeaderValue) (rest : List ℕ) → take 3 (header_text header ++ rest) ++ [] ≡ sync_bytes
unfolding header_text
header_stands_first header rest = refl

fields_at-header_text : (header : HeaderValue) (rest : List ℕ) → header.size ≤ max_body → fields_at (header_text header ++ rest) ≡ header
unfolding header_text fields_at
fields_at-header_text header rest fits = grind arith

-- the CRC of a packet, as its text ends
abbrev pub crc_bytes : PacketValue → List ℕ
crc_bytes packet = big_bytes 2 (crc_of (header_text (header_of packet) ++ packet.body))

pub packet_text-parts : (packet : PacketValue) (rest : List ℕ)
    → packet_text packet ++ rest ≡ header_text (header_of packet) ++ (packet.body ++ (crc_bytes packet ++ rest))
unfolding packet_text
packet_text-parts packet rest = simp append_assoc

pub length-packet_text : (packet : PacketValue) → length (packet_text packet) ≡ text_len (length packet.body)
unfolding packet_text
length-packet_text packet = grind (arith, length-header_text, length-append)

-- a packet at the front is no longer than the bytes
pub length-behind : {packet : PacketValue} {bytes : List ℕ} → (begins : Begins packet bytes) → length bytes ≡ text_len (length packet.body) + length begins.rest
length-behind begins = grind (arith, length-append, length-packet_text)

fields_at-packet_text : (packet : PacketValue) (rest : List ℕ) → HasText packet → fields_at (packet_text packet ++ rest) ≡ header_of packet
fields_at-packet_text packet rest fits = grind (arith, packet_text-parts, fields_at-header_text, crc_bytes)

packet_at-packet_text : (packet : PacketValue) (rest : List ℕ) → HasText packet → packet_at (packet_text packet ++ rest) ≡ packet
packet_at-packet_text packet rest fits =
    let header = header_of packet in
    let tail = packet.body ++ (crc_bytes packet ++ rest) in
    let body : take (length packet.body) (drop 10 (header_text header ++ tail)) ≡ packet.body =
    rw (drop_at (header_text header) tail 10 (length-header_text header)) (take_at packet.body (crc_bytes packet ++ rest) (length packet.body) refl) in
    rw (packet_text-parts, fields_at-header_text header tail fits) (ap (λ (bytes : List ℕ). record packet { body = bytes }) body)

-- ---- which place it is

-- a test of a limit and of a front
limit_and_front : (size : ℕ) (bytes front : List ℕ) → (nat_le size max_body && starts_with nat_eq bytes front) ≡ true
    → (size ≤ max_body) × (bytes ≡ front ++ drop (length front) bytes)
limit_and_front size bytes front h = grind (arith, nat_tests, common_steps, and_parts, nat_le, nat_eq, leb-true, starts_then)

pub place_of-packet : (packet : PacketValue) (bytes : List ℕ) → Begins packet bytes → place_of bytes ≡ Whole packet
unfolding place_of has_packet
place_of-packet packet bytes begins =
    grind (arith, nat_tests, common_steps, fields_at-packet_text, packet_at-packet_text, nat_le, le-leb, nat_eq, starts, cond-true, and_from)

whole_from : (whole unfinished : Bool) (p : PacketValue) {q : PacketValue} → cond whole (Whole p) (cond unfinished Open Dead) ≡ Whole q
    → (whole ≡ true) × (p ≡ q)
whole_from whole unfinished p e = grind arith

open_from : (whole unfinished : Bool) (p : PacketValue) → cond whole (Whole p) (cond unfinished Open Dead) ≡ Open → unfinished ≡ true
open_from whole unfinished p e = grind arith

pub has_packet_stands : (bytes : List ℕ) → has_packet bytes ≡ true → Begins (packet_at bytes) bytes
unfolding has_packet
has_packet_stands bytes test = grind (arith, limit_and_front, length-take)

pub packet_stands : {packet : PacketValue} (bytes : List ℕ) → place_of bytes ≡ Whole packet → Begins packet bytes
unfolding place_of
packet_stands bytes whole = grind (arith, whole_from, has_packet_stands)

-- ---- open

-- a list that is begun by the header of a packet that is longer than it, or of which it is the beginning
pub has_header-header_text : (header : HeaderValue) {bytes : List ℕ} (rest : List ℕ) → header.size ≤ max_body → bytes ≡ header_text header ++ rest
    → (fields_at bytes ≡ header) × (has_header bytes ≡ true)
unfolding has_header
has_header-header_text header {bytes} rest fits is = grind (arith, nat_tests, common_steps, fields_at-header_text, nat_le, le-leb, and_from, starts)

pub header_stands : (bytes : List ℕ) → has_header bytes ≡ true → ((fields_at bytes).size ≤ max_body) × (bytes ≡ header_text (fields_at bytes) ++ drop 10 bytes)
unfolding has_header
header_stands bytes h = grind (arith, limit_and_front, length-header_text)

pub not_packet_and_open : {packet : PacketValue} {bytes : List ℕ} → Begins packet bytes → IsOpen bytes → ⊥
not_packet_and_open {packet} {bytes} begins opens =
    let len = length-behind begins in
    elim opens [
      | inl short ↦ omega (arith, short.few)
      | inr begun ↦
          let fields : fields_at bytes ≡ header_of packet = rw begins.is (fields_at-packet_text packet begins.rest begins.has_text) in
          let same = (has_header-header_text begun.header begun.rest begun.fits begun.is).0 in
          let size : begun.header.size ≡ length packet.body = ap (λ (h : HeaderValue). h.size) (sym same ∙ fields) in
          omega (arith, begun.unfinished)
    ]

is_open-open : (bytes : List ℕ) → IsOpen bytes → is_open bytes ≡ true
unfolding is_open
is_open-open bytes (inl short) =
    cond-true _ _ _ (lt-ltb (length bytes) 10 short.few) ∙ (starts_is Decides-eqb sync_bytes (take 3 bytes) _ refl).1 short.rest short.agrees
is_open-open bytes (inr begun) =
    grind (arith, nat_tests, common_steps, has_header-header_text, length-append, length-header_text, nat_lt, lt-ltb, cond-false, le-ltb, and_from)

pub place_of-open : (bytes : List ℕ) → IsOpen bytes → place_of bytes ≡ Open
unfolding place_of
place_of-open bytes opens =
    grind (arith, nat_tests, common_steps, false_from_ne_true, not_packet_and_open, has_packet_stands, cond-false, cond-true, is_open-open)

pub open_stands : (bytes : List ℕ) → place_of bytes ≡ Open → IsOpen bytes
unfolding place_of is_open
open_stands bytes opens =
    let test = open_from (has_packet bytes) (is_open bytes) (packet_at bytes) opens in
    elim (cases_lt (length bytes) 10) [
      | inl few ↦
          let sync = (sym (cond-true _ _ _ (lt-ltb (length bytes) 10 few)) ∙ test) in
          inl (record { few = few; rest = drop (length (take 3 bytes)) sync_bytes; agrees = starts_then sync_bytes (take 3 bytes) sync })
      | inr ten ↦
          let tests = (sym (cond-false _ _ _ (le-ltb (length bytes) 10 ten)) ∙ test) in
          let parts = and_parts (has_header bytes) (nat_lt (length bytes) (text_len (fields_at bytes).size)) tests in
          let stands = header_stands bytes parts.0 in
          inr (record { header = fields_at bytes; fits = stands.0; rest = drop 10 bytes; is = stands.1; unfinished = ltb-true _ _ parts.1 })
    ]

pub dead_stands : (bytes : List ℕ) → place_of bytes ≡ Dead → IsDead bytes
dead_stands bytes dead = record {
  no_packet = λ packet begins. absurd (let e = sym (place_of-packet packet bytes begins) ∙ dead in cc);
  not_open = λ opens. absurd (let e = sym (place_of-open bytes opens) ∙ dead in cc);
}

-- one of the three stands at each place
pub cases_place : (bytes : List ℕ) → ((packet : PacketValue) × Begins packet bytes) ⊎ (IsOpen bytes ⊎ (place_of bytes ≡ Dead))
cases_place bytes = go (place_of bytes) refl where
  go : (place : Place) → place_of bytes ≡ place → ((packet : PacketValue) × Begins packet bytes) ⊎ (IsOpen bytes ⊎ (place_of bytes ≡ Dead))
  go (Whole packet) e = inl (packet, packet_stands bytes e)
  go Open e = inr (inl (open_stands bytes e))
  go Dead e = inr (inr e)

pub place_of-dead : {bytes : List ℕ} → IsDead bytes → place_of bytes ≡ Dead
place_of-dead {bytes} dead = elim (cases_place bytes) [
  | inl found ↦ absurd (dead.no_packet found.0 found.1)
  | inr (inl opens) ↦ absurd (dead.not_open opens)
  | inr (inr e) ↦ e
]
