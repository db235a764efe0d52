-- The packets of bytes that go on.
use Rattle.std.proofs.lemmas.Bool.Decides.{nat_tests}
use Rattle.std.proofs.lemmas.Grind.{common_steps}
use Rattle.std.proofs.Common.{◌≡◌, ℕ, zero, suc, ◌+◌, ◌-◌, ◌<◌, ◌≤◌, inl, inr, List, [], ◌∷◌, ◌++◌, length, take, drop, refl, sym, ap, subst, ◌∙◌, arith}
use Rattle.std.proofs.lemmas.List.{append_assoc, append-nil, length-append, take-append-drop, take_at, drop_at, drop_all, drop-drop, take-append-le}
use Rattle.std.proofs.lemmas.Bool.{cases_lt}
use Rattle.slp_frames.specs.PacketText.{HeaderValue, header_text, header_of, PacketValue, packet_text, HasText, text_len}
use Rattle.slp_frames.specs.Places.{Begins, IsHeaderFront, IsOpen, IsDead}
use Rattle.slp_frames.specs.PacketScan.{Place, Whole, Open, Dead, place_of, with_later, scan_behind, scan}
use Rattle.slp_frames.specs.Histories.{Continues}
use Rattle.slp_frames.specs.Numbers.{sync_bytes, header_len, max_body}
use Rattle.slp_frames.proofs.PlaceTests.{place_of_short}
use Rattle.slp_frames.proofs.PlaceLaws.{length-header_text, length-packet_text, length-behind, crc_bytes, packet_text-parts, header_stands_first}
use Rattle.slp_frames.proofs.PlaceLaws.{place_of-packet, place_of-dead, place_of-open, packet_stands, dead_stands}

-- ---- a dead place stays dead

-- what begins a longer list and is long enough begins the shorter one
front_stands : (bytes more front rest : List ℕ) → bytes ++ more ≡ front ++ rest → length front ≤ length bytes → bytes ≡ front ++ drop (length front) bytes
front_stands bytes more front rest is fits =
    cc (take-append-le (length front) bytes more fits, take_at front rest (length front) refl, take-append-drop (length front) bytes)

-- the first n of a list begin with the first n of what begins it
front-take : (n : ℕ) (bytes more : List ℕ) → (rest : List ℕ) × (take n (bytes ++ more) ≡ take n bytes ++ rest)
front-take zero bytes more = ([], refl)
front-take (suc n) [] more = (take (suc n) more, refl)
front-take (suc n) (byte ∷ bytes) more = grind (arith, nat_tests, common_steps, front-take n bytes more)

short_front : (bytes more rest : List ℕ) → length bytes < header_len → sync_bytes ≡ take 3 (bytes ++ more) ++ rest → IsHeaderFront bytes
short_front bytes more rest few agrees =
    grind (arith, nat_tests, common_steps, front-take 3 bytes more, append_assoc (take 3 bytes) (front-take 3 bytes more).0 rest)

-- what a packet's header begins, or what begins it, is open while it is shorter than the packet
open_front : (header : HeaderValue) (bytes more rest : List ℕ) → header.size ≤ max_body → bytes ++ more ≡ header_text header ++ rest
    → length bytes < text_len header.size → IsOpen bytes
open_front header bytes more rest fits is unfinished =
    elim (cases_lt (length bytes) header_len) [
      | inl few ↦ inl (short_front bytes more [] few (sym (ap (λ (s : List ℕ). take 3 s ++ []) is ∙ header_stands_first header rest)))
      | inr ten ↦
          let stands = front_stands bytes more (header_text header) rest is (omega (arith, length-header_text header)) in
          inr (record { header = header; fits = fits; rest = drop (length (header_text header)) bytes; is = stands; unfinished = unfinished })
    ]

pub IsDead-append : (bytes more : List ℕ) → IsDead bytes → IsDead (bytes ++ more)
IsDead-append bytes more dead = record { no_packet = no_packet; not_open = not_open } where
  no_packet : (packet : PacketValue) → Begins packet (bytes ++ more) → ⊥
  no_packet packet begins = elim (cases_lt (length bytes) (text_len (length packet.body))) [
    | inl unfinished ↦
        let header = begins.is ∙ packet_text-parts packet begins.rest in
        dead.not_open (open_front (header_of packet) bytes more (packet.body ++ (crc_bytes packet ++ begins.rest)) begins.has_text header unfinished)
    | inr whole ↦
        let stands = front_stands bytes more (packet_text packet) begins.rest begins.is (omega (arith, length-packet_text packet)) in
        dead.no_packet packet (record { has_text = begins.has_text; rest = drop (length (packet_text packet)) bytes; is = stands })
  ]

  not_open : IsOpen (bytes ++ more) → ⊥
  not_open (inl short) = dead.not_open (inl (short_front bytes more short.rest (omega (arith, short.few, length-append bytes more)) short.agrees))
  not_open (inr begun) = dead.not_open (open_front begun.header bytes more begun.rest begun.fits begun.is
      (omega (arith, begun.unfinished, length-append bytes more)))

-- ---- the scan, place by place

scan_behind-drop : (count : ℕ) (bytes : List ℕ) → scan_behind count bytes ≡ scan (drop count bytes)
scan_behind-drop zero bytes = refl
scan_behind-drop (suc count) [] = refl
scan_behind-drop (suc count) (byte ∷ bytes) = scan_behind-drop count bytes

pub scan-dead : (bytes : List ℕ) → place_of bytes ≡ Dead → scan bytes ≡ scan (drop 1 bytes)
scan-dead bytes dead = grind arith

pub scan-open : (bytes : List ℕ) → place_of bytes ≡ Open → scan bytes ≡ []
scan-open [] opens = refl
scan-open (byte ∷ bytes) opens = rw opens refl

-- the bytes behind a packet
behind-packet : {packet : PacketValue} {bytes : List ℕ} → (begins : Begins packet bytes) → drop (text_len (length packet.body)) bytes ≡ begins.rest
behind-packet begins = grind (arith, drop_at, length-packet_text)

pub scan-packet : {packet : PacketValue} (bytes : List ℕ) → Begins packet bytes → scan bytes ≡ packet ∷ scan (drop (text_len (length packet.body)) bytes)
scan-packet [] begins = absurd (omega (arith, length-behind begins))
scan-packet {packet} (byte ∷ bytes) begins =
    grind (
      arith,
      nat_tests,
      common_steps,
      packet.body,
      place_of-packet packet (byte ∷ bytes) begins,
      scan_behind-drop (text_len (length packet.body) - 1) bytes,
    )

-- ---- how a reader goes on

pub continues_start : (bytes : List ℕ) → Continues bytes [] bytes
continues_start bytes = record { scans = λ more. refl }

-- further bytes are taken
pub continues_append : (taken more held : List ℕ) (handed : List PacketValue) → Continues taken handed held → Continues (taken ++ more) handed (held ++ more)
continues_append taken more held handed before = grind (arith, append_assoc)

-- further packets are handed out
pub continues_then : {taken held held' : List ℕ} {handed packets : List PacketValue} → Continues taken handed held → Continues held packets held'
    → Continues taken (handed ++ packets) held'
continues_then before step = grind (arith, append_assoc)

-- where nothing follows
pub continues_now : (taken held : List ℕ) (handed : List PacketValue) → Continues taken handed held → scan taken ≡ handed ++ scan held
continues_now taken held handed before = grind (arith, nat_tests, common_steps, append-nil taken, before.scans, append-nil held)

pub continues_dead : (bytes : List ℕ) → place_of bytes ≡ Dead → Continues bytes [] (drop 1 bytes)
continues_dead bytes dead = grind (arith, scan-dead, place_of-dead, IsDead-append, dead_stands)

pub continues_packet : (packet : PacketValue) (bytes : List ℕ) → Begins packet bytes
    → Continues bytes (packet ∷ []) (drop (text_len (length packet.body)) bytes)
continues_packet packet bytes begins = record {
  scans = λ more.
      let longer : Begins packet (bytes ++ more) = record {
        has_text = begins.has_text;
        rest = begins.rest ++ more;
        is = ap (λ (s : List ℕ). s ++ more) begins.is ∙ append_assoc (packet_text packet) begins.rest more;
      } in
      scan-packet (bytes ++ more) longer
      ∙ ap (λ (s : List ℕ). packet ∷ scan s) (behind-packet longer)
      ∙ sym (ap (λ (s : List ℕ). packet ∷ scan (s ++ more)) (behind-packet begins));
}

-- a reader passes a dead place, and one behind the other
pub continues_past_dead : (bytes : List ℕ) (place : ℕ) → Continues bytes [] (drop place bytes) → place_of (drop place bytes) ≡ Dead
    → Continues bytes [] (drop (place + 1) bytes)
continues_past_dead bytes place before dead =
    grind (arith, nat_tests, common_steps, drop-drop 1 place bytes, continues_then before (continues_dead (drop place bytes) dead))

pub place_of_end : (bytes : List ℕ) → place_of (drop (length bytes) bytes) ≡ Open
place_of_end bytes = grind (arith, drop_all, place_of_short)

pub ruleset passing = (continues_start, continues_past_dead, place_of_end)

-- Some bytes go on after the packets of any, so the scan of a list begins that of a longer one.
pub scan_continues : (bytes : List ℕ) → (held : List ℕ) × Continues bytes (scan bytes) held
scan_continues bytes = go bytes zero (omega arith) where
  Held : List ℕ → ℕ → Type 0
  Held bytes count = (held : List ℕ) × Continues (drop count bytes) (scan_behind count bytes) held

  at : (byte : ℕ) (bytes : List ℕ) (place : Place) → place_of (byte ∷ bytes) ≡ place → ((count : ℕ) → count ≤ length bytes → Held bytes count)
      → (held : List ℕ) × Continues (byte ∷ bytes) (with_later place (λ count. scan_behind count bytes)) held
  at byte bytes (Whole packet) e later =
      let begins = packet_stands (byte ∷ bytes) e in
      let count : ℕ = text_len (length packet.body) - 1 in
      let whole : text_len (length packet.body) ≡ suc count = omega arith in
      let step : Continues (byte ∷ bytes) (packet ∷ []) (drop count bytes) = subst (λ (n : ℕ). Continues (byte ∷ bytes) (packet ∷ []) (drop n (byte ∷ bytes)))
      whole (continues_packet packet (byte ∷ bytes) begins) in
      let rest = later count (omega (arith, length-behind begins)) in
      (rest.0, continues_then step rest.1)
  at byte bytes Open e later = (byte ∷ bytes, continues_start (byte ∷ bytes))
  at byte bytes Dead e later =
      let rest = later 0 (omega arith) in
      (rest.0, continues_then (continues_dead (byte ∷ bytes) e) rest.1)

  go : (bytes : List ℕ) (count : ℕ) → count ≤ length bytes → Held bytes count
  go [] zero fits = ([], record { scans = λ more. refl })
  go [] (suc count) fits = absurd (omega arith)
  go (byte ∷ bytes) (suc count) fits = go bytes count (omega arith)
  go (byte ∷ bytes) zero fits = at byte bytes (place_of (byte ∷ bytes)) refl (λ count fits. go bytes count fits)

-- what was written is read
pub scan_packet_text : (packet : PacketValue) → HasText packet → scan (packet_text packet) ≡ packet ∷ []
scan_packet_text packet fits =
    let begins : Begins packet (packet_text packet) = record { has_text = fits; rest = []; is = sym (append-nil (packet_text packet)) } in
    scan-packet (packet_text packet) begins ∙ ap (λ (s : List ℕ). packet ∷ scan s) (behind-packet begins)

-- bytes that are cut off before the end of a packet's text hold no packet
pub scan-cut : (packet : PacketValue) (bytes more : List ℕ) → HasText packet → bytes ++ more ≡ packet_text packet → length bytes < length (packet_text packet)
    → scan bytes ≡ []
scan-cut packet bytes more fits is cut =
    let parts : packet_text packet ≡ header_text (header_of packet) ++ (packet.body ++ (crc_bytes packet ++ [])) = sym (append-nil (packet_text packet))
    ∙ packet_text-parts packet [] in
    scan-open bytes
    (place_of-open bytes (open_front (header_of packet) bytes more (packet.body ++ (crc_bytes packet ++ [])) fits (is ∙ parts)
    (omega (arith, length-packet_text packet, cut))))
