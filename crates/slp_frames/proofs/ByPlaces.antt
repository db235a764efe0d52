-- The scan finds the packets that stand next to each other by places.
use Rattle.std.proofs.lemmas.Bool.Decides.{nat_tests}
use Rattle.std.proofs.lemmas.Grind.{common_steps}
use Rattle.std.proofs.Common.{◌≡◌, ℕ, zero, suc, ◌+◌, ◌-◌, ◌≤◌, inl, inr, List, [], ◌∷◌, map, length, drop, refl, sym, ap, subst, ◌∙◌, arith, ◌<◌}
use Rattle.std.proofs.lemmas.List.{drop-drop}
use Rattle.std.proofs.lemmas.Bool.{cases_eq, cases_order}
use Rattle.slp_frames.specs.PacketText.{PacketValue, text_len}
use Rattle.slp_frames.specs.Places.{Begins, IsOpen, PlacedPacket, IsNext, IsScanFrom, IsDead}
use Rattle.slp_frames.specs.PacketScan.{Place, Whole, Open, Dead, place_of, with_later, scan_behind, scan}
use Rattle.slp_frames.proofs.PlaceLaws.{length-behind, not_packet_and_open, place_of-packet, packet_stands, open_stands, dead_stands}
use Rattle.slp_frames.proofs.PlaceTests.{place_of_short}

-- ---- from an open and from a dead place on

none_from_open : {bytes : List ℕ} {from : ℕ} → IsOpen (drop from bytes) → (found : PlacedPacket) → IsNext bytes from found → ⊥
none_from_open {bytes} {from} opens found next = elim (cases_eq from found.place) [
  | inl same ↦ not_packet_and_open (subst (λ (place : ℕ). Begins found.packet (drop place bytes)) (sym same) next.text) opens
  | inr apart ↦ (next.dead from (omega arith) (omega (arith, next.after, apart))).not_open opens
]

before_dead : {bytes : List ℕ} (from : ℕ) → IsDead (drop from bytes) → {found : PlacedPacket} → IsNext bytes (from + 1) found → IsNext bytes from found
before_dead {bytes} from dead {found} next = record { after = omega (arith, next.after); text = next.text; dead = each } where
  each : (place : ℕ) → from ≤ place → place < found.place → IsDead (drop place bytes)
  each place low high = elim (cases_eq from place) [
    | inl same ↦ subst (λ (k : ℕ). IsDead (drop k bytes)) same dead
    | inr apart ↦ next.dead place (omega arith) high
  ]

past_dead : {bytes : List ℕ} {from : ℕ} → IsDead (drop from bytes) → {found : PlacedPacket} → IsNext bytes from found → IsNext bytes (from + 1) found
past_dead {bytes} {from} dead {found} next = elim (cases_eq from found.place) [
  | inl same ↦ absurd (dead.no_packet found.packet (subst (λ (place : ℕ). Begins found.packet (drop place bytes)) (sym same) next.text))
  | inr apart ↦ record { after = omega (arith, next.after, apart); text = next.text; dead = λ place low high. next.dead place (omega arith) high }
]

from_dead : (bytes : List ℕ) (from : ℕ) (found : List PlacedPacket) → IsDead (drop from bytes) → IsScanFrom bytes (from + 1) found → IsScanFrom bytes from found
from_dead bytes from [] dead none = λ found next. none found (past_dead dead next)
from_dead bytes from (found ∷ later) dead are = (before_dead from dead are.0, are.1)

-- ---- there are such packets, and the scan has them

abbrev packets_of : List PlacedPacket → List PacketValue
packets_of found = map (λ (f : PlacedPacket). f.packet) found

abbrev Scanned : List ℕ → ℕ → List PacketValue → Type 0
Scanned bytes from packets = (found : List PlacedPacket) × IsScanFrom bytes from found × (packets_of found ≡ packets)

at_place : (bytes : List ℕ) (from : ℕ) {byte : ℕ} {rest : List ℕ} (place : Place) → drop from bytes ≡ byte ∷ rest → place_of (byte ∷ rest) ≡ place
    → ((count : ℕ) → count ≤ length rest → Scanned bytes (from + 1 + count) (scan_behind count rest))
    → Scanned bytes from (with_later place (λ count. scan_behind count rest))
at_place bytes from {byte} {rest} (Whole packet) is e later =
    let text : Begins packet (drop from bytes) = subst (λ (s : List ℕ). Begins packet s) (sym is) (packet_stands (byte ∷ rest) e) in
    let count : ℕ = text_len (length packet.body) - 1 in
    let whole : from + 1 + count ≡ from + text_len (length packet.body) = omega arith in
    let behind = later count (omega (arith, length-behind (packet_stands (byte ∷ rest) e))) in
    let next : IsNext bytes from (record { place = from; packet = packet }) = record
    { after = omega arith; text = text; dead = λ place low high. absurd (omega arith) } in (
      record { place = from; packet = packet } ∷ behind.0,
      (next, subst (λ (n : ℕ). IsScanFrom bytes n behind.0) whole behind.1),
      ap (λ (ps : List PacketValue). packet ∷ ps) behind.2,
    )
at_place bytes from {byte} {rest} Open is e later =
    ([], none_from_open {bytes = bytes} {from = from} (subst (λ (s : List ℕ). IsOpen s) (sym is) (open_stands (byte ∷ rest) e)), refl)
at_place bytes from {byte} {rest} Dead is e later =
    let behind = later 0 (omega arith) in
    let dead : IsDead (drop from bytes) = subst (λ (s : List ℕ). IsDead s) (sym is) (dead_stands (byte ∷ rest) e) in
    (behind.0, from_dead bytes from behind.0 dead (subst (λ (n : ℕ). IsScanFrom bytes n behind.0) (omega arith) behind.1), behind.2)

are_scanned_behind : (bytes : List ℕ) (from : ℕ) (rest : List ℕ) (count : ℕ) → drop from bytes ≡ rest → count ≤ length rest
    → Scanned bytes (from + count) (scan_behind count rest)
are_scanned_behind bytes from [] zero is fits = (
  [],
  none_from_open {bytes = bytes} {from = from + 0}
      (subst (λ (n : ℕ). IsOpen (drop n bytes)) (omega arith)
      (subst (λ (s : List ℕ). IsOpen s) (sym is) (open_stands [] (place_of_short [] (omega arith) refl)))),
  refl,
)
are_scanned_behind bytes from [] (suc count) is fits = absurd (omega arith)
are_scanned_behind bytes from (byte ∷ rest) (suc count) is fits =
    let step : drop (from + 1) bytes ≡ rest = sym (drop-drop 1 from bytes) ∙ ap (λ (s : List ℕ). drop 1 s) is in
    let behind = are_scanned_behind bytes (from + 1) rest count step (omega arith) in
    (behind.0, subst (λ (n : ℕ). IsScanFrom bytes n behind.0) (omega arith) behind.1, behind.2)
are_scanned_behind bytes from (byte ∷ rest) zero is fits =
    let step : drop (from + 1) bytes ≡ rest = sym (drop-drop 1 from bytes) ∙ ap (λ (s : List ℕ). drop 1 s) is in
    let here = at_place bytes from (place_of (byte ∷ rest)) is refl (λ count fits. are_scanned_behind bytes (from + 1) rest count step fits) in
    (here.0, subst (λ (n : ℕ). IsScanFrom bytes n here.0) (omega arith) here.1, here.2)

pub are_scanned : (bytes : List ℕ) → Scanned bytes 0 (scan bytes)
are_scanned bytes =
    let all = are_scanned_behind bytes 0 bytes 0 refl (omega arith) in
    (all.0, subst (λ (n : ℕ). IsScanFrom bytes n all.0) (omega arith) all.1, all.2)

-- ---- and no others are

next_is_one : {bytes : List ℕ} {from : ℕ} {x y : PlacedPacket} → IsNext bytes from x → IsNext bytes from y → x ≡ y
next_is_one {bytes} {x} {y} x_next y_next = elim (cases_order x.place y.place) [
  | inl same ↦
      let first = place_of-packet x.packet (drop x.place bytes) x_next.text in
      let second = place_of-packet y.packet (drop x.place bytes) (subst (λ (place : ℕ). Begins y.packet (drop place bytes)) (sym same) y_next.text) in
      let packet : x.packet ≡ y.packet = (let whole : Whole x.packet ≡ Whole y.packet = sym first ∙ second in cc) in
      ap (λ (n : ℕ). record x { place = n }) same ∙ ap (λ (p : PacketValue). record y { packet = p }) packet
  | inr (inl before) ↦ absurd ((y_next.dead x.place x_next.after before).no_packet x.packet x_next.text)
  | inr (inr behind) ↦ absurd ((x_next.dead y.place y_next.after behind).no_packet y.packet y_next.text)
]

pub same_places : (bytes : List ℕ) (from : ℕ) (xs ys : List PlacedPacket) → IsScanFrom bytes from xs → IsScanFrom bytes from ys → xs ≡ ys
same_places bytes from [] [] x_are y_are = refl
same_places bytes from [] (y ∷ ys) x_are y_are = absurd (x_are y y_are.0)
same_places bytes from (x ∷ xs) [] x_are y_are = absurd (y_are x x_are.0)
same_places bytes from (x ∷ xs) (y ∷ ys) x_are y_are =
    grind (
      arith,
      nat_tests,
      common_steps,
      next_is_one x_are.0 y_are.0,
      y_are.1,
      same_places bytes (x.place + text_len (length x.packet.body)) xs ys x_are.1,
      x.place,
      x.packet.body,
      x_are.1,
    )
