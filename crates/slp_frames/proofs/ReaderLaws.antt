-- What `next` does, from what was found in the bytes held.
use Rattle.std.proofs.Common.{◌≡◌, ℕ, ◌+◌, ◌-◌, ◌<◌, List, [], ◌∷◌, ◌++◌, length, take, drop, Some, None, sym, ap, subst, ◌∙◌, arith}
use Rattle.std.proofs.lemmas.List.{length-take-le, length-drop, take_rest, drop-drop}
use Rattle.slp_frames.specs.PacketText.{PacketValue, HasText, text_len}
use Rattle.slp_frames.specs.Places.{IsOpen}
use Rattle.slp_frames.specs.PacketScan.{fields_at, packet_at, scan}
use Rattle.slp_frames.specs.PacketValues.{lent_value}
use Rattle.slp_frames.specs.FoundPlaces.{FindsAt}
use Rattle.slp_frames.specs.Readers.{ReaderValue}
use Rattle.slp_frames.specs.Histories.{Continues, HandsOut, after_packet}
use Rattle.slp_frames.specs.declared.packet.PacketLent.{PacketLent}
use Rattle.slp_frames.specs.Numbers.{max_packet}
use Rattle.slp_frames.proofs.PlaceLaws.{packet_stands, open_stands}
use Rattle.slp_frames.proofs.ScanLaws.{scan-open, continues_start, continues_now, continues_then, continues_packet}

-- what is open is shorter than the longest packet
length-open : (bytes : List ℕ) → IsOpen bytes → length bytes < max_packet
length-open bytes fact = grind arith

-- what a slice of the buffer shows, and what lies behind a place of it
pub held_is : {items slice : List ℕ} (passed : ℕ) → slice ≡ items → take (length slice - passed) (drop passed slice) ≡ drop passed items
held_is {slice} passed same = take_rest slice passed ∙ ap (λ (s : List ℕ). drop passed s) same

pub behind_is : {items slice : List ℕ} (passed place : ℕ) → slice ≡ items
    → drop (passed + place) items ≡ drop place (take (length slice - passed) (drop passed slice))
behind_is passed place same = grind (arith, drop-drop, held_is)

pub packet_is : (bytes : List ℕ) (place : ℕ) {packet : PacketValue} → packet ≡ packet_at (take (length bytes - place) (drop place bytes))
    → packet ≡ packet_at (drop place bytes)
packet_is bytes place is = is ∙ ap packet_at (take_rest bytes place)

module _ (old new : ReaderValue) (bytes : List ℕ) (is : bytes ≡ old.held) (place : ℕ) (passed : Continues bytes [] (drop place bytes)) where
  then_held : (packets : List PacketValue) → Continues (drop place bytes) packets new.held → (taken : List ℕ) (handed : List PacketValue)
      → Continues taken handed old.held → Continues taken (handed ++ packets) new.held
  then_held packets step taken handed before =
      continues_then (subst (λ (held : List ℕ). Continues taken handed held) (sym is) before)
      (continues_then passed step)

  found_by : (packets : List PacketValue) → Continues (drop place bytes) packets new.held → scan old.held ≡ packets ++ scan new.held
  found_by packets step =
      continues_now old.held new.held packets (then_held packets step old.held [] (continues_start old.held))

  pub hands_out_none : FindsAt (drop place bytes) None → new.held ≡ drop place bytes → new.tally ≡ old.tally → HandsOut old None new
  hands_out_none opens held tally =
      let step : Continues (drop place bytes) [] new.held = rw held (continues_start (drop place bytes)) in
      record {
        found = found_by [] step;
        continues = then_held [] step;
        has_text = tt;
        all = rw held (scan-open (drop place bytes) opens);
        room = rw held (length-open (drop place bytes) (open_stands (drop place bytes) opens));
        tally = tally;
      }

  pub hands_out_packet : (packet : PacketLent) (size : ℕ) → FindsAt (drop place bytes) (Some size) → lent_value packet ≡ packet_at (drop place bytes)
      → new.held ≡ drop (text_len size) (drop place bytes) → new.tally ≡ after_packet old.tally (Some packet) → HandsOut old (Some packet) new
  hands_out_packet packet size found value held tally =
      let text = drop place bytes in
      let len : length (packet_at text).body ≡ size = length-take-le (fields_at text).size (drop 10 text) (omega (arith, found.1, found.2, length-drop 10 text))
      ∙ sym found.1 in
      let step : Continues text (packet_at text ∷ []) (drop (text_len (length (packet_at text).body)) text) =
      continues_packet (packet_at text) text (packet_stands text found.0) in
      let own : Continues text (lent_value packet ∷ []) new.held = rw (held, value)
      (subst (λ (n : ℕ). Continues text (packet_at text ∷ []) (drop (text_len n) text)) len step) in
      record {
        found = found_by (lent_value packet ∷ []) own;
        continues = then_held (lent_value packet ∷ []) own;
        has_text = subst (λ (p : PacketValue). HasText p) (sym value) (packet_stands text found.0).has_text;
        all = tt;
        room = tt;
        tally = tally;
      }
