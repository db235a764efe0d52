-- A stream that is read piece by piece.
use Rattle.std.proofs.lemmas.Bool.Decides.{nat_tests}
use Rattle.std.proofs.lemmas.Grind.{common_steps}
use Rattle.std.proofs.Common.{◌≡◌, ℕ, ◌+◌, ◌<◌, List, [], ◌∷◌, ◌++◌, length, take, drop, get_or, sym, ap, ◌∙◌, arith}
use Rattle.std.proofs.lemmas.List.{append_assoc, append-nil, take-append-drop, take_more}
use Rattle.std.proofs.lemmas.List.Concat.{flat_map-append}
use Rattle.std.specs.List.{flat_map}
use Rattle.slp_frames.specs.PacketText.{PacketValue}
use Rattle.slp_frames.specs.PacketScan.{scan}
use Rattle.slp_frames.specs.Histories.{Continues}
use Rattle.slp_frames.specs.Streams.{Gains, GainsFront}
use Rattle.slp_frames.proofs.ScanLaws.{continues_now, continues_append}

-- the reader handed out one more, which wasn't taken
pub gains_front : {taken held held' : List ℕ} {first now : List PacketValue} (packet : PacketValue) → (before : Gains taken first now held)
    → Continues taken (before.handed ++ packet ∷ []) held' → GainsFront taken first now
gains_front {held'} packet before step = record {
  handed = before.handed;
  is = before.is;
  front = λ more. (packet ∷ scan (held' ++ more), step.scans more ∙ append_assoc before.handed (packet ∷ []) (scan (held' ++ more)));
}

-- one part of a stream after the other
pub gains_then : {taken : List ℕ} (more : List ℕ) {held held' : List ℕ} {first middle now : List PacketValue} → Gains taken first middle held
    → Gains (held ++ more) middle now held' → Gains (taken ++ more) first now held'
gains_then more before after = grind (arith, nat_tests, common_steps)

pub gains_front_then : {taken : List ℕ} (more : List ℕ) {held : List ℕ} {first middle now : List PacketValue} → Gains taken first middle held
    → GainsFront (held ++ more) middle now → GainsFront (taken ++ more) first now
gains_front_then {taken} more {held} {first} before after = record {
  handed = before.handed ++ after.handed;
  is = after.is ∙ ap (λ (ps : List PacketValue). ps ++ after.handed) before.is ∙ append_assoc first before.handed after.handed;
  front = λ later.
      let step = after.front later in (
        step.0,
        (continues_append taken more held before.handed before.continues).scans later ∙ ap (λ (ps : List PacketValue). before.handed ++ ps) step.1
            ∙ sym (append_assoc before.handed after.handed step.0),
      );
}

-- more of the stream
pub gains_front_append : {all taken : List ℕ} (more : List ℕ) {first now : List PacketValue} → all ≡ taken ++ more → GainsFront taken first now
    → GainsFront all first now
gains_front_append {taken} more is before = record {
  handed = before.handed;
  is = before.is;
  front = λ later.
      let step = before.front (more ++ later) in
      (step.0, ap (λ (s : List ℕ). scan (s ++ later)) is ∙ ap scan (append_assoc taken more later) ∙ step.1);
}

-- a list of pieces is those before a place, the one there and those behind it
pub pieces_at : {X : Type 0} (f : X → List ℕ) (pieces : List X) (place : ℕ) (d : X) → place < length pieces
    → flat_map f pieces ≡ (flat_map f (take place pieces) ++ f (get_or pieces place d)) ++ flat_map f (drop (place + 1) pieces)
pieces_at {X} f pieces place d inside =
    cc (
      take-append-drop (place + 1) pieces,
      flat_map-append f (take (place + 1) pieces) (drop (place + 1) pieces),
      take_more pieces place d inside,
      flat_map-append f (take place pieces) (get_or pieces place d ∷ []),
      append-nil (f (get_or pieces place d)),
    )

-- the packets of a stream after which none is held
pub gains_all : {taken held : List ℕ} {first now : List PacketValue} → Gains taken first now held → scan held ≡ [] → now ≡ first ++ scan taken
gains_all gains none = grind (arith, continues_now, append-nil)

-- what was taken of a piece, and what is left of it
pub piece_parts : (piece part rest : List ℕ) (count : ℕ) → piece ≡ part ++ rest → piece ≡ (part ++ take count rest) ++ drop count rest
piece_parts piece part rest count is = grind (arith, nat_tests, common_steps)
