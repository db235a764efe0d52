-- Packets that are put on one way of a cable, and lost there.
use Rattle.std.proofs.Common.{◌≡◌, ℕ, List, [], ◌∷◌, ◌++◌, take, drop, sym, ap, ◌∙◌, Vec}
use Rattle.std.specs.Global.{Global}
use Rattle.std.specs.List.{flat_map}
use Rattle.std.proofs.lemmas.List.{append-nil, append_assoc, take-append-drop}
use Rattle.port_line.specs.Ways.{LosesFront, PutsFront}
use Rattle.slp_frames.specs.PacketScan.{scan}
use Rattle.slp_frames.specs.PacketText.{PacketValue}
use Rattle.slp_frames.specs.Streams.{GainsFront}

-- one more was dropped
pub loses-next : {old between new : List PacketValue} → LosesFront old between → new ≡ drop 1 between → LosesFront old new
loses-next {old} {between} {new} loses rest = record {
  lost = loses.lost ++ take 1 between;
  old_is = loses.old_is ∙ ap (λ (ps : List PacketValue). loses.lost ++ ps) (sym (take-append-drop 1 between))
      ∙ sym (append_assoc loses.lost (take 1 between) (drop 1 between))
      ∙ ap (λ (ps : List PacketValue). (loses.lost ++ take 1 between) ++ ps) (sym rest);
}

-- the bytes of one piece
pub one_piece : {pieces held : List (Vec ℕ Global)} (piece : Vec ℕ Global) {bytes : List ℕ} → pieces ≡ held ++ piece ∷ [] → held ≡ [] → piece.items ≡ bytes
    → flat_map (λ (piece : Vec ℕ Global). piece.items) pieces ≡ bytes
one_piece {pieces} {held} piece pieces_are none bytes_are =
    ap (flat_map (λ (piece : Vec ℕ Global). piece.items)) (pieces_are ∙ ap (λ (vs : List (Vec ℕ Global)). vs ++ piece ∷ []) none)
    ∙ append-nil piece.items ∙ bytes_are

-- where there was no memory, the first ones were put there
pub puts_front : {text bytes : List ℕ} {old new : List PacketValue} → text ≡ bytes → GainsFront text old new → PutsFront (scan bytes) old new
puts_front {text} same gains =
    let more = gains.front [] in
    record {
      front = gains.handed;
      later = more.0;
      packets_are = ap scan (sym (append-nil text ∙ same)) ∙ more.1;
      new_is = gains.is;
    }
