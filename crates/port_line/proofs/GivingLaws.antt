-- Packets that come from a handheld, byte for byte.
use Rattle.std.proofs.Common.{◌≡◌, ◌<◌, ◌+◌, ℕ, List, [], ◌∷◌, ◌++◌, length, take, drop, refl, sym, ap, subst, ◌∙◌, arith}
use Rattle.std.proofs.Math.Seq.{take-add}
use Rattle.std.proofs.lemmas.List.{length-drop, length-take, take-append-drop}
use Rattle.device_stream.specs.Hands.{Hand}
use Rattle.port_laws.proofs.LossLaws.{moves-itself, moves-once, moves-then}
use Rattle.port_laws.proofs.SaidLaws.{text-continues}
use Rattle.port_laws.specs.Palms.{LosesBack, MovesOn}
use Rattle.port_line.specs.Comings.{ComingValue, GivesBytes, IsGiven, front_of}
use Rattle.port_line.specs.Cradles.{palm_with}
use Rattle.port_line.specs.Ways.{LosesFront}
use Rattle.slp_frames.proofs.ScanLaws.{continues_start, scan-cut}
use Rattle.slp_frames.specs.Histories.{Continues}
use Rattle.slp_frames.specs.PacketScan.{scan}
use Rattle.slp_frames.specs.PacketText.{HasText, PacketValue, packet_text}

-- ---- the oldest are lost

lost_all : (hand : Hand) (toward lost rest : List PacketValue) (part : List ℕ)
    → MovesOn (palm_with hand toward (record { packets = lost ++ rest; part = part })) (palm_with hand toward (record { packets = rest; part = part }))
lost_all hand toward [] rest part = moves-itself (palm_with hand toward (record { packets = rest; part = part }))
lost_all hand toward (packet ∷ lost) rest part =
    moves-then (moves-once (LosesBack (lost ++ rest) (record { before = []; packet = packet; after = lost ++ rest; old_is = refl; new_is = refl }) refl))
    (lost_all hand toward lost rest part)

pub lost_front : (hand : Hand) (toward : List PacketValue) (was old : ComingValue) → LosesFront was.packets old.packets → old.part ≡ was.part
    → MovesOn (palm_with hand toward was) (palm_with hand toward old)
lost_front hand toward was old loses part =
    subst (λ (c : ComingValue). MovesOn (palm_with hand toward c) (palm_with hand toward old))
    (ap (λ (ps : List PacketValue). (let c : ComingValue = record { packets = ps; part = old.part } in c)) (sym loses.old_is)
    ∙ ap (λ (p : List ℕ). (let c : ComingValue = record { packets = was.packets; part = p } in c)) part)
    (lost_all hand toward loses.lost old.packets old.part)

-- ---- what came of the first packet

pub front-none : (packets : List PacketValue) → front_of 0 packets ≡ []
front-none [] = refl
front-none (packet ∷ later) = refl

-- ---- bytes of the first packet

-- the rest of it comes
pub gives-last : (packet : PacketValue) (later packets rest : List PacketValue) (given : ℕ) (bytes text left : List ℕ) → HasText packet
    → packets ≡ packet ∷ later → rest ≡ drop 1 packets → text ≡ packet_text packet → left ≡ drop given text → bytes ≡ left
    → GivesBytes bytes (record { packets = packets; part = front_of given packets }) (record { packets = rest; part = front_of 0 rest })
gives-last packet later packets rest given bytes text left short all rest_is text_is left_is bytes_is =
    let whole : take given (packet_text packet) ++ bytes ≡ packet_text packet
    = ap (λ (b : List ℕ). take given (packet_text packet) ++ b) (bytes_is ∙ left_is ∙ ap (drop given) text_is) ∙ take-append-drop given (packet_text packet) in
    let first : GivesBytes bytes (record { packets = packet ∷ later; part = take given (packet_text packet) }) (record { packets = later; part = front_of 0 later })
    = record {
      packets = packet ∷ [];
      old_is = refl;
      continues = subst (λ (held : List ℕ). Continues (take given (packet_text packet) ++ bytes) (packet ∷ []) held) (sym (front-none later))
          (subst (λ (taken : List ℕ). Continues taken (packet ∷ []) []) (sym whole) (text-continues packet short));
      part_open = ap scan (front-none later);
    } in
    subst (λ (ps : List PacketValue). GivesBytes bytes (record { packets = packets; part = front_of given packets })
    (record { packets = ps; part = front_of 0 ps })) (sym rest_is)
    (subst (λ (ps : List PacketValue). GivesBytes bytes (record { packets = ps; part = front_of given ps })
    (record { packets = drop 1 ps; part = front_of 0 (drop 1 ps) })) (sym all) first)

-- more of it is a part still
pub given-part : (packet : PacketValue) (later packets : List PacketValue) (given count : ℕ) (text left : List ℕ) → HasText packet
    → packets ≡ packet ∷ later → text ≡ packet_text packet → left ≡ drop given text → count < length left → IsGiven (given + count) packets
given-part packet later packets given count text left short all text_is left_is few =
    let size = length-drop given text in
    let long : given + count < length (packet_text packet) = omega (arith, few, ap length left_is, size, ap length text_is) in
    let part : IsGiven (given + count) (packet ∷ later) = record {
      part_open = scan-cut packet (take (given + count) (packet_text packet)) (drop (given + count) (packet_text packet)) short
          (take-append-drop (given + count) (packet_text packet)) (omega (arith, long, length-take (given + count) (packet_text packet)));
      none = λ nothing. absurd (no_packet nothing);
    } in
    subst (IsGiven (given + count)) (sym all) part where
      no_packet : (packet ∷ later) ≡ [] → ⊥
      no_packet is = cc

pub gives-part : (packet : PacketValue) (later packets : List PacketValue) (given count : ℕ) (bytes text left : List ℕ) → HasText packet
    → packets ≡ packet ∷ later → text ≡ packet_text packet → left ≡ drop given text → bytes ≡ take count left → count < length left
    → GivesBytes bytes (record { packets = packets; part = front_of given packets }) (record { packets = packets; part = front_of (given + count) packets })
gives-part packet later packets given count bytes text left short all text_is left_is bytes_is few =
    let open_is = (given-part packet later packets given count text left short all text_is left_is few).part_open in
    let joined : take given (packet_text packet) ++ bytes ≡ take (given + count) (packet_text packet)
    = ap (λ (b : List ℕ). take given (packet_text packet) ++ b)
    (bytes_is ∙ ap (take count) (left_is ∙ ap (drop given) text_is)) ∙ sym (take-add given count (packet_text packet)) in
    record {
      packets = [];
      old_is = refl;
      continues = subst (λ (ps : List PacketValue). Continues (front_of given ps ++ bytes) [] (front_of (given + count) ps)) (sym all)
          (subst (λ (held : List ℕ). Continues (take given (packet_text packet) ++ bytes) [] held) joined
          (continues_start (take given (packet_text packet) ++ bytes)));
      part_open = open_is;
    }

pub gives-from : {seen old new : ComingValue} {bytes : List ℕ} → seen ≡ old → GivesBytes bytes seen new → GivesBytes bytes old new
gives-from {new} {bytes} same gives = subst (λ (c : ComingValue). GivesBytes bytes c new) same gives
