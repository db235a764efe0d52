use Rattle.std.proofs.Common.{◌≡◌, ◌++◌, refl, sym, ◌∙◌, ap}
use Rattle.std.proofs.lemmas.List.{append_cancel_left}
use Rattle.slp_frames.specs.PacketText.{PacketValue, packet_text}
use Rattle.slp_frames.specs.PacketScan.{Whole}
use Rattle.slp_frames.proofs.PlaceLaws.{place_of-packet}
use Rattle.slp_frames.proofs.laws.text_determines_packet.Goals as goal

pub returns : goal.returns
returns c p q x y p_text q_text e =
    let first = place_of-packet p (packet_text p ++ x) (record { has_text = p_text; rest = x; is = refl }) in
    let second = place_of-packet q (packet_text p ++ x) (record { has_text = q_text; rest = y; is = e }) in
    let same : p ≡ q = (let whole : Whole p ≡ Whole q = sym first ∙ second in cc) in
    (same, append_cancel_left (packet_text p) x y (e ∙ ap (λ (r : PacketValue). packet_text r ++ y) (sym same)))
