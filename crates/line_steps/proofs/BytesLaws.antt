-- What stands in the bytes of a frame.
use Rattle.line_steps.proofs.Names.{rules, ◌≡◌, ℕ, ◌^◌, ◌<◌, Bool, true, false, List, [], ◌∷◌, ◌++◌, length, sym, arith, append-nil, big_bytes, big_number}
use Rattle.line_steps.proofs.Names.{PacketValue, packet_text, HasText, Open, Dead, packet_at, has_packet, is_open, scan, place_of-packet, length-packet_text}
use Rattle.line_steps.proofs.Names.{scan_packet_text, FragmentValue, FragmentText, fragment_text, fields_of, padp_packet}
use Rattle.std.proofs.Common.{if◌then◌else◌}
use Rattle.slp_frames.specs.PacketScan.{Whole, place_of}

whole_from : (whole unfinished : Bool) {p q : PacketValue} → (if whole then Whole p else (if unfinished then Open else Dead)) ≡ Whole q → p ≡ q
whole_from true unfinished e = cc
whole_from false true e = absurd cc
whole_from false false e = absurd cc

-- the packet that a text is
pub packet_read : {packet : PacketValue} → HasText packet → packet_at (packet_text packet) ≡ packet
unfolding place_of
packet_read {packet} fits =
    let whole = place_of-packet packet (packet_text packet) (record { has_text = fits; rest = []; is = sym (append-nil (packet_text packet)) }) in
    whole_from (has_packet (packet_text packet)) (is_open (packet_text packet)) whole

size_again : {size : ℕ} (rest : List ℕ) → size < 2 ^ 16 → big_number 2 (big_bytes 2 size ++ rest) ≡ size
size_again rest fits = search rules

-- the packet of this transaction with this fragment
abbrev pub packet_of : ℕ → FragmentValue → PacketValue
packet_of id fragment = record { dest = 3; source = 3; kind = 2; id = id; body = fragment_text fragment }

pub fragment_fits : (id : ℕ) {fragment : FragmentValue} → FragmentText fragment (fragment_text fragment) → HasText (packet_of id fragment)
fragment_fits id text = search rules

pub fields_again : {fragment : FragmentValue} → FragmentText fragment (fragment_text fragment) → fields_of (fragment_text fragment) ≡ fragment
fields_again text = search rules

pub packet_again : {id : ℕ} {fragment : FragmentValue} → FragmentText fragment (fragment_text fragment)
    → packet_at (padp_packet id fragment) ≡ packet_of id fragment
packet_again {id} text = packet_read (fragment_fits id text)

pub scan_again : {id : ℕ} {fragment : FragmentValue} → FragmentText fragment (fragment_text fragment)
    → scan (padp_packet id fragment) ≡ packet_of id fragment ∷ []
scan_again {id} {fragment} text = scan_packet_text (packet_of id fragment) (fragment_fits id text)

pub packet_some : (id : ℕ) (fragment : FragmentValue) → 0 < length (padp_packet id fragment)
packet_some id fragment = omega (arith, length-packet_text (packet_of id fragment))
