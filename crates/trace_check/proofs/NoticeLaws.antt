-- Where the fragment stands in the bytes of a frame that bears one.
use Rattle.std.proofs.Common.{◌≡◌, ℕ, ◌+◌, ◌-◌, List, [], ◌++◌, length, take, drop, refl, sym, ap, ◌∙◌, arith}
use Rattle.std.proofs.lemmas.List.{append-nil}
use Rattle.std.proofs.Math.Seq.{drop-append_seam, take-append_seam}
use Rattle.slp_frames.specs.PacketText.{PacketValue, header_text, header_of, packet_text}
use Rattle.slp_frames.specs.PacketScan.{packet_at}
use Rattle.slp_frames.proofs.PlaceLaws.{length-header_text, length-packet_text, packet_text-parts, crc_bytes}
use Rattle.padp_link.specs.FragmentText.{FragmentText, fragment_text}
use Rattle.padp_link.specs.contracts.fragment.PadpKind.{the_type}
use Rattle.padp_link.specs.declared.fragment.PadpKind.{PadpKind}
use Rattle.padp_link.specs.declared.fragment.PadpKind.TheVariants.{Data, Ack, Tickle, Abort}
use denote.Enum.Bare.{sameb}
use Rattle.trace_text.specs.Frames.{BearsFragment, fragment_in, is_abort, is_data_kind}
use Rattle.trace_text.specs.TraceLines.{FrameValue}

-- the packet that such a frame is
abbrev packet_of : FrameValue → PacketValue
packet_of frame = record { dest = 3; source = 3; kind = 2; id = (packet_at frame.bytes).id; body = fragment_text (fragment_in frame) }

pub packet-long : (frame : FrameValue) (bytes : List ℕ) → bytes ≡ frame.bytes → BearsFragment frame
    → length bytes ≡ length (fragment_text (fragment_in frame)) + 12
packet-long frame bytes is bears = ap length (is ∙ bears.is) ∙ (length-packet_text (packet_of frame) ∙ omega arith)

body_at : (header body tail : List ℕ) → take (length body) (drop (length header) (header ++ (body ++ tail))) ≡ body
body_at header body tail = ap (take (length body)) (drop-append_seam header (body ++ tail)) ∙ take-append_seam body tail

pub packet-body : (frame : FrameValue) (bytes : List ℕ) → bytes ≡ frame.bytes → BearsFragment frame
    → take (length bytes - 2 - 10) (drop 10 bytes) ≡ fragment_text (fragment_in frame)
packet-body frame bytes is bears =
    let packet = packet_of frame in
    let all : bytes ≡ header_text (header_of packet) ++ (fragment_text (fragment_in frame) ++ (crc_bytes packet ++ [])) =
    is ∙ (bears.is ∙ (sym (append-nil (packet_text packet)) ∙ packet_text-parts packet [])) in
    let long = packet-long frame bytes is bears in
    let size : length bytes - 2 - 10 ≡ length (fragment_text (fragment_in frame)) = omega (arith, long) in
    ap (λ n. take n (drop 10 bytes)) size
    ∙ (ap (λ s. take (length (fragment_text (fragment_in frame))) (drop 10 s)) all
    ∙ (ap (λ n. take (length (fragment_text (fragment_in frame)))
    (drop n (header_text (header_of packet) ++ (fragment_text (fragment_in frame) ++ (crc_bytes packet ++ [])))))
    (sym (length-header_text (header_of packet)))
    ∙ body_at (header_text (header_of packet)) (fragment_text (fragment_in frame)) (crc_bytes packet ++ [])))

pub text-there : (frame : FrameValue) (bytes : List ℕ) → bytes ≡ frame.bytes → BearsFragment frame
    → FragmentText (fragment_in frame) (take (length bytes - 2 - 10) (drop 10 bytes))
text-there frame bytes is bears = record {
  fragment_is = bears.fragment.fragment_is;
  size_fits = bears.fragment.size_fits;
  is = packet-body frame bytes is bears;
}

-- the tests of a kind
pub same-abort : (kind : PadpKind) → sameb the_type kind Abort ≡ is_abort kind
same-abort Data = refl
same-abort Ack = refl
same-abort Tickle = refl
same-abort Abort = refl

pub same-data : (kind : PadpKind) → sameb the_type kind Data ≡ is_data_kind kind
same-data Data = refl
same-data Ack = refl
same-data Tickle = refl
same-data Abort = refl
