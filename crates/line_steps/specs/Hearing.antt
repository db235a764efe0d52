-- What an end hears of a fragment, and what its reader counts.
use Rattle.std.specs.Prelude.{◌≡◌, ℕ, List, [], ◌∷◌, length}
use Rattle.slp_frames.specs.Histories.{raised}
use Rattle.slp_frames.specs.PacketScan.{scan}
use Rattle.slp_frames.specs.PacketText.{PacketValue}
use Rattle.slp_frames.specs.Readers.{TallyValue}
use Rattle.padp_link.specs.declared.fragment.PadpKind.TheVariants as kind
use Rattle.padp_link.specs.FragmentText.{FragmentValue}
use Rattle.padp_link.specs.Pieces.{key_of}
use Rattle.padp_link.specs.Receivers.{ReceiverValue, Answers, after_answer}
use Rattle.line_steps.specs.declared.hearing.Heard.{Heard}
use Rattle.line_steps.specs.declared.hearing.Heard.TheVariants.{Nothing, Ack, Data}

-- it heard nothing, and its receiver is as before
abbrev pub Silent : ReceiverValue → Heard → ReceiverValue → Type 0
Silent old heard new = (heard ≡ Nothing) × (new ≡ old)

-- what it hears of a fragment in a packet of this transaction
abbrev pub Hears : ReceiverValue → ℕ → FragmentValue → Heard → ReceiverValue → Type 0
Hears old id fragment Nothing new =
    ¬ (fragment.kind ≡ kind.Data) × ¬ (fragment.kind ≡ kind.Ack) × (new ≡ old)
Hears old id fragment (Ack key) new =
    (fragment.kind ≡ kind.Ack) × (key ≡ key_of id fragment) × (new ≡ old)
Hears old id fragment (Data key taken) new =
    (fragment.kind ≡ kind.Data) × (key ≡ key_of id fragment) × Answers old id fragment taken
    × (new ≡ after_answer old id fragment taken)

-- one packet more, if there is one
abbrev pub counted : ℕ → List PacketValue → ℕ
counted packets [] = packets
counted packets (packet ∷ later) = raised packets 1

-- the counts of a reader behind bytes that hold at most one packet
abbrev pub tally_after : TallyValue → List ℕ → TallyValue
tally_after tally bytes = record {
  bytes = raised tally.bytes (length bytes);
  packets = counted tally.packets (scan bytes);
}
