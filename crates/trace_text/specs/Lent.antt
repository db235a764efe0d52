-- Fates and frames whose bytes lie elsewhere, as fates and frames.
use Rattle.std.specs.Prelude.{ℕ, List}
use Rattle.trace_text.specs.declared.fate.FateKind.{FateKind}
use Rattle.trace_text.specs.declared.fate.FateKind.TheVariants as kind
use Rattle.trace_text.specs.declared.fate.FateLent.{FateLent}
use Rattle.trace_text.specs.declared.frame.FrameLent.{FrameLent}
use Rattle.trace_text.specs.Fates.{FateValue, Untouched, Lost, Late, Cut, Hit, Noise, Unplug, Abort}
use Rattle.trace_text.specs.TraceLines.{FrameValue}

-- the fate of this kind, with these bytes where it has any
abbrev pub fate_with : FateKind → List ℕ → FateValue
fate_with kind.Ok bytes = Untouched
fate_with kind.Lost bytes = Lost
fate_with kind.Late bytes = Late
fate_with (kind.Cut count) bytes = Cut count
fate_with (kind.Hit place) bytes = Hit place bytes
fate_with kind.Noise bytes = Noise bytes
fate_with kind.Unplug bytes = Unplug
fate_with kind.Abort bytes = Abort

abbrev pub lent_fate : FateLent → FateValue
lent_fate fate = fate_with fate.kind fate.bytes.now

abbrev pub lent_frame : FrameLent → FrameValue
lent_frame frame = record {
  number = frame.number;
  from = frame.from;
  fate = lent_fate frame.fate;
  came = frame.came;
  bytes = frame.bytes.now;
}
