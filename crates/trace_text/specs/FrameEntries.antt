-- The frames that entries are over the bytes of all of them.
use Rattle.std.specs.Prelude.{◌≡◌, ℕ, ◌+◌, ◌-◌, ◌≤◌, List, [], ◌∷◌, slice_range}
use Rattle.trace_text.specs.declared.fate.Fate.{Fate}
use Rattle.trace_text.specs.declared.fate.Fate.TheVariants as fate
use Rattle.trace_text.specs.declared.fate.FateKind.{FateKind}
use Rattle.trace_text.specs.declared.fate.FateKind.TheVariants as kind
use Rattle.trace_text.specs.declared.frame.Frame.{Frame}
use Rattle.trace_text.specs.declared.frame_log.Entry.{Entry}
use Rattle.trace_text.specs.Kinds.{kind_count}

abbrev pub fate_at : FateKind → List ℕ → Fate
fate_at kind.Ok bytes = fate.Ok
fate_at kind.Lost bytes = fate.Lost
fate_at kind.Late bytes = fate.Late
fate_at (kind.Cut count) bytes = fate.Cut count
fate_at (kind.Hit place) bytes = fate.Hit place (record { items = bytes })
fate_at kind.Noise bytes = fate.Noise (record { items = bytes })
fate_at kind.Unplug bytes = fate.Unplug
fate_at kind.Abort bytes = fate.Abort

-- the frame of this number
abbrev pub frame_at : List ℕ → ℕ → Entry → Frame
frame_at bytes number entry = record {
  number = number;
  from = entry.from;
  fate = fate_at entry.kind (slice_range bytes entry.start entry.middle);
  came = entry.came;
  bytes = record { items = slice_range bytes entry.middle entry.end };
}

-- the frames from this number on
abbrev pub frames_in : List ℕ → ℕ → List Entry → List Frame
frames_in bytes number [] = []
frames_in bytes number (entry ∷ later) =
    frame_at bytes number entry ∷ frames_in bytes (number + 1) later

-- an entry's places rise, no further than so many bytes, and are no further apart than a packet is
-- long; a fate without bytes takes none
pub record IsWithin (count : ℕ) (entry : Entry) : Type 0 where
  pub rise : entry.start ≤ entry.middle
  pub rise_on : entry.middle ≤ entry.end
  pub inside : entry.end ≤ count
  pub fate_short : entry.middle ≤ entry.start + 1040
  pub short : entry.end ≤ entry.middle + 1040
  pub fits : kind_count entry.kind (entry.middle - entry.start) ≡ entry.middle - entry.start

-- the entries stand one behind the other, from the one place to the other
abbrev pub AllWithin : ℕ → List Entry → ℕ → Type 0
AllWithin from [] to = from ≡ to
AllWithin from (entry ∷ later) to =
    (entry.start ≡ from) × IsWithin to entry × AllWithin entry.end later to
