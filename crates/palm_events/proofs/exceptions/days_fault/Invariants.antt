use Rattle.std.proofs.Common.{◌≡◌, ℕ, ◌<◌, ◌+◌, ◌-◌, ◌*◌}
use Rattle.std.specs.Prelude.{IsTrue}
use Rattle.palm_records.specs.Days.{day_of}
use Rattle.palm_events.specs.Exceptions.{days_fault}
use Rattle.palm_events.specs.Forms.{is_record_day}
use Rattle.palm_events.specs.Words.{word_at}
use Rattle.palm_events.proofs.exceptions.days_fault.Given as goal

abbrev pub invariant-loop-index : goal.invariant-loop-index
invariant-loop-index l = record {
  so_far : days_fault (l.count - l.index) (l.place + 2 * l.index) l.bytes ≡ days_fault l.count l.place l.bytes;
  form : (index : ℕ) → index < l.index → IsTrue (is_record_day (day_of (word_at l.bytes (l.place + 2 * index))));
}
