-- What a record has behind its head (pilot-link's datebook.c).
use Rattle.std.specs.Prelude.{ℕ, ◌/◌, ◌%◌, ◌==◌}
use Rattle.palm_events.specs.declared.flags.Flags.{Flags}

-- what a word says of that
abbrev pub flags_of : ℕ → Flags
flags_of word = record {
  alarm = word / 0x4000 % 2 == 1;
  repeat = word / 0x2000 % 2 == 1;
  note = word / 0x1000 % 2 == 1;
  exceptions = word / 0x0800 % 2 == 1;
  description = word / 0x0400 % 2 == 1;
}
