-- What contracts see of a reader of packets.
use Rattle.std.specs.Prelude.{ℕ, List}

-- how many bytes a reader took, and how many packets it handed out
pub record TallyValue : Type 0 where
  pub bytes : ℕ
  pub packets : ℕ

-- the bytes that a reader took and hasn't passed, and its counts
pub record ReaderValue : Type 0 where
  pub held : List ℕ
  pub tally : TallyValue
