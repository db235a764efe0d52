-- Contents in buckets, for the code's pairing: equal contents stand in one bucket.
use Rattle.std.specs.Prelude.{ℕ, ◌+◌, ◌*◌, ◌%◌, List, [], length, fold, slice_index_or}
use Rattle.pdb_values.specs.Contents.{ContentValue}
use Rattle.conduit_rules.specs.Contents.{count_of}

-- a number that bytes make
abbrev pub spread_of : List ℕ → ℕ
spread_of bytes = fold (λ spread byte. (spread * 31 + byte) % 4294967291) 0 bytes

-- which of so many buckets a content belongs to
abbrev pub bucket_of : ℕ → ContentValue → ℕ
bucket_of count c = spread_of c.bytes % count

-- how often a content stands in its bucket
abbrev pub free_in : List (List ContentValue) → ContentValue → ℕ
free_in buckets c = count_of c (slice_index_or buckets (bucket_of (length buckets) c) [])
