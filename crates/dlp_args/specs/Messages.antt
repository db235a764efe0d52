-- Messages and kept messages (pilot-link, `dlp.c`: a request or a reply is one block of bytes).
use Rattle.std.specs.Prelude.{ℕ, ◌≤◌, List, Vec, vec_len, vec_capacity}
use Rattle.std.specs.declared.alloc.Global.{Global}

-- at most 65,535 bytes, and room for as many
pub record IsMessage (bytes : Vec ℕ Global) : Type 0 where
  pub bound : vec_len bytes ≤ 65535
  pub room : 65535 ≤ vec_capacity bytes

-- a kept message is its bytes and its room, the number of bytes that it can be filled with and take
-- no memory
pub record MessageTextValue : Type 0 where
  pub bytes : List ℕ
  pub room : ℕ

-- at most 65,535 bytes, and at least this room
pub record IsMessageText (bytes : Vec ℕ Global) (least : ℕ) : Type 0 where
  pub bound : vec_len bytes ≤ 65535
  pub room : least ≤ vec_capacity bytes
