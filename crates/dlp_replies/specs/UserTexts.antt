-- The two parts of what is written of a user (pilot-link, `dlp.c`: dlp_ReadUserInfo).
use Rattle.std.specs.Prelude.{ℕ, List, ◌∷◌, ◌++◌, length}
use Rattle.std.specs.Int.{w32, to_be_bytes}
use Rattle.pdb_values.specs.PalmDates.{wire_date}
use Rattle.dlp_replies.specs.Frames.{name_text}

-- the numbers and the dates
abbrev pub user_front : ℕ → ℕ → ℕ → ℕ → ℕ → List ℕ
user_front user viewer pc good last =
    to_be_bytes w32 user
    ++ (to_be_bytes w32 viewer ++ (to_be_bytes w32 pc ++ (wire_date good ++ wire_date last)))

-- the name and the password behind their lengths
abbrev pub user_back : List ℕ → List ℕ → List ℕ
user_back name password = length (name_text name) ∷ length password ∷ name_text name ++ password
