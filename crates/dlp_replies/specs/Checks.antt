-- The values in replies, and their tests (pilot-link, `dlp.c`).
use Rattle.std.specs.Prelude.{ℕ, Bool, ◌&&◌, List, [], ◌∷◌, length, Option, Some, None, is_some, nat_le, if◌then◌else◌}
use Rattle.pdb_values.specs.Bounds.{greatest_id, most_bytes}
use Rattle.pdb_values.specs.PalmDates.{read_wire}
use Rattle.dlp_args.specs.Fields.{Fields}
use Rattle.dlp_args.specs.CellReading.{short_text_in}
use Rattle.dlp_replies.specs.Layouts.{user_info, record_reply, id_alone}

-- tests of values in their order: each with the place of the value's first byte in the argument,
-- and whether it is one
abbrev pub Checks : Type 0
Checks = List (ℕ × Bool)

-- the place of the first value that is none
abbrev pub first_bad : Checks → Option ℕ
first_bad [] = None
first_bad (check ∷ checks) = if check.1 then first_bad checks else Some check.0

abbrev pub is_id : ℕ → Bool
is_id number = nat_le number greatest_id

abbrev pub is_category : ℕ → Bool
is_category number = nat_le number 15

abbrev pub is_date : List ℕ → Bool
is_date bytes = is_some (read_wire bytes)

-- the seconds of a date
abbrev pub date_or_zero : Option ℕ → ℕ
date_or_zero None = 0
date_or_zero (Some seconds) = seconds

-- the name of a user: no byte, or a text of at most 40 bytes with its zero
unfoldable pub user_name : List ℕ → Option (List ℕ)
user_name [] = Some []
user_name (byte ∷ bytes) = short_text_in 40 (byte ∷ bytes)

abbrev pub text_or_none : Option (List ℕ) → List ℕ
text_or_none None = []
text_or_none (Some text) = text

-- the name ends with its length, and name and password have at most 40 bytes
abbrev pub user_sizes : Fields user_info → Bool
user_sizes v = is_some (user_name v.1.1.1.1.1.0.0) && nat_le (length v.1.1.1.1.1.0.1) 40

-- the dates
abbrev pub user_checks : Fields user_info → Checks
user_checks v = (12, is_date v.1.1.1.0) ∷ (20, is_date v.1.1.1.1.0) ∷ []

-- the id, the category, and at most 65,500 bytes
abbrev pub record_checks : Fields record_reply → Checks
record_checks v =
    (0, is_id v.0)
    ∷ (9, is_category v.1.1.1.1.0)
    ∷ (10, nat_le (length v.1.1.1.1.1.0) most_bytes)
    ∷ []

abbrev pub id_checks : Fields id_alone → Checks
id_checks v = (0, is_id v.0) ∷ []
