-- Reading an information file line by line, up to the first bad line.
use Rattle.std.specs.Prelude.{ℕ, ◌+◌, ◌-◌, ◌==◌, ◌&&◌, codes, nat_eq, nat_le, nat_lt, if◌then◌else◌, List, [], ◌∷◌, length, take, drop, position, Option, None}
use Rattle.std.specs.Prelude.{Some, option_and_then, Result, Ok, Err}
use Rattle.std.specs.Int.{w32, from_be_bytes}
use Rattle.std.specs.List.{starts_with}
use Rattle.std.specs.Option.{option_map}
use Rattle.pdb_values.specs.Users.{password_of, user_name_of}
use Rattle.folder_files.specs.declared.unread.Unread.{Unread}
use Rattle.folder_files.specs.Hexadecimal.{bytes_in, date_in, few_bytes_in}
use Rattle.folder_files.specs.StemTexts.{stem_in}
use Rattle.folder_files.specs.Lines.{ValueKind, Title, Number, Positive, Date, Name, Password, Count, Slot, Stem, LineForm, Value, Values}

-- a step and then the next one, where both find something
infixl 10 ◌>>=◌
abbrev pub ◌>>=◌ : {A B : Type 0} → Result A Unread → (A → Result B Unread) → Result B Unread
(Ok x) >>= f = f x
(Err unread) >>= f = Err unread

-- a number above 0
abbrev pub if_positive : ℕ → Option ℕ
if_positive number = if number == 0 then None else Some number

-- the number of eight digits
abbrev pub number_in : List ℕ → Option ℕ
number_in text = option_map (from_be_bytes w32) (bytes_in 4 text)

-- what stands behind the key at the front of a text
unfoldable pub behind : List ℕ → List ℕ → Option (List ℕ)
behind key line = if starts_with nat_eq line key then Some (drop (length key) line) else None

-- the number of slots: 1 to 16 in decimal
abbrev pub count_in : List ℕ → Option ℕ
count_in (digit ∷ []) = if nat_le 49 digit && nat_le digit 57 then Some (digit - 48) else None
count_in (ten ∷ digit ∷ []) =
    if (ten == 49) && (nat_le 48 digit && nat_le digit 54) then Some (digit - 38) else None
count_in _ = None

-- so many bytes behind a key, and what stands behind them
unfoldable pub field_at : List ℕ → ℕ → List ℕ → Option (List ℕ × List ℕ)
field_at key size text =
    option_and_then
    (λ rest. if nat_lt (length rest) size then None else Some (take size rest, drop size rest))
    (behind key text)

-- what a desktop knows of the user of a slot
unfoldable pub slot_in : List ℕ → Option (ℕ × ℕ × List ℕ)
slot_in text =
    option_and_then (λ user. option_and_then (λ last. option_and_then
    (λ name. option_and_then
    (λ number. option_and_then (λ seconds. option_map (λ bytes. (number, seconds, bytes))
    (option_and_then user_name_of (few_bytes_in name)))
    (option_and_then date_in (bytes_in 8 last.0))) (number_in user.0))
    (behind (codes " name ") last.1)) (field_at (codes " last ") 16 user.1))
    (field_at (codes "user ") 8 text)

-- what a text says
abbrev pub value_in : (kind : ValueKind) → List ℕ → Option (Value kind)
value_in Title text = if length text == 0 then Some tt else None
value_in Number text = number_in text
value_in Positive text = option_and_then if_positive (number_in text)
value_in Date text = option_and_then date_in (bytes_in 8 text)
value_in Name text = option_and_then user_name_of (few_bytes_in text)
value_in Password text = option_and_then password_of (few_bytes_in text)
value_in Count text = count_in text
value_in Slot text = slot_in text
value_in Stem text = stem_in text

-- what stands behind the key in the line at the front, and what stands behind the line feed
unfoldable pub split_at_key : List ℕ → List ℕ → Option (List ℕ × List ℕ)
split_at_key key bytes =
    option_and_then
    (λ end. option_map (λ text. (text, drop (end + 1) bytes)) (behind key (take end bytes)))
    (position (λ byte. byte == 10) bytes)

-- what was found, or else how many bytes are left unread
abbrev pub or_unread : {A : Type 0} → List ℕ → Option A → Result A Unread
or_unread bytes None = Err (record { 0 = length bytes })
or_unread bytes (Some found) = Ok found

-- what the line at the front says in this form, and what stands behind it; else the bytes from its
-- first one on are left unread
abbrev pub line_at : (form : LineForm) → List ℕ → Result (Value form.kind × List ℕ) Unread
line_at form bytes =
    or_unread bytes
    (option_and_then (λ parts. option_map (λ value. (value, parts.1)) (value_in form.kind parts.0))
    (split_at_key form.key bytes))

-- what all of the lines say, and nothing stands behind them; else the bytes from the first bad line
-- on are left unread
abbrev pub lines_at : (forms : List LineForm) → List ℕ → Result (Values forms) Unread
lines_at [] bytes = if length bytes == 0 then Ok tt else Err (record { 0 = length bytes })
lines_at (form ∷ forms) bytes =
    line_at form bytes >>= λ first. lines_at forms first.1 >>= λ others. Ok (first.0, others)
