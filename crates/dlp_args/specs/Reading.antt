-- The arguments at the front of bytes, or the first rule that is broken, from left to right
-- (pilot-link, `dlp.c`).
use Rattle.std.specs.Prelude.{ℕ, zero, suc, ◌+◌, ◌-◌, List, [], ◌∷◌, length, take, drop, Result, Ok, Err, nat_lt, if◌then◌else◌}
use Rattle.std.specs.Int.{w16, w32, from_be_bytes}
use Rattle.dlp_args.specs.declared.fault.ArgFault.{ArgFault}
use Rattle.dlp_args.specs.declared.fault.ArgFault.TheVariants.{Wrapper, BadId, BadSize}
use Rattle.dlp_args.specs.Arguments.{Argument}

-- a step and then the next one, up to the first fault
infixl 10 ◌>>=◌
abbrev pub ◌>>=◌ : {A B E : Type 0} → Result A E → (A → Result B E) → Result B E
(Ok x) >>= f = f x
(Err e) >>= f = Err e

-- what a header says, and the bytes behind it
pub record Header : Type 0 where
  pub id : ℕ
  pub size : ℕ
  pub rest : List ℕ

-- a short header by its first byte and what follows its second one: its size is there; its id is
-- one
unfoldable pub short_at : ℕ → ℕ → List ℕ → Result Header ArgFault
short_at place first rest =
    if nat_lt (length rest) 2 then Err (Wrapper place) else if nat_lt first 0xA0
    then Err (BadId place) else Ok
    (record { id = first - 0x80; size = from_be_bytes w16 (take 2 rest); rest = drop 2 rest })

-- a long header likewise: its size is there; its id is one; its size is at most 65,535
unfoldable pub long_at : ℕ → ℕ → List ℕ → Result Header ArgFault
long_at place first rest =
    if nat_lt (length rest) 4 then Err (Wrapper place) else if nat_lt first 0x60
    then Err (BadId place) else if nat_lt 65535
    (from_be_bytes w32 (take 4 rest)) then Err (BadSize (place + 1)) else Ok
    (record { id = first - 0x40; size = from_be_bytes w32 (take 4 rest); rest = drop 4 rest })

-- a header by its first byte: below 0x40 tiny, below 0x80 long, below 0xC0 short, and none from
-- 0xC0 on
unfoldable pub header_at : ℕ → List ℕ → Result Header ArgFault
header_at place [] = Err (Wrapper place)
header_at place (first ∷ []) = Err (Wrapper place)
header_at place (first ∷ second ∷ rest) =
    if nat_lt first 0x20 then Err (BadId place) else if nat_lt first 0x40
    then Ok (record { id = first; size = second; rest = rest }) else if nat_lt first 0x80
    then long_at place first rest else if nat_lt first 0xC0 then short_at place first rest
    else Err (BadId place)

-- an argument, and the bytes behind it: its header, and then its data is there
unfoldable pub argument_at : ℕ → List ℕ → Result (Argument × List ℕ) ArgFault
argument_at place bytes = do
  found ← header_at place bytes
  if nat_lt (length found.rest) found.size then Err (Wrapper place) else Ok
      (record { id = found.id; bytes = take found.size found.rest }, drop found.size found.rest)

-- so many arguments from a place to the end of the bytes there
unfoldable pub arguments_at : ℕ → ℕ → List ℕ → Result (List Argument) ArgFault
arguments_at zero place [] = Ok []
arguments_at zero place (byte ∷ bytes) = Err (Wrapper place)
arguments_at (suc count) place bytes = do
  first ← argument_at place bytes
  others ← arguments_at count (place + (length bytes - length first.1)) first.1
  Ok (first.0 ∷ others)

-- an argument that was found and those behind it, or none
abbrev pub first_or_none : Result (Argument × List ℕ) ArgFault → (List ℕ → List Argument)
    → List Argument
first_or_none (Ok found) others = found.0 ∷ others found.1
first_or_none (Err fault) others = []

-- the arguments at the front, at most so many
unfoldable pub arguments_in : ℕ → List ℕ → List Argument
arguments_in zero bytes = []
arguments_in (suc count) bytes = first_or_none (argument_at 0 bytes) (arguments_in count)
