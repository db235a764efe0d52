-- The errors that a handheld answers (pilot-link, `pi-dlp.h`), and steps that may end with one.
use Rattle.std.specs.Prelude.{ℕ, Bool, Option, Some, None, Result, Ok, Err, if◌then◌else◌}
use Rattle.dlp_requests.specs.declared.fault.RequestFault.{RequestFault}
use Rattle.dlp_requests.specs.declared.fault.RequestFault.TheVariants as fault

-- no function has this number
abbrev pub illegal : ℕ
illegal = 2

-- a value that is none: another card, a bad name, date or category, an offset past the end
abbrev pub parameter : ℕ
parameter = 4

-- no such database, record, resource or block
abbrev pub not_found : ℕ
not_found = 5

-- nothing is open under the handle
abbrev pub none_open : ℕ
none_open = 6

-- the database is open
abbrev pub already_open : ℕ
already_open = 7

-- eight databases are open
abbrev pub too_many_open : ℕ
too_many_open = 8

-- a database of this name is there
abbrev pub exists : ℕ
exists = 9

-- a function of records on resources, or of resources on records
abbrev pub not_supported : ℕ
not_supported = 13

-- the database can't be written
abbrev pub read_only : ℕ
read_only = 15

-- no room for a further database or entry
abbrev pub limit : ℕ
limit = 17

-- the message ends badly
abbrev pub wrapper : ℕ
wrapper = 19

-- the arguments are not those of the function
abbrev pub argument : ℕ
argument = 20

-- an argument has another length
abbrev pub size : ℕ
size = 21

-- the error for bytes that are no request
abbrev pub fault_code : RequestFault → ℕ
fault_code (fault.Illegal number) = illegal
fault_code (fault.Wrapper place) = wrapper
fault_code (fault.BadId place) = argument
fault_code (fault.BadSize place) = size
fault_code fault.Argument = argument
fault_code fault.Size = size

-- the next step, unless there was an error
infixl 10 ◌>>=◌
abbrev pub ◌>>=◌ : {A B : Type 0} → Result A ℕ → (A → Result B ℕ) → Result B ℕ
(Ok x) >>= next = next x
(Err code) >>= next = Err code

-- the error, unless the test holds
abbrev pub check : ℕ → Bool → Result (Unit {0}) ℕ
check code holds = if holds then Ok tt else Err code

-- what is there, or the error
abbrev pub need : {A : Type 0} → ℕ → Option A → Result A ℕ
need code None = Err code
need code (Some x) = Ok x
