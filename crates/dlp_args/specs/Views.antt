-- What contracts see of arguments and headers that are lent.
use Rattle.std.specs.Prelude.{◌≡◌, List, Result, Ok, Err}
use Rattle.dlp_args.specs.declared.args.Arg.{Arg}
use Rattle.dlp_args.specs.declared.args.ArgIter.{ArgIter}
use Rattle.dlp_args.specs.declared.argument.Found.{Found}
use Rattle.dlp_args.specs.Arguments.{Argument}
use Rattle.dlp_args.specs.Reading.{Header, arguments_in}

-- a lent argument is its id and its bytes
abbrev pub arg_view : Arg → Argument
arg_view arg = record { id = arg.id; bytes = arg.bytes.now }

-- a header that was found is what it says, and the bytes behind it
abbrev pub header_view : Found → Header
header_view found = record { id = found.id; size = found.size; rest = found.rest.now }

-- the arguments that an iterator has left
abbrev pub args_left : ArgIter → List Argument
args_left iter = arguments_in iter.count iter.bytes.now

-- what was returned, seen by `view`, is what a reading gives
abbrev pub Gives : {X Y E : Type 0} → (X → Y) → Result X E → Result Y E → Type 0
Gives view (Ok x) read = read ≡ Ok (view x)
Gives view (Err e) read = read ≡ Err e
