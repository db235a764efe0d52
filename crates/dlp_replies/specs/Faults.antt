-- Why bytes are no reply: refusals of arguments, and the rules of replies.
use Rattle.std.specs.Prelude.{ℕ, ◌+◌, Result, Ok, Err, Option, Some, None}
use Rattle.dlp_args.specs.declared.fault.ArgFault.{ArgFault}
use Rattle.dlp_args.specs.declared.fault.ArgFault.TheVariants as arg
use Rattle.dlp_replies.specs.declared.fault.ReplyFault.{ReplyFault}
use Rattle.dlp_replies.specs.declared.fault.ReplyFault.TheVariants.{Wrapper, BadId, BadSize, Argument, Size, Value}

-- a refusal of the arguments is one of the reply
abbrev pub of_arg_fault : ArgFault → ReplyFault
of_arg_fault (arg.Wrapper place) = Wrapper place
of_arg_fault (arg.BadId place) = BadId place
of_arg_fault (arg.BadSize place) = BadSize place

-- the arguments, or their refusal
abbrev pub of_arguments : {A : Type 0} → Result A ArgFault → Result A ReplyFault
of_arguments (Ok x) = Ok x
of_arguments (Err fault) = Err (of_arg_fault fault)

-- the one argument, or `Argument` where another number or another id stands there
abbrev pub or_argument : {A : Type 0} → Option A → Result A ReplyFault
or_argument None = Err Argument
or_argument (Some x) = Ok x

-- what an argument holds, or `Size` where its layout has no such length
abbrev pub or_size : {A : Type 0} → Option A → Result A ReplyFault
or_size None = Err Size
or_size (Some x) = Ok x

-- what the values say, or `Value` at the first that is none; the argument begins at the place
abbrev pub or_value : {A : Type 0} → ℕ → Option ℕ → A → Result A ReplyFault
or_value place None x = Ok x
or_value place (Some bad) x = Err (Value (place + bad))

-- the value, or the place of the first value that is none
abbrev pub or_place : {A : Type 0} → Option ℕ → A → Result A ℕ
or_place None x = Ok x
or_place (Some place) x = Err place
