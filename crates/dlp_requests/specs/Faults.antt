-- Why bytes are no request: refusals of arguments, and the rules of requests.
use Rattle.std.specs.Prelude.{Result, Ok, Err, Option, Some, None}
use Rattle.dlp_args.specs.declared.fault.ArgFault.{ArgFault}
use Rattle.dlp_args.specs.declared.fault.ArgFault.TheVariants as arg
use Rattle.dlp_requests.specs.declared.fault.RequestFault.{RequestFault}
use Rattle.dlp_requests.specs.declared.fault.RequestFault.TheVariants.{Wrapper, BadId, BadSize, Size}

-- a refusal of the arguments is one of the request
abbrev pub of_arg_fault : ArgFault → RequestFault
of_arg_fault (arg.Wrapper place) = Wrapper place
of_arg_fault (arg.BadId place) = BadId place
of_arg_fault (arg.BadSize place) = BadSize place

-- the arguments, or their refusal
abbrev pub of_arguments : {A : Type 0} → Result A ArgFault → Result A RequestFault
of_arguments (Ok x) = Ok x
of_arguments (Err fault) = Err (of_arg_fault fault)

-- what an argument holds, or `Size` where its layout has no such length
abbrev pub or_size : {A : Type 0} → Option A → Result A RequestFault
or_size None = Err Size
or_size (Some x) = Ok x
