-- The error that is replied for each refusal.
use Rattle.std.specs.Prelude.{ℕ}
use Rattle.dlp_commands.specs.Errors as error
use Rattle.dlp_commands.specs.declared.refusal.Refusal.{Refusal}
use Rattle.dlp_commands.specs.declared.refusal.Refusal.TheVariants.{Parameter, NotFound, NoneOpen, AlreadyOpen, TooManyOpen, Exists, NotSupported, ReadOnly}
use Rattle.dlp_commands.specs.declared.refusal.Refusal.TheVariants.{Limit}

-- by its number
abbrev pub code_of : Refusal → ℕ
code_of Parameter = error.parameter
code_of NotFound = error.not_found
code_of NoneOpen = error.none_open
code_of AlreadyOpen = error.already_open
code_of TooManyOpen = error.too_many_open
code_of Exists = error.exists
code_of NotSupported = error.not_supported
code_of ReadOnly = error.read_only
code_of Limit = error.limit
