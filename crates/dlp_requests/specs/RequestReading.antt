-- The request of bytes, or the first rule that they break (pilot-link, `dlp.c`).
use Rattle.std.specs.Prelude.{ℕ, List, [], ◌∷◌, Option, Some, None, Result, Ok, Err, ◌==◌, if◌then◌else◌}
use Rattle.std.specs.Option.{option_map}
use Rattle.dlp_args.specs.Arguments.{Argument}
use Rattle.dlp_args.specs.Reading.{◌>>=◌, arguments_at}
use Rattle.dlp_args.specs.declared.function.Function.{Function}
use Rattle.dlp_args.specs.declared.function.Function.TheVariants as function
use Rattle.dlp_args.specs.Functions.{function_of}
use Rattle.dlp_args.specs.Fields.{fields_in}
use Rattle.dlp_requests.specs.declared.fault.RequestFault.{RequestFault}
use Rattle.dlp_requests.specs.declared.fault.RequestFault.TheVariants as fault
use Rattle.dlp_requests.specs.Faults.{of_arguments, or_size}
use Rattle.dlp_requests.specs.Forms as form
use Rattle.dlp_requests.specs.Forms.{Form, argument_of, kinds_of}
use Rattle.dlp_requests.specs.RequestValues.{RequestValue}

-- the request of a form whose argument has these bytes
abbrev pub request_in : Form → List ℕ → Option RequestValue
request_in form bytes =
    option_map (λ fields. record { form = form; fields = fields }) (fields_in (kinds_of form) bytes)

-- what the one argument has, which bears this id; no bytes where there is to be none
abbrev pub argument_bytes : Option ℕ → List Argument → Result (List ℕ) RequestFault
argument_bytes None [] = Ok []
argument_bytes None (argument ∷ arguments) = Err fault.Argument
argument_bytes (Some id) [] = Err fault.Argument
argument_bytes (Some id) (argument ∷ []) =
    if argument.id == id then Ok argument.bytes else Err fault.Argument
argument_bytes (Some id) (argument ∷ second ∷ more) = Err fault.Argument

-- the request of a form by its arguments
abbrev pub request_by : Form → List Argument → Result RequestValue RequestFault
request_by form arguments =
    argument_bytes (argument_of form) arguments >>= λ bytes. or_size (request_in form bytes)

-- the id of the first argument
abbrev pub first_id : List Argument → Option ℕ
first_id [] = None
first_id (argument ∷ arguments) = Some argument.id

-- of two forms the one whose argument is 0x21, or the other one, by the id of the first argument
abbrev pub by_id_21 : Form → Form → Option ℕ → List Argument → Result RequestValue RequestFault
by_id_21 this other None arguments = request_by other arguments
by_id_21 this other (Some id) arguments =
    if id == 0x21 then request_by this arguments else request_by other arguments

-- of two forms the one that has an argument where there is one, or the bare one
abbrev pub with_or_bare : Form → Form → Option ℕ → List Argument → Result RequestValue RequestFault
with_or_bare this bare None arguments = request_by bare arguments
with_or_bare this bare (Some id) arguments = request_by this arguments

-- the form of a function's request; of two forms the one whose argument is 0x20
abbrev pub form_of : Function → Form
form_of function.ReadUserInfo = form.ReadUserInfo
form_of function.WriteUserInfo = form.WriteUserInfo
form_of function.ReadSysInfo = form.ReadSysInfoFor
form_of function.ReadDbList = form.ReadDbList
form_of function.OpenDb = form.OpenDb
form_of function.CreateDb = form.CreateDb
form_of function.CloseDb = form.CloseDb
form_of function.DeleteDb = form.DeleteDb
form_of function.ReadAppBlock = form.ReadAppBlock
form_of function.WriteAppBlock = form.WriteAppBlock
form_of function.ReadSortBlock = form.ReadSortBlock
form_of function.WriteSortBlock = form.WriteSortBlock
form_of function.ReadNextModifiedRec = form.ReadNextModifiedRec
form_of function.ReadRecord = form.ReadRecordById
form_of function.WriteRecord = form.WriteRecord
form_of function.DeleteRecord = form.DeleteRecord
form_of function.ReadResource = form.ReadResourceByIndex
form_of function.WriteResource = form.WriteResource
form_of function.DeleteResource = form.DeleteResource
form_of function.CleanUpDatabase = form.CleanUpDatabase
form_of function.ResetSyncFlags = form.ResetSyncFlags
form_of function.AddSyncLogEntry = form.AddSyncLogEntry
form_of function.ReadOpenDbInfo = form.ReadOpenDbInfo
form_of function.MoveCategory = form.MoveCategory
form_of function.OpenConduit = form.OpenConduit
form_of function.EndOfSync = form.EndOfSync
form_of function.ResetRecordIndex = form.ResetRecordIndex
form_of function.ReadRecordIdList = form.ReadRecordIdList

-- the request of a function by its arguments
unfoldable pub request_of : Function → List Argument → Result RequestValue RequestFault
request_of function.ReadSysInfo arguments =
    with_or_bare form.ReadSysInfoFor form.ReadSysInfo (first_id arguments) arguments
request_of function.ReadRecord arguments =
    by_id_21 form.ReadRecordByIndex form.ReadRecordById (first_id arguments) arguments
request_of function.ReadResource arguments =
    by_id_21 form.ReadResourceByType form.ReadResourceByIndex (first_id arguments) arguments
request_of other arguments = request_by (form_of other) arguments

-- the request of a function whose one argument, 0x20, has these bytes; the other functions have
-- none
unfoldable pub request_with : Function → List ℕ → Option RequestValue
request_with function.ReadUserInfo bytes = None
request_with function.ReadSysInfo bytes = None
request_with function.OpenConduit bytes = None
request_with function.ReadRecord bytes = None
request_with function.ReadResource bytes = None
request_with other bytes = request_in (form_of other) bytes

-- the function that a byte names, or `Illegal`
abbrev pub known : ℕ → Option Function → Result Function RequestFault
known number None = Err (fault.Illegal number)
known number (Some found) = Ok found

-- the function, the number of arguments, and the arguments; one byte alone may be `Illegal` too
unfoldable pub request_at : List ℕ → Result RequestValue RequestFault
request_at [] = Err (fault.Wrapper 0)
request_at (number ∷ []) = known number (function_of number) >>= λ found. Err (fault.Wrapper 0)
request_at (number ∷ count ∷ bytes) =
    known number (function_of number) >>= λ found. of_arguments
    (arguments_at count 2 bytes) >>= request_of found
