-- What an inquiry asks of databases by their names.
use Rattle.std.specs.Prelude.{ℕ, List, [], ◌∷◌}
use Rattle.std.specs.List.{AllByRecursion}
use Rattle.dlp_args.specs.Fields.{Fields}
use Rattle.dlp_requests.specs.Forms as form
use Rattle.dlp_requests.specs.Forms.{Form, kinds_of}
use Rattle.dlp_requests.specs.RequestValues.{RequestValue}
use Rattle.dlp_commands.specs.Tries.{Answered, Try, Unanswered}
use Rattle.desktop_session.specs.Inquiries.{Asks, Ends, Inquiry, IsAsked}

-- each request that it may ask, whatever the replies, is such a one
abbrev pub Each : {A : Type 0} → (RequestValue → Type 0) → Inquiry A → Type 0
Each IsSuch (Ends answer) = Unit {0}
Each IsSuch (Asks request more) = IsSuch request × ((reply : List ℕ) → Each IsSuch (more reply))

-- the names in a request: of a database that it opens, makes or takes away
abbrev pub named_by : (f : Form) → Fields (kinds_of f) → List (List ℕ)
named_by form.OpenDb (card, (mode, (name, end))) = name ∷ []
named_by form.CreateDb (creator, (kind, (card, (pad, (flags, (version, (name, end))))))) = name ∷ []
named_by form.DeleteDb (card, (pad, (name, end))) = name ∷ []
named_by other fields = []

-- it names none but such databases
abbrev pub NamesOnly : (List ℕ → Type 0) → RequestValue → Type 0
NamesOnly IsSuch request = AllByRecursion IsSuch (named_by request.form request.fields)

-- ---- what was tried

-- these bytes are those of such a request
pub record IsSuchRequest (IsSuch : RequestValue → Type 0) (bytes : List ℕ) : Type 0 where
  pub request : RequestValue
  pub asked : IsAsked request bytes
  pub such : IsSuch request

-- each of them is such a one, whether or not it was answered
abbrev pub AreSuch : (RequestValue → Type 0) → List Try → Type 0
AreSuch IsSuch [] = Unit {0}
AreSuch IsSuch (Answered bytes reply ∷ tries) = IsSuchRequest IsSuch bytes × AreSuch IsSuch tries
AreSuch IsSuch (Unanswered bytes ∷ tries) = IsSuchRequest IsSuch bytes × AreSuch IsSuch tries
