-- Which words ask for the database of a text in the categories of another file, and what they give.
use Rattle.std.specs.Prelude.{◌&&◌, ℕ, Bool, not, List, Option, None, codes, drop, is_some, option_map, option_and_then, if◌then◌else◌}
use Rattle.run_words.specs.Exports.{import_in}
use Rattle.run_words.specs.Faults.{right_given}
use Rattle.run_words.specs.Forms.{Given, has_flag, value_of}
use Rattle.run_words.specs.Helps.{begins}
use Rattle.run_words.specs.Tables.{import_form}
use Rattle.run_words.specs.declared.look.ImportForm.{ImportForm}

-- the form of a text and its file, and the file whose categories its database has
pub record Like : Type 0 where
  pub form : ImportForm
  pub file : List ℕ
  pub like : List ℕ

-- the text of this form in a file, with the other file that the words give
abbrev pub like_at : Given → List ℕ → ImportForm → Option Like
like_at given file form =
    option_map (λ like. record { form = form; file = file; like = like })
    (given.said (codes "like"))

-- what the words give
abbrev pub like_in : Given → Option Like
like_in given =
    option_and_then (λ file. option_and_then (like_at given file) (import_in given))
    (given.plain 0)

-- one of the words begins with `--like=`, and none asks for help
abbrev pub names_like : List (List ℕ) → Bool
names_like words =
    is_some (value_of (codes "like") words) && not (has_flag (codes "help") words)

-- the first word is `import`, and those behind it name another file
abbrev pub begins_like : List (List ℕ) → Bool
begins_like words = begins (codes "import") words && names_like (drop 1 words)

-- the import in the categories of another file that these words ask for
unfoldable pub liking_of : List (List ℕ) → Option Like
liking_of words =
    if begins (codes "import") words
    then option_and_then like_in (right_given None import_form words) else None
