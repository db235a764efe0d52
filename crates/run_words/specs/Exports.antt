-- What words give that ask for the text of what a database file holds, or for the database of a
-- text.
use Rattle.std.specs.Prelude.{is_some, ℕ, Bool, false, true, List, Option, Some, None, codes, bytes_eq, option_map, option_and_then, if◌then◌else◌}
use Rattle.run_words.specs.Forms.{Given}
use Rattle.run_words.specs.Runs.{date_at}
use Rattle.run_words.specs.declared.look.Export.{Export}
use Rattle.run_words.specs.declared.look.ExportForm.{ExportForm}
use Rattle.run_words.specs.declared.look.ExportForm.TheVariants.{Text, Cards, Table, Calendar}
use Rattle.run_words.specs.declared.look.ImportForm.{ImportForm}
use Rattle.run_words.specs.declared.look.ImportForm.TheVariants as imports

-- the form of a text that has no date
abbrev pub plain_form : List ℕ → Option ExportForm
plain_form word =
    if bytes_eq word (codes "txt") then Some Text
    else (if bytes_eq word (codes "vcf") then Some Cards
    else (if bytes_eq word (codes "csv") then Some Table else None))

-- the form of a text that has this date
abbrev pub dated_form : Option ℕ → List ℕ → List ℕ → Option ExportForm
dated_form now word date =
    if bytes_eq word (codes "ics") then option_map Calendar (date_at now date) else None

-- the form of a text that a word names, and the word of its date where there is one; `ics` has one,
-- and no other form does
abbrev pub export_form_of : Option ℕ → List ℕ → Option (List ℕ) → Option ExportForm
export_form_of now word None = plain_form word
export_form_of now word (Some date) = dated_form now word date

-- a word that names the form of a text
abbrev pub is_form_word : List ℕ → Bool
is_form_word word =
    if bytes_eq word (codes "txt") then true
    else (if bytes_eq word (codes "vcf") then true
    else (if bytes_eq word (codes "csv") then true
    else (if bytes_eq word (codes "ics") then true else false)))

-- how words want a database exported
abbrev pub export_with : Given → ExportForm → Export
export_with given form = record {
  form = form;
  without_private = is_some (given.said (codes "without-private"));
  keep_broken = is_some (given.said (codes "keep-broken"));
  raw = is_some (given.said (codes "raw"));
}

-- the same, at the date now
abbrev pub export_in : Option ℕ → Given → Option Export
export_in now given =
    option_map (export_with given)
    (option_and_then (λ word. export_form_of now word (given.said (codes "date")))
    (given.said (codes "as")))

-- the form of a text that a word names, of which a database is made
abbrev pub import_form_of : List ℕ → Option ImportForm
import_form_of word = if bytes_eq word (codes "txt") then Some imports.Text else None

-- the form of the text of which words want a database
abbrev pub import_in : Given → Option ImportForm
import_in given = option_and_then import_form_of (given.said (codes "as"))
