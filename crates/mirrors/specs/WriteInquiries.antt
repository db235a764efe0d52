-- What is asked where a plan is carried out on an open database, by the replies so far.
use Rattle.std.specs.Prelude.{ℕ, List, [], ◌∷◌, ◌++◌, Ok}
use Rattle.pdb_values.specs.Contents.{ContentValue}
use Rattle.conduit_rules.specs.declared.planned.Plan.{Plan}
use Rattle.desktop_session.specs.Asking.{cleans, puts_one, removes, resets}
use Rattle.desktop_session.specs.Inquiries.{Ends, Inquiry, ◌>>=◌}

-- each content is put under its id
unfoldable pub replaces_each : ℕ → List (ℕ × ContentValue) → Inquiry (Unit {0})
replaces_each handle [] = Ends (Ok tt)
replaces_each handle (entry ∷ entries) = do
  id ← puts_one handle entry.0 entry.1
  replaces_each handle entries

-- each content is put as a new record; the ids that the replies tell, behind these
unfoldable pub adds_each : ℕ → List ContentValue → List ℕ → Inquiry (List ℕ)
adds_each handle [] ids = Ends (Ok ids)
adds_each handle (content ∷ contents) ids = do
  id ← puts_one handle 0 content
  adds_each handle contents (ids ++ id ∷ [])

-- the replacements, then the new records, and the ids of these
abbrev pub sends_news : ℕ → Plan → Inquiry (List ℕ)
sends_news handle plan = do
  done ← replaces_each handle plan.replace.items
  adds_each handle plan.adds.items []

-- the record of each id is taken away, whether there is one or not
unfoldable pub removes_each : ℕ → List ℕ → Inquiry (Unit {0})
removes_each handle [] = Ends (Ok tt)
removes_each handle (id ∷ ids) = do
  found ← removes handle id
  removes_each handle ids

-- these, then all with the delete bit; then all become clean
abbrev pub purges : ℕ → List ℕ → Inquiry (Unit {0})
purges handle ids = do
  removed ← removes_each handle ids
  cleaned ← cleans handle
  resets handle
