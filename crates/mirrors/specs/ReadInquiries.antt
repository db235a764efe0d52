-- What a reading of an open database asks, by the replies so far.
use Rattle.std.specs.Prelude.{ℕ, zero, suc, ◌+◌, false, List, [], ◌∷◌, ◌++◌, length, map, Option, None, Some, Ok, option_to_list, if◌then◌else◌}
use Rattle.std.specs.Option.{option_map}
use Rattle.pdb_values.specs.declared.record.Record.{Record}
use Rattle.conduit_rules.specs.States.{BaseState, no_base, row, gone, base_at}
use Rattle.conduit_rules.specs.declared.view.Seen.{Seen}
use Rattle.conduit_rules.specs.declared.view.SeenState.TheVariants.{Unread}
use Rattle.desktop_session.specs.Asking.{all_ids}
use Rattle.desktop_session.specs.Inquiries.{Ends, Inquiry, ◌>>=◌}
use Rattle.desktop_session.specs.Lendings.{counts, lends_at, lends_next, lends_of}
use Rattle.desktop_session.specs.Lent.{LentValue}
use Rattle.mirrors.specs.Entries.{ordered, seen_of}
use Rattle.mirrors.specs.Shells.{shell, waits}

-- ---- a whole reading

-- the record at an index
abbrev pub reads_one : ℕ → ℕ → Inquiry Seen
reads_one handle index = do
  lent ← lends_at handle index
  Ends (Ok (seen_of lent))

-- those at so many indexes from one on, behind these
unfoldable pub reads_from : ℕ → ℕ → ℕ → List Seen → Inquiry (List Seen)
reads_from handle index zero seen = Ends (Ok seen)
reads_from handle index (suc count) seen = do
  one ← reads_one handle index
  reads_from handle (index + 1) count (seen ++ one ∷ [])

-- the number of entries, then each record; in rising ids, and of those of one id the first
abbrev pub reads_slowly : ℕ → Inquiry (List Seen)
reads_slowly handle = do
  count ← counts handle
  seen ← reads_from handle 0 count []
  Ends (Ok (ordered seen))

-- ---- the changed records

-- the next one, or nothing where none is left
abbrev pub reads_next : ℕ → Inquiry (Option Seen)
reads_next handle = do
  found ← lends_next handle
  Ends (Ok (option_map seen_of found))

-- where one was read it goes on with that one
abbrev pub goes_on : {A B : Type 0} → Option B → Inquiry A → (B → Inquiry A) → Inquiry A
goes_on None ends more = ends
goes_on (Some found) ends more = more found

-- one by one until none is left, and at most so many, behind these
unfoldable pub reads_changed : ℕ → ℕ → List Seen → Inquiry (List Seen)
reads_changed handle zero seen = Ends (Ok seen)
reads_changed handle (suc most) seen = do
  found ← reads_next handle
  goes_on found (Ends (Ok seen)) (λ one. reads_changed handle most (seen ++ one ∷ []))

-- ---- the other records

-- a record that was lent for an id, as an entry of that id
abbrev pub seen_as : ℕ → LentValue → Seen
seen_as id lent = record (seen_of lent) { id = id }

-- the record of an id, or nothing where there is none
abbrev pub reads_of : ℕ → ℕ → Inquiry (Option Seen)
reads_of handle id = do
  found ← lends_of handle id
  Ends (Ok (option_map (seen_as id) found))

-- a record with a base row is unread, with the content of the row; any other one is read by its id
abbrev pub reads_other : ℕ → ℕ → BaseState → Inquiry (Option Seen)
reads_other handle id (row content) =
    Ends (Ok (Some (record { id = id; state = Unread; content = content })))
reads_other handle id no_base = reads_of handle id
reads_other handle id (gone content) = reads_of handle id

-- what is shown of an entry: itself, where it doesn't wait for its content
abbrev pub fills_one : List Record → ℕ → Seen → Inquiry (Option Seen)
fills_one base handle entry =
    if waits entry.state then reads_other handle entry.id (base_at base false entry.id)
    else Ends (Ok (Some entry))

-- the same behind these
abbrev pub fills_next : List Record → ℕ → List Seen → Seen → Inquiry (List Seen)
fills_next base handle seen entry = do
  found ← fills_one base handle entry
  Ends (Ok (seen ++ option_to_list found))

-- of all entries, one after the other
unfoldable pub fills : List Record → ℕ → List Seen → List Seen → Inquiry (List Seen)
fills base handle [] seen = Ends (Ok seen)
fills base handle (entry ∷ entries) seen = do
  more ← fills_next base handle seen entry
  fills base handle entries more

-- ---- a fast reading

-- the number of entries, then the ids of the records
abbrev pub reads_ids : ℕ → Inquiry (List ℕ)
reads_ids handle = do
  count ← counts handle
  all_ids handle count

-- in rising ids: what was read, and what is shown of each id beside it
abbrev pub reads_others : List Record → ℕ → List ℕ → List Seen → Inquiry (List Seen)
reads_others base handle ids seen = fills base handle (ordered (seen ++ map shell ids)) []

-- the ids, the changed records, and then the others; the changed ones are asked for at most once
-- more than there are ids
abbrev pub reads_fast : List Record → ℕ → Inquiry (List Seen)
reads_fast base handle = do
  ids ← reads_ids handle
  seen ← reads_changed handle (suc (length ids)) []
  reads_others base handle ids seen
