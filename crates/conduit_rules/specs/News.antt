-- New records of the desktop, and how they are paired with equal new records of the handheld.
use Rattle.std.specs.Prelude.{ℕ, Bool, false, ◌+◌, ◌-◌, if◌then◌else◌, ◌==◌, List, [], ◌∷◌, Option, Some, None, option_to_list, flat_map, slice_set as set}
use Rattle.pdb_values.specs.Contents.{ContentValue}
use Rattle.pdb_values.specs.declared.record.Record.{Record}
use Rattle.conduit_rules.specs.ById.{put}
use Rattle.conduit_rules.specs.Contents.{same_content}
use Rattle.conduit_rules.specs.States.{record_held, live_of, archived_of}

-- the rows without a base row, in their order: all but the first row of each id that the base has
abbrev pub loose : (ℕ → Bool) → List Record → List Record
loose based [] = []
loose based (r ∷ rows) =
    if based r.id then loose (put based r.id false) rows else r ∷ loose based rows

-- the contents of the live records
abbrev pub live_contents : List Record → List ContentValue
live_contents records = flat_map (λ r. option_to_list (live_of (record_held r))) records

-- the contents of the archived records
abbrev pub archived_records : List Record → List ContentValue
archived_records records = flat_map (λ r. option_to_list (archived_of (record_held r))) records

-- one partner of a content is taken
abbrev pub less_one : (ContentValue → ℕ) → ContentValue → ContentValue → ℕ
less_one free c x = if same_content c x then free x - 1 else free x

-- one partner of a content is given back
abbrev pub more_one : (ContentValue → ℕ) → ContentValue → ContentValue → ℕ
more_one free c x = if same_content c x then free x + 1 else free x

-- the contents that find no partner, where so many partners of each content are free: the first
-- ones take them
abbrev pub unpaired : (ContentValue → ℕ) → List ContentValue → List ContentValue
unpaired free [] = []
unpaired free (c ∷ rest) =
    if free c == 0 then c ∷ unpaired free rest else unpaired (less_one free c) rest

-- a list without the first content that is equal to this one
abbrev pub without_first : ContentValue → List ContentValue → List ContentValue
without_first c [] = []
without_first c (x ∷ xs) = if same_content x c then xs else x ∷ without_first c xs

-- the rows that stand at places
abbrev pub found_in : List (Option Record) → List Record
found_in slots = flat_map option_to_list slots

-- the places with that of a row, which stands there if it is without a base row
abbrev pub noted : Option (ℕ × Record) → Bool → List (Option Record) → List (Option Record)
noted None is_loose slots = slots
noted (Some e) is_loose slots = set slots e.0 (if is_loose then Some e.1 else None)
