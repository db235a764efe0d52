-- The writes of a plan as a list, and what carrying them out makes of a database's records.
use Rattle.std.specs.Prelude.{ℕ, List, [], ◌∷◌, ◌++◌, map}
use Rattle.pdb_values.specs.Contents.{ContentValue}
use Rattle.pdb_values.specs.declared.record.Record.{Record}
use Rattle.palm_device.specs.Records.{IsFree, put_record, without_record, cleaned_up, reset_flags}
use Rattle.conduit_rules.specs.States.{SideState}
use Rattle.conduit_rules.specs.Choices.{Choice}
use Rattle.conduit_rules.specs.Plans.{replaced_rows, purged_ids}

-- one write of a session to a handheld's database; an add bears the id that it got
pub data Write : Type 0 where
  replace : ℕ → ContentValue → Write
  add : ℕ → ContentValue → Write
  purge : ℕ → Write
  clean_up : Write
  reset : Write

-- the records once it is carried out
abbrev pub carried_out : Write → List Record → List Record
carried_out (replace i c) records = put_record i c records
carried_out (add g c) records = put_record g c records
carried_out (purge i) records = without_record i records
carried_out clean_up records = cleaned_up records
carried_out reset records = reset_flags records

-- the records after these writes, one after another
abbrev pub after : List Write → List Record → List Record
after [] records = records
after (w ∷ ws) records = after ws (carried_out w records)

-- contents with the ids that they got
abbrev pub numbered : List ℕ → List ContentValue → List (ℕ × ContentValue)
numbered [] cs = []
numbered (g ∷ gs) [] = []
numbered (g ∷ gs) (c ∷ cs) = (g, c) ∷ numbered gs cs

abbrev pub replaces : List (ℕ × ContentValue) → List Write
replaces es = map (λ e. replace e.0 e.1) es

abbrev pub adding : List (ℕ × ContentValue) → List Write
adding es = map (λ e. add e.0 e.1) es

abbrev pub purges : List ℕ → List Write
purges is = map purge is

-- the replacements in rising ids, then the adds
abbrev pub giving : Choice → (ℕ → SideState) → List ℕ → List Write
giving ch handheld given =
    replaces (replaced_rows ch.keep handheld) ++ adding (numbered given ch.adds)

-- the records that go, one by one; then those with the delete bit, and the flags
abbrev pub clearing : Choice → (ℕ → SideState) → List Write
clearing ch handheld = purges (purged_ids ch.keep handheld) ++ clean_up ∷ reset ∷ []

-- each id is one that no record has at its turn
abbrev pub AreFree : List (ℕ × ContentValue) → List Record → Type 0
AreFree [] records = Unit {0}
AreFree (e ∷ es) records = IsFree e.0 records × AreFree es (put_record e.0 e.1 records)

-- all writes of a session
abbrev pub whole : Choice → (ℕ → SideState) → List ℕ → List Write
whole ch handheld given = giving ch handheld given ++ clearing ch handheld

-- the handheld gave each add an id that no record has at its turn
abbrev pub GotFreeIds : Choice → (ℕ → SideState) → List ℕ → List Record → Type 0
GotFreeIds ch handheld given records =
    AreFree (numbered given ch.adds) (after (replaces (replaced_rows ch.keep handheld)) records)
