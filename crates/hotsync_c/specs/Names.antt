-- What the file of a database is called.
use Rattle.std.specs.Prelude.{◌≡◌, ⊤, ℕ, List, Some, None}
use Rattle.pdb_values.specs.Names.{name_fault}
use Rattle.pdb_values.specs.Stems.{stem_of}
use Rattle.pdb_values.specs.declared.name.NameFault.{NameFault}
use Rattle.hotsync_c.specs.declared.refusal.Refusal.{Refusal}
use Rattle.hotsync_c.specs.declared.refusal.Refusal.TheVariants.{Memory, Form}

-- the bytes are the name of a database, and this is its file's name without the ending
pub record IsStemOf (name stem : List ℕ) : Type 0 where
  pub whole : name_fault name ≡ None
  pub is : stem ≡ stem_of name

-- why there is none: the bytes are no name, or memory ran out
abbrev pub RefusesName : List ℕ → Refusal → Type 0
RefusesName name Memory = ⊤
RefusesName name Form = (fault : NameFault) × (name_fault name ≡ Some fault)
RefusesName name _ = ⊥
