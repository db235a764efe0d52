-- The merged records are live and clean.
use Rattle.std.proofs.Common.{◌≡◌, ◌&&◌, List, [], ◌∷◌, ◌++◌, arith, true, Bool, not}
use Rattle.std.specs.List.{list_all}
use Rattle.std.proofs.lemmas.Grind.{common_steps}
use Rattle.pdb_values.specs.Records.{is_live}
use Rattle.pdb_values.specs.declared.record.Record.{Record}

abbrev pub is_settled : Record → Bool
is_settled r = is_live r && not r.dirty

all-append : (xs ys : List Record) → list_all is_settled xs ≡ true → list_all is_settled ys ≡ true → list_all is_settled (xs ++ ys) ≡ true
all-append [] ys e f = f
all-append (x ∷ xs) ys e f = grind (arith, common_steps, e, f, all-append xs ys)
