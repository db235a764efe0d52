-- A resource that is put or taken out, by its place.
use Rattle.std.proofs.Common.{◌≡◌, ℕ, List, [], ◌∷◌, ◌++◌, Option, Some, None, slice_get, refl, arith}
use Rattle.std.specs.Prelude.{remove}
use Rattle.std.specs.Option.{option_map}
use Rattle.pdb_values.specs.Resources as values
use Rattle.pdb_values.specs.declared.resource.Resource.{Resource}
use Rattle.palm_device.specs.Resources.{is_resource, place_of_resource, new_resource, put_resource, without_resource}
use Rattle.palm_device.proofs.EntryLaws.{put_entry_at, put_entry_new, without_entry_at, without_entry_none}
use Rattle.pdb_values.proofs.PlaceLaws.{position_within}

changed : (kind : List ℕ) (id : ℕ) (bytes : List ℕ) (resources : List Resource) {place : ℕ} (o : Option Resource)
    → place_of_resource kind id resources ≡ Some place → slice_get resources place ≡ o → (o ≡ None → ⊥)
    → put_resource kind id bytes resources ≡ values.set_some resources place (option_map (values.with_bytes bytes) o)
changed kind id bytes resources (Some resource) found here some =
    put_entry_at (is_resource kind id) (values.with_bytes bytes) (new_resource kind id bytes) resources found here
changed kind id bytes resources None found here some = absurd (some refl)

-- in its place
pub put_resource_at : (kind : List ℕ) (id : ℕ) (bytes : List ℕ) (resources : List Resource) (place : ℕ)
    → place_of_resource kind id resources ≡ Some place → put_resource kind id bytes resources ≡ values.with_bytes_at resources place bytes
put_resource_at kind id bytes resources place found = grind (arith, changed, position_within)

-- a new last one
pub put_resource_new : (kind : List ℕ) (id : ℕ) (bytes : List ℕ) (resources : List Resource) → place_of_resource kind id resources ≡ None
    → put_resource kind id bytes resources ≡ resources ++ new_resource kind id bytes ∷ []
put_resource_new kind id bytes resources none = grind (arith, put_entry_new)

-- the resource at its place is gone
pub without_resource_at : (kind : List ℕ) (id : ℕ) (resources : List Resource) (place : ℕ) → place_of_resource kind id resources ≡ Some place
    → without_resource kind id resources ≡ remove resources place
without_resource_at kind id resources place found = without_entry_at (is_resource kind id) resources found

-- where there is none, all stay
pub without_resource_none : (kind : List ℕ) (id : ℕ) (resources : List Resource) → place_of_resource kind id resources ≡ None
    → without_resource kind id resources ≡ resources
without_resource_none kind id resources none = without_entry_none (is_resource kind id) resources none
