-- The least id that three lists have in front.
use Rattle.std.proofs.Common.{◌≡◌, ℕ, ◌≤◌, ◌==◌, List, [], ◌∷◌, refl, arith, Option, Some, None, Bool, true, false, is_some, if◌then◌else◌}
use Rattle.std.proofs.Common.{slice_get, ◌||◌, rules}
use Rattle.std.specs.Option.{option_map}
use Rattle.std.proofs.lemmas.Bool.Decides.{nat_tests}
use Rattle.pdb_values.specs.declared.record.Record.{Record}
use Rattle.conduit_rules.specs.Fronts.{seen_id, record_id, IsFront, NoneAhead, head_id_of, lesser_of}
use Rattle.conduit_rules.specs.Runs.{front_under, IsFrom, where_id}
use Rattle.conduit_rules.specs.declared.front.Front.{Front}
use Rattle.conduit_rules.specs.declared.view.Seen.{Seen}
use Rattle.std.proofs.lemmas.Grind.{common_steps}

-- an id isn't below another, if there is one
abbrev AtLeast : ℕ → Option ℕ → Type 0
AtLeast i None = Unit {0}
AtLeast i (Some j) = i ≤ j

abbrev is_at : ℕ → Option ℕ → Bool
is_at i None = false
is_at i (Some j) = j == i

record IsLeast (i : ℕ) (o p q : Option ℕ) : Type 0 where
  first : AtLeast i o
  second : AtLeast i p
  third : AtLeast i q
  some : (is_at i o || (is_at i p || is_at i q)) ≡ true

least : (o p q : Option ℕ) (i : ℕ) → lesser_of (lesser_of o p) q ≡ Some i → IsLeast i o p q
least o p q i e = search (rules)

from_head : {A : Type 0} (id : A → ℕ) (i : ℕ) (es : List (ℕ × A)) → AtLeast i (head_id_of id (slice_get es 0)) → IsFrom id i es
from_head id i [] is = tt
from_head id i (e ∷ es) is = is

front_at : {A : Type 0} (id : A → ℕ) (i : ℕ) (es : List (ℕ × A)) → where_id id i (slice_get es 0) ≡ front_under id i es
front_at id i [] = refl
front_at id i (e ∷ es) = refl

chosen : {A : Type 0} (b : Bool) (e : A) → is_some (if b then Some e else None) ≡ b
chosen true e = refl
chosen false e = refl

some_where : {A : Type 0} (id : A → ℕ) (i : ℕ) (o : Option (ℕ × A)) → is_some (where_id id i o) ≡ is_at i (head_id_of id o)
some_where id i None = refl
some_where id i (Some e) = chosen (id e.1 == i) e

some_map : {A B : Type 0} (g : A → B) (o : Option A) → is_some (option_map g o) ≡ is_some o
some_map g None = refl
some_map g (Some a) = refl

pub front-is : (f : Front) (view : List (ℕ × Seen)) (rows olds : List (ℕ × Record)) (s : Option (ℕ × Seen)) (r b : Option (ℕ × Record)) → s ≡ slice_get view 0
    → r ≡ slice_get rows 0 → b ≡ slice_get olds 0
    → option_map (λ e. (e.0, e.1.now)) f.seen ≡ where_id seen_id f.id s → option_map (λ e. (e.0, e.1.now)) f.row ≡ where_id record_id f.id r
    → option_map (λ e. (e.0, e.1.now)) f.base ≡ where_id record_id f.id b
    → lesser_of (lesser_of (head_id_of seen_id s) (head_id_of record_id r)) (head_id_of record_id b) ≡ Some f.id → IsFront f view rows olds
front-is f view rows olds s r b is_s is_r is_b at_s at_r at_b is = search (rules, least, some_map, some_where, front_at, from_head)

no_id : (o p q : Option ℕ) → lesser_of (lesser_of o p) q ≡ None → (o ≡ None) × (p ≡ None) × (q ≡ None)
no_id o p q e = grind (arith, common_steps, nat_tests)

no_head : {A : Type 0} (id : A → ℕ) (es : List (ℕ × A)) → head_id_of id (slice_get es 0) ≡ None → es ≡ []
no_head id [] e = refl
no_head id (x ∷ es) e = cc

pub front-none : (view : List (ℕ × Seen)) (rows olds : List (ℕ × Record)) (s : Option (ℕ × Seen)) (r b : Option (ℕ × Record)) → s ≡ slice_get view 0
    → r ≡ slice_get rows 0 → b ≡ slice_get olds 0
    → lesser_of (lesser_of (head_id_of seen_id s) (head_id_of record_id r)) (head_id_of record_id b) ≡ None → NoneAhead view rows olds
front-none view rows olds s r b is_s is_r is_b is = search (rules, no_id, no_head)
