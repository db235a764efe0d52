-- A session that stops among its replacements and adds: the sides that the next one finds, and what
-- is left to do.
use Rattle.std.specs.Prelude.{◌≡◌, ◌<◌, ℕ, List, [], ◌∷◌, Some}
use Rattle.pdb_values.specs.Contents.{ContentValue}
use Rattle.conduit_rules.specs.ById.{id_bound, put}
use Rattle.conduit_rules.specs.States.{nothing, BaseState, no_base}
use Rattle.conduit_rules.specs.Choices.{Choice, Sides}
use Rattle.conduit_rules.specs.Writes.{given_to}
use Rattle.record_merge.specs.Writes.{Write, replace, add, purge, clean_up, reset}

-- the sides once these were written; purges and what follows them aren't looked at
abbrev pub sides_after : List Write → Sides → Sides
sides_after [] s = s
sides_after (replace i c ∷ ws) s = sides_after ws (given_to s i c)
sides_after (add g c ∷ ws) s = sides_after ws (given_to s g c)
sides_after (purge i ∷ ws) s = s
sides_after (clean_up ∷ ws) s = s
sides_after (reset ∷ ws) s = s

-- replacements and adds alone
abbrev pub AreWrites : List Write → Type 0
AreWrites [] = Unit {0}
AreWrites (replace i c ∷ ws) = AreWrites ws
AreWrites (add g c ∷ ws) = AreWrites ws
AreWrites (purge i ∷ ws) = ⊥
AreWrites (clean_up ∷ ws) = ⊥
AreWrites (reset ∷ ws) = ⊥

-- all but the first
abbrev pub behind : List ContentValue → List ContentValue
behind [] = []
behind (x ∷ xs) = xs

-- the choice with its next add kept under an id
abbrev pub with_add : Choice → ℕ → ContentValue → Choice
with_add ch g a = record {
  keep = put ch.keep g (Some a);
  archive = ch.archive;
  adds = behind ch.adds;
}

-- what is still to be done
abbrev pub rest_of : List Write → Choice → Choice
rest_of [] ch = ch
rest_of (replace i c ∷ ws) ch = rest_of ws ch
rest_of (add g a ∷ ws) ch = rest_of ws (with_add ch g a)
rest_of (purge i ∷ ws) ch = ch
rest_of (clean_up ∷ ws) ch = ch
rest_of (reset ∷ ws) ch = ch

-- these writes are of the choice: each replacement is kept there, each add is the next one, under a
-- new id
abbrev pub AreOf : List Write → Choice → Sides → Type 0
AreOf [] ch s = Unit {0}
AreOf (replace i c ∷ ws) ch s = (ch.keep i ≡ Some c) × AreOf ws ch (given_to s i c)
AreOf (add g a ∷ ws) ch s =
    (ch.adds ≡ a ∷ behind ch.adds) × (s.base g ≡ no_base) × (s.handheld g ≡ nothing)
    × (g < id_bound)
    × AreOf ws (with_add ch g a) (given_to s g a)
AreOf (purge i ∷ ws) ch s = ⊥
AreOf (clean_up ∷ ws) ch s = ⊥
AreOf (reset ∷ ws) ch s = ⊥

-- no id that an add gets has a base row
abbrev pub NoBase : (ℕ → BaseState) → List ℕ → Type 0
NoBase base [] = Unit {0}
NoBase base (g ∷ gs) = (base g ≡ no_base) × NoBase base gs
