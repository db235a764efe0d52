-- The lists of a plan, from what is chosen and what the handheld holds.
use Rattle.std.specs.Prelude.{◌≡◌, ℕ, Bool, true, false, if◌then◌else◌, List, [], ◌∷◌, length, Option, Some, None}
use Rattle.pdb_values.specs.Contents.{ContentValue}
use Rattle.conduit_rules.specs.ById.{each_id, with_id}
use Rattle.conduit_rules.specs.Contents.{same_content}
use Rattle.conduit_rules.specs.States.{SideState, nothing, live, archived, content_of}
use Rattle.conduit_rules.specs.Choices.{Sides, choice_for, kept_twice}
use Rattle.conduit_rules.specs.declared.action.Action.{Action}
use Rattle.conduit_rules.specs.declared.planned.Plan.{Plan}

-- what has to be written over a record: the content that is kept, where the record isn't live with
-- it
abbrev pub replacement : Option ContentValue → SideState → Option ContentValue
replacement None h = None
replacement (Some c) nothing = Some c
replacement (Some c) (live x) = if same_content x c then None else Some c
replacement (Some c) (archived x) = Some c

-- what a record had that isn't kept
abbrev pub lost : Option ContentValue → SideState → Option ContentValue
lost None h = content_of h
lost (Some c) h = None

-- whether a record is live and isn't kept
abbrev pub is_purged : Option ContentValue → SideState → Bool
is_purged None nothing = false
is_purged None (live x) = true
is_purged None (archived x) = false
is_purged (Some c) h = false

abbrev pub purged_at : Option ContentValue → SideState → ℕ → List ℕ
purged_at keep h i = if is_purged keep h then i ∷ [] else []

-- the rows that both sides have under known ids
abbrev pub kept_rows : (ℕ → Option ContentValue) → List (ℕ × ContentValue)
kept_rows keep = each_id (λ i. with_id i (keep i))

-- the rows that are written over the handheld's records
abbrev pub replaced_rows : (ℕ → Option ContentValue) → (ℕ → SideState) → List (ℕ × ContentValue)
replaced_rows keep handheld = each_id (λ i. with_id i (replacement (keep i) (handheld i)))

-- the rows that the base is to remember as gone
abbrev pub gone_rows : (ℕ → Option ContentValue) → (ℕ → SideState) → List (ℕ × ContentValue)
gone_rows keep handheld = each_id (λ i. with_id i (lost (keep i) (handheld i)))

-- the ids of the handheld's records that are deleted one by one
abbrev pub purged_ids : (ℕ → Option ContentValue) → (ℕ → SideState) → List ℕ
purged_ids keep handheld = each_id (λ i. purged_at (keep i) (handheld i) i)

-- the plan of a database: the lists of its choice, for what the handheld holds
pub record IsPlan (a : Action) (s : Sides) (p : Plan) : Type 0 where
  pub kept : p.kept.items ≡ kept_rows (choice_for a s).keep
  pub replace : p.replace.items ≡ replaced_rows (choice_for a s).keep s.handheld
  pub archive : p.archive.items ≡ (choice_for a s).archive
  pub gone : p.gone.items ≡ gone_rows (choice_for a s).keep s.handheld
  pub adds : p.adds.items ≡ (choice_for a s).adds
  pub purge : p.purge.items ≡ purged_ids (choice_for a s).keep s.handheld
  pub twice : p.twice ≡ length (kept_twice a s)
