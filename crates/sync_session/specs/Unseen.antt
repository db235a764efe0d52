-- Planned databases once what was seen of their records is let go of.
use Rattle.std.specs.Prelude.{◌≡◌, List, [], map}
use Rattle.session_plan.specs.declared.planned.Planned.{Planned}

-- their jobs and their plans are as before
pub record SameButViews (old new : List Planned) : Type 0 where
  pub jobs : map (λ (one : Planned). one.job) new ≡ map (λ (one : Planned). one.job) old
  pub plans : map (λ (one : Planned). one.plan) new ≡ map (λ (one : Planned). one.plan) old

-- the view of a planned database has no records
abbrev pub HasNoView : Planned → Type 0
HasNoView one = one.view.seen.items ≡ []
