-- Once both sides are merged nothing is decided anew.
use Rattle.std.proofs.Common.{◌≡◌, ◌⊎◌, ℕ, [], refl, arith, Option, Some, None}
use Rattle.pdb_values.specs.Contents.{ContentValue}
use Rattle.conduit_rules.specs.States.{SideState, nothing, live, archived, BaseState, no_base, row, gone}
use Rattle.conduit_rules.specs.Fates.{Fate, fate}
use Rattle.conduit_rules.specs.Choices.{Sides, partner, choice}
use Rattle.conduit_rules.specs.Plans.{replaced_rows, gone_rows, purged_ids}
use Rattle.conduit_rules.proofs.ByIdLaws.{each_below-none}
use Rattle.conduit_rules.proofs.TableLaws.{cell-settled, gone_cell-live, gone_cell-archived}
use Rattle.conduit_rules.proofs.ChoiceLaws.{same_choice}
use Rattle.std.proofs.lemmas.Grind.{common_steps}
use Rattle.std.proofs.lemmas.Bool.Decides.{nat_tests}

-- an id under which this is kept, and nothing is left to do on the desktop
abbrev pub IsSettled : Option ContentValue → BaseState → SideState → SideState → Type 0
IsSettled (Some c) b h d = (b ≡ row c) × (h ≡ live c) × (d ≡ live c)
IsSettled None no_base h d = h ≡ nothing
IsSettled None (row b) h d = ⊥
IsSettled None (gone b) h d = (h ≡ nothing) ⊎ ((h ≡ live b) ⊎ (h ≡ archived b))

-- what is kept, with nothing archived and nothing new
abbrev pub only : Option ContentValue → Fate
only k = record { keep = k; archive = []; news = None }

gone_nothing : (b : ContentValue) (d : SideState) → fate (gone b) nothing d ≡ only None
gone_nothing b d = grind arith

pub fate-settled : (k : Option ContentValue) (b : BaseState) (h d : SideState) → IsSettled k b h d → fate b h d ≡ record { keep = k; archive = []; news = None }
fate-settled k b h d is = grind (arith, common_steps, nat_tests, cell-settled, gone_nothing, gone_cell-live, gone_cell-archived)

-- what was merged is chosen again, with nothing to archive and nothing to add
pub choice-settled : (t : Sides) (keep : ℕ → Option ContentValue) → ((i : ℕ) → IsSettled (keep i) (t.base i) (t.handheld i) (t.desktop i)) → t.loose_live ≡ []
    → t.loose_archived ≡ []
    → choice t ≡ record { keep = keep; archive = []; adds = [] }
choice-settled t keep is no_live no_archived = grind (arith, common_steps, nat_tests, fate-settled, each_below-none)

-- nothing is replaced, archived, forgotten, added or deleted
pub record IsEmptyPlan (s : Sides) : Type 0 where
  pub replace : replaced_rows (choice s).keep s.handheld ≡ []
  pub archive : (choice s).archive ≡ []
  pub gone : gone_rows (choice s).keep s.handheld ≡ []
  pub adds : (choice s).adds ≡ []
  pub purge : purged_ids (choice s).keep s.handheld ≡ []

-- gone rows left out
abbrev pub without_gone : BaseState → BaseState
without_gone no_base = no_base
without_gone (row b) = row b
without_gone (gone b) = no_base

abbrev pub IfGone : BaseState → Type 0 → Type 0
IfGone (gone b) P = P
IfGone basis P = Unit {0}

gone_fate : (b : BaseState) (h d : SideState) → IfGone b (h ≡ nothing) → fate (without_gone b) h d ≡ fate b h d
gone_fate (gone b) h d free = grind arith
gone_fate b h d free = refl

gone_mate : (b : BaseState) (h : SideState) → IfGone b (h ≡ nothing) → partner (without_gone b) h ≡ partner b h
gone_mate (gone b) h free = grind arith
gone_mate b h free = refl

-- where no record stands under a gone id, gone rows don't matter
pub choice-gone : (s : Sides) → ((i : ℕ) → IfGone (s.base i) (s.handheld i ≡ nothing)) → choice (record s { base = λ i. without_gone (s.base i) }) ≡ choice s
choice-gone s free = same_choice (record s { base = λ i. without_gone (s.base i) }) s refl refl
    (λ i. gone_fate (s.base i) (s.handheld i) (s.desktop i) (free i)) (λ i. gone_mate (s.base i) (s.handheld i) (free i))
