-- A plan in the making: its lists without the adds and without the rows that have no base row, and
-- the new records of the
-- handheld and of the table, which decide the adds.
use Rattle.std.specs.Prelude.{◌≡◌, ℕ, ◌++◌, List, Option, option_to_list, map}
use Rattle.pdb_values.specs.Contents.{ContentValue}
use Rattle.pdb_values.specs.declared.record.Record.{Record}
use Rattle.conduit_rules.specs.ById.{each_id, with_id}
use Rattle.conduit_rules.specs.Choices.{Sides, fate_for, choice_for, offered_for, put_away_for, partners_for, partner_under}
use Rattle.conduit_rules.specs.Fates.{Fate, fate_under}
use Rattle.conduit_rules.specs.News.{live_contents, archived_records}
use Rattle.conduit_rules.specs.Plans.{kept_rows, replaced_rows, gone_rows, purged_ids, replacement, lost, purged_at}
use Rattle.conduit_rules.specs.States.{BaseState, SideState}
use Rattle.conduit_rules.specs.declared.action.Action.{Action}
use Rattle.conduit_rules.specs.declared.draft.Draft.{Draft}

-- the draft of a database
pub record IsDraft (a : Action) (s : Sides) (d : Draft) : Type 0 where
  pub kept : d.kept.items ≡ kept_rows (choice_for a s).keep
  pub replace : d.replace.items ≡ replaced_rows (choice_for a s).keep s.handheld
  pub archive : d.archive.items ≡ each_id (λ i. map (λ c. (i, c)) (fate_for a s i).archive)
  pub gone : d.gone.items ≡ gone_rows (choice_for a s).keep s.handheld
  pub purge : d.purge.items ≡ purged_ids (choice_for a s).keep s.handheld
  pub partners : d.partners.items ≡ partners_for a s
  pub news : d.news.items ≡ each_id (λ i. option_to_list (fate_for a s i).news)

-- the lists with what one id gives: by what becomes of it, what the handheld holds, and whether
-- that is new
pub record Grew (d e : Draft) (i : ℕ) (f : Fate) (h : SideState)
    (mate : Option ContentValue) : Type 0 where
  pub kept : e.kept.items ≡ d.kept.items ++ with_id i f.keep
  pub replace : e.replace.items ≡ d.replace.items ++ with_id i (replacement f.keep h)
  pub archive : e.archive.items ≡ d.archive.items ++ map (λ c. (i, c)) f.archive
  pub gone : e.gone.items ≡ d.gone.items ++ with_id i (lost f.keep h)
  pub purge : e.purge.items ≡ d.purge.items ++ purged_at f.keep h i
  pub partners : e.partners.items ≡ d.partners.items ++ option_to_list mate
  pub news : e.news.items ≡ d.news.items ++ option_to_list f.news

-- the lists with what one id gives under an action, by what the base has, what the handheld holds
-- and what the desktop holds
abbrev pub GrewUnder : Draft → Draft → ℕ → Action → BaseState → SideState → SideState → Type 0
GrewUnder old new i a base handheld desktop =
    Grew old new i (fate_under a base handheld desktop) handheld (partner_under a base handheld)

-- a fact that holds where these rows are those of a database that an action counts by themselves
abbrev pub IfLoose : Action → Sides → List Record → Type 0 → Type 0
IfLoose a s rows P =
    live_contents rows ≡ offered_for a s
    → archived_records rows ≡ put_away_for a s → P
