-- What becomes of an id: the cell of the table, and the rules for an id without a base row.
use Rattle.std.specs.Prelude.{Bool, true, false, List, [], ◌∷◌, ◌++◌, Option, Some, None, option_to_list}
use Rattle.std.specs.List.{list_any}
use Rattle.pdb_values.specs.Contents.{ContentValue}
use Rattle.conduit_rules.specs.Contents.{same_content}
use Rattle.conduit_rules.specs.Table.{decision}
use Rattle.conduit_rules.specs.States.{SideState, nothing, live_of, archived_of, content_of, BaseState, no_base, row, gone, state, equal_contents}
use Rattle.conduit_rules.specs.declared.action.Action.{Action}
use Rattle.conduit_rules.specs.declared.action.Action.TheVariants.{Sync, Handheld, Desktop, Both}
use Rattle.conduit_rules.specs.declared.table.Side.TheVariants.{Gone}
use Rattle.conduit_rules.specs.declared.table.Keep.{Keep}
use Rattle.conduit_rules.specs.declared.table.Keep.TheVariants.{None as KeepNone, Base as KeepBase, Handheld as KeepHandheld, Desktop as KeepDesktop}
use Rattle.conduit_rules.specs.declared.table.Archive.{Archive}
use Rattle.conduit_rules.specs.declared.table.Archive.TheVariants.{None as ArchiveNone, Base as ArchiveBase, Handheld as ArchiveHandheld}
use Rattle.conduit_rules.specs.declared.table.Archive.TheVariants.{Desktop as ArchiveDesktop, Both as ArchiveBoth}
use Rattle.conduit_rules.specs.declared.table.Outcome.{Outcome}

-- the content that both sides keep under the id, those that are archived, and the desktop's where
-- it becomes a new record
pub record Fate : Type 0 where
  pub keep : Option ContentValue
  pub archive : List ContentValue
  pub news : Option ContentValue

-- the content that a cell keeps
abbrev pub kept_content : Keep → ContentValue → SideState → SideState → Option ContentValue
kept_content KeepNone b h d = None
kept_content KeepBase b h d = Some b
kept_content KeepHandheld b h d = content_of h
kept_content KeepDesktop b h d = content_of d

-- the contents that a cell archives, the handheld's first
abbrev pub archived_contents : Archive → ContentValue → SideState → SideState → List ContentValue
archived_contents ArchiveNone b h d = []
archived_contents ArchiveBase b h d = b ∷ []
archived_contents ArchiveHandheld b h d = option_to_list (content_of h)
archived_contents ArchiveDesktop b h d = option_to_list (content_of d)
archived_contents ArchiveBoth b h d = option_to_list (content_of h) ++ option_to_list (content_of d)

-- the desktop's content, where it is news
abbrev pub news_content : Bool → SideState → Option ContentValue
news_content true d = content_of d
news_content false d = None

-- an outcome in contents
abbrev pub fate_by : Outcome → ContentValue → SideState → SideState → Fate
fate_by o b h d = record {
  keep = kept_content o.keep b h d;
  archive = archived_contents o.archive b h d;
  news = news_content o.news d;
}

-- under a base row
abbrev pub cell : ContentValue → SideState → SideState → Fate
cell b h d = fate_by (decision (state b h) (state b d) (equal_contents h d)) b h d

-- under a gone base row
abbrev pub gone_cell : ContentValue → SideState → Fate
gone_cell b h = fate_by (decision (state b h) Gone false) b h nothing

-- without a base row a live record stays and an archived one is archived
abbrev pub unbased : SideState → Fate
unbased h = record { keep = live_of h; archive = option_to_list (archived_of h); news = None }

-- what becomes of an id
abbrev pub fate : BaseState → SideState → SideState → Fate
fate no_base h d = unbased h
fate (row b) h d = cell b h d
fate (gone b) h d = gone_cell b h

-- nothing becomes of an id
abbrev pub no_fate : Fate
no_fate = record { keep = None; archive = []; news = None }

-- what becomes of an id where the desktop is gone by: its row counts where the base has a row that
-- isn't gone
abbrev pub desktop_fate : BaseState → SideState → Fate
desktop_fate no_base d = no_fate
desktop_fate (row b) d = unbased d
desktop_fate (gone b) d = no_fate

-- what becomes of an id by the action: by the table, by the handheld's record alone, by the
-- desktop's row alone, or by the table without a base row
abbrev pub fate_under : Action → BaseState → SideState → SideState → Fate
fate_under Sync b h d = fate b h d
fate_under Handheld b h d = unbased h
fate_under Desktop b h d = desktop_fate b d
fate_under Both b h d = fate no_base h d

-- an action looks at the base
abbrev pub looks_at_base : Action → Bool
looks_at_base Sync = true
looks_at_base Handheld = true
looks_at_base Desktop = true
looks_at_base Both = false

-- the contents that a fate names
abbrev pub named : Fate → List ContentValue
named f = option_to_list f.keep ++ (f.archive ++ option_to_list f.news)

-- a content stands in a list
abbrev pub stands : ContentValue → List ContentValue → Bool
stands c xs = list_any (λ x. same_content x c) xs
