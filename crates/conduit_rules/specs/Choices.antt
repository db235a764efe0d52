-- What the conduit chooses for one database.
use Rattle.std.specs.Prelude.{ℕ, Bool, List, [], ◌++◌, Option, None, option_to_list, map}
use Rattle.pdb_values.specs.Contents.{ContentValue}
use Rattle.pdb_values.specs.declared.record.Record.{Record}
use Rattle.conduit_rules.specs.ById.{each_id, with_id}
use Rattle.conduit_rules.specs.Contents.{count_of}
use Rattle.conduit_rules.specs.States.{SideState, nothing, live_of, archived_of, held, BaseState, no_base, row, gone, base_at, has_row}
use Rattle.conduit_rules.specs.Fates.{Fate, fate, fate_under}
use Rattle.conduit_rules.specs.Views.{view_held}
use Rattle.conduit_rules.specs.News.{loose, live_contents, archived_records, unpaired}
use Rattle.conduit_rules.specs.declared.action.Action.{Action}
use Rattle.conduit_rules.specs.declared.action.Action.TheVariants.{Sync, Handheld, Desktop, Both}
use Rattle.conduit_rules.specs.declared.view.Seen.{Seen}

-- one database as its base, its view and its rows show it: by id, the rows without a base row, and
-- all rows
pub record Sides : Type 0 where
  pub base : ℕ → BaseState
  pub handheld : ℕ → SideState
  pub desktop : ℕ → SideState
  pub loose_live : List ContentValue
  pub loose_archived : List ContentValue
  pub all_live : List ContentValue
  pub all_archived : List ContentValue

-- the sides of a database; gone rows of the base count or are left out
abbrev pub sides_of : List Seen → List Record → List Record → Bool → Sides
sides_of view rows base gone_counts = record {
  base = base_at base gone_counts;
  handheld = view_held view;
  desktop = held rows;
  loose_live = live_contents (loose (has_row base) rows);
  loose_archived = archived_records (loose (has_row base) rows);
  all_live = live_contents rows;
  all_archived = archived_records rows;
}

-- the same where the base has no row: each row is one without a base row
abbrev pub without_base : Sides → Sides
without_base s = record s {
  base = λ i. no_base;
  loose_live = s.all_live;
  loose_archived = s.all_archived;
}

-- what becomes of an id
abbrev pub fate_at : Sides → ℕ → Fate
fate_at s i = fate (s.base i) (s.handheld i) (s.desktop i)

-- a new record of the handheld: a live one without a base row
abbrev pub partner : BaseState → SideState → Option ContentValue
partner no_base h = live_of h
partner (row b) h = None
partner (gone b) h = None

abbrev pub partner_at : Sides → ℕ → Option ContentValue
partner_at s i = partner (s.base i) (s.handheld i)

-- the new records of the handheld, in rising ids
abbrev pub partners : Sides → List ContentValue
partners s = each_id (λ i. option_to_list (partner_at s i))

-- the new records of the desktop: the live rows without a base row in their order, then the cells'
-- news in rising ids
abbrev pub offers : Sides → List ContentValue
offers s = s.loose_live ++ each_id (λ i. option_to_list (fate_at s i).news)

-- what stays under each id, what is archived (under id 0 where no id is known), and the contents
-- that become new records
pub record Choice : Type 0 where
  pub keep : ℕ → Option ContentValue
  pub archive : List (ℕ × ContentValue)
  pub adds : List ContentValue

-- a choice by what becomes of each id, the handheld's new records, the desktop's, and the archived
-- rows without a base row
abbrev pub choice_of : (ℕ → Fate) → List ContentValue → List ContentValue
    → List ContentValue → Choice
choice_of fates mates news archived = record {
  keep = λ i. (fates i).keep;
  archive = map (λ c. (0, c)) archived ++ each_id (λ i. map (λ c. (i, c)) (fates i).archive);
  adds = unpaired (λ c. count_of c mates) news;
}

-- the choice of a synchronisation
abbrev pub choice : Sides → Choice
choice s = choice_of (fate_at s) (partners s) (offers s) s.loose_archived

-- ---- by the action

abbrev pub fate_for : Action → Sides → ℕ → Fate
fate_for a s i = fate_under a (s.base i) (s.handheld i) (s.desktop i)

-- new records of the handheld are paired where both sides are gone by: each live one is new where
-- the base isn't looked at
abbrev pub partner_under : Action → BaseState → SideState → Option ContentValue
partner_under Sync b h = partner b h
partner_under Handheld b h = None
partner_under Desktop b h = None
partner_under Both b h = partner no_base h

abbrev pub partner_for : Action → Sides → ℕ → Option ContentValue
partner_for a s i = partner_under a (s.base i) (s.handheld i)

-- of the desktop's rows, those without a base row and all: the first count, unless the handheld is
-- gone by, and all do where the base isn't looked at
abbrev pub loose_for : {A : Type 0} → Action → List A → List A → List A
loose_for Sync xs all = xs
loose_for Handheld xs all = []
loose_for Desktop xs all = xs
loose_for Both xs all = all

-- the contents of the live ones among them, which are offered as new records
abbrev pub offered_for : Action → Sides → List ContentValue
offered_for a s = loose_for a s.loose_live s.all_live

-- and those of the archived ones
abbrev pub put_away_for : Action → Sides → List ContentValue
put_away_for a s = loose_for a s.loose_archived s.all_archived

abbrev pub partners_for : Action → Sides → List ContentValue
partners_for a s = each_id (λ i. option_to_list (partner_for a s i))

-- the desktop's contents of the records that both sides changed, each its own way: the handheld's
-- stays under the id, and these are new
abbrev pub kept_twice : Action → Sides → List ContentValue
kept_twice a s = each_id (λ i. option_to_list (fate_for a s i).news)

abbrev pub offers_for : Action → Sides → List ContentValue
offers_for a s = offered_for a s ++ kept_twice a s

-- the choice of an action; that of Sync is that of a synchronisation, and that of Both is it where
-- the base has no row
abbrev pub choice_for : Action → Sides → Choice
choice_for a s =
    choice_of (fate_for a s) (partners_for a s) (offers_for a s) (put_away_for a s)

-- that of the handheld: each live record is kept and each archived one archived
abbrev pub by_handheld : Sides → Choice
by_handheld s = record {
  keep = λ i. live_of (s.handheld i);
  archive = each_id (λ i. with_id i (archived_of (s.handheld i)));
  adds = [];
}

-- the contents of the handheld's live records, in rising ids
abbrev pub live_held : Sides → List ContentValue
live_held s = each_id (λ i. option_to_list (live_of (s.handheld i)))

-- the contents of rows with their ids
abbrev pub contents_of : List (ℕ × ContentValue) → List ContentValue
contents_of rows = map (λ (row : ℕ × ContentValue). row.1) rows

-- the desktop's row of an id with a base row that isn't gone
abbrev pub row_of : BaseState → SideState → SideState
row_of no_base d = nothing
row_of (row b) d = d
row_of (gone b) d = nothing

-- that of the desktop: each live row of an id with a base row is kept, each archived one archived,
-- and rows without a base row are
-- added or archived
abbrev pub by_desktop : Sides → Choice
by_desktop s = record {
  keep = λ i. live_of (row_of (s.base i) (s.desktop i));
  archive =
      map (λ c. (0, c)) s.loose_archived
      ++ each_id (λ i. with_id i (archived_of (row_of (s.base i) (s.desktop i))));
  adds = s.loose_live;
}
