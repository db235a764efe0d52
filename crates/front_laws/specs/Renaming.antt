-- Two ends of a database that are the same but for the ids of new records.
use Rattle.std.specs.Prelude.{◌≡◌, ℕ, Bool, true, false, not, ◌&&◌, ◌||◌, List, [], ◌∷◌, count_by, is_some}
use Rattle.pdb_values.specs.Contents.{ContentValue}
use Rattle.pdb_values.specs.Records.{is_live}
use Rattle.pdb_values.specs.declared.record.Record.{Record}
use Rattle.conduit_rules.specs.Contents.{same_content}
use Rattle.conduit_rules.specs.States.{held, first, live_of}
use Rattle.conduit_rules.specs.declared.action.Action.{Action}
use Rattle.front_laws.specs.Repeats.{AreStops, Ending, Finding, GotAllIds, IsRead, Place, all_ids, left_by}

-- a record or a base row, gone or not, had the id
abbrev pub is_known : Finding → ℕ → Bool
is_known x i = is_some (first i x.records) || is_some (first i x.base)

-- nothing had any of these ids
abbrev pub AreUnknown : Finding → List ℕ → Type 0
AreUnknown x [] = Unit {0}
AreUnknown x (g ∷ gs) = (is_known x g ≡ false) × AreUnknown x gs

-- each new record of a session gets one of these ids, which nothing had
pub record GotNewIds (a : Action) (x : Finding) (given : List ℕ) : Type 0 where
  pub got : GotAllIds a x given
  pub unknown : AreUnknown x given

-- Sessions stopped at these places, and one ended behind them: each new record of the last one got
-- one of these ids, and nothing had any id that stands in the end.
pub record AreSessions (a : Action) (x : Finding) (places : List Place) (later : List ℕ)
    : Type 0 where
  pub read : IsRead x
  pub stops : AreStops a x places
  pub got : GotAllIds a (left_by a x places) later
  pub unknown : AreUnknown x (all_ids a places later)

-- a live record with this content, under an id that nothing had
abbrev pub is_new_with : Finding → ContentValue → Record → Bool
is_new_with x c r = is_live r && (not (is_known x r.id) && same_content r.content c)

-- under each known id the same is live, and each content is as often live under an id that nothing
-- had
pub record SameLive (x : Finding) (records others : List Record) : Type 0 where
  pub known : (i : ℕ) → is_known x i ≡ true → live_of (held records i) ≡ live_of (held others i)
  pub new : (c : ContentValue)
      → count_by (is_new_with x c) records ≡ count_by (is_new_with x c) others

pub record SameEnds (x : Finding) (e f : Ending) : Type 0 where
  pub records : SameLive x e.records f.records
  pub rows : SameLive x e.rows f.rows
  pub archive : e.archive ≡ f.archive
