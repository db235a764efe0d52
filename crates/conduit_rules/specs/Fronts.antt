-- The least id that three lists have in front, and what they have under it.
use Rattle.std.specs.Prelude.{◌≡◌, ℕ, ◌&&◌, ◌||◌, List, [], Bool, true, false, not, if◌then◌else◌, nat_lt, Option, Some, None, is_some}
use Rattle.std.specs.Option.{option_map}
use Rattle.pdb_values.specs.declared.record.Record.{Record}
use Rattle.conduit_rules.specs.Fates.{looks_at_base}
use Rattle.conduit_rules.specs.Runs.{front_under, IsFrom}
use Rattle.conduit_rules.specs.States.{SideState, held_where, BaseState, based_under, is_row}
use Rattle.conduit_rules.specs.Views.{seen_where}
use Rattle.conduit_rules.specs.declared.action.Action.{Action}
use Rattle.conduit_rules.specs.declared.front.Front.{Front}
use Rattle.conduit_rules.specs.declared.view.Seen.{Seen}

abbrev pub seen_id : Seen → ℕ
seen_id s = s.id

abbrev pub record_id : Record → ℕ
record_id r = r.id

-- nothing is ahead
abbrev pub NoneAhead : List (ℕ × Seen) → List (ℕ × Record) → List (ℕ × Record) → Type 0
NoneAhead view rows base = (view ≡ []) × (rows ≡ []) × (base ≡ [])

-- the entries of the least id in front
pub record IsFront (f : Front) (view : List (ℕ × Seen))
    (rows olds : List (ℕ × Record)) : Type 0 where
  pub seen : option_map (λ e. (e.0, e.1.now)) f.seen ≡ front_under seen_id f.id view
  pub row : option_map (λ e. (e.0, e.1.now)) f.row ≡ front_under record_id f.id rows
  pub base : option_map (λ e. (e.0, e.1.now)) f.base ≡ front_under record_id f.id olds
  pub least_seen : IsFrom seen_id f.id view
  pub least_row : IsFrom record_id f.id rows
  pub least_base : IsFrom record_id f.id olds
  pub some : (is_some f.seen || (is_some f.row || is_some f.base)) ≡ true

-- the id of an entry
abbrev pub head_id_of : {A : Type 0} → (A → ℕ) → Option (ℕ × A) → Option ℕ
head_id_of id None = None
head_id_of id (Some e) = Some (id e.1)

-- the lesser of two ids, where both are
abbrev pub lesser_of : Option ℕ → Option ℕ → Option ℕ
lesser_of None o = o
lesser_of (Some i) None = Some i
lesser_of (Some i) (Some j) = Some (if nat_lt j i then j else i)

-- what the handheld, the desktop and the base have under the id, by the entries in front
abbrev pub seen_in : Front → SideState
seen_in f = seen_where (option_map (λ e. e.1.now) f.seen)

abbrev pub row_in : Front → SideState
row_in f = held_where (option_map (λ e. e.1.now) f.row)

abbrev pub base_in : Bool → Front → BaseState
base_in gone_counts f = based_under gone_counts f.id (option_map (λ e. e.1.now) f.base)

-- whether the row in front counts by itself: its id came before, the base has none, or isn't looked
-- at
abbrev pub is_loose_in : Action → ℕ → Front → Bool
is_loose_in a next f = nat_lt f.id next || not (looks_at_base a && is_row (base_in false f))
