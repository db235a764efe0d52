-- What a row is against its base row once both went along with their categories.
use Rattle.std.proofs.lemmas.Bool.Decides.{nat_tests}
use Rattle.std.proofs.lemmas.Bool.{and_parts}
use Rattle.std.proofs.Common.{arith, ◌≡◌, ◌∙◌, ap, refl, sym, subst, ℕ, ◌==◌, ◌&&◌, ◌||◌, Bool, true, false, not, List, [], ◌∷◌, get_or, length, map}
use Rattle.std.specs.Prelude.{Option, Some, None, find, if◌then◌else◌}
use Rattle.std.specs.Option.{option_map}
use Rattle.pdb_values.specs.Contents.{ContentValue}
use Rattle.pdb_values.specs.Databases.{DatabaseValue}
use Rattle.pdb_values.specs.NamedDatabases.{database_of}
use Rattle.pdb_values.specs.Records.{kind_of}
use Rattle.pdb_values.specs.declared.record.Kind.{Kind}
use Rattle.pdb_values.specs.declared.record.Kind.TheVariants as kind
use Rattle.pdb_values.specs.declared.record.Record.{Record}
use Rattle.pdb_values.proofs.NamedLaws.{database_of-name}
use Rattle.conduit_rules.specs.Contents.{same_content}
use Rattle.conduit_rules.specs.States.{BaseState, SideState, archived, base_at, based_under, based_where, first, gone, held, held_by, held_where, live, no_base, nothing, row, state}
use Rattle.conduit_rules.specs.declared.table.Side.{Side}
use Rattle.conduit_rules.specs.declared.table.Side.TheVariants.{ArchivedChanged, ArchivedSame, Changed, Deleted, Gone, Same}
use Rattle.category_mirror.specs.Blocks.{MergeValue, begins_with, block_bytes}
use Rattle.category_mirror.specs.Edits.{AreRowsOf, GoApart, GoApartBy, GoApartUnder, RowsGoApart, is_edited, row_state, same_text, state_under}
use Rattle.category_mirror.specs.Filings.{rows_by}
use Rattle.category_mirror.specs.Refiled.{is_refiled, moved_count, refiled_base, refiled_base_row, refiled_record, refiled_rows}
use Rattle.category_mirror.specs.Sides.{Filing, base_by, change_by, filed_base, filed_rows, merge_named, shelves_of}
use Rattle.category_mirror.proofs.BaseLaws.{base-quiet}
use Rattle.category_mirror.proofs.NamedMaps.{find-map}
use Rattle.category_mirror.proofs.SameLaws.{moved_none, records_stay}

module _ (numbers : List ℕ) where
  -- ---- contents in their categories

  abbrev placed : ContentValue → ContentValue
  placed content = record content { category = get_or numbers content.category 0 }

  abbrev placed_side : SideState → SideState
  placed_side nothing = nothing
  placed_side (live content) = live (placed content)
  placed_side (archived content) = archived (placed content)

  abbrev placed_base : BaseState → BaseState
  placed_base no_base = no_base
  placed_base (row content) = row (placed content)
  placed_base (gone content) = gone content

  -- ---- what rows hold

  held-by : (k : Kind) (content : ContentValue) → held_by k (placed content) ≡ placed_side (held_by k content)
  held-by kind.Live content = refl
  held-by kind.Archived content = refl
  held-by kind.Deleted content = refl

  held-where : (o : Option Record) → held_where (option_map (refiled_record numbers) o) ≡ placed_side (held_where o)
  held-where None = refl
  held-where (Some r) = held-by (kind_of r) r.content

  held-placed : (rows : List Record) (id : ℕ) → held (map (refiled_record numbers) rows) id ≡ placed_side (held rows id)
  held-placed rows id = ap held_where (find-map (λ (r : Record). r.id == id) (refiled_record numbers) rows) ∙ held-where (first id rows)

  -- ---- what base rows are

  same-id : (r : Record) → (refiled_base_row numbers r).id ≡ r.id
  same-id r = by r.deleted
    where
      by : (b : Bool) → (if b then r else refiled_record numbers r).id ≡ r.id
      by true = refl
      by false = refl

  first-base : (base : List Record) (id : ℕ) → first id (map (refiled_base_row numbers) base) ≡ option_map (refiled_base_row numbers) (first id base)
  first-base base id =
      find-map (λ (r : Record). r.id == id) (refiled_base_row numbers) base
      ∙ (λ k. option_map (refiled_base_row numbers) (find (λ (r : Record). same-id r k == id) base))

  based-where : (o : Option Record) → based_where false (option_map (refiled_base_row numbers) o) ≡ placed_base (based_where false o)
  based-where None = refl
  based-where (Some r) = by r.deleted refl
    where
      by : (b : Bool) → r.deleted ≡ b
          → based_where false (Some (if b then r else refiled_record numbers r)) ≡ placed_base (if b then no_base else row r.content)
      by true is = ap (λ b. if b then no_base else row r.content) is
      by false is = ap (λ b. if b then no_base else row (placed r.content)) is

  base-placed : (base : List Record) (id : ℕ) → base_at (map (refiled_base_row numbers) base) false id ≡ placed_base (base_at base false id)
  base-placed base id = ap (based_under false id) (first-base base id) ∙ by (id == 0)
    where
      by : (b : Bool) → (if b then no_base else based_where false (option_map (refiled_base_row numbers) (first id base)))
          ≡ placed_base (if b then no_base else based_where false (first id base))
      by true = refl
      by false = based-where (first id base)

  -- ---- states

  equal_stays : (m n : ℕ) → (m == n) ≡ true → (get_or numbers m 0 == get_or numbers n 0) ≡ true
  equal_stays m n same = let is : m ≡ n = grind (arith, nat_tests, same) in rw is (grind (arith, nat_tests))

  -- what had one content has one
  content_stays : (one other : ContentValue) → same_content one other ≡ true → same_content (placed one) (placed other) ≡ true
  unfolding same_content
  content_stays one other same =
      let parts = and_parts (one.category == other.category) (same_text one other) same in
      ap (λ b. b && same_text one other) (equal_stays one.category other.category parts.0) ∙ parts.1

  apart_stays : (m n : ℕ) → (get_or numbers m 0 ≡ get_or numbers n 0 → m ≡ n) → (get_or numbers m 0 == get_or numbers n 0) ≡ (m == n)
  apart_stays m n apart = by (m == n) refl (get_or numbers m 0 == get_or numbers n 0) refl
    where
      by : (b : Bool) → (m == n) ≡ b → (c : Bool) → (get_or numbers m 0 == get_or numbers n 0) ≡ c → c ≡ b
      by true is true placed = refl
      by false is false placed = refl
      by true is false placed = sym placed ∙ equal_stays m n is
      by false is true placed =
          let same : get_or numbers m 0 ≡ get_or numbers n 0 = grind (arith, nat_tests, placed) in
          let own : m ≡ n = apart same in grind (arith, nat_tests, is, own)

  content_same : (one other : ContentValue) → GoApart numbers one other → same_content (placed one) (placed other) ≡ same_content one other
  unfolding same_content
  content_same one other apart = by (same_text one other) refl
    where
      by : (t : Bool) → same_text one other ≡ t
          → ((get_or numbers one.category 0 == get_or numbers other.category 0) && same_text one other)
          ≡ ((one.category == other.category) && same_text one other)
      by true is = ap (λ b. b && same_text one other) (apart_stays one.category other.category (apart is))
      by false is = rw is (neither (get_or numbers one.category 0 == get_or numbers other.category 0) (one.category == other.category))
        where
          neither : (b c : Bool) → (b && false) ≡ (c && false)
          neither b c = grind arith

  states_same : (base : BaseState) (side : SideState) → GoApartUnder numbers base side
      → state_under (placed_base base) (placed_side side) ≡ state_under base side
  states_same no_base side apart = refl
  states_same (gone base) side apart = refl
  states_same (row base) nothing apart = refl
  states_same (row base) (live content) apart = ap (λ b. Some (if b then Same else Changed)) (content_same content base apart)
  states_same (row base) (archived content) apart = ap (λ b. Some (if b then ArchivedSame else ArchivedChanged)) (content_same content base apart)

  unedited_stays : (base : BaseState) (side : SideState) (is : Side) → is_edited is ≡ false → state_under base side ≡ Some is
      → state_under (placed_base base) (placed_side side) ≡ Some is
  unedited_stays no_base side is un same = absurd cc
  unedited_stays (gone base) side is un same = absurd cc
  unedited_stays (row base) nothing is un same = same
  unedited_stays (row base) (live content) is un same = by (same_content content base) refl same
    where
      by : (b : Bool) → same_content content base ≡ b → Some (if b then Same else Changed) ≡ Some is
          → state_under (placed_base (row base)) (placed_side (live content)) ≡ Some is
      by true equal is_so = ap (λ b. Some (if b then Same else Changed)) (content_stays content base equal) ∙ is_so
      by false equal is_so = absurd (let own : is ≡ Changed = cc in let no : true ≡ false = sym (ap is_edited own) ∙ un in cc)
  unedited_stays (row base) (archived content) is un same = by (same_content content base) refl same
    where
      by : (b : Bool) → same_content content base ≡ b → Some (if b then ArchivedSame else ArchivedChanged) ≡ Some is
          → state_under (placed_base (row base)) (placed_side (archived content)) ≡ Some is
      by true equal is_so = ap (λ b. Some (if b then ArchivedSame else ArchivedChanged)) (content_stays content base equal) ∙ is_so
      by false equal is_so = absurd (let own : is ≡ ArchivedChanged = cc in let no : true ≡ false = sym (ap is_edited own) ∙ un in cc)

  row-placed : (rows base : List Record) (id : ℕ)
      → row_state (map (refiled_record numbers) rows) (map (refiled_base_row numbers) base) id
      ≡ state_under (placed_base (base_at base false id)) (placed_side (held rows id))
  row-placed rows base id = λ k. state_under (base-placed base id k) (held-placed rows id k)

-- ---- a database

module _ (m : Option MergeValue) (rows base : DatabaseValue) (id : ℕ) where
  -- what a row is against its base row then
  abbrev after : Option Side
  after = row_state (rows_by m rows).records (base_by m (Some rows) base).records id

  abbrev before : Option Side
  before = row_state rows.records base.records id

  after_quiet : (rows_by m rows).records ≡ rows.records → base_by m (Some rows) base ≡ base → after ≡ before
  after_quiet rows_stay base_stays = λ k. row_state (rows_stay k) (base_stays k).records id

module _ (merge : MergeValue) (rows base : DatabaseValue) (id : ℕ) where
  rows_quiet : is_refiled merge rows ≡ false → (refiled_rows merge rows).records ≡ rows.records
  unfolding refiled_rows
  rows_quiet still = records_stay merge.numbers rows.records (moved_none merge rows still)

  after_moved : is_refiled merge rows ≡ true
      → after (Some merge) rows base id
      ≡ state_under (placed_base merge.numbers (base_at base.records false id)) (placed_side merge.numbers (held rows.records id))
  unfolding refiled_rows refiled_base
  after_moved refiled =
      ap (λ b. row_state (map (refiled_record merge.numbers) rows.records) (if b then refiled_base merge base else base).records id) refiled
      ∙ row-placed merge.numbers rows.records base.records id

  either : (P : Option Side → Type 0) → P (before (Some merge) rows base id)
      → P (state_under (placed_base merge.numbers (base_at base.records false id)) (placed_side merge.numbers (held rows.records id)))
      → P (after (Some merge) rows base id)
  either P stayed moved = by (is_refiled merge rows) refl
    where
      by : (b : Bool) → is_refiled merge rows ≡ b → P (after (Some merge) rows base id)
      by true is = subst P (sym (after_moved is)) moved
      by false is = subst P (sym (after_quiet (Some merge) rows base id (rows_quiet is) (base-quiet (Some merge) (Some rows) is base))) stayed

states_by : (m : Option MergeValue) (rows base : DatabaseValue) (id : ℕ) → GoApartBy m (base_at base.records false id) (held rows.records id)
    → after m rows base id ≡ before m rows base id
states_by None rows base id apart = refl
states_by (Some merge) rows base id apart =
    either merge rows base id (λ (s : Option Side). s ≡ before (Some merge) rows base id) refl
    (states_same merge.numbers (base_at base.records false id) (held rows.records id) apart)

unedited_by : (m : Option MergeValue) (rows base : DatabaseValue) (id : ℕ) (side : Side) → is_edited side ≡ false → before m rows base id ≡ Some side
    → after m rows base id ≡ Some side
unedited_by None rows base id side un is = is
unedited_by (Some merge) rows base id side un is =
    either merge rows base id (λ (s : Option Side). s ≡ Some side) is
    (unedited_stays merge.numbers (base_at base.records false id) (held rows.records id) side un is)

-- ---- a session

module _ (filing : Filing) (name : List ℕ) (rows base : DatabaseValue) (id : ℕ) (are : AreRowsOf filing name rows base) where
  filed_are : row_state (filed_rows filing rows).records (filed_base filing base).records id ≡ after (merge_named filing name) rows base id
  filed_are =
      (λ k. row_state (rows_by (merge_named filing (rows_named k)) rows).records
      (base_by (merge_named filing (base_named k)) (database_of (base_named k) (shelves_of filing).rows) base).records id)
      ∙ ap (λ (o : Option DatabaseValue). row_state (rows_by (merge_named filing name) rows).records (base_by (merge_named filing name) o base).records id)
      are.rows_there
    where
      rows_named : rows.head.name ≡ name
      rows_named = database_of-name name (shelves_of filing).rows rows are.rows_there

      base_named : base.head.name ≡ name
      base_named = database_of-name name (shelves_of filing).bases base are.base_there

  pub states_stay : RowsGoApart filing name rows.records base.records id
      → row_state (filed_rows filing rows).records (filed_base filing base).records id ≡ row_state rows.records base.records id
  states_stay apart = filed_are ∙ states_by (merge_named filing name) rows base id apart

  pub no_edit : (side : Side) → is_edited side ≡ false → row_state rows.records base.records id ≡ Some side
      → row_state (filed_rows filing rows).records (filed_base filing base).records id ≡ Some side
  no_edit side un is = filed_are ∙ unedited_by (merge_named filing name) rows base id side un is
