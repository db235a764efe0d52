-- A database that was merged is merged again to the same, whichever side it goes by.
use Rattle.std.proofs.Common.{◌≡◌, ℕ, ◌==◌, List, [], ◌++◌, refl, ap, ◌∙◌, sym, subst, arith, Option, Some, None, Bool, map, option_to_list, append-nil}
use Rattle.pdb_values.specs.Contents.{ContentValue}
use Rattle.pdb_values.specs.declared.record.Record.{Record}
use Rattle.palm_device.specs.Soundness.{ids_of, AreIds}
use Rattle.conduit_rules.specs.ById.{id_bound, at}
use Rattle.conduit_rules.specs.Choices.{Choice, Sides, sides_of, choice_for, fate_for, offered_for, partners_for, put_away_for}
use Rattle.conduit_rules.specs.Contents.{count_of}
use Rattle.conduit_rules.specs.Fates.{Fate, fate_under}
use Rattle.conduit_rules.specs.News.{unpaired, live_contents, archived_records}
use Rattle.conduit_rules.specs.Plans.{gone_rows, replaced_rows}
use Rattle.conduit_rules.specs.States.{SideState, nothing, held, held_where, live_of, BaseState, no_base, base_at}
use Rattle.conduit_rules.specs.Views.{view_held, slow_view}
use Rattle.conduit_rules.specs.declared.action.Action.{Action}
use Rattle.conduit_rules.specs.declared.action.Action.TheVariants.{Sync, Handheld, Desktop, Both}
use Rattle.conduit_rules.specs.declared.view.Seen.{Seen}
use Rattle.conduit_rules.proofs.AgreedLaws.{RowsDiffer}
use Rattle.conduit_rules.proofs.BoundLaws.{live_or}
use Rattle.conduit_rules.proofs.ByIdLaws.{each_below-none}
use Rattle.conduit_rules.proofs.SettledLaws.{IsSettled, fate-settled, only}
use Rattle.record_merge.specs.Merging.{row_under, merged_rows, merged_base, AreBounded}
use Rattle.record_merge.specs.Writes.{after, numbered, replaces, whole, AreFree, GotFreeIds}
use Rattle.record_merge.proofs.BaselessLaws.{live-live_or, none_archived, rows_paired}
use Rattle.record_merge.proofs.BoundLaws.{bounded-after}
use Rattle.record_merge.proofs.HeldLaws.{held-merged, held-rows, at-bounded}
use Rattle.record_merge.proofs.PutLaws.{differ-ids}
use Rattle.record_merge.proofs.SettledLaws.{based-merged, settled_by, at_zero, none_loose, first-zero}
use Rattle.record_merge.proofs.ShownLaws.{slow_shows}

by_handheld : (k : Option ContentValue) (b : BaseState) {h : SideState} (d : SideState) → h ≡ live_or k → fate_under Handheld b h d ≡ only k
by_handheld k b d is = grind arith

by_desktop : (k : Option ContentValue) (b : BaseState) (h d : SideState) → IsSettled k b h d → fate_under Desktop b h d ≡ only k
by_desktop k b h d is = grind arith

-- what becomes of an id that was merged
fate-merged : (a : Action) (k : Option ContentValue) (b : BaseState) {h : SideState} (d : SideState) → IsSettled k b h d → h ≡ live_or k → fate_under a b h d ≡ only k
fate-merged Sync k b {h} d is shown = fate-settled k b h d is
fate-merged Handheld k b d is shown = by_handheld k b d shown
fate-merged Desktop k b {h} d is shown = by_desktop k b h d is
fate-merged Both k b d is shown = by_handheld k b d shown

-- each new record of the desktop has its partner
abbrev IsPaired : Action → Sides → Type 0
IsPaired a t = unpaired (λ c. count_of c (partners_for a t)) (offered_for a t) ≡ []

paired_for : (a : Action) (t : Sides) → t.loose_live ≡ [] → IsPaired Both t → IsPaired a t
paired_for Sync t none paired = ap (unpaired (λ c. count_of c (partners_for Sync t))) none
paired_for Handheld t none paired = refl
paired_for Desktop t none paired = ap (unpaired (λ c. count_of c (partners_for Desktop t))) none
paired_for Both t none paired = paired

none_for : (a : Action) (t : Sides) → t.loose_archived ≡ [] → t.all_archived ≡ [] → put_away_for a t ≡ []
none_for Sync t none all = none
none_for Handheld t none all = refl
none_for Desktop t none all = none
none_for Both t none all = all

settled_choice : (a : Action) (t : Sides) (keep : ℕ → Option ContentValue) → ((i : ℕ) → fate_for a t i ≡ only (keep i)) → IsPaired a t
    → put_away_for a t ≡ []
    → choice_for a t ≡ record { keep = keep; archive = []; adds = [] }
settled_choice a t keep fates paired archived_none =
    let news = each_below-none (λ i. option_to_list (fate_for a t i).news) id_bound (λ i. ap (λ f. option_to_list (Fate.news f)) (fates i)) in
    let put_away = each_below-none (λ i. map (λ c. (i, c)) (fate_for a t i).archive) id_bound (λ i. ap (λ f. map (λ c. (i, c)) (Fate.archive f)) (fates i)) in
    let adds : (choice_for a t).adds ≡ [] =
    ap (λ xs. unpaired (λ c. count_of c (partners_for a t)) (offered_for a t ++ xs)) news
    ∙ ap (unpaired (λ c. count_of c (partners_for a t))) (append-nil (offered_for a t))
    ∙ paired in
    λ k. record {
      keep = λ i. (fates i k).keep;
      archive = map (λ c. (0, c)) (archived_none k) ++ put_away k;
      adds = adds k;
    }

-- whatever was chosen, by whichever side: once it is merged, each action chooses the rows again, and archives and adds nothing
pub choice-merged_for : (a : Action) (ch : Choice) (h : ℕ → SideState) (given : List ℕ) (records : List Record) (view : List Seen) (gone_counts : Bool)
    → RowsDiffer records → AreBounded records
    → ((i : ℕ) → h i ≡ held records i) → GotFreeIds ch h given records → row_under ch given 0 ≡ None
    → ((i : ℕ) → view_held view i ≡ held (after (whole ch h given) records) i)
    → choice_for a (sides_of view (merged_rows ch given) (merged_base ch h given) gone_counts) ≡ record { keep = row_under ch given; archive = []; adds = [] }
choice-merged_for a ch h given records view gone_counts differ bounded shows free none then_shows =
    let t = sides_of view (merged_rows ch given) (merged_base ch h given) gone_counts in
    let shown : (i : ℕ) → view_held view i ≡ live_or (row_under ch given i) = λ i. then_shows i ∙ held-merged ch h given records differ bounded shows free i in
    settled_choice a t (row_under ch given)
    (λ i. fate-merged a (row_under ch given i) (base_at (merged_base ch h given) gone_counts i) (held (merged_rows ch given) i)
    (subst (λ b. IsSettled (row_under ch given i) b (view_held view i) (held (merged_rows ch given) i)) (sym (based-merged ch h given gone_counts i))
    (settled_by (i == 0) gone_counts (row_under ch given i) (at i (gone_rows ch.keep h)) (at_zero ch given i none) (shown i) (held-rows ch given i)))
    (shown i))
    (paired_for a t (ap live_contents (none_loose ch h given none)) (rows_paired ch given t (λ i. ap live_of (shown i) ∙ live-live_or (row_under ch given i)) refl))
    (none_for a t (ap archived_records (none_loose ch h given none)) (none_archived ch given))

-- ---- no row under id 0

pub kept_zero : (a : Action) (s : Sides) → s.base 0 ≡ no_base → s.handheld 0 ≡ nothing → (fate_for a s 0).keep ≡ None
kept_zero a s none free = grind arith

add_zero : (given : List ℕ) (cs : List ContentValue) (now : List Record) (o : Option ContentValue) → AreFree (numbered given cs) now
    → at 0 (numbered given cs) ≡ o → o ≡ None
add_zero given cs now None free e = refl
add_zero given cs now (Some c) free e = let l = at-bounded (numbered given cs) now 0 c free e in absurd (omega (arith, l.0))

no_zero_for : (a : Action) (view : List Seen) (rows base records : List Record) (gone_counts : Bool) (given : List ℕ) (ch : Choice) (now : List Record)
    → ch ≡ choice_for a (sides_of view rows base gone_counts) → AreIds (ids_of records) → ((i : ℕ) → view_held view i ≡ held records i)
    → AreFree (numbered given ch.adds) now → row_under ch given 0 ≡ None
no_zero_for a view rows base records gone_counts given ch now is ids shows free =
    grind (
      arith,
      kept_zero a (sides_of view rows base gone_counts) refl (shows 0 ∙ ap held_where (first-zero records ids)),
      add_zero given ch.adds now (at 0 (numbered given ch.adds)) free refl,
    )

-- two sessions, both read slow, by whichever sides: the second chooses the rows of the first, and archives and adds nothing
pub choice-again_for : (a then_a : Action) (rows base records : List Record) (gone_counts then_counts : Bool) (given : List ℕ) → AreIds (ids_of records)
    → AreBounded records
    → (ch : Choice) → ch ≡ choice_for a (sides_of (slow_view records) rows base gone_counts) → GotFreeIds ch (view_held (slow_view records)) given records
    → choice_for then_a (sides_of (slow_view (after (whole ch (view_held (slow_view records)) given) records)) (merged_rows ch given)
    (merged_base ch (view_held (slow_view records)) given) then_counts)
    ≡ record { keep = row_under ch given; archive = []; adds = [] }
choice-again_for a then_a rows base records gone_counts then_counts given ids bounded ch is free =
    let h = view_held (slow_view records) in
    let then_records = after (whole ch h given) records in
    choice-merged_for then_a ch h given records (slow_view then_records) then_counts (differ-ids records ids) bounded (slow_shows records bounded) free
    (no_zero_for a (slow_view records) rows base records gone_counts given ch (after (replaces (replaced_rows ch.keep h)) records) is ids
    (slow_shows records bounded) free)
    (slow_shows then_records (bounded-after ch h given records (differ-ids records ids) bounded free))
