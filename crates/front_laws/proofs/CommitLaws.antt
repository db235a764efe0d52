-- The session after one that stopped behind the desktop's commit ends as that one would have.
use Rattle.std.proofs.lemmas.Grind.{common_steps}
use Rattle.std.proofs.Common.{◌≡◌, ℕ, ◌==◌, List, [], ◌∷◌, ◌++◌, refl, ap, ◌∙◌, sym, subst, arith, true, false, Bool, Option, Some, None, map, if◌then◌else◌}
use Rattle.std.proofs.Common.{nat_lt}
use Rattle.std.specs.Option.{option_or}
use Rattle.std.proofs.lemmas.Bool.Decides.{nat_tests}
use Rattle.pdb_values.specs.Contents.{ContentValue}
use Rattle.pdb_values.specs.declared.record.Record.{Record}
use Rattle.conduit_rules.specs.ById.{id_bound, with_id, at}
use Rattle.conduit_rules.specs.Choices.{Choice, Sides, choice_for, sides_of, row_of}
use Rattle.conduit_rules.specs.News.{live_contents, archived_records}
use Rattle.conduit_rules.specs.Plans.{replacement, lost, replaced_rows, gone_rows}
use Rattle.conduit_rules.specs.States.{SideState, nothing, live, live_of, archived_of, content_of, held, held_where, BaseState, no_base, base_at}
use Rattle.conduit_rules.specs.Views.{view_held}
use Rattle.conduit_rules.specs.declared.action.Action.{Action}
use Rattle.conduit_rules.specs.declared.action.Action.TheVariants.{Sync, Handheld, Desktop, Both}
use Rattle.conduit_rules.specs.declared.view.Seen.{Seen}
use Rattle.conduit_rules.proofs.ActionLaws.{desktop-is}
use Rattle.conduit_rules.proofs.AgreedLaws.{RowsDiffer}
use Rattle.conduit_rules.proofs.BoundLaws.{live_or}
use Rattle.conduit_rules.proofs.ByIdLaws.{each_below-none, each_below-same}
use Rattle.conduit_rules.proofs.ContentLaws.{same_content-same}
use Rattle.conduit_rules.proofs.PlanLaws.{at-each_below}
use Rattle.conduit_rules.proofs.SettledLaws.{IsSettled, choice-settled}
use Rattle.record_merge.specs.Merging.{row_at, row_under, settled_record, merged_rows, merged_base, merged_records, merged_archive, one_copy_behind}
use Rattle.record_merge.specs.Merging.{is_held_live, AreBounded}
use Rattle.record_merge.specs.Writes.{Write, after, numbered, replaces, adding, giving, clearing, whole, AreFree, GotFreeIds}
use Rattle.record_merge.proofs.AfterLaws.{finished, after-append, after-clearing}
use Rattle.record_merge.proofs.AgainLaws.{choice-merged_for, kept_zero}
use Rattle.record_merge.proofs.HeldLaws.{held-rows, at-bounded}
use Rattle.record_merge.proofs.PutLaws.{differ-ids}
use Rattle.record_merge.proofs.ShownLaws.{bounded-none, live_held, are-shown}
use Rattle.record_merge.proofs.SettledLaws.{based-merged, based_two, at_zero, none_loose, first-zero}
use Rattle.front_laws.specs.Repeats.{Finding, IsRead, EndAlike, ended, sides, chosen, shown, GotIds, clearing_done, left_behind_commit, left_at_end}
use Rattle.front_laws.proofs.ClearLaws.{AreClearing, clearing-take, Fits, AllFit, fits-after, with_rows, rows-after, finished-rows}
use Rattle.front_laws.proofs.GivenLaws.{FitsGiven, given-is, bounded-given, differ-given, purges-given, clearing-given}
use Rattle.front_laws.proofs.NewsLaws.{whole-is, ended_by}
use Rattle.record_merge.proofs.BothLaws.{no_contents}

-- ---- what the next session chooses

abbrev pub kept_alone : (ℕ → Option ContentValue) → Choice
kept_alone keep = record { keep = keep; archive = []; adds = [] }

settled : (zero g : Bool) (k o : Option ContentValue) (h now : SideState) {d : SideState} → (zero ≡ true → k ≡ None) → (zero ≡ true → now ≡ nothing)
    → Fits k h now → d ≡ live_or k → (k ≡ None → content_of h ≡ o) → (g ≡ false → now ≡ live_or k)
    → IsSettled k (if zero then no_base else based_two g k o) now d
settled zero g k o h now none bare fits is lost_is done = grind arith

lost_by : (b : Bool) (k a : Option ContentValue) (h : SideState) → (b ≡ false → h ≡ nothing) → (if b then option_or k a else None) ≡ None
    → content_of h ≡ (if b then lost k h else None)
lost_by b k a h bare none = grind arith

zero_bare : (now : ℕ → SideState) (i : ℕ) → now 0 ≡ nothing → (i == 0) ≡ true → now i ≡ nothing
zero_bare now i bare is = let same : i ≡ 0 = grind (arith, nat_tests, is) in ap now same ∙ bare

zero_by : (b : Bool) {k o : Option ContentValue} → k ≡ None → o ≡ None → (if b then option_or k o else None) ≡ None
zero_by b none too = grind arith

add_zero : (es : List (ℕ × ContentValue)) (now : List Record) (o : Option ContentValue) → AreFree es now → at 0 es ≡ o → o ≡ None
add_zero es now None free e = refl
add_zero es now (Some c) free e = let l = at-bounded es now 0 c free e in absurd (omega (arith, l.0))

pub no_zero : (a : Action) {x : Finding} (given : List ℕ) → IsRead x → GotIds a x given → row_under (chosen a x) given 0 ≡ None
no_zero a {x} given read got =
    zero_by (nat_lt 0 id_bound) (kept_zero a (sides x) refl (read.shows 0 ∙ ap held_where (first-zero x.records read.ids)))
    (add_zero (numbered given (chosen a x).adds) (after (replaces (replaced_rows (chosen a x).keep (shown x))) x.records)
    (at 0 (numbered given (chosen a x).adds)) got refl)

-- what is needed of the first session and of what the next one finds
record Behind (ch : Choice) (h : ℕ → SideState) (given : List ℕ) (view : List Seen) (g : Bool) : Type 0 where
  pub none : row_under ch given 0 ≡ None
  pub bare : view_held view 0 ≡ nothing
  pub over : (i : ℕ) → nat_lt i id_bound ≡ false → h i ≡ nothing
  pub fits : (i : ℕ) → Fits (row_under ch given i) (h i) (view_held view i)
  pub done : (i : ℕ) → g ≡ false → view_held view i ≡ live_or (row_under ch given i)

abbrev next_sides : Choice → (ℕ → SideState) → List ℕ → List Seen → Bool → Sides
next_sides ch h given view g = sides_of view (merged_rows ch given) (merged_base ch h given) g

all-settled : {ch : Choice} (h : ℕ → SideState) {given : List ℕ} {view : List Seen} (g : Bool) → Behind ch h given view g → (i : ℕ)
    → IsSettled (row_under ch given i) ((next_sides ch h given view g).base i) (view_held view i) (held (merged_rows ch given) i)
all-settled {ch} h {given} {view} g b i =
    subst (λ x. IsSettled (row_under ch given i) x (view_held view i) (held (merged_rows ch given) i)) (sym (based-merged ch h given g i))
    (settled (i == 0) g (row_under ch given i) (at i (gone_rows ch.keep h)) (h i) (view_held view i)
    (at_zero ch given i b.none) (zero_bare (view_held view) i b.bare) (b.fits i) (held-rows ch given i)
    (λ none. lost_by (nat_lt i id_bound) (ch.keep i) (at i (numbered given ch.adds)) (h i) (b.over i) none
    ∙ sym (at-each_below (λ j. lost (ch.keep j) (h j)) id_bound i))
    (b.done i))

sync-behind : (ch : Choice) (h : ℕ → SideState) {given : List ℕ} (view : List Seen) (g : Bool) → Behind ch h given view g
    → choice_for Sync (next_sides ch h given view g) ≡ kept_alone (row_under ch given)
sync-behind ch h {given} view g b =
    choice-settled (next_sides ch h given view g) (row_under ch given) (all-settled h g b) (ap live_contents (none_loose ch h given b.none))
    (ap archived_records (none_loose ch h given b.none))

desktop_row : (k : Option ContentValue) (b : BaseState) (now d : SideState) → IsSettled k b now d → row_of b d ≡ live_or k
desktop_row k b now d is = grind arith

live_or_is : (k : Option ContentValue) → live_of (live_or k) ≡ k
live_or_is k = grind arith

none_archived : (k : Option ContentValue) → archived_of (live_or k) ≡ None
none_archived k = grind arith

desktop-behind : (ch : Choice) (h : ℕ → SideState) {given : List ℕ} (view : List Seen) (g : Bool) → Behind ch h given view g
    → choice_for Desktop (next_sides ch h given view g) ≡ kept_alone (row_under ch given)
desktop-behind ch h {given} view g b =
    let t = next_sides ch h given view g in
    let rows : (i : ℕ) → row_of (t.base i) (t.desktop i) ≡ live_or (row_under ch given i) =
    λ i. desktop_row (row_under ch given i) (t.base i) (view_held view i) (t.desktop i) (all-settled h g b i) in
    let put_away = each_below-none (λ i. with_id i (archived_of (row_of (t.base i) (t.desktop i)))) id_bound
    (λ i. ap (λ x. with_id i (archived_of x)) (rows i) ∙ ap (with_id i) (none_archived (row_under ch given i))) in
    let no_archived : t.loose_archived ≡ [] = ap archived_records (none_loose ch h given b.none) in
    let no_live : t.loose_live ≡ [] = ap live_contents (none_loose ch h given b.none) in
    desktop-is t ∙ (λ k. record {
      keep = λ i. (ap live_of (rows i) ∙ live_or_is (row_under ch given i)) k;
      archive = map (λ c. (0, c)) (no_archived k) ++ put_away k;
      adds = no_live k;
    })

-- ---- how it ends

row_alone : (keep : ℕ → Option ContentValue) (later : List ℕ) (i : ℕ) → row_at (kept_alone keep) later i ≡ keep i
row_alone keep later i = grind (arith, no_contents later)

pub within_bound : (b : Bool) (o : Option ContentValue) → b ≡ true → (if b then o else None) ≡ o
within_bound b o is = grind arith

pub rows-again : (ch : Choice) (given later : List ℕ) → merged_rows (kept_alone (row_under ch given)) later ≡ merged_rows ch given
rows-again ch given later =
    ap (map settled_record) (each_below-same (λ i. with_id i (row_at (kept_alone (row_under ch given)) later i)) (λ i. with_id i (row_at ch given i)) id_bound
    (λ i l. ap (with_id i) (row_alone (row_under ch given) later i ∙ within_bound (nat_lt i id_bound) (row_at ch given i) (grind (arith, nat_tests, l)))))

pub copies-again : (earlier es : List (ℕ × ContentValue)) → one_copy_behind earlier (one_copy_behind earlier es) ≡ one_copy_behind earlier es
copies-again earlier [] = refl
copies-again earlier (e ∷ es) = grind (arith, copies-again earlier es, copies-again (e ∷ earlier) es)

archive-again : (ch : Choice) (keep : ℕ → Option ContentValue) (old : List (ℕ × ContentValue))
    → merged_archive (kept_alone keep) (merged_archive ch old) ≡ merged_archive ch old
archive-again ch keep old = grind (arith, nat_tests, common_steps, copies-again [] (old ++ ch.archive))

based_again : (b : Bool) {k : Option ContentValue} (o p : Option ContentValue) {k1 : Option ContentValue} → k1 ≡ k
    → (if b then no_base else based_two false k1 o) ≡ (if b then no_base else based_two false k p)
based_again b o p same = grind arith

under_again : (b : Bool) (o : Option ContentValue) {k : Option ContentValue} → k ≡ (if b then o else None)
    → (if b then k else None) ≡ (if b then o else None)
under_again b o is = grind arith

pub base-again : (ch : Choice) (h h1 : ℕ → SideState) (given later : List ℕ) (i : ℕ)
    → base_at (merged_base (kept_alone (row_under ch given)) h1 later) false i ≡ base_at (merged_base ch h given) false i
base-again ch h h1 given later i =
    based-merged (kept_alone (row_under ch given)) h1 later false i
    ∙ based_again (i == 0) (at i (gone_rows (row_under ch given) h1)) (at i (gone_rows ch.keep h))
    (under_again (nat_lt i id_bound) (row_at ch given i) (row_alone (row_under ch given) later i))
    ∙ sym (based-merged ch h given false i)

kept_replacement : (k : Option ContentValue) (h now : SideState) → Fits k h now → replacement k now ≡ None
kept_replacement None h now fits = refl
kept_replacement (Some c) h now fits = ap (replacement (Some c)) fits ∙ again
  where
    again : replacement (Some c) (live c) ≡ None
    again = grind (arith, same_content-same c)

-- nothing is given then
giving-none : (keep : ℕ → Option ContentValue) (h now : ℕ → SideState) (later : List ℕ) → ((i : ℕ) → Fits (keep i) (h i) (now i))
    → giving (kept_alone keep) now later ≡ []
giving-none keep h now later fits =
    ap {A = List (ℕ × ContentValue) × List (ℕ × ContentValue)} (λ p. replaces p.0 ++ adding p.1)
    (λ k. (
      each_below-none (λ i. with_id i (replacement (keep i) (now i))) id_bound
          (λ i. ap (with_id i) (kept_replacement (keep i) (h i) (now i) (fits i))) k,
      no_contents later k,
    ))

-- the rest of the purges leaves what all of them would have left
pub records-again : (ch : Choice) (h : ℕ → SideState) (given : List ℕ) (records : List Record) (ws : List Write) (now : ℕ → SideState) (later : List ℕ)
    → RowsDiffer records → AreBounded records → ((i : ℕ) → h i ≡ held records i) → GotFreeIds ch h given records → AreClearing (row_under ch given) ws
    → RowsDiffer (after (giving ch h given ++ ws) records) → AreBounded (after (giving ch h given ++ ws) records)
    → ((i : ℕ) → now i ≡ held (after (giving ch h given ++ ws) records) i) → ((i : ℕ) → Fits (row_under ch given i) (h i) (now i))
    → merged_records (kept_alone (row_under ch given)) now later (after (giving ch h given ++ ws) records) ≡ merged_records ch h given records
records-again ch h given records ws now later differ bounded shows free are then_differ then_bounded then_shows fits =
    let keep = row_under ch given in
    let x = after (giving ch h given) records in
    let z = after (giving ch h given ++ ws) records in
    let x_differ = differ-given ch h given records differ in
    let x_bounded = bounded-given ch h given records bounded free in
    let x_shown = are-shown (held x) x x_differ x_bounded (λ i r e. ap is_held_live (ap held_where e) ∙ live_held r) in
    let z_shown = are-shown now z then_differ then_bounded (λ i r e. ap is_held_live (then_shows i ∙ ap held_where e) ∙ live_held r) in
    let none_free : GotFreeIds (kept_alone keep) now later z =
    subst (λ es. AreFree es (after (replaces (replaced_rows keep now)) z)) (sym (no_contents later)) tt in
    sym (whole-is (kept_alone keep) now later z then_differ then_bounded then_shows none_free)
    ∙ ap (λ vs. after (vs ++ clearing (kept_alone keep) now) z) (giving-none keep h now later fits)
    ∙ after-clearing (kept_alone keep) now z then_differ
    ∙ finished-rows keep now z z_shown
    ∙ ap (with_rows keep) (after-append (giving ch h given) ws records)
    ∙ rows-after keep ws x are
    ∙ sym (finished-rows keep (held x) x x_shown)
    ∙ ap (λ is. finished is x) (sym (purges-given ch h given records bounded shows free))
    ∙ sym (after-clearing ch h x x_differ)
    ∙ sym (after-append (giving ch h given) (clearing ch h) records)
    ∙ whole-is ch h given records differ bounded shows free

-- ---- the two places

-- the next session of both sides and their base, or of one that goes by the desktop
abbrev pub LooksAtRows : Action → Type 0
LooksAtRows Sync = Unit {0}
LooksAtRows Handheld = ⊥
LooksAtRows Desktop = Unit {0}
LooksAtRows Both = ⊥

chosen-behind : (a : Action) (ch : Choice) {h : ℕ → SideState} {given : List ℕ} {view : List Seen} (g : Bool) → LooksAtRows a → Behind ch h given view g
    → choice_for a (next_sides ch h given view g) ≡ kept_alone (row_under ch given)
chosen-behind Sync ch {h} {view} g looks b = sync-behind ch h view g b
chosen-behind Handheld ch g looks b = absurd looks
chosen-behind Desktop ch {h} {view} g looks b = desktop-behind ch h view g b
chosen-behind Both ch g looks b = absurd looks

ends-alike : (ch : Choice) (h : ℕ → SideState) (given : List ℕ) (records : List Record) (archive : List (ℕ × ContentValue)) {c1 : Choice} (now : ℕ → SideState)
    (later : List ℕ) (z : List Record)
    → c1 ≡ kept_alone (row_under ch given) → merged_records (kept_alone (row_under ch given)) now later z ≡ merged_records ch h given records
    → EndAlike (ended_by c1 now later z (merged_archive ch archive)) (ended_by ch h given records archive)
ends-alike ch h given records archive now later z is same =
    grind (arith, rows-again ch given later, base-again ch h now given later, archive-again ch (row_under ch given) archive)

fit_given : (k : Option ContentValue) (h now : SideState) → FitsGiven k h now → Fits k h now
fit_given k h now is = grind arith

pub over_bound : (x : Finding) → IsRead x → (i : ℕ) → nat_lt i id_bound ≡ false → shown x i ≡ nothing
over_bound x read i over = read.shows i ∙ ap held_where (bounded-none x.records i read.bounded over)

-- what was done of the purges leaves each row live, and no other content than was there
pub fits-behind : (a : Action) {x : Finding} (given : List ℕ) (ws : List Write) → IsRead x → GotIds a x given
    → AreClearing (row_under (chosen a x) given) ws
    → AllFit (row_under (chosen a x) given) (shown x) (after (giving (chosen a x) (shown x) given ++ ws) x.records)
fits-behind a {x} given ws read got are =
    let ch = chosen a x in
    let now = after (giving ch (shown x) given) x.records in
    subst (AllFit (row_under ch given) (shown x)) (sym (after-append (giving ch (shown x) given) ws x.records))
    (fits-after (row_under ch given) (shown x) ws now are (differ-given ch (shown x) given x.records (differ-ids x.records read.ids))
    (λ i. fit_given (row_under ch given i) (shown x i) (held now i) (given-is ch (shown x) given x.records read.bounded read.shows got i).0))

module _ (a : Action) (x : Finding) (given : List ℕ) (n : ℕ) (looks : LooksAtRows a) (read : IsRead x) (got : GotIds a x given)
    (then_read : IsRead (left_behind_commit a x given n)) where
  pub chosen-commit : (chosen a (left_behind_commit a x given n) ≡ kept_alone (row_under (chosen a x) given)) ×
      ((i : ℕ) → Fits (row_under (chosen a x) given i) (shown x i) (shown (left_behind_commit a x given n) i))
  chosen-commit =
      let ch = chosen a x in
      let y = left_behind_commit a x given n in
      let ws = clearing_done a x n in
      let are = clearing-take (row_under ch given) n (clearing ch (shown x)) (clearing-given ch (shown x) given x.records read.bounded read.shows got) in
      let fits : (i : ℕ) → Fits (row_under ch given i) (shown x i) (shown y i) =
      λ i. subst (Fits (row_under ch given i) (shown x i)) (sym (then_read.shows i)) (fits-behind a given ws read got are i) in
      let b : Behind ch (shown x) given y.view true = record {
        none = no_zero a given read got;
        bare = then_read.shows 0 ∙ ap held_where (first-zero y.records then_read.ids);
        over = over_bound x read;
        fits = fits;
        done = λ i e. absurd (cc);
      } in
      (chosen-behind a ch true looks b, fits)

  pub behind-commit : (later : List ℕ) → EndAlike (ended a (left_behind_commit a x given n) later) (ended a x given)
  behind-commit later =
      let ch = chosen a x in
      let y = left_behind_commit a x given n in
      let ws = clearing_done a x n in
      let are = clearing-take (row_under ch given) n (clearing ch (shown x)) (clearing-given ch (shown x) given x.records read.bounded read.shows got) in
      let next = chosen-commit in
      ends-alike ch (shown x) given x.records x.archive (shown y) later y.records next.0
      (records-again ch (shown x) given x.records ws (shown y) later (differ-ids x.records read.ids) read.bounded read.shows got are
      (differ-ids y.records then_read.ids) then_read.bounded then_read.shows next.1)

  -- nothing is added then
  pub commit-adds : (chosen a (left_behind_commit a x given n)).adds ≡ []
  commit-adds = ap (λ c. Choice.adds c) (chosen-commit).0

-- what is merged on both sides is kept, and nothing else
pub chosen-end : (a : Action) (x : Finding) (given : List ℕ) (view : List Seen) (g : Bool) → IsRead x → GotIds a x given
    → IsRead (left_at_end a x given view g) → chosen a (left_at_end a x given view g) ≡ kept_alone (row_under (chosen a x) given)
chosen-end a x given view g read got then_read =
    let ch = chosen a x in
    let differ = differ-ids x.records read.ids in
    let all = whole-is ch (shown x) given x.records differ read.bounded read.shows got in
    choice-merged_for a ch (shown x) given x.records view g differ read.bounded read.shows got (no_zero a given read got)
    (λ i. then_read.shows i ∙ ap (λ rs. held rs i) (sym all))

pub end-adds : (a : Action) (x : Finding) (given : List ℕ) (view : List Seen) (g : Bool) → IsRead x → GotIds a x given
    → IsRead (left_at_end a x given view g) → (chosen a (left_at_end a x given view g)).adds ≡ []
end-adds a x given view g read got then_read = ap (λ c. Choice.adds c) (chosen-end a x given view g read got then_read)

-- how that ends, whichever way it is read then
pub at-end : (a : Action) (x : Finding) (given later : List ℕ) (view : List Seen) (g : Bool) → IsRead x → GotIds a x given
    → IsRead (left_at_end a x given view g) → EndAlike (ended a (left_at_end a x given view g) later) (ended a x given)
at-end a x given later view g read got then_read =
    let ch = chosen a x in
    let y = left_at_end a x given view g in
    let differ = differ-ids x.records read.ids in
    let are = clearing-given ch (shown x) given x.records read.bounded read.shows got in
    let all = whole-is ch (shown x) given x.records differ read.bounded read.shows got in
    let shows : (i : ℕ) → view_held view i ≡ held (after (whole ch (shown x) given) x.records) i = λ i. then_read.shows i ∙ ap (λ rs. held rs i) (sym all) in
    let fits : (i : ℕ) → Fits (row_under ch given i) (shown x i) (view_held view i) =
    λ i. subst (Fits (row_under ch given i) (shown x i)) (sym (shows i)) (fits-behind a given (clearing ch (shown x)) read got are i) in
    ends-alike ch (shown x) given x.records x.archive (shown y) later y.records
    (choice-merged_for a ch (shown x) given x.records view g differ read.bounded read.shows got (no_zero a given read got) shows)
    (ap (merged_records (kept_alone (row_under ch given)) (view_held view) later) (sym all)
    ∙ records-again ch (shown x) given x.records (clearing ch (shown x)) (view_held view) later differ read.bounded read.shows got are
    (subst RowsDiffer (sym all) (differ-ids y.records then_read.ids)) (subst AreBounded (sym all) then_read.bounded) shows fits)

-- what the handheld held doesn't matter to the base rows that aren't gone
pub base-alike : (ch : Choice) (h h1 : ℕ → SideState) (given : List ℕ) (i : ℕ)
    → base_at (merged_base ch h given) false i ≡ base_at (merged_base ch h1 given) false i
base-alike ch h h1 given i =
    based-merged ch h given false i
    ∙ based_again (i == 0) {k = row_under ch given i} (at i (gone_rows ch.keep h)) (at i (gone_rows ch.keep h1)) {k1 = row_under ch given i} refl
    ∙ sym (based-merged ch h1 given false i)
