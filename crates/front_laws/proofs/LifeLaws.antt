-- A life loses nothing: each event leaves what nobody lets go.
use Rattle.std.proofs.lemmas.Bool.{or_cases, or_left, or_right}
use Rattle.std.proofs.Common.{◌≡◌, ⊎_elim, ℕ, ◌||◌, List, [], ◌∷◌, ap, ◌∙◌, true, Some}
use Rattle.pdb_values.specs.Contents.{ContentValue}
use Rattle.pdb_values.specs.declared.record.Record.{Record}
use Rattle.conduit_rules.specs.Choices.{contents_of}
use Rattle.conduit_rules.specs.Fates.{desktop_fate, stands}
use Rattle.conduit_rules.specs.News.{loose}
use Rattle.conduit_rules.specs.States.{base_at, content_of, gone, has_row, held, live, live_of}
use Rattle.conduit_rules.specs.declared.action.Action.{Action}
use Rattle.conduit_rules.specs.declared.action.Action.TheVariants.{Sync, Handheld, Desktop, Both}
use Rattle.record_merge.proofs.PutLaws.{differ-ids}
use Rattle.front_laws.specs.Repeats.{Ending, Finding, GotAllIds, GotIds, Place, chosen, ended, left, left_among_news, left_behind_commit, sides}
use Rattle.front_laws.specs.Repeats.{before_mark, among_news, behind_commit, at_end}
use Rattle.front_laws.specs.Lives.{AllCanHappen, AllLetBe, CanHappen, Event, GotIdsUpTo, IsFound, IsInPlace, IsLife, EventLetsBe, SessionLetsBe}
use Rattle.front_laws.specs.Lives.{WasLetGoOnHandheld}
use Rattle.front_laws.specs.Lives.{after_event, after_events, desktop_edit, finding, handheld_edit, is_live_in, is_there, session, standing, was_there}
use Rattle.front_laws.proofs.ChosenLaws.{IsChosen, kept, loose-chosen, old-archived, row-live_in}
use Rattle.front_laws.proofs.LetGoLaws.{below-bound, chosen-rows, has_row-is, live-chosen, row-either}
use Rattle.front_laws.proofs.InPlaceLaws.{keeps-it, live-news, live-row, row-below, row-kept, session-place, spares-commit, spares-end, sync-kept}
use Rattle.front_laws.proofs.InPlaceLaws.{sync-no_other}
use Rattle.front_laws.proofs.StandLaws.{IsUnder, held-live_in, live_in-held, loose-or}

-- ---- behind the desktop's commit

-- a content is a row of the merge, or archived
abbrev IsAtEnd : ContentValue → Ending → Type 0
IsAtEnd c e = (is_live_in c e.rows || stands c (contents_of e.archive)) ≡ true

at-end_there : (c : ContentValue) (e : Ending) → IsAtEnd c e → is_there c e ≡ true
at-end_there c e is = or_right (is_live_in c e.records) (is_live_in c e.rows || stands c (contents_of e.archive)) is

row-ends : (c : ContentValue) (e : Ending) → is_live_in c e.rows ≡ true → IsAtEnd c e
row-ends c e is = or_left (is_live_in c e.rows) (stands c (contents_of e.archive)) is

-- a live content of the handheld
sync-held : (x : Finding) (c : ContentValue) → IsFound x → IsInPlace c (standing x) → (i : ℕ) → held x.records i ≡ live c → IsChosen (chosen Sync x) c
sync-held x c found place i is =
    ⊎_elim (λ (there : (chosen Sync x).keep i ≡ Some c). kept i (below-bound c x.records i found.read.bounded is) there)
    (λ (was : base_at x.base true i ≡ gone c).
    let other = place.gone_rows i was in
    kept other.0 (row-below Sync x c found place other.0 other.1) (row-kept Sync x c found place other.0 other.1))
    (sync-kept x c found place i is)

held-ends : (a : Action) (x : Finding) (given : List ℕ) (c : ContentValue) → IsFound x → GotAllIds a x given → IsInPlace c (standing x)
    → SessionLetsBe c a x (behind_commit given 0) → is_live_in c x.records ≡ true → IsAtEnd c (ended a x given)
held-ends Sync x given c found got place spares is =
    let under = live_in-held c x.records (differ-ids x.records found.read.ids) is in
    chosen-rows Sync x given c found got (sync-held x c found place under.0 under.1)
held-ends Handheld x given c found got place spares is =
    let under = live_in-held c x.records (differ-ids x.records found.read.ids) is in
    chosen-rows Handheld x given c found got
    (kept under.0 (below-bound c x.records under.0 found.read.bounded under.1) (ap live_of (found.read.shows under.0 ∙ under.1)))
held-ends Desktop x given c found got place spares is =
    let under = live-row Desktop x given found.read got.got c (spares is) in
    row-ends c (ended Desktop x given) (row-live_in (chosen Desktop x) given x.archive c under.0 under.1)
held-ends Both x given c found got place spares is =
    let under = live_in-held c x.records (differ-ids x.records found.read.ids) is in
    chosen-rows Both x given c found got
    (kept under.0 (below-bound c x.records under.0 found.read.bounded under.1) (ap live_of (found.read.shows under.0 ∙ under.1)))

-- a live content of the desktop
sync-row : (x : Finding) (c : ContentValue) → IsFound x → IsInPlace c (standing x) → is_live_in c x.rows ≡ true → IsChosen (chosen Sync x) c
sync-row x c found place is =
    ⊎_elim (λ (there : IsChosen (chosen Sync x) c). there) (λ (went : (i : ℕ) × WasLetGoOnHandheld c x i).
    let both = place.rows went.0 (row-either x.base went.0 x.gone_counts true c went.1.base) in
    absurd (went.1.handheld (ap content_of both.0))) (live-chosen x c found is)

desktop-row : (x : Finding) (c : ContentValue) → IsFound x → is_live_in c x.rows ≡ true → IsChosen (chosen Desktop x) c
desktop-row x c found is =
    ⊎_elim (λ (free : is_live_in c (loose (has_row x.base) x.rows) ≡ true). loose-chosen Desktop (sides x) c free)
    (λ (under : (i : ℕ) × IsUnder c (has_row x.base) x.rows i).
    let i = under.0 in
    let counted = has_row-is x.base i x.gone_counts under.1.based in
    kept i (below-bound c x.rows i found.rows under.1.live) (λ k. (desktop_fate (counted.1 k) (under.1.live k)).keep))
    (loose-or c (has_row x.base) x.rows is)

rows-end : (a : Action) (x : Finding) (given : List ℕ) (c : ContentValue) → IsFound x → GotAllIds a x given → IsInPlace c (standing x)
    → SessionLetsBe c a x (behind_commit given 0) → is_live_in c x.rows ≡ true → IsAtEnd c (ended a x given)
rows-end Sync x given c found got place spares is = chosen-rows Sync x given c found got (sync-row x c found place is)
rows-end Handheld x given c found got place spares is = row-ends c (ended Handheld x given) (spares is)
rows-end Desktop x given c found got place spares is = chosen-rows Desktop x given c found got (desktop-row x c found is)
rows-end Both x given c found got place spares is = chosen-rows Both x given c found got (loose-chosen Both (sides x) c is)

module _ (a : Action) (x : Finding) (given : List ℕ) (c : ContentValue) (found : IsFound x) (got : GotAllIds a x given) (place : IsInPlace c (standing x))
    (spares : SessionLetsBe c a x (behind_commit given 0)) where
  there-ends : is_there c (standing x) ≡ true → IsAtEnd c (ended a x given)
  there-ends is =
      ⊎_elim (λ (here : is_live_in c x.records ≡ true). held-ends a x given c found got place spares here)
      (λ (other : (is_live_in c x.rows || stands c (contents_of x.archive)) ≡ true).
      ⊎_elim (λ (here : is_live_in c x.rows ≡ true). rows-end a x given c found got place spares here)
      (λ (away : stands c (contents_of x.archive) ≡ true).
      or_right (is_live_in c (ended a x given).rows) (stands c (contents_of (ended a x given).archive)) (old-archived (chosen a x) given x.archive c away))
      (or_cases (is_live_in c x.rows) (stands c (contents_of x.archive)) other))
      (or_cases (is_live_in c x.records) (is_live_in c x.rows || stands c (contents_of x.archive)) is)

-- ---- among the news

-- a live content of the handheld stays
held-stays : (a : Action) (x : Finding) (given : List ℕ) (n : ℕ) (c : ContentValue) → IsFound x → GotIds a x given → IsInPlace c (standing x)
    → SessionLetsBe c a x (among_news given n) → is_live_in c x.records ≡ true → is_live_in c (left_among_news a x given n).records ≡ true
held-stays Sync x given n c found got place spares is =
    let under = live_in-held c x.records (differ-ids x.records found.read.ids) is in
    held-live_in c (left_among_news Sync x given n).records under.0
    (live-news Sync x given n c found got under.0 (sync-no_other x c found place under.0 under.1) under.1)
held-stays Handheld x given n c found got place spares is =
    let under = live_in-held c x.records (differ-ids x.records found.read.ids) is in
    held-live_in c (left_among_news Handheld x given n).records under.0
    (live-news Handheld x given n c found got under.0
    (keeps-it ((chosen Handheld x).keep under.0) c (ap live_of (found.read.shows under.0 ∙ under.1))) under.1)
held-stays Desktop x given n c found got place spares is = spares is
held-stays Both x given n c found got place spares is =
    let under = live_in-held c x.records (differ-ids x.records found.read.ids) is in
    held-live_in c (left_among_news Both x given n).records under.0
    (live-news Both x given n c found got under.0
    (keeps-it ((chosen Both x).keep under.0) c (ap live_of (found.read.shows under.0 ∙ under.1))) under.1)

-- where other records have what is live, it is still there
records-there : (c : ContentValue) (e : Ending) (records : List Record) → (is_live_in c e.records ≡ true → is_live_in c records ≡ true)
    → is_there c e ≡ true → is_there c (record e { records = records }) ≡ true
records-there c e records stays is =
    let rest = is_live_in c e.rows || stands c (contents_of e.archive) in
    ⊎_elim (λ (here : is_live_in c e.records ≡ true). or_left (is_live_in c records) rest (stays here))
    (λ (other : rest ≡ true). or_right (is_live_in c records) rest other) (or_cases (is_live_in c e.records) rest is)

rows-there : (c : ContentValue) (e : Ending) (rows : List Record) → (is_live_in c e.rows ≡ true → is_live_in c rows ≡ true)
    → is_there c e ≡ true → is_there c (record e { rows = rows }) ≡ true
rows-there c e rows stays is =
    let archive = stands c (contents_of e.archive) in
    ⊎_elim (λ (here : is_live_in c e.records ≡ true). or_left (is_live_in c e.records) (is_live_in c rows || archive) here)
    (λ (other : (is_live_in c e.rows || archive) ≡ true).
    or_right (is_live_in c e.records) (is_live_in c rows || archive)
    (⊎_elim (λ (there : is_live_in c e.rows ≡ true). or_left (is_live_in c rows) archive (stays there))
    (λ (away : archive ≡ true). or_right (is_live_in c rows) archive away) (or_cases (is_live_in c e.rows) archive other)))
    (or_cases (is_live_in c e.records) (is_live_in c e.rows || archive) is)

-- ---- one event

pub session-there : (a : Action) (x : Finding) (stop : Place) (c : ContentValue) → IsFound x → GotIdsUpTo a x stop → SessionLetsBe c a x stop
    → IsInPlace c (standing x) → is_there c (standing x) ≡ true → is_there c (standing (left a x stop)) ≡ true
session-there a x before_mark c found got spares place is = is
session-there a x (among_news given n) c found got spares place is =
    records-there c (standing x) (left_among_news a x given n).records (held-stays a x given n c found got place spares) is
session-there a x (behind_commit given n) c found got spares place is =
    at-end_there c (standing (left_behind_commit a x given n)) (there-ends a x given c found got place (spares-commit a x given n c spares) is)
session-there a x (at_end given view g) c found got spares place is =
    at-end_there c (ended a x given) (there-ends a x given c found got place (spares-end a x given view g c spares) is)

pub event-there : (v : Event) (e : Ending) (c : ContentValue) → CanHappen v e → EventLetsBe c v e → IsInPlace c e → is_there c e ≡ true
    → is_there c (after_event v e) ≡ true
event-there (handheld_edit records) e c can spares place is = records-there c e records spares.lives is
event-there (desktop_edit rows) e c can spares place is = rows-there c e rows spares.lives is
event-there (session a view g stop) e c can spares place is = session-there a (finding e view g) stop c can.0 can.1 spares place is

pub event-place : (v : Event) (e : Ending) (c : ContentValue) → CanHappen v e → EventLetsBe c v e → IsInPlace c e → IsInPlace c (after_event v e)
event-place (handheld_edit records) e c can spares place = record {
  rows = λ i is. (spares.under_ids i (place.rows i is).0, (place.rows i is).1);
  gone_rows = place.gone_rows;
  unarchived = record { handheld = λ i is. place.unarchived.handheld i (spares.unarchived i is); desktop = place.unarchived.desktop };
}
event-place (desktop_edit rows) e c can spares place = record {
  rows = λ i is. ((place.rows i is).0, spares.under_ids i (place.rows i is).1);
  gone_rows = place.gone_rows;
  unarchived = record { handheld = place.unarchived.handheld; desktop = λ i is. place.unarchived.desktop i (spares.unarchived i is) };
}
event-place (session a view g stop) e c can spares place = session-place a (finding e view g) stop c can.0 can.1 spares place

-- ---- all of them

was-there : (c : ContentValue) (vs : List Event) (e : Ending) → is_there c e ≡ true → was_there c vs e ≡ true
was-there c [] e is = is
was-there c (v ∷ vs) e is = or_left (is_there c e) (was_there c vs (after_event v e)) is

still-there : (vs : List Event) (e : Ending) (c : ContentValue) → IsInPlace c e → AllCanHappen vs e → AllLetBe c vs e → was_there c vs e ≡ true
    → is_there c (after_events vs e) ≡ true
still-there [] e c place can spares is = is
still-there (v ∷ vs) e c place can spares is =
    still-there vs (after_event v e) c (event-place v e c can.0 spares.0 place) can.1 spares.1
    (⊎_elim (λ (here : is_there c e ≡ true). was-there c vs (after_event v e) (event-there v e c can.0 spares.0 place here))
    (λ (later : was_there c vs (after_event v e) ≡ true). later) (or_cases (is_there c e) (was_there c vs (after_event v e)) is))

pub life-there : (e : Ending) (events : List Event) (c : ContentValue) → IsLife c events e → was_there c events e ≡ true
    → is_there c (after_events events e) ≡ true
life-there e events c life is = still-there events e c life.begun life.can life.let_be is
