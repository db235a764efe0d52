-- The session after one that stopped among its replacements and adds ends at the merge under the ids of both.
use Rattle.std.proofs.Common.{◌≡◌, ℕ, ◌+◌, length, ◌==◌, List, [], ◌∷◌, ◌++◌, refl, ap, ◌∙◌, sym, subst, arith, true, false, Bool, Option, if◌then◌else◌}
use Rattle.std.proofs.Common.{drop, take-append-drop}
use Rattle.pdb_values.specs.Contents.{ContentValue}
use Rattle.pdb_values.specs.declared.record.Record.{Record}
use Rattle.conduit_rules.specs.Choices.{Choice, Sides, choice, sides_of}
use Rattle.conduit_rules.specs.States.{SideState, nothing, held, first, BaseState, no_base, based_where}
use Rattle.conduit_rules.specs.Views.{view_held, slow_view}
use Rattle.conduit_rules.specs.Writes.{given_to}
use Rattle.conduit_rules.specs.declared.action.Action.TheVariants.{Sync}
use Rattle.conduit_rules.specs.declared.view.Seen.{Seen}
use Rattle.conduit_rules.proofs.AgreedLaws.{RowsDiffer}
use Rattle.conduit_rules.proofs.SettledLaws.{choice-gone, without_gone, IfGone}
use Rattle.record_merge.specs.Merging.{merged_rows, merged_base, merged_records, merged_archive, AreBounded}
use Rattle.record_merge.specs.Stops.{sides_after, with_add, rest_of, AreOf}
use Rattle.record_merge.specs.Writes.{Write, replace, add, purge, clean_up, reset, after, giving, clearing, whole, GotFreeIds}
use Rattle.record_merge.proofs.AfterLaws.{after-all, after-append}
use Rattle.record_merge.proofs.PutLaws.{differ-ids}
use Rattle.record_merge.proofs.StopLaws.{sides-again, choice-after, of-take, writes-of, giving-of}
use Rattle.record_merge.proofs.ShownLaws.{are-shown}
use Rattle.front_laws.specs.Repeats.{Finding, IsRead, Ending, ended, chosen, shown, GotIds, news_done, given_by, left_among_news, NothingIfGone, NoneUnderGone}
use Rattle.front_laws.specs.Repeats.{StopsAmongNews}
use Rattle.front_laws.proofs.ResumeLaws.{Resumed, resume}

-- ---- gone rows that no record stands under

pub counted : (zero : Bool) (o : Option Record)
    → (if zero then no_base else based_where false o) ≡ without_gone (if zero then no_base else based_where true o)
counted zero o = grind arith

if_gone : (b : BaseState) {h k : SideState} → k ≡ h → NothingIfGone b h → IfGone b (k ≡ nothing)
if_gone b same free = grind arith

-- whether they count doesn't matter then
pub choice-counted : (view : List Seen) (rows base records : List Record) (gone_counts : Bool) → ((i : ℕ) → view_held view i ≡ held records i)
    → NoneUnderGone gone_counts base records → choice (sides_of view rows base gone_counts) ≡ choice (sides_of view rows base true)
choice-counted view rows base records true shows free = refl
choice-counted view rows base records false shows free =
    let s = sides_of view rows base true in
    let left_out : sides_of view rows base false ≡ record s { base = λ i. without_gone (s.base i) } = λ k. record {
      base = λ i. counted (i == 0) (first i base) k;
      handheld = s.handheld;
      desktop = s.desktop;
      loose_live = s.loose_live;
      loose_archived = s.loose_archived;
      all_live = s.all_live;
      all_archived = s.all_archived;
    } in
    ap choice left_out ∙ choice-gone s (λ i. if_gone (s.base i) (shows i) (free i))

-- ---- the writes make the merge

pub whole-is : (ch : Choice) (h : ℕ → SideState) (given : List ℕ) (records : List Record) → RowsDiffer records → AreBounded records
    → ((i : ℕ) → h i ≡ held records i) → GotFreeIds ch h given records → after (whole ch h given) records ≡ merged_records ch h given records
whole-is ch h given records differ bounded shows free = grind (arith, after-all ch h given records differ, are-shown h records differ bounded)

-- ---- one session after the other

abbrev pub ended_by : Choice → (ℕ → SideState) → List ℕ → List Record → List (ℕ × ContentValue) → Ending
ended_by ch h given records archive = record {
  records = merged_records ch h given records;
  rows = merged_rows ch given;
  base = merged_base ch h given;
  archive = merged_archive ch archive;
}

-- the writes of both sessions are those of one
both-writes : (done : List Write) (ch : Choice) (s : Sides) {later : List ℕ} (records : List Record) → Resumed done ch s later
    → after (whole (rest_of done ch) (sides_after done s).handheld later) (after done records) ≡ after (whole ch s.handheld (given_by done ++ later)) records
both-writes done ch s {later} records r =
    grind (
      arith,
      after-append (giving (rest_of done ch) ((sides_after done s).handheld) later)
          (clearing (rest_of done ch) ((sides_after done s).handheld)) (after done records),
      after-append done (giving (rest_of done ch) ((sides_after done s).handheld) later) records,
      after-append (done ++ giving (rest_of done ch) ((sides_after done s).handheld) later)
          (clearing (rest_of done ch) ((sides_after done s).handheld)) records,
    )

resumed-end : (done : List Write) (ch : Choice) (s : Sides) {later : List ℕ} (records : List Record) (archive : List (ℕ × ContentValue))
    → Resumed done ch s later → RowsDiffer records → AreBounded records → ((i : ℕ) → s.handheld i ≡ held records i)
    → GotFreeIds ch s.handheld (given_by done) records → RowsDiffer (after done records) → AreBounded (after done records)
    → ((i : ℕ) → (sides_after done s).handheld i ≡ held (after done records) i)
    → GotFreeIds (rest_of done ch) (sides_after done s).handheld later (after done records)
    → ended_by (rest_of done ch) (sides_after done s).handheld later (after done records) archive ≡ ended_by ch s.handheld
    (given_by done ++ later) records archive
resumed-end done ch s {later} records archive r differ bounded shows got then_differ then_bounded then_shows then_got =
    grind (
      arith,
      whole-is (rest_of done ch) ((sides_after done s).handheld) later (after done records) then_differ then_bounded then_shows then_got,
      both-writes done ch s records r,
      whole-is ch s.handheld (given_by done ++ later) records differ bounded shows (r.free records got then_got),
    )

-- ids that are free in both sessions are free in one, and that ends as the second does
pub news_and_ids : (x : Finding) {given : List ℕ} (later : List ℕ) (n : ℕ) → StopsAmongNews Sync x given n → IsRead (left_among_news Sync x given n)
    → GotIds Sync (left_among_news Sync x given n) later
    → GotIds Sync x (given ++ later) × (ended Sync (left_among_news Sync x given n) later ≡ ended Sync x (given ++ later))
news_and_ids x {given} later n stops read later_got =
    let s = sides_of x.view x.rows x.base true in
    let ch = chosen Sync x in
    let done = news_done Sync x given n in
    let y = left_among_news Sync x given n in
    let same : choice s ≡ ch = sym (choice-counted x.view x.rows x.base x.records x.gone_counts stops.read.shows stops.gone) in
    let all_of : AreOf (giving ch s.handheld given) ch s = subst (λ c. AreOf (giving c s.handheld given) c s) same
    (giving-of s given x.records stops.fresh stops.read.shows (subst (λ c. GotFreeIds c s.handheld given x.records) (sym same) stops.got)) in
    let of = of-take n (giving ch s.handheld given) ch s all_of in
    let front : giving ch s.handheld (given_by done) ≡ done ++ drop n (giving ch s.handheld given) = ap (giving ch s.handheld) stops.all
    ∙ sym (take-append-drop n (giving ch s.handheld given)) in
    let r = resume done s same of (drop n (giving ch s.handheld given)) front later in
    let sides_are = sides-again x.view (slow_view (after done x.records)) done x.rows x.base x.records true (writes-of done ch s of) stops.read.shows
    read.shows in
    let chosen_is : chosen Sync y ≡ rest_of done ch = ap choice sides_are ∙ choice-after done ch s same of in
    let shown_is : shown y ≡ (sides_after done s).handheld = ap (λ (t : Sides). t.handheld) sides_are in
    let got : GotFreeIds ch s.handheld (given_by done) x.records = subst (λ ids. GotFreeIds ch s.handheld ids x.records) (sym stops.all) stops.got in
    let then_got : GotFreeIds (rest_of done ch) (sides_after done s).handheld later (after done x.records) =
    subst (λ (p : Choice × (ℕ → SideState)). GotFreeIds p.0 p.1 later y.records) (λ k. (chosen_is k, shown_is k)) later_got in (
      subst (λ ids. GotFreeIds ch s.handheld (ids ++ later) x.records) stops.all (r.free x.records got then_got),
      ap {A = Choice × (ℕ → SideState)} (λ p. ended_by p.0 p.1 later y.records x.archive) (λ k. (chosen_is k, shown_is k))
          ∙ resumed-end done ch s x.records x.archive r (differ-ids x.records stops.read.ids) stops.read.bounded stops.read.shows got
          (differ-ids y.records read.ids) read.bounded (λ i. ap (λ (h : ℕ → SideState). h i) (sym shown_is) ∙ read.shows i) then_got
          ∙ ap (λ ids. ended_by ch s.handheld (ids ++ later) x.records x.archive) stops.all,
    )

pub news : (x : Finding) {given : List ℕ} (later : List ℕ) (n : ℕ) → StopsAmongNews Sync x given n → IsRead (left_among_news Sync x given n)
    → GotIds Sync (left_among_news Sync x given n) later → ended Sync (left_among_news Sync x given n) later ≡ ended Sync x (given ++ later)
news x later n stops read later_got = (news_and_ids x later n stops read later_got).1

-- ---- how many adds are left

rest-adds : (done : List Write) (ch : Choice) (s : Sides) → AreOf done ch s → length (given_by done) + length (rest_of done ch).adds ≡ length ch.adds
rest-adds [] ch s of = grind arith
rest-adds (replace i c ∷ ws) ch s of = rest-adds ws ch (given_to s i c) of.1
rest-adds (add g a ∷ ws) ch s of = grind (arith, rest-adds ws (with_add ch g a) (given_to s g a) of.4)
rest-adds (purge i ∷ ws) ch s of = absurd of
rest-adds (clean_up ∷ ws) ch s of = absurd of
rest-adds (reset ∷ ws) ch s of = absurd of

pub news-adds : (x : Finding) (given : List ℕ) (n : ℕ) → StopsAmongNews Sync x given n → IsRead (left_among_news Sync x given n)
    → length given + length (chosen Sync (left_among_news Sync x given n)).adds ≡ length (chosen Sync x).adds
news-adds x given n stops read =
    let s = sides_of x.view x.rows x.base true in
    let ch = chosen Sync x in
    let done = news_done Sync x given n in
    let y = left_among_news Sync x given n in
    let same : choice s ≡ ch = sym (choice-counted x.view x.rows x.base x.records x.gone_counts stops.read.shows stops.gone) in
    let all_of : AreOf (giving ch s.handheld given) ch s = subst (λ c. AreOf (giving c s.handheld given) c s) same
    (giving-of s given x.records stops.fresh stops.read.shows (subst (λ c. GotFreeIds c s.handheld given x.records) (sym same) stops.got)) in
    let of = of-take n (giving ch s.handheld given) ch s all_of in
    let sides_are = sides-again x.view (slow_view (after done x.records)) done x.rows x.base x.records true (writes-of done ch s of) stops.read.shows
    read.shows in
    let chosen_is : chosen Sync y ≡ rest_of done ch = ap choice sides_are ∙ choice-after done ch s same of in
    ap {A = List ℕ × Choice} (λ p. length p.0 + length (Choice.adds p.1)) (λ k. (sym stops.all k, chosen_is k)) ∙ rest-adds done ch s of
