-- A session that finds a content in place leaves it in place, wherever it stops.
use Rattle.std.proofs.lemmas.Grind.{common_steps}
use Rattle.std.proofs.lemmas.Bool.Decides.{nat_tests}
use Rattle.std.proofs.Common.{◌≡◌, ◌⊎◌, ⊎_elim, inl, inr, ℕ, ◌<◌, ◌==◌, ◌++◌, List, [], refl, ap, ◌∙◌, sym, subst, arith, true, false, Bool, Option, Some}
use Rattle.std.proofs.Common.{None, if◌then◌else◌, nat_lt}
use Rattle.pdb_values.specs.Contents.{ContentValue}
use Rattle.pdb_values.specs.declared.record.Record.{Record}
use Rattle.conduit_rules.specs.ById.{at, id_bound}
use Rattle.conduit_rules.specs.Contents.{same_content}
use Rattle.conduit_rules.specs.Fates.{cell, fate, fate_under}
use Rattle.conduit_rules.specs.Plans.{gone_rows, lost}
use Rattle.conduit_rules.specs.States.{BaseState, SideState, nothing, live, archived, no_base, row, gone, base_at, based_where, content_of, first, held}
use Rattle.conduit_rules.specs.States.{live_of}
use Rattle.conduit_rules.specs.declared.action.Action.{Action}
use Rattle.conduit_rules.specs.declared.action.Action.TheVariants.{Sync, Handheld, Desktop, Both}
use Rattle.conduit_rules.specs.declared.view.Seen.{Seen}
use Rattle.conduit_rules.proofs.AgreedLaws.{RowsDiffer}
use Rattle.conduit_rules.proofs.BothLaws.{none_based}
use Rattle.conduit_rules.proofs.BoundLaws.{live_or}
use Rattle.conduit_rules.proofs.ContentLaws.{same_content-is, same_content-same}
use Rattle.conduit_rules.proofs.PlanLaws.{at-each_below}
use Rattle.conduit_rules.proofs.TableLaws.{cell-settled, gone_cell-live}
use Rattle.record_merge.specs.Merging.{row_under}
use Rattle.record_merge.specs.Writes.{after, clearing, giving, numbered}
use Rattle.record_merge.proofs.BoundLaws.{differ-whole}
use Rattle.record_merge.proofs.HeldLaws.{held-merged, held-rows}
use Rattle.record_merge.proofs.PutLaws.{differ-ids}
use Rattle.record_merge.proofs.SettledLaws.{at_zero, based-merged, based_two}
use Rattle.front_laws.specs.Repeats.{Ending, Finding, GotIds, IsRead, Place, chosen, clearing_done, ended, left, left_among_news, left_behind_commit, news_done}
use Rattle.front_laws.specs.Repeats.{shown}
use Rattle.front_laws.specs.Repeats.{before_mark, among_news, behind_commit, at_end}
use Rattle.front_laws.specs.Lives.{GotIdsUpTo, IsFound, IsInPlace, IsUnarchived, SessionLetsBe, is_live_in, standing}
use Rattle.front_laws.proofs.ChosenLaws.{kept_under}
use Rattle.front_laws.proofs.ClearLaws.{AllFit, Fits, clearing-take}
use Rattle.front_laws.proofs.CommitLaws.{fits-behind, no_zero}
use Rattle.front_laws.proofs.GivenLaws.{clearing-given}
use Rattle.front_laws.proofs.LetGoLaws.{below-bound, row-either, same-or}
use Rattle.front_laws.proofs.NewsLaws.{whole-is}
use Rattle.front_laws.proofs.StandLaws.{held-live_in, live_in-held}
use Rattle.front_laws.proofs.NewsHeldLaws.{AreGiven, KeepsNoOther, archived-after, given-take, giving-given, live-after}

-- ---- base rows

-- a gone base row that counts is a gone base row
pub gone-counts : (base : List Record) (i : ℕ) (g : Bool) (c : ContentValue) → base_at base g i ≡ gone c → base_at base true i ≡ gone c
gone-counts base i g c is = by (i == 0) (first i base) is
  where
    by : (zero : Bool) (o : Option Record) → (if zero then no_base else based_where g o) ≡ gone c → (if zero then no_base else based_where true o) ≡ gone c
    by zero o is = grind (arith, is)

-- ---- the table

-- a live content of the handheld is kept, but where the base has it gone
sync-keeps : (b : BaseState) (d : SideState) (c : ContentValue) → (b ≡ row c → d ≡ live c) → (d ≡ archived c → ⊥)
    → ((fate b (live c) d).keep ≡ Some c) ⊎ (b ≡ gone c)
sync-keeps no_base d c rows none = inl refl
sync-keeps (row b) d c rows none =
    ⊎_elim (λ (same : c ≡ b). inl (both same)) (λ (other : same_content c b ≡ false). inl (changed other)) (same-or c b)
  where
    both : c ≡ b → (cell b (live c) d).keep ≡ Some c
    both same = (λ k. (cell (sym same k) (live c) (rows (ap row (sym same)) k)).keep) ∙ ap (λ f. f.keep) (cell-settled c)

    changed : same_content c b ≡ false → (cell b (live c) d).keep ≡ Some c
    changed other = grind (arith, common_steps, nat_tests, same_content-same, same_content-is, none)
sync-keeps (gone b) d c rows none =
    ⊎_elim (λ (same : c ≡ b). inr (ap gone (sym same))) (λ (other : same_content c b ≡ false). inl (changed other)) (same-or c b)
  where
    changed : same_content c b ≡ false → (fate (gone b) (live c) d).keep ≡ Some c
    changed other = grind (arith, common_steps, nat_tests, same_content-same)

-- what both sides have as the base has it is kept, whichever sides a session goes by
settled-keeps : (a : Action) (c : ContentValue) → (fate_under a (row c) (live c) (live c)).keep ≡ Some c
settled-keeps Sync c = ap (λ f. f.keep) (cell-settled c)
settled-keeps Handheld c = refl
settled-keeps Desktop c = refl
settled-keeps Both c = refl

-- ---- what else is kept

pub keeps-it : (k : Option ContentValue) (c : ContentValue) → k ≡ Some c → KeepsNoOther c k
keeps-it k c is = subst (KeepsNoOther c) (sym is) refl

keeps_none : (k : Option ContentValue) (c : ContentValue) → k ≡ None → KeepsNoOther c k
keeps_none k c is = subst (KeepsNoOther c) (sym is) tt

-- ---- one session

module _ (a : Action) (x : Finding) (c : ContentValue) (found : IsFound x) (place : IsInPlace c (standing x)) where
  -- under an id whose base row has it a content is kept
  pub row-kept : (i : ℕ) → base_at x.base true i ≡ row c → (chosen a x).keep i ≡ Some c
  row-kept i is =
      let both = place.rows i is in
      (λ k. (fate_under a (row-either x.base i true x.gone_counts c is k) ((found.read.shows i ∙ both.0) k) (both.1 k)).keep) ∙ settled-keeps a c

  pub row-below : (i : ℕ) → base_at x.base true i ≡ row c → i < id_bound
  row-below i is = below-bound c x.records i found.read.bounded (place.rows i is).0

module _ (x : Finding) (c : ContentValue) (found : IsFound x) (place : IsInPlace c (standing x)) where
  live-fate : (i : ℕ) → held x.records i ≡ live c
      → ((chosen Sync x).keep i ≡ Some c) ⊎ (base_at x.base x.gone_counts i ≡ gone c)
  live-fate i is =
      let on : shown x i ≡ live c = found.read.shows i ∙ is in
      let b = base_at x.base x.gone_counts i in
      ⊎_elim (λ (there : (fate b (live c) (held x.rows i)).keep ≡ Some c). inl (ap (λ h. (fate b h (held x.rows i)).keep) on ∙ there)) inr
      (sync-keeps b (held x.rows i) c (λ is_row. (place.rows i (row-either x.base i x.gone_counts true c is_row)).1) (place.unarchived.desktop i))

  -- where a live content of the handheld isn't kept in a session of both sides, the base has it gone
  pub sync-kept : (i : ℕ) → held x.records i ≡ live c → ((chosen Sync x).keep i ≡ Some c) ⊎ (base_at x.base true i ≡ gone c)
  sync-kept i is =
      ⊎_elim inl (λ (was : base_at x.base x.gone_counts i ≡ gone c). inr (gone-counts x.base i x.gone_counts c was)) (live-fate i is)

  -- and nothing else is kept there
  pub sync-no_other : (i : ℕ) → held x.records i ≡ live c → KeepsNoOther c ((chosen Sync x).keep i)
  sync-no_other i is =
      ⊎_elim (λ (there : (chosen Sync x).keep i ≡ Some c). keeps-it ((chosen Sync x).keep i) c there)
      (λ (was : base_at x.base x.gone_counts i ≡ gone c).
      keeps_none ((chosen Sync x).keep i) c
      ((λ k. (fate (was k) ((found.read.shows i ∙ is) k) (held x.rows i)).keep) ∙ ap (λ f. f.keep) (gone_cell-live c)))
      (live-fate i is)

-- ---- the merge

live_or-is : (k : Option ContentValue) (c : ContentValue) → live_or k ≡ live c → k ≡ Some c
live_or-is k c is = grind arith

row_by : (zero : Bool) (k o : Option ContentValue) (c : ContentValue) → (if zero then no_base else based_two true k o) ≡ row c → k ≡ Some c
row_by zero k o c is = grind arith

gone_by : (zero : Bool) (k o : Option ContentValue) (c : ContentValue) → (if zero then no_base else based_two true k o) ≡ gone c → o ≡ Some c
gone_by zero k o c is = grind arith

lost_by : (within : Bool) (k : Option ContentValue) (h : SideState) (c : ContentValue) → (if within then lost k h else None) ≡ Some c
    → (k ≡ None) × (content_of h ≡ Some c)
lost_by within k h c is = grind arith

never_archived : (k : Option ContentValue) (c : ContentValue) → live_or k ≡ archived c → ⊥
never_archived None c is = cc
never_archived (Some d) c is = cc

fits_end : (k : Option ContentValue) (h : SideState) → Fits k h (live_or k)
fits_end None h = inl refl
fits_end (Some c) h = refl

module _ (a : Action) (x : Finding) (given : List ℕ) (read : IsRead x) (got : GotIds a x given) where
  all-is : after (giving (chosen a x) (shown x) given ++ clearing (chosen a x) (shown x)) x.records ≡ (ended a x given).records
  all-is =
      whole-is (chosen a x) (shown x) given x.records (differ-ids x.records read.ids) read.bounded read.shows got

  end-differ : RowsDiffer (ended a x given).records
  end-differ = subst RowsDiffer all-is (differ-whole (chosen a x) (shown x) given x.records (differ-ids x.records read.ids))

  -- what the handheld holds at the end
  pub records-end : (i : ℕ) → held (ended a x given).records i ≡ live_or (row_under (chosen a x) given i)
  records-end i =
      ap (λ rs. held rs i) (sym all-is)
      ∙ held-merged (chosen a x) (shown x) given x.records (differ-ids x.records read.ids) read.bounded read.shows got i

  -- a live content of the handheld's is a row then
  pub live-row : (c : ContentValue) → is_live_in c (ended a x given).records ≡ true → (j : ℕ) × (row_under (chosen a x) given j ≡ Some c)
  live-row c is =
      let under = live_in-held c (ended a x given).records end-differ is in
      (under.0, live_or-is (row_under (chosen a x) given under.0) c (sym (records-end under.0) ∙ under.1))

  row-based : (i : ℕ) (c : ContentValue) → row_under (chosen a x) given i ≡ Some c → base_at (ended a x given).base true i ≡ row c
  row-based i c is = based-merged (chosen a x) (shown x) given true i ∙ by (i == 0) refl
    where
      by : (zero : Bool) → (i == 0) ≡ zero
          → (if zero then no_base else based_two true (row_under (chosen a x) given i) (at i (gone_rows (chosen a x).keep (shown x)))) ≡ row c
      by true zero =
          let none : row_under (chosen a x) given i ≡ None = at_zero (chosen a x) given i (no_zero a given read got) zero in
          absurd (let no : None ≡ Some c = sym none ∙ is in cc)
      by false other = ap (λ k. based_two true k (at i (gone_rows (chosen a x).keep (shown x)))) is

  based-row : (i : ℕ) (c : ContentValue) → base_at (ended a x given).base true i ≡ row c → row_under (chosen a x) given i ≡ Some c
  based-row i c is =
      row_by (i == 0) (row_under (chosen a x) given i) (at i (gone_rows (chosen a x).keep (shown x))) c
      (sym (based-merged (chosen a x) (shown x) given true i) ∙ is)

  based-gone : (i : ℕ) (c : ContentValue) → base_at (ended a x given).base true i ≡ gone c
      → ((chosen a x).keep i ≡ None) × (content_of (held x.records i) ≡ Some c)
  based-gone i c is =
      let at_gone = gone_by (i == 0) (row_under (chosen a x) given i) (at i (gone_rows (chosen a x).keep (shown x))) c
      (sym (based-merged (chosen a x) (shown x) given true i) ∙ is) in
      let parts = lost_by (nat_lt i id_bound) ((chosen a x).keep i) (shown x i) c
      (sym (at-each_below (λ j. lost ((chosen a x).keep j) (shown x j)) id_bound i) ∙ at_gone) in
      (parts.0, ap content_of (sym (read.shows i)) ∙ parts.1)

-- behind an ended session each content that is live is in place
pub end-place : (a : Action) (x : Finding) (given : List ℕ) (c : ContentValue) → IsRead x → GotIds a x given
    → is_live_in c (ended a x given).records ≡ true → IsInPlace c (ended a x given)
end-place a x given c read got is =
    let other = live-row a x given read got c is in
    record {
      rows = λ i has.
          let here = based-row a x given read got i c has in (
            records-end a x given read got i ∙ ap live_or here,
            held-rows (chosen a x) given i ∙ ap live_or here,
          );
      gone_rows = λ i has. (other.0, row-based a x given read got other.0 c other.1);
      unarchived = record {
        handheld = λ i has. never_archived (row_under (chosen a x) given i) c (sym (records-end a x given read got i) ∙ has);
        desktop = λ i has. never_archived (row_under (chosen a x) given i) c (sym (held-rows (chosen a x) given i) ∙ has);
      };
    }

-- and so it is where both sides never met
pub unmet-place : (e : Ending) (c : ContentValue) → e.base ≡ [] → IsUnarchived c e → IsInPlace c e
unmet-place e c none unarchived = record {
  rows = λ i is. absurd (let no : no_base ≡ row c = sym (no_row i) ∙ is in cc);
  gone_rows = λ i is. absurd (let no : no_base ≡ gone c = sym (no_row i) ∙ is in cc);
  unarchived = unarchived;
}
  where
    no_row : (i : ℕ) → base_at e.base true i ≡ no_base
    no_row i = ap (λ base. base_at base true i) none ∙ none_based true i

-- where a live content of the handheld isn't kept, the merge has it under another id
kept-elsewhere : (a : Action) (x : Finding) (given : List ℕ) (c : ContentValue) → IsFound x → GotIds a x given → IsInPlace c (standing x)
    → SessionLetsBe c a x (behind_commit given 0) → (i : ℕ) → held x.records i ≡ live c → (chosen a x).keep i ≡ None
    → (j : ℕ) × (row_under (chosen a x) given j ≡ Some c)
kept-elsewhere Sync x given c found got place spares i is none =
    ⊎_elim (λ (kept : (chosen Sync x).keep i ≡ Some c). absurd (let no : None ≡ Some c = sym none ∙ kept in cc))
    (λ (was : base_at x.base true i ≡ gone c).
    let other = place.gone_rows i was in
    let keep = (chosen Sync x).keep in (
      other.0,
      kept_under keep (at other.0 (numbered given (chosen Sync x).adds)) other.0 c (row-below Sync x c found place other.0 other.1)
          (row-kept Sync x c found place other.0 other.1),
    )) (sync-kept x c found place i is)
kept-elsewhere Handheld x given c found got place spares i is none =
    absurd (let no : None ≡ Some c = sym none ∙ ap live_of (found.read.shows i ∙ is) in cc)
kept-elsewhere Desktop x given c found got place spares i is none = live-row Desktop x given found.read got c (spares (held-live_in c x.records i is))
kept-elsewhere Both x given c found got place spares i is none =
    absurd (let no : None ≡ Some c = sym none ∙ ap live_of (found.read.shows i ∙ is) in cc)

module _ (a : Action) (x : Finding) (given : List ℕ) (c : ContentValue) (found : IsFound x) (got : GotIds a x given) (place : IsInPlace c (standing x)) where
  -- the merge leaves the content in place, whatever of its purges is done
  merged-place : (records : List Record) → AllFit (row_under (chosen a x) given) (shown x) records → SessionLetsBe c a x (behind_commit given 0)
      → IsInPlace c (record (ended a x given) { records = records })
  merged-place records fits spares = record {
    rows = λ i is.
        let here = based-row a x given found.read got i c is in (
          subst (λ k. Fits k (shown x i) (held records i)) here (fits i),
          held-rows (chosen a x) given i ∙ ap live_or here,
        );
    gone_rows = λ i is.
        let was = based-gone a x given found.read got i c is in
        let other = kept-elsewhere a x given c found got place spares i (not_archived (held x.records i) was.1 (place.unarchived.handheld i)) was.0 in
        (other.0, row-based a x given found.read got other.0 c other.1);
    unarchived = record {
      handheld = λ i is.
          place.unarchived.handheld i
          (was_archived (row_under (chosen a x) given i) (shown x i) (held records i) (fits i) is (found.read.shows i));
      desktop = λ i is. never_archived (row_under (chosen a x) given i) c (sym (held-rows (chosen a x) given i) ∙ is);
    };
  }
    where
      not_archived : (h : SideState) → content_of h ≡ Some c → (h ≡ archived c → ⊥) → h ≡ live c
      not_archived nothing has none = absurd (cc)
      not_archived (live d) has none = cc
      not_archived (archived d) has none = absurd (none cc)

      was_archived : (k : Option ContentValue) (h now : SideState) {was : SideState} → Fits k h now → now ≡ archived c → h ≡ was → was ≡ archived c
      was_archived k h now fits is shows = grind arith

-- ---- among the news

module _ (a : Action) (x : Finding) (given : List ℕ) (n : ℕ) (c : ContentValue) (found : IsFound x) (got : GotIds a x given) where
  news-given : AreGiven (chosen a x).keep (news_done a x given n) x.records
  news-given = given-take (chosen a x).keep n (giving (chosen a x) (shown x) given) x.records (giving-given (chosen a x) (shown x) given x.records got)

  -- a live content stays under its id, where nothing else is kept there
  pub live-news : (i : ℕ) → KeepsNoOther c ((chosen a x).keep i) → held x.records i ≡ live c → held (left_among_news a x given n).records i ≡ live c
  live-news i alone is = live-after (chosen a x).keep (news_done a x given n) x.records c i news-given alone is

  pub news-place : IsInPlace c (standing x) → IsInPlace c (standing (left_among_news a x given n))
  news-place place = record {
    rows = λ i is. (live-news i (keeps-it ((chosen a x).keep i) c (row-kept a x c found place i is)) (place.rows i is).0, (place.rows i is).1);
    gone_rows = place.gone_rows;
    unarchived = record {
      handheld = λ i is. place.unarchived.handheld i (archived-after (chosen a x).keep (news_done a x given n) x.records c i news-given is);
      desktop = place.unarchived.desktop;
    };
  }

-- ---- wherever it stops

pub spares-end : (a : Action) (x : Finding) (given : List ℕ) (view : List Seen) (g : Bool) (c : ContentValue) → SessionLetsBe c a x (at_end given view g)
    → SessionLetsBe c a x (behind_commit given 0)
spares-end Sync x given view g c spares = tt
spares-end Handheld x given view g c spares = spares
spares-end Desktop x given view g c spares = spares
spares-end Both x given view g c spares = tt

pub spares-commit : (a : Action) (x : Finding) (given : List ℕ) (n : ℕ) (c : ContentValue) → SessionLetsBe c a x (behind_commit given n)
    → SessionLetsBe c a x (behind_commit given 0)
spares-commit Sync x given n c spares = tt
spares-commit Handheld x given n c spares = spares
spares-commit Desktop x given n c spares = spares
spares-commit Both x given n c spares = tt

pub session-place : (a : Action) (x : Finding) (stop : Place) (c : ContentValue) → IsFound x → GotIdsUpTo a x stop → SessionLetsBe c a x stop
    → IsInPlace c (standing x) → IsInPlace c (standing (left a x stop))
session-place a x before_mark c found got spares place = place
session-place a x (among_news given n) c found got spares place = news-place a x given n c found got place
session-place a x (behind_commit given n) c found got spares place =
    let ch = chosen a x in
    let are = clearing-take (row_under ch given) n (clearing ch (shown x))
    (clearing-given ch (shown x) given x.records found.read.bounded found.read.shows got.got) in
    merged-place a x given c found got.got place (left_behind_commit a x given n).records
    (fits-behind a given (clearing_done a x n) found.read got.got are) (spares-commit a x given n c spares)
session-place a x (at_end given view g) c found got spares place =
    merged-place a x given c found got.got place (ended a x given).records
    (λ i. subst (Fits (row_under (chosen a x) given i) (shown x i)) (sym (records-end a x given found.read got.got i))
    (fits_end (row_under (chosen a x) given i) (shown x i)))
    (spares-end a x given view g c spares)
