-- Sessions that go by both sides without their base: one that stopped is taken up by the next one, as one of both sides is that finds no base.
use Rattle.std.proofs.Common.{◌≡◌, ℕ, ◌+◌, ◌||◌, List, [], ◌++◌, refl, ap, ◌∙◌, sym, subst, true, false, Bool, length, map, take}
use Rattle.std.proofs.lemmas.List.Folds.{list_any-append}
use Rattle.pdb_values.specs.Contents.{ContentValue}
use Rattle.pdb_values.specs.declared.record.Record.{Record}
use Rattle.conduit_rules.specs.ById.{id_bound}
use Rattle.conduit_rules.specs.Choices.{Choice, choice}
use Rattle.conduit_rules.specs.States.{archived_of, held}
use Rattle.conduit_rules.specs.Views.{slow_view}
use Rattle.conduit_rules.specs.declared.action.Action.TheVariants.{Sync, Both}
use Rattle.conduit_rules.proofs.BothLaws.{both-adds, both-archive, none_based, without_base-is}
use Rattle.record_merge.specs.Merging.{is_archived}
use Rattle.record_merge.specs.Writes.{after, giving, GotFreeIds}
use Rattle.record_merge.proofs.ArchiveLaws.{is_equal}
use Rattle.record_merge.proofs.BaselessLaws.{none_archived, rows_paired}
use Rattle.record_merge.proofs.StopLaws.{no_base_rows}
use Rattle.front_laws.specs.Repeats.{Finding, IsRead, EndAlike, ended, sides, chosen, shown, GotIds, given_by, left_among_news, left_behind_commit}
use Rattle.front_laws.specs.Repeats.{NoneUnderGone, NothingIfGone, StopsAmongNews}
use Rattle.front_laws.proofs.HandheldLaws.{KeepsLive, among-below, archived_in, kept-behind, live-behind}
use Rattle.front_laws.proofs.NewsLaws.{ended_by, news-adds, news_and_ids}
use Rattle.desk_store.proofs.FindLaws.{or_true}

-- ---- a stop among the news

-- without its base
abbrev bare : Finding → Finding
bare x = record x { base = [] }

chosen-bare : (x : Finding) → chosen Both x ≡ chosen Sync (bare x)
chosen-bare x = ap choice (without_base-is x.view x.rows x.base x.gone_counts)

ended-bare : (x : Finding) (given : List ℕ) → ended Both x given ≡ ended Sync (bare x) given
ended-bare x given = ap (λ ch. ended_by ch (shown x) given x.records x.archive) (chosen-bare x)

got-bare : (x : Finding) (given : List ℕ) → GotIds Both x given → GotIds Sync (bare x) given
got-bare x given got = subst (λ ch. GotFreeIds ch (shown x) given x.records) (chosen-bare x) got

read-bare : {x : Finding} → IsRead x → IsRead (bare x)
read-bare read = record { ids = read.ids; bounded = read.bounded; shows = read.shows }

none_gone : (g : Bool) (records : List Record) → NoneUnderGone g [] records
none_gone true records = tt
none_gone false records = λ i. subst (λ b. NothingIfGone b (held records i)) (sym (none_based true i)) tt

stops-bare : (x : Finding) {given : List ℕ} (n : ℕ) → StopsAmongNews Both x given n → StopsAmongNews Sync (bare x) given n
stops-bare x {given} n stops = record {
  read = read-bare stops.read;
  all = subst (λ ch. given_by (take n (giving ch (shown x) given)) ≡ given) (chosen-bare x) stops.all;
  got = got-bare x given stops.got;
  fresh = no_base_rows true given;
  gone = none_gone x.gone_counts x.records;
}

-- what the next session finds, without its base
abbrev left_by_choice : Finding → List ℕ → ℕ → Choice → Finding
left_by_choice x given n ch =
    let records = after (take n (giving ch (shown x) given)) x.records in
    record { view = slow_view records; records = records; rows = x.rows; base = []; archive = x.archive; gone_counts = true }

left-bare : (x : Finding) (given : List ℕ) (n : ℕ) → bare (left_among_news Both x given n) ≡ left_among_news Sync (bare x) given n
left-bare x given n = ap (left_by_choice x given n) (chosen-bare x)

module _ (x : Finding) {given : List ℕ} (n : ℕ) (stops : StopsAmongNews Both x given n) (read : IsRead (left_among_news Both x given n)) where
  read-then : IsRead (left_among_news Sync (bare x) given n)
  read-then = subst IsRead (left-bare x given n) (read-bare read)

  pub baseless-news : (later : List ℕ) → GotIds Both (left_among_news Both x given n) later
      → GotIds Both x (given ++ later) × (ended Both (left_among_news Both x given n) later ≡ ended Both x (given ++ later))
  baseless-news later got =
      let y = left_among_news Both x given n in
      let left = left-bare x given n in
      let both = news_and_ids (bare x) later n (stops-bare x n stops) read-then (subst (λ z. GotIds Sync z later) left (got-bare y later got)) in (
        subst (λ ch. GotFreeIds ch (shown x) (given ++ later) x.records) (sym (chosen-bare x)) both.0,
        ended-bare y later ∙ ap (λ z. ended Sync z later) left ∙ both.1 ∙ sym (ended-bare x (given ++ later)),
      )

  pub baseless-adds : length given + length (chosen Both (left_among_news Both x given n)).adds ≡ length (chosen Both x).adds
  baseless-adds =
      let y = left_among_news Both x given n in
      ap (λ (ch : Choice). length given + length ch.adds) (chosen-bare y ∙ ap (chosen Sync) (left-bare x given n))
      ∙ news-adds (bare x) given n (stops-bare x n stops) read-then
      ∙ ap (λ (ch : Choice). length ch.adds) (sym (chosen-bare x))

-- ---- a stop behind the commit

both-keeps : KeepsLive Both
both-keeps = record {
  keep = λ x i. refl;
  archive = λ x i c l is.
      ap (is_archived (i, c)) (both-archive (sides x))
      ∙ list_any-append (λ (e : ℕ × ContentValue). is_equal e (i, c)) (map (λ c. (0, c)) (sides x).all_archived) (archived_in x)
      ∙ ap (λ b. is_archived (i, c) (map (λ c. (0, c)) (sides x).all_archived) || b) (among-below (λ j. archived_of (shown x j)) i id_bound l is)
      ∙ or_true (is_archived (i, c) (map (λ c. (0, c)) (sides x).all_archived));
  again = λ x given n kept.
      let y = left_behind_commit Both x given n in
      let archive = both-archive (sides y) ∙ ap (λ xs. map (λ c. (0, c)) xs ++ archived_in y) (none_archived (chosen Both x) given) in
      let adds = both-adds (sides y) ∙ rows_paired (chosen Both x) given (sides y) kept refl in
      λ k. record { keep = λ i. kept i k; archive = archive k; adds = adds k };
}

module _ (x : Finding) (given : List ℕ) (n : ℕ) (read : IsRead x) (got : GotIds Both x given) (then_read : IsRead (left_behind_commit Both x given n)) where
  pub baseless-behind : (later : List ℕ) → EndAlike (ended Both (left_behind_commit Both x given n) later) (ended Both x given)
  baseless-behind later = live-behind Both both-keeps x given n read got then_read later

  -- nothing is added then
  pub baseless-commit_adds : (chosen Both (left_behind_commit Both x given n)).adds ≡ []
  baseless-commit_adds = ap (λ c. Choice.adds c) (kept-behind Both both-keeps x given n read got then_read)
