-- The session behind any number of stopped ones ends as the first would have, under the ids that stand.
use Rattle.std.proofs.lemmas.Grind.{common_steps}
use Rattle.std.proofs.lemmas.Bool.Decides.{nat_tests}
use Rattle.std.proofs.Common.{◌≡◌, ℕ, List, [], ◌∷◌, ◌++◌, length, ◌+◌, refl, ap, ◌∙◌, sym, arith, map, flat_map}
use Rattle.std.proofs.lemmas.List.{length-append}
use Rattle.std.specs.Option.{option_or}
use Rattle.pdb_values.specs.Contents.{ContentValue}
use Rattle.pdb_values.specs.declared.record.Record.{Record}
use Rattle.conduit_rules.specs.ById.{each_id, with_id, at}
use Rattle.conduit_rules.specs.Choices.{Choice}
use Rattle.conduit_rules.specs.Plans.{gone_rows}
use Rattle.conduit_rules.specs.States.{SideState, first}
use Rattle.conduit_rules.specs.declared.action.Action.{Action}
use Rattle.conduit_rules.specs.declared.action.Action.TheVariants.{Sync, Handheld, Desktop, Both}
use Rattle.conduit_rules.proofs.ActionLaws.{handheld-is}
use Rattle.record_merge.specs.Merging.{settled_record, gone_record, kept_record, new_under, merged_archive}
use Rattle.record_merge.specs.Writes.{numbered}
use Rattle.front_laws.specs.Repeats.{StopsAmongNews, Finding, IsRead, Ending, EndAlike, ended, sides, chosen, shown, GotIds, GotAllIds, Place, before_mark}
use Rattle.front_laws.specs.Repeats.{among_news, behind_commit, at_end}
use Rattle.front_laws.specs.Repeats.{left, MayStop, left_by, left_among_news, left_behind_commit, left_at_end, ids_with, all_ids, AreStops}
use Rattle.front_laws.specs.Renaming.{AreUnknown, SameEnds}
use Rattle.front_laws.proofs.BaselessLaws.{baseless-adds, baseless-behind, baseless-commit_adds, baseless-news}
use Rattle.front_laws.proofs.CommitLaws.{behind-commit, commit-adds, at-end, end-adds}
use Rattle.front_laws.proofs.DesktopLaws.{desktop-news, chosen-again}
use Rattle.front_laws.proofs.HandheldLaws.{handheld-news, handheld-behind}
use Rattle.front_laws.proofs.NewsLaws.{news, news_and_ids, news-adds}
use Rattle.front_laws.proofs.RenamingLaws.{renamed}
use Rattle.front_laws.proofs.SoundLaws.{read-news, read-commit}
use Rattle.record_merge.proofs.BothLaws.{no_contents}

pub alike_same : {e f : Ending} → e ≡ f → EndAlike e f
alike_same is = grind arith

-- ---- ids beyond those of the adds aren't looked at

enough : (given later : List ℕ) (cs : List ContentValue) → length given ≡ length cs → numbered (given ++ later) cs ≡ numbered given cs
enough [] [] [] is = refl
enough [] (g ∷ later) [] is = refl
enough [] later (c ∷ cs) is = absurd (omega (arith, is))
enough (g ∷ given) later [] is = absurd (omega (arith, is))
enough (g ∷ given) later (c ∷ cs) is = ap (λ es. (g, c) ∷ es) (enough given later cs (omega (arith, is)))

-- the end by the rows that are added
abbrev ended_with : Choice → (ℕ → SideState) → List Record → List (ℕ × ContentValue) → List (ℕ × ContentValue) → Ending
ended_with ch h records archive es = record {
  records = flat_map (λ r. kept_record (ch.keep r.id) (h r.id) r)
      records ++ (map settled_record (each_id (λ i. new_under i (first i records) (ch.keep i))) ++ map settled_record es);
  rows = map settled_record (each_id (λ i. with_id i (option_or (ch.keep i) (at i es))));
  base = map settled_record (each_id (λ i. with_id i (option_or (ch.keep i) (at i es)))) ++ map gone_record (gone_rows ch.keep h);
  archive = merged_archive ch archive;
}

ended-enough : (a : Action) (x : Finding) (given later : List ℕ) → length given ≡ length (chosen a x).adds → ended a x given ≡ ended a x (given ++ later)
ended-enough a x given later is = ap (ended_with (chosen a x) (shown x) x.records x.archive) (sym (enough given later (chosen a x).adds is))

got-enough : (a : Action) (x : Finding) {given : List ℕ} (later : List ℕ) → GotAllIds a x given → GotIds a x (given ++ later)
got-enough a x {given} later all = grind (arith, enough given later (chosen a x).adds all.each)

-- ---- one that goes by the handheld adds nothing

none_numbered : (x : Finding) (given : List ℕ) → numbered given (chosen Handheld x).adds ≡ []
none_numbered x given = ap (λ ch. numbered given (Choice.adds ch)) (handheld-is (sides x)) ∙ no_contents given

ended-any : (x : Finding) (given later : List ℕ) → ended Handheld x given ≡ ended Handheld x later
ended-any x given later = ap (ended_with (chosen Handheld x) (shown x) x.records x.archive) (none_numbered x given ∙ sym (none_numbered x later))

pub got-any : (x : Finding) (given : List ℕ) → GotIds Handheld x given
got-any x given = grind (arith, none_numbered x given)

-- ---- one stop

-- ids that are free behind it are free before, and the next session ends as it would have ended under these
abbrev TakenUp : Action → Finding → Place → List ℕ → Type 0
TakenUp a x place later = GotIds a x (ids_with a place later) × EndAlike (ended a (left a x place) later) (ended a x (ids_with a place later))

by_ids : {a : Action} {x : Finding} {given : List ℕ} (later : List ℕ) (y : Finding) → GotAllIds a x given → EndAlike (ended a y later) (ended a x given)
    → GotIds a x (given ++ later) × EndAlike (ended a y later) (ended a x (given ++ later))
by_ids {a} {x} {given} later y all alike = grind (arith, got-enough a x later all, ended-enough a x given later all.each)

module _ {x : Finding} (later : List ℕ) (read : IsRead x) where
  sync_stop : (place : Place) → MayStop Sync x place → IsRead (left Sync x place) → GotIds Sync (left Sync x place) later → TakenUp Sync x place later
  sync_stop before_mark may then_read got = (got, alike_same {e = ended Sync x later} {f = ended Sync x later} refl)
  sync_stop (among_news given n) may then_read got =
      let both = news_and_ids x later n may then_read got in
      (both.0, alike_same both.1)
  sync_stop (behind_commit given n) may then_read got =
      by_ids later (left Sync x (behind_commit given n)) may (behind-commit Sync x given n tt read may.got then_read later)
  sync_stop (at_end given view g) may then_read got =
      by_ids later (left Sync x (at_end given view g)) may.0 (at-end Sync x given later view g read may.0.got then_read)

  handheld_stop : (place : Place) → MayStop Handheld x place → IsRead (left Handheld x place) → GotIds Handheld (left Handheld x place) later
      → TakenUp Handheld x place later
  handheld_stop before_mark may then_read got = (got, alike_same {e = ended Handheld x later} {f = ended Handheld x later} refl)
  handheld_stop (among_news given n) may then_read got = (
    got-any x (given ++ later),
    alike_same (handheld-news x given later n read then_read ∙ ended-any x later (given ++ later)),
  )
  handheld_stop (behind_commit given n) may then_read got =
      by_ids later (left Handheld x (behind_commit given n)) may (handheld-behind x given later n read may.got then_read)
  handheld_stop (at_end given view g) may then_read got =
      by_ids later (left Handheld x (at_end given view g)) may.0 (at-end Handheld x given later view g read may.0.got then_read)

  desktop_stop : (place : Place) → MayStop Desktop x place → IsRead (left Desktop x place) → GotIds Desktop (left Desktop x place) later
      → TakenUp Desktop x place later
  desktop_stop before_mark may then_read got = (got, alike_same {e = ended Desktop x later} {f = ended Desktop x later} refl)
  desktop_stop (among_news given n) may then_read got = desktop-news x given later n read may then_read got
  desktop_stop (behind_commit given n) may then_read got =
      by_ids later (left Desktop x (behind_commit given n)) may (behind-commit Desktop x given n tt read may.got then_read later)
  desktop_stop (at_end given view g) may then_read got =
      by_ids later (left Desktop x (at_end given view g)) may.0 (at-end Desktop x given later view g read may.0.got then_read)

  baseless_stop : (place : Place) → MayStop Both x place → IsRead (left Both x place) → GotIds Both (left Both x place) later → TakenUp Both x place later
  baseless_stop before_mark may then_read got = (got, alike_same {e = ended Both x later} {f = ended Both x later} refl)
  baseless_stop (among_news given n) may then_read got =
      let both = baseless-news x n may then_read later got in
      (both.0, alike_same both.1)
  baseless_stop (behind_commit given n) may then_read got =
      by_ids later (left Both x (behind_commit given n)) may (baseless-behind x given n read may.got then_read later)
  baseless_stop (at_end given view g) may then_read got =
      by_ids later (left Both x (at_end given view g)) may.0 (at-end Both x given later view g read may.0.got then_read)

  one_stop : (a : Action) (place : Place) → MayStop a x place → IsRead (left a x place) → GotIds a (left a x place) later → TakenUp a x place later
  one_stop Sync place may then_read got = sync_stop place may then_read got
  one_stop Handheld place may then_read got = handheld_stop place may then_read got
  one_stop Desktop place may then_read got = desktop_stop place may then_read got
  one_stop Both place may then_read got = baseless_stop place may then_read got

-- ---- one after another

-- what is left can be read
read-left : (a : Action) {x : Finding} (place : Place) → IsRead x → MayStop a x place → IsRead (left a x place)
read-left a before_mark read may = read
read-left Sync {x} (among_news given n) read may = read-news Sync x given n read may.got
read-left Handheld {x} (among_news given n) read may = read-news Handheld x given n read (got-any x given)
read-left Desktop {x} (among_news given n) read may = read-news Desktop x given n read may
read-left Both {x} (among_news given n) read may = read-news Both x given n read may.got
read-left a {x} (behind_commit given n) read may = read-commit a x given n read may.got
read-left a (at_end given view g) read may = may.1

pub both_repeat : (a : Action) {x : Finding} (places : List Place) (later : List ℕ) → IsRead x → AreStops a x places → GotIds a (left_by a x places) later
    → GotIds a x (all_ids a places later) × EndAlike (ended a (left_by a x places) later) (ended a x (all_ids a places later))
both_repeat a {x} [] later read stops got = (got, alike_same {e = ended a x later} {f = ended a x later} refl)
both_repeat a {x} (place ∷ places) later read stops got =
    let then_read = read-left a place read stops.0 in
    let rest = both_repeat a {x = left a x place} places later then_read stops.1 got in
    let here = one_stop (all_ids a places later) read a place stops.0 then_read rest.0 in
    (here.0, grind (arith, rest.1, here.1))

pub repeat : (a : Action) (x : Finding) (places : List Place) (later : List ℕ) → IsRead x → AreStops a x places → GotIds a (left_by a x places) later
    → EndAlike (ended a (left_by a x places) later) (ended a x (all_ids a places later))
repeat a x places later read stops got = (both_repeat a places later read stops got).1

-- each place alone
pub news-alone : (x : Finding) (given later : List ℕ) (n : ℕ) → StopsAmongNews Sync x given n → GotIds Sync (left_among_news Sync x given n) later
    → ended Sync (left_among_news Sync x given n) later ≡ ended Sync x (given ++ later)
news-alone x given later n stops got = news x later n stops (read-news Sync x given n stops.read stops.got) got

pub handheld-alone : (x : Finding) (given later : List ℕ) (n : ℕ) → IsRead x
    → ended Handheld (left_among_news Handheld x given n) later ≡ ended Handheld x later
handheld-alone x given later n read = handheld-news x given later n read (read-news Handheld x given n read (got-any x given))

pub desktop-alone : (x : Finding) (given later : List ℕ) (n : ℕ) → IsRead x → GotIds Desktop x given
    → GotIds Desktop (left_among_news Desktop x given n) later
    → EndAlike (ended Desktop (left_among_news Desktop x given n) later) (ended Desktop x later)
desktop-alone x given later n read got later_got = (desktop-news x given later n read got (read-news Desktop x given n read got) later_got).1

pub purges-alone : (a : Action) (x : Finding) (given later : List ℕ) (n : ℕ) → IsRead x → GotIds a x given
    → EndAlike (ended a (left_behind_commit a x given n) later) (ended a x given)
purges-alone Sync x given later n read got = behind-commit Sync x given n tt read got (read-commit Sync x given n read got) later
purges-alone Handheld x given later n read got = handheld-behind x given later n read got (read-commit Handheld x given n read got)
purges-alone Desktop x given later n read got = behind-commit Desktop x given n tt read got (read-commit Desktop x given n read got) later
purges-alone Both x given later n read got = baseless-behind x given n read got (read-commit Both x given n read got) later

pub baseless-alone : (x : Finding) (given later : List ℕ) (n : ℕ) → StopsAmongNews Both x given n → GotIds Both (left_among_news Both x given n) later
    → ended Both (left_among_news Both x given n) later ≡ ended Both x (given ++ later)
baseless-alone x given later n stops got = (baseless-news x n stops (read-news Both x given n stops.read stops.got) later got).1

-- ---- as many ids stand as there are adds

none_added : (x : Finding) → (chosen Handheld x).adds ≡ []
none_added x = ap (λ c. Choice.adds c) (handheld-is (sides x))

both_lengths : (given later : List ℕ) (adds : List ContentValue) {then_adds : List ContentValue} → length given ≡ length adds
    → length later ≡ length then_adds → then_adds ≡ [] → length (given ++ later) ≡ length adds
both_lengths given later adds is then_is none = grind (arith, nat_tests, common_steps)

-- those of a session, with those behind it
abbrev AreEnough : Action → Finding → Place → List ℕ → Type 0
AreEnough a x place later = length later ≡ length (chosen a (left a x place)).adds → length (ids_with a place later) ≡ length (chosen a x).adds

sync_enough : (x : Finding) (place : Place) (later : List ℕ) → IsRead x → MayStop Sync x place → IsRead (left Sync x place) → AreEnough Sync x place later
sync_enough x before_mark later read may then_read is = is
sync_enough x (among_news given n) later read may then_read is = length-append given later ∙ ap (λ m. length given + m) is ∙ news-adds x given n may then_read
sync_enough x (behind_commit given n) later read may then_read is =
    both_lengths given later (chosen Sync x).adds may.each is (commit-adds Sync x given n tt read may.got then_read)
sync_enough x (at_end given view g) later read may then_read is =
    both_lengths given later (chosen Sync x).adds may.0.each is (end-adds Sync x given view g read may.0.got then_read)

handheld_enough : (x : Finding) (place : Place) (later : List ℕ) → MayStop Handheld x place → AreEnough Handheld x place later
handheld_enough x before_mark later may is = is
handheld_enough x (among_news given n) later may is = grind arith
handheld_enough x (behind_commit given n) later may is =
    both_lengths given later (chosen Handheld x).adds may.each is (none_added (left_behind_commit Handheld x given n))
handheld_enough x (at_end given view g) later may is =
    both_lengths given later (chosen Handheld x).adds may.0.each is (none_added (left_at_end Handheld x given view g))

desktop_enough : (x : Finding) (place : Place) (later : List ℕ) → IsRead x → MayStop Desktop x place → IsRead (left Desktop x place)
    → AreEnough Desktop x place later
desktop_enough x before_mark later read may then_read is = is
desktop_enough x (among_news given n) later read may then_read is = is ∙ ap (λ c. length (Choice.adds c)) (chosen-again x given n)
desktop_enough x (behind_commit given n) later read may then_read is =
    both_lengths given later (chosen Desktop x).adds may.each is (commit-adds Desktop x given n tt read may.got then_read)
desktop_enough x (at_end given view g) later read may then_read is =
    both_lengths given later (chosen Desktop x).adds may.0.each is (end-adds Desktop x given view g read may.0.got then_read)

baseless_enough : (x : Finding) (place : Place) (later : List ℕ) → IsRead x → MayStop Both x place → IsRead (left Both x place)
    → AreEnough Both x place later
baseless_enough x before_mark later read may then_read is = is
baseless_enough x (among_news given n) later read may then_read is =
    length-append given later ∙ ap (λ m. length given + m) is ∙ baseless-adds x n may then_read
baseless_enough x (behind_commit given n) later read may then_read is =
    both_lengths given later (chosen Both x).adds may.each is (baseless-commit_adds x given n read may.got then_read)
baseless_enough x (at_end given view g) later read may then_read is =
    both_lengths given later (chosen Both x).adds may.0.each is (end-adds Both x given view g read may.0.got then_read)

one_enough : (a : Action) (x : Finding) (place : Place) (later : List ℕ) → IsRead x → MayStop a x place → IsRead (left a x place)
    → AreEnough a x place later
one_enough Sync x place later read may then_read is = sync_enough x place later read may then_read is
one_enough Handheld x place later read may then_read is = handheld_enough x place later may is
one_enough Desktop x place later read may then_read is = desktop_enough x place later read may then_read is
one_enough Both x place later read may then_read is = baseless_enough x place later read may then_read is

all_enough : (a : Action) {x : Finding} (places : List Place) (later : List ℕ) → IsRead x → AreStops a x places
    → length later ≡ length (chosen a (left_by a x places)).adds → length (all_ids a places later) ≡ length (chosen a x).adds
all_enough a [] later read stops is = is
all_enough a {x} (place ∷ places) later read stops is =
    let then_read = read-left a place read stops.0 in
    one_enough a x place (all_ids a places later) read stops.0 then_read (all_enough a {x = left a x place} places later then_read stops.1 is)

-- ---- up to the ids of new records

alike_ends : {x : Finding} {e f g : Ending} → EndAlike e f → SameEnds x f g → SameEnds x e g
alike_ends alike same = grind arith

pub repeat_anew : (a : Action) (x : Finding) (places : List Place) (later new : List ℕ) → IsRead x → AreStops a x places
    → GotAllIds a (left_by a x places) later → AreUnknown x (all_ids a places later) → GotAllIds a x new → AreUnknown x new
    → SameEnds x (ended a (left_by a x places) later) (ended a x new)
repeat_anew a x places later new read stops all un new_all new_un =
    let both = both_repeat a places later read stops all.got in
    alike_ends both.1
    (renamed a x (all_ids a places later) new read (record { got = both.0; each = all_enough a places later read stops all.each }) new_all un new_un)
