-- Sessions that go by the handheld, and others that keep each of its live records: one that stopped is ended by the next one as it would have ended.
use Rattle.std.proofs.Common.{◌≡◌, ℕ, zero, suc, ◌<◌, ◌==◌, ◌||◌, List, [], ◌∷◌, ◌++◌, refl, ap, ◌∙◌, sym, subst, arith, true, false, Bool, Option, Some}
use Rattle.std.proofs.Common.{None, if◌then◌else◌, nat_lt, take}
use Rattle.std.specs.Option.{option_or}
use Rattle.std.proofs.lemmas.Bool.Decides.{nat_tests}
use Rattle.std.proofs.lemmas.List.Folds.{list_any-append}
use Rattle.pdb_values.specs.Contents.{ContentValue}
use Rattle.pdb_values.specs.declared.record.Record.{Record}
use Rattle.conduit_rules.specs.ById.{id_bound, at, each_id, with_id}
use Rattle.conduit_rules.specs.Choices.{Choice}
use Rattle.conduit_rules.specs.States.{SideState, nothing, live_of, archived_of, held}
use Rattle.conduit_rules.specs.declared.action.Action.{Action}
use Rattle.conduit_rules.specs.declared.action.Action.TheVariants.{Handheld}
use Rattle.conduit_rules.proofs.ActionLaws.{handheld-is}
use Rattle.conduit_rules.proofs.ByIdLaws.{each_below-zero}
use Rattle.conduit_rules.proofs.ContentLaws.{same_content-same}
use Rattle.record_merge.specs.Merging.{row_under, merged_archive, is_archived, one_copy_behind}
use Rattle.record_merge.specs.Writes.{Write, after, clearing, numbered}
use Rattle.record_merge.proofs.ArchiveLaws.{copies-stand, is_equal, same_entry}
use Rattle.record_merge.proofs.PutLaws.{differ-ids}
use Rattle.record_merge.proofs.StopLaws.{handheld-given}
use Rattle.front_laws.specs.Repeats.{Finding, IsRead, EndAlike, ended, sides, chosen, shown, GotIds, news_done, clearing_done, left_among_news}
use Rattle.front_laws.specs.Repeats.{left_behind_commit}
use Rattle.front_laws.proofs.ClearLaws.{clearing-take, Fits}
use Rattle.front_laws.proofs.CommitLaws.{copies-again, rows-again, base-again, records-again, fits-behind, over_bound}
use Rattle.front_laws.proofs.FirstLaws.{with_ids, with_ids-suc}
use Rattle.front_laws.proofs.GivenLaws.{clearing-given}
use Rattle.front_laws.proofs.NewsLaws.{ended_by}
use Rattle.desk_store.proofs.FindLaws.{or_true}

-- ---- a stop before the commit

pub take_none : (n : ℕ) {ws : List Write} → ws ≡ [] → take n ws ≡ []
take_none n is = grind arith

-- it gave nothing
none_done : (x : Finding) (given : List ℕ) (n : ℕ) → news_done Handheld x given n ≡ []
none_done x given n = take_none n (handheld-given (sides x) given)

abbrev by_held : (ℕ → SideState) → Choice
by_held h = record { keep = λ i. live_of (h i); archive = each_id (λ i. with_id i (archived_of (h i))); adds = [] }

pub handheld-news : (x : Finding) (given later : List ℕ) (n : ℕ) → IsRead x → IsRead (left_among_news Handheld x given n)
    → ended Handheld (left_among_news Handheld x given n) later ≡ ended Handheld x later
handheld-news x given later n read then_read =
    let y = left_among_news Handheld x given n in
    let records : y.records ≡ x.records = ap (λ ws. after ws x.records) (none_done x given n) in
    let shows : shown y ≡ shown x = λ k i. (then_read.shows i ∙ ap (λ rs. held rs i) records ∙ sym (read.shows i)) k in
    let same : chosen Handheld y ≡ chosen Handheld x = handheld-is (sides y) ∙ ap by_held shows ∙ sym (handheld-is (sides x)) in
    ap {A = Choice × ((ℕ → SideState) × List Record)} (λ p. ended_by p.0 p.1.0 later p.1.1 x.archive) (λ k. (same k, (shows k, records k)))

-- ---- what stands in an archive isn't put there again

-- each of these stands among the earlier ones or in the list
abbrev AllAmong : List (ℕ × ContentValue) → List (ℕ × ContentValue) → List (ℕ × ContentValue) → Type 0
AllAmong earlier xs [] = Unit {0}
AllAmong earlier xs (y ∷ ys) = ((is_archived y earlier || is_archived y xs) ≡ true) × AllAmong earlier xs ys

none-left : (earlier ys : List (ℕ × ContentValue)) → AllAmong earlier [] ys → one_copy_behind earlier ys ≡ []
none-left earlier [] all = refl
none-left earlier (y ∷ ys) all = grind (arith, none-left earlier ys all.1)

skipped : (a t r : Bool) → (t ≡ true → a ≡ true) → (a || (t || r)) ≡ true → (a || r) ≡ true
skipped a t r e is = grind arith

taken : (a t r : Bool) → (a || (t || r)) ≡ true → ((t || a) || r) ≡ true
taken a t r is = grind arith

all-skipped : (earlier : List (ℕ × ContentValue)) (e : ℕ × ContentValue) (xs ys : List (ℕ × ContentValue)) → is_archived e earlier ≡ true
    → AllAmong earlier (e ∷ xs) ys → AllAmong earlier xs ys
all-skipped earlier e xs [] there all = tt
all-skipped earlier e xs (y ∷ ys) there all =
    grind (arith, skipped (is_archived y earlier) (is_equal e y) (is_archived y xs), is_equal e y, same_entry e y, all-skipped earlier e xs ys there all.1)

all-taken : (earlier : List (ℕ × ContentValue)) (e : ℕ × ContentValue) (xs ys : List (ℕ × ContentValue)) → AllAmong earlier (e ∷ xs) ys
    → AllAmong (e ∷ earlier) xs ys
all-taken earlier e xs [] all = tt
all-taken earlier e xs (y ∷ ys) all = (taken (is_archived y earlier) (is_equal e y) (is_archived y xs) all.0, all-taken earlier e xs ys all.1)

copies-more : (earlier xs ys : List (ℕ × ContentValue)) → AllAmong earlier xs ys → one_copy_behind earlier (xs ++ ys) ≡ one_copy_behind earlier xs
copies-more earlier [] ys all = none-left earlier ys all
copies-more earlier (e ∷ xs) ys all =
    by (is_archived e earlier) refl (λ a. copies-more earlier xs ys a) (copies-more (e ∷ earlier) xs ys (all-taken earlier e xs ys all))
  where
    by : (b : Bool) → is_archived e earlier ≡ b → (AllAmong earlier xs ys → one_copy_behind earlier (xs ++ ys) ≡ one_copy_behind earlier xs)
        → one_copy_behind (e ∷ earlier) (xs ++ ys) ≡ one_copy_behind (e ∷ earlier) xs
        → (if b then one_copy_behind earlier (xs ++ ys) else e ∷ one_copy_behind (e ∷ earlier) (xs ++ ys)) ≡
        (if b then one_copy_behind earlier xs else e ∷ one_copy_behind (e ∷ earlier) xs)
    by true is skip take_ = skip (all-skipped earlier e xs ys is all)
    by false is skip take_ = ap (λ zs. e ∷ zs) take_

-- what is given for an id stands in the list by id
here : (i n : ℕ) (c : ContentValue) → (i == n) ≡ true → is_archived (i, c) ((n, c) ∷ []) ≡ true
here i n c is = grind (arith, same_content-same c)

pub among-below : (f : ℕ → Option ContentValue) (i : ℕ) {c : ContentValue} (n : ℕ) → i < n → f i ≡ Some c → is_archived (i, c) (with_ids f n) ≡ true
among-below f i zero l is = absurd (omega (arith, l))
among-below f i {c} (suc n) l is =
    ap (is_archived (i, c)) (with_ids-suc f n)
    ∙ list_any-append (λ (x : ℕ × ContentValue). is_equal x (i, c)) (with_ids f n) (with_id n (f n))
    ∙ by (i == n) refl (λ b. among-below f i n b is)
  where
    by : (b : Bool) → (i == n) ≡ b → (i < n → is_archived (i, c) (with_ids f n) ≡ true)
        → (is_archived (i, c) (with_ids f n) || is_archived (i, c) (with_id n (f n))) ≡ true
    by true same ih =
        let id : i ≡ n = grind (arith, nat_tests, same) in
        ap (λ o. is_archived (i, c) (with_ids f n) || is_archived (i, c) (with_id n o)) (ap f (sym id) ∙ is)
        ∙ ap (λ b. is_archived (i, c) (with_ids f n) || b) (here i n c same)
        ∙ or_true (is_archived (i, c) (with_ids f n))
    by false same ih = let below : i < n = grind (arith, nat_tests, same, l) in ap (λ b. b || is_archived (i, c) (with_id n (f n))) (ih below)

all-append : (xs ys zs : List (ℕ × ContentValue)) → AllAmong [] xs ys → AllAmong [] xs zs → AllAmong [] xs (ys ++ zs)
all-append xs [] zs all more = more
all-append xs (y ∷ ys) zs all more = (all.0, all-append xs ys zs all.1 more)

all_one : (xs : List (ℕ × ContentValue)) (i : ℕ) (o : Option ContentValue) → ((c : ContentValue) → o ≡ Some c → is_archived (i, c) xs ≡ true)
    → AllAmong [] xs (with_id i o)
all_one xs i o stand = grind arith

all-below : (xs : List (ℕ × ContentValue)) (f : ℕ → Option ContentValue) (n : ℕ)
    → ((i : ℕ) (c : ContentValue) → i < n → f i ≡ Some c → is_archived (i, c) xs ≡ true) → AllAmong [] xs (with_ids f n)
all-below xs f zero stand = subst (AllAmong [] xs) (sym (each_below-zero (λ i. with_id i (f i)))) tt
all-below xs f (suc n) stand =
    grind (arith, AllAmong [] xs, with_ids-suc f n, all-append xs (with_ids f n) (with_id n (f n)), with_ids f n, all-below xs f n, all_one xs n (f n))

-- ---- a stop behind the commit

kept_now : (k : Option ContentValue) (h now : SideState) → (k ≡ None → live_of h ≡ None) → Fits k h now → live_of now ≡ k
kept_now k h now none fits = grind arith

archived_before : (k : Option ContentValue) (h now : SideState) {c : ContentValue} → Fits k h now → archived_of now ≡ Some c → archived_of h ≡ Some c
archived_before k h now fits is = grind arith

live_none : (b : Bool) (h : SideState) (o : Option ContentValue) → (b ≡ false → h ≡ nothing) → (if b then option_or (live_of h) o else None) ≡ None
    → live_of h ≡ None
live_none b h o bare is = grind arith

-- what it archives stands in the archive
archived-stands : (ch : Choice) (old : List (ℕ × ContentValue)) (e : ℕ × ContentValue) → is_archived e ch.archive ≡ true
    → is_archived e (merged_archive ch old) ≡ true
archived-stands ch old e there =
    copies-stand e [] (old ++ ch.archive)
    ∙ list_any-append (λ (x : ℕ × ContentValue). is_equal x e) old ch.archive
    ∙ ap (λ b. is_archived e old || b) there
    ∙ or_true (is_archived e old)

abbrev pub kept_and : (ℕ → Option ContentValue) → List (ℕ × ContentValue) → Choice
kept_and keep archive = record { keep = keep; archive = archive; adds = [] }

-- the archived records that a session finds
abbrev pub archived_in : Finding → List (ℕ × ContentValue)
archived_in x = each_id (λ i. with_id i (archived_of (shown x i)))

-- an action keeps what the handheld has live under its ids, and archives what it has archived; and once both sides are merged, but for purges, it does
-- nothing else
pub record KeepsLive (a : Action) : Type 0 where
  pub keep : (x : Finding) (i : ℕ) → (chosen a x).keep i ≡ live_of (shown x i)
  pub archive : (x : Finding) (i : ℕ) (c : ContentValue) → i < id_bound → archived_of (shown x i) ≡ Some c → is_archived (i, c) (chosen a x).archive ≡ true
  pub again : (x : Finding) (given : List ℕ) (n : ℕ)
      → ((i : ℕ) → live_of (shown (left_behind_commit a x given n) i) ≡ row_under (chosen a x) given i)
      → chosen a (left_behind_commit a x given n) ≡ kept_and (row_under (chosen a x) given) (archived_in (left_behind_commit a x given n))

module _ (a : Action) (keeps : KeepsLive a) (x : Finding) (given : List ℕ) (n : ℕ) (read : IsRead x) (got : GotIds a x given)
    (then_read : IsRead (left_behind_commit a x given n)) where
  fits-then : (i : ℕ) → Fits (row_under (chosen a x) given i) (shown x i) (shown (left_behind_commit a x given n) i)
  fits-then i =
      let are = clearing-take (row_under (chosen a x) given) n (clearing (chosen a x) (shown x))
      (clearing-given (chosen a x) (shown x) given x.records read.bounded read.shows got) in
      subst (Fits (row_under (chosen a x) given i) (shown x i)) (sym (then_read.shows i)) (fits-behind a given (clearing_done a x n) read got are i)

  -- the rows stay, and what the handheld still has archived is archived once more
  pub kept-behind : chosen a (left_behind_commit a x given n)
      ≡ kept_and (row_under (chosen a x) given) (archived_in (left_behind_commit a x given n))
  kept-behind = keeps.again x given n
      (λ i. kept_now (row_under (chosen a x) given i) (shown x i) (shown (left_behind_commit a x given n) i)
      (λ none. live_none (nat_lt i id_bound) (shown x i) (at i (numbered given (chosen a x).adds)) (over_bound x read i)
      (ap (λ k. if nat_lt i id_bound then option_or k (at i (numbered given (chosen a x).adds)) else None) (sym (keeps.keep x i)) ∙ none)) (fits-then i))

  pub live-behind : (later : List ℕ) → EndAlike (ended a (left_behind_commit a x given n) later) (ended a x given)
  live-behind later =
      let ch = chosen a x in
      let y = left_behind_commit a x given n in
      let ws = clearing_done a x n in
      let keep = row_under ch given in
      let are = clearing-take keep n (clearing ch (shown x)) (clearing-given ch (shown x) given x.records read.bounded read.shows got) in
      let more = archived_in y in
      let old = merged_archive ch x.archive in
      let all = all-below old (λ i. archived_of (shown y i)) id_bound
      (λ i c l e. archived-stands ch x.archive (i, c) (keeps.archive x i c l (archived_before (keep i) (shown x i) (shown y i) (fits-then i) e))) in
      let same_records = records-again ch (shown x) given x.records ws (shown y) later (differ-ids x.records read.ids) read.bounded read.shows got are
      (differ-ids y.records then_read.ids) then_read.bounded then_read.shows fits-then in
      subst (λ c. EndAlike (ended_by c (shown y) later y.records old) (ended a x given)) (sym kept-behind) (record {
        records = same_records;
        rows = rows-again ch given later;
        base = base-again ch (shown x) (shown y) given later;
        archive = copies-more [] old more all ∙ copies-again [] (x.archive ++ ch.archive);
      })

pub handheld-keeps : KeepsLive Handheld
handheld-keeps = record {
  keep = λ x i. ap (λ ch. Choice.keep ch i) (handheld-is (sides x));
  archive = λ x i c l is. ap (λ ch. is_archived (i, c) (Choice.archive ch)) (handheld-is (sides x))
      ∙ among-below (λ j. archived_of (shown x j)) i id_bound l is;
  again = λ x given n kept. let y = left_behind_commit Handheld x given n in
      handheld-is (sides y) ∙ (λ k. record { keep = λ i. kept i k; archive = archived_in y; adds = [] });
}

pub handheld-behind : (x : Finding) (given later : List ℕ) (n : ℕ) → IsRead x → GotIds Handheld x given → IsRead (left_behind_commit Handheld x given n)
    → EndAlike (ended Handheld (left_behind_commit Handheld x given n) later) (ended Handheld x given)
handheld-behind x given later n read got then_read = live-behind Handheld handheld-keeps x given n read got then_read later
