-- A session that stops among its replacements and adds: the next one decides what is left of them.
use Rattle.std.proofs.Common.{◌≡◌, ℕ, zero, suc, ◌<◌, ◌≤◌, List, [], ◌∷◌, ◌++◌, refl, ap, ◌∙◌, sym, subst, arith, Bool, Option, Some, ◌==◌, if◌then◌else◌}
use Rattle.std.specs.Prelude.{take}
use Rattle.pdb_values.specs.Contents.{ContentValue}
use Rattle.pdb_values.specs.declared.record.Record.{Record}
use Rattle.palm_device.specs.Records.{put_record}
use Rattle.conduit_rules.specs.ById.{id_bound, put}
use Rattle.conduit_rules.specs.States.{SideState, live, held, held_where, base_at}
use Rattle.conduit_rules.specs.Choices.{Choice, Sides, choice, choice_for, sides_of}
use Rattle.conduit_rules.specs.declared.action.Action.TheVariants.{Handheld, Desktop, Both}
use Rattle.conduit_rules.proofs.ActionLaws.{handheld-is, handheld-unwritten}
use Rattle.conduit_rules.proofs.BothLaws.{none_based, without_base-is}
use Rattle.conduit_rules.specs.Plans.{replacement, replaced_rows}
use Rattle.conduit_rules.specs.Views.{view_held}
use Rattle.conduit_rules.specs.declared.view.Seen.{Seen}
use Rattle.conduit_rules.proofs.ByIdLaws.{id_bound-is}
use Rattle.conduit_rules.specs.Writes.{given_to}
use Rattle.conduit_rules.proofs.ChoiceLaws.{choice-put, choice-add}
use Rattle.record_merge.specs.Writes.{Write, replace, add, after, numbered, replaces, adding, giving, AreFree}
use Rattle.record_merge.specs.Stops.{sides_after, AreWrites, behind, with_add, rest_of, AreOf, NoBase}
use Rattle.record_merge.proofs.PutLaws.{held-put}
use Rattle.record_merge.proofs.AfterLaws.{place-first}
use Rattle.conduit_rules.specs.ById.{each_below, with_id}
use Rattle.conduit_rules.proofs.ByIdLaws.{each_below-zero, each_below-suc}

-- what the handheld holds after them is that of the sides with them put
pub held-after : (ws : List Write) (s : Sides) (records : List Record) → AreWrites ws → ((i : ℕ) → s.handheld i ≡ held records i) → (i : ℕ)
    → (sides_after ws s).handheld i ≡ held (after ws records) i
held-after [] s records only shows i = shows i
held-after (replace j c ∷ ws) s records only shows i =
    held-after ws (given_to s j c) (put_record j c records) only (λ k. ap (λ x. if k == j then live c else x) (shows k) ∙ sym (held-put j c records k)) i
held-after (add j c ∷ ws) s records only shows i =
    held-after ws (given_to s j c) (put_record j c records) only (λ k. ap (λ x. if k == j then live c else x) (shows k) ∙ sym (held-put j c records k)) i
held-after (w ∷ ws) s records only shows i = absurd only

-- only the handheld's side changes
others : (ws : List Write) (s : Sides) → AreWrites ws → sides_after ws s ≡ record s { handheld = (sides_after ws s).handheld }
others [] s only = refl
others (replace j c ∷ ws) s only = others ws (given_to s j c) only
others (add j c ∷ ws) s only = others ws (given_to s j c) only
others (w ∷ ws) s only = absurd only

-- the sides of the session after a stop: those of the one that stopped, with its writes put
pub sides-again : (v w : List Seen) (ws : List Write) (rows base records : List Record) (gone_counts : Bool) → AreWrites ws
    → ((i : ℕ) → view_held v i ≡ held records i) → ((i : ℕ) → view_held w i ≡ held (after ws records) i)
    → sides_of w rows base gone_counts ≡ sides_after ws (sides_of v rows base gone_counts)
sides-again v w ws rows base records gone_counts only first_shows then_shows =
    let s = sides_of v rows base gone_counts in
    let same : (i : ℕ) → view_held w i ≡ (sides_after ws s).handheld i = λ i. then_shows i ∙ sym (held-after ws s records only first_shows i) in
    (λ k. record {
      base = s.base;
      handheld = λ i. same i k;
      desktop = s.desktop;
      loose_live = s.loose_live;
      loose_archived = s.loose_archived;
      all_live = s.all_live;
      all_archived = s.all_archived;
    })
    ∙ sym (others ws s only)

-- ---- what is left to do

-- after a stop among these writes the choice is what is left of them
pub choice-after : (ws : List Write) (ch : Choice) (s : Sides) → choice s ≡ ch → AreOf ws ch s → choice (sides_after ws s) ≡ rest_of ws ch
choice-after [] ch s e of = e
choice-after (replace i c ∷ ws) ch s e of = choice-after ws ch (given_to s i c) (choice-put s i c (ap (λ x. Choice.keep x i) e ∙ of.0) ∙ e) of.1
choice-after (add g a ∷ ws) ch s e of =
    choice-after ws (with_add ch g a) (given_to s g a)
    (choice-add s g a (behind ch.adds) of.1 of.2 of.3 (ap (λ x. Choice.adds x) e ∙ of.0)
    ∙ λ k. record { keep = put (e k).keep g (Some a); archive = (e k).archive; adds = behind ch.adds })
    of.4
choice-after (w ∷ ws) ch s e of = absurd of

-- the first so many of them are too
pub of-take : (n : ℕ) (ws : List Write) (ch : Choice) (s : Sides) → AreOf ws ch s → AreOf (take n ws) ch s
of-take zero ws ch s of = tt
of-take (suc n) [] ch s of = tt
of-take (suc n) (replace i c ∷ ws) ch s of = (of.0, of-take n ws ch (given_to s i c) of.1)
of-take (suc n) (add g a ∷ ws) ch s of = (of.0, of.1, of.2, of.3, of-take n ws (with_add ch g a) (given_to s g a) of.4)
of-take (suc n) (w ∷ ws) ch s of = absurd of

pub writes-of : (ws : List Write) (ch : Choice) (s : Sides) → AreOf ws ch s → AreWrites ws
writes-of [] ch s of = tt
writes-of (replace i c ∷ ws) ch s of = writes-of ws ch (given_to s i c) of.1
writes-of (add g a ∷ ws) ch s of = writes-of ws (with_add ch g a) (given_to s g a) of.4
writes-of (w ∷ ws) ch s of = absurd of

pub within : (g : ℕ) → g ≤ 16777215 → g < id_bound
within g l = subst (λ n. g < n) (sym id_bound-is) (omega arith)

adds-of : (given : List ℕ) (cs : List ContentValue) (ch : Choice) (s : Sides) (now : List Record) → ch.adds ≡ cs → NoBase s.base given
    → ((i : ℕ) → s.handheld i ≡ held now i) → AreFree (numbered given cs) now → AreOf (adding (numbered given cs)) ch s
adds-of [] cs ch s now e none shows free = tt
adds-of (g ∷ gs) [] ch s now e none shows free = tt
adds-of (g ∷ gs) (c ∷ cs) ch s now e none shows free = (
  e ∙ ap (λ xs. c ∷ xs) (sym (ap behind e)),
  none.0,
  shows g ∙ ap held_where (place-first g now free.0.none),
  within g free.0.bound,
  adds-of gs cs (with_add ch g c) (given_to s g c) (put_record g c now) (ap behind e) none.1 (λ k. ap (λ x. if k == g then live c else x) (shows k)
      ∙ sym (held-put g c now k)) free.1,
)

-- each pair stands in what is kept
abbrev pub AreKept : (ℕ → Option ContentValue) → List (ℕ × ContentValue) → Type 0
AreKept keep [] = Unit {0}
AreKept keep (e ∷ es) = (keep e.0 ≡ Some e.1) × AreKept keep es

writes-of_choice : (es : List (ℕ × ContentValue)) (given : List ℕ) (ch : Choice) (s : Sides) (now : List Record) → AreKept ch.keep es
    → NoBase s.base given → ((i : ℕ) → s.handheld i ≡ held now i) → AreFree (numbered given ch.adds) (after (replaces es) now)
    → AreOf (replaces es ++ adding (numbered given ch.adds)) ch s
writes-of_choice [] given ch s now kept none shows free = adds-of given ch.adds ch s now refl none shows free
writes-of_choice (e ∷ es) given ch s now kept none shows free = (
  kept.0,
  writes-of_choice es given ch (given_to s e.0 e.1) (put_record e.0 e.1 now) kept.1 none
      (λ k. ap (λ x. if k == e.0 then live e.1 else x) (shows k) ∙ sym (held-put e.0 e.1 now k)) free,
)

kept-append : (keep : ℕ → Option ContentValue) (xs ys : List (ℕ × ContentValue)) → AreKept keep xs → AreKept keep ys → AreKept keep (xs ++ ys)
kept-append keep [] ys kept more = more
kept-append keep (x ∷ xs) ys kept more = (kept.0, kept-append keep xs ys kept.1 more)

kept_one : (keep : ℕ → Option ContentValue) (i : ℕ) (k : Option ContentValue) (h : SideState) → keep i ≡ k → AreKept keep (with_id i (replacement k h))
kept_one keep i k h is = grind arith

kept_below : (keep : ℕ → Option ContentValue) (h : ℕ → SideState) (n : ℕ) → AreKept keep (each_below (λ i. with_id i (replacement (keep i) (h i))) n)
kept_below keep h zero = subst (AreKept keep) (sym (each_below-zero (λ i. with_id i (replacement (keep i) (h i))))) tt
kept_below keep h (suc n) = subst (AreKept keep) (sym (each_below-suc (λ i. with_id i (replacement (keep i) (h i))) n))
    (kept-append keep (each_below (λ i. with_id i (replacement (keep i) (h i))) n) (with_id n (replacement (keep n) (h n))) (kept_below keep h n)
    (kept_one keep n (keep n) (h n) refl))

-- the replacements and adds are of the choice
pub giving-of : (s : Sides) (given : List ℕ) (records : List Record) → NoBase s.base given → ((i : ℕ) → s.handheld i ≡ held records i)
    → AreFree (numbered given (choice s).adds) (after (replaces (replaced_rows (choice s).keep s.handheld)) records)
    → AreOf (giving (choice s) s.handheld given) (choice s) s
giving-of s given records none shows free =
    writes-of_choice (replaced_rows (choice s).keep s.handheld) given (choice s) s records (kept_below (choice s).keep s.handheld id_bound) none shows free

-- a session that stops after n of them: the next one's choice is what was left
pub choice-stopped : (n : ℕ) (v w : List Seen) (rows base records : List Record) (gone_counts : Bool) (given : List ℕ)
    → NoBase (sides_of v rows base gone_counts).base given → ((i : ℕ) → view_held v i ≡ held records i)
    → AreFree (numbered given (choice (sides_of v rows base gone_counts)).adds)
    (after (replaces (replaced_rows (choice (sides_of v rows base gone_counts)).keep (view_held v))) records)
    → ((i : ℕ) → view_held w i ≡ held (after (take n (giving (choice (sides_of v rows base gone_counts)) (view_held v) given)) records) i)
    → choice (sides_of w rows base gone_counts) ≡ rest_of (take n (giving (choice (sides_of v rows base gone_counts)) (view_held v) given))
    (choice (sides_of v rows base gone_counts))
choice-stopped n v w rows base records gone_counts given none shows free then_shows =
    let s = sides_of v rows base gone_counts in
    let ws = take n (giving (choice s) (view_held v) given) in
    let of = of-take n (giving (choice s) (view_held v) given) (choice s) s (giving-of s given records none shows free) in
    ap choice (sides-again v w ws rows base records gone_counts (writes-of ws (choice s) s of) shows then_shows)
    ∙ choice-after ws (choice s) s refl of

-- ---- both sides without their base

pub no_base_rows : (gone_counts : Bool) (given : List ℕ) → NoBase (base_at [] gone_counts) given
no_base_rows gone_counts [] = tt
no_base_rows gone_counts (g ∷ gs) = (none_based gone_counts g, no_base_rows gone_counts gs)

-- a session that stops after n of its writes: the next one's choice is what was left
pub baseless-stopped : (n : ℕ) (v w : List Seen) (rows base records : List Record) (gone_counts : Bool) (given : List ℕ)
    → ((i : ℕ) → view_held v i ≡ held records i)
    → (let ch = choice_for Both (sides_of v rows base gone_counts) in
    AreFree (numbered given ch.adds) (after (replaces (replaced_rows ch.keep (view_held v))) records)
    → ((i : ℕ) → view_held w i ≡ held (after (take n (giving ch (view_held v) given)) records) i)
    → choice_for Both (sides_of w rows base gone_counts) ≡ rest_of (take n (giving ch (view_held v) given)) ch)
baseless-stopped n v w rows base records gone_counts given shows =
    let bare : (x : List Seen) → choice_for Both (sides_of x rows base gone_counts) ≡ choice (sides_of x rows [] gone_counts) =
    λ x. ap choice (without_base-is x rows base gone_counts) in
    subst (λ (ch : Choice). AreFree (numbered given ch.adds) (after (replaces (replaced_rows ch.keep (view_held v))) records)
    → ((i : ℕ) → view_held w i ≡ held (after (take n (giving ch (view_held v) given)) records) i)
    → choice_for Both (sides_of w rows base gone_counts) ≡ rest_of (take n (giving ch (view_held v) given)) ch) (sym (bare v))
    (λ free then_shows. bare w ∙ choice-stopped n v w rows [] records gone_counts given (no_base_rows gone_counts given) shows free then_shows)

-- ---- one side alone

-- a session that goes by the handheld gives it nothing
pub handheld-given : (s : Sides) (given : List ℕ) → giving (choice_for Handheld s) s.handheld given ≡ []
handheld-given s given =
    ap {A = List (ℕ × ContentValue) × List ContentValue} (λ p. replaces p.0 ++ adding (numbered given p.1))
    (λ k. ((handheld-unwritten s).0 k, ap (λ x. Choice.adds x) (handheld-is s) k))
    ∙ ap adding (none_given given)
  where
    none_given : (given : List ℕ) → numbered given [] ≡ []
    none_given [] = refl
    none_given (g ∷ gs) = refl

-- one that goes by the desktop chooses the same, whatever the handheld has
pub desktop-again : (v w : List Seen) (rows base : List Record) (gone_counts : Bool)
    → choice_for Desktop (sides_of w rows base gone_counts) ≡ choice_for Desktop (sides_of v rows base gone_counts)
desktop-again v w rows base gone_counts = refl
