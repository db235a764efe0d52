-- The pass that makes a plan: what it has below an id, one round more, and its end. And how many steps it takes.
use Rattle.std.proofs.Common.{◌≡◌, ◌⊎◌, ⊎_elim, inl, inr, ℕ, ◌+◌, ◌-◌, ◌*◌, ◌^◌, ◌≤◌, ◌<◌, ◌==◌, List, refl, ap, ◌∙◌, sym, subst, arith, Option, Some}
use Rattle.std.proofs.Common.{None, Bool, true, false, is_some, if◌then◌else◌, length, drop, take, nat_lt, not, ◌&&◌, ◌||◌, max, Bor, rules}
use Rattle.std.specs.List.{find}
use Rattle.std.specs.Option.{option_map}
use Rattle.std.proofs.lemmas.Bool.{cases_lt}
use Rattle.std.proofs.lemmas.List.{length-drop}
use Rattle.std.proofs.lemmas.Bool.Decides.{nat_tests}
use Rattle.pdb_values.specs.declared.record.Record.{Record}
use Rattle.conduit_rules.specs.Choices.{Sides, sides_of, fate_for, partner_for, partner_under, loose_for, offered_for, put_away_for}
use Rattle.conduit_rules.specs.Drafts.{IsDraft, Grew}
use Rattle.conduit_rules.specs.Fates.{fate_under, looks_at_base}
use Rattle.conduit_rules.specs.Fronts.{seen_id, record_id, IsFront, NoneAhead, seen_in, row_in, base_in, is_loose_in}
use Rattle.conduit_rules.specs.News.{loose, found_in, noted, live_contents, archived_records}
use Rattle.conduit_rules.specs.Runs.{IsRunOf, front_under, IsFrom}
use Rattle.conduit_rules.specs.States.{SideState, held_where, BaseState, base_at, has_row, is_row}
use Rattle.conduit_rules.specs.Views.{seen_where}
use Rattle.conduit_rules.specs.declared.action.Action.{Action}
use Rattle.conduit_rules.specs.declared.draft.Draft.{Draft}
use Rattle.conduit_rules.specs.declared.front.Front.{Front}
use Rattle.conduit_rules.specs.declared.view.Seen.{Seen}
use Rattle.conduit_rules.proofs.DraftLaws.{IsDraftBelow, IsQuiet, draft-next, draft-end, base_at-none, view_held-none, loose_counted}
use Rattle.conduit_rules.proofs.LooseLaws.{based_by, is_loose_after, loose-by}
use Rattle.conduit_rules.proofs.PassLaws.{IsAhead, ahead-start, ahead-pass, ahead-first, ahead-none, ahead-end, is_repeated, Repeats, repeats-start}
use Rattle.conduit_rules.proofs.PassLaws.{repeats-pass, front-repeated, Slotted, slotted-start, slotted-pass, slotted-end}
use Rattle.conduit_rules.proofs.RunLaws.{behind_front, drop-front}
use Rattle.std.proofs.lemmas.Grind.{common_steps}

-- what the pass has below n: the lists, and of each list what is ahead
pub record IsPass (a : Action) (view : List Seen) (rows base : List Record) (gone_counts : Bool) (vs : List (ℕ × Seen)) (rs bs : List (ℕ × Record))
    (slots : List (Option Record)) (d : Draft) (n : ℕ) : Type 0 where
  pub draft : IsDraftBelow a (sides_of view rows base gone_counts) d n
  pub views : IsAhead seen_id view n vs
  pub rows_ahead : IsAhead record_id rows n rs
  pub bases : IsAhead record_id base n bs
  pub repeats : Repeats rows n rs
  pub slotted : Slotted (based_by a (has_row base)) rows rs slots

pub pass-start : (a : Action) (view : List Seen) (rows base : List Record) (gone_counts : Bool) (vs : List (ℕ × Seen)) (rs bs : List (ℕ × Record))
    (slots : List (Option Record)) (d : Draft)
    → IsRunOf seen_id view vs → IsRunOf record_id rows rs → IsRunOf record_id base bs → length slots ≡ length rows
    → IsDraftBelow a (sides_of view rows base gone_counts) d 0
    → IsPass a view rows base gone_counts vs rs bs slots d 0
pass-start a view rows base gone_counts vs rs bs slots d view_run rows_run base_run len draft = search (rules, ahead-start, repeats-start, slotted-start)

now_of : {A : Type 0} (o : Option (ℕ × Bor A)) → option_map (λ (e : ℕ × A). e.1) (option_map (λ e. (e.0, e.1.now)) o) ≡ option_map (λ e. e.1.now) o
now_of None = refl
now_of (Some e) = refl

some_map : {A B : Type 0} (g : A → B) (o : Option A) → is_some o ≡ is_some (option_map g o)
some_map g None = refl
some_map g (Some a) = refl

-- the first of the id in front is what is in front
in_front : {A : Type 0} (id : A → ℕ) (list : List A) (n i : ℕ) (es : List (ℕ × A)) (o : Option (ℕ × Bor A)) → IsAhead id list n es → n ≤ i → IsFrom id i es
    → option_map (λ e. (e.0, e.1.now)) o ≡ front_under id i es
    → option_map (λ e. e.1.now) o ≡ find (λ x. id x == i) list
in_front {A} id list n i es o is from least front = cc (now_of o, ahead-first id list n i es is from least)

-- what is left once the front is passed
left : {A : Type 0} (id : A → ℕ) (i : ℕ) (es new : List (ℕ × A)) (o : Option (ℕ × Bor A)) → option_map (λ e. (e.0, e.1.now)) o ≡ front_under id i es
    → new ≡ drop (if is_some o then 1 else 0) es → new ≡ behind_front id i es
left id i es new o front is = search (rules, drop-front, some_map)

pub front-some : {A : Type 0} (id : A → ℕ) (i : ℕ) (es : List (ℕ × A)) (o : Option (ℕ × Bor A)) → option_map (λ e. (e.0, e.1.now)) o ≡ front_under id i es
    → is_some o ≡ true → 0 < length es
front-some id i es o front some = grind (arith, common_steps, nat_tests, some_map)

front-id : {A : Type 0} (id : A → ℕ) (i : ℕ) (es : List (ℕ × A)) (e : ℕ × A) → front_under id i es ≡ Some e → id e.1 ≡ i
front-id id i es e front = grind (arith, common_steps, nat_tests)

-- whether the row in front counts by itself
loose_says : (a : Action) (rows base : List Record) (n : ℕ) (rs bs : List (ℕ × Record)) (f : Front) (e : ℕ × Record) → IsAhead record_id base n bs → Repeats rows n rs
    → IsFrom record_id f.id bs
    → option_map (λ x. (x.0, x.1.now)) f.base ≡ front_under record_id f.id bs → front_under record_id f.id rs ≡ Some e
    → is_loose_in a n f ≡ is_loose_after (based_by a (has_row base)) (take e.0 rows) e.1.id
loose_says a rows base n rs bs f e ahead repeats least at_base front = go (cases_lt f.id n)
  where
    same_id : e.1.id ≡ f.id
    same_id = front-id record_id f.id rs e front

    repeated : is_repeated rows e ≡ nat_lt f.id n
    repeated = front-repeated rows n f.id rs e repeats front

    go : (f.id < n) ⊎ (n ≤ f.id) → is_loose_in a n f ≡ is_loose_after (based_by a (has_row base)) (take e.0 rows) e.1.id
    go (inl before) =
        let old : nat_lt f.id n ≡ true = grind (arith, nat_tests, before) in
        ap (λ b. b || not (looks_at_base a && is_row (base_in false f))) old ∙ sym (ap (λ b. b || not (based_by a (has_row base) e.1.id)) (repeated ∙ old))
    go (inr after) =
        let based : base_in false f ≡ base_at base false f.id = cc (in_front record_id base n f.id bs f.base ahead after least at_base) in
        ap {A = Bool × Bool} (λ p. p.0 || not (looks_at_base a && p.1)) (λ k. (sym repeated k, (ap is_row based ∙ sym (ap (has_row base) same_id)) k))

-- one round more
pub pass-next : (a : Action) (view : List Seen) (rows base : List Record) (gone_counts : Bool) (vs vs' : List (ℕ × Seen)) (rs bs rs' bs' : List (ℕ × Record))
    (slots slots' : List (Option Record)) (d e : Draft) (n m : ℕ) (f : Front)
    → IsPass a view rows base gone_counts vs rs bs slots d n → IsFront f vs rs bs → f.id < 2 ^ 24
    → (n ≤ f.id → Grew d e f.id (fate_under a (base_in gone_counts f) (seen_in f) (row_in f)) (seen_in f) (partner_under a (base_in gone_counts f) (seen_in f)))
    → (f.id < n → e ≡ d) → slots' ≡ noted (option_map (λ x. (x.0, x.1.now)) f.row) (is_loose_in a n f) slots
    → vs' ≡ drop (if is_some f.seen then 1 else 0) vs → rs' ≡ drop (if is_some f.row then 1 else 0) rs → bs' ≡ drop (if is_some f.base then 1 else 0) bs
    → m ≡ max n (f.id + 1)
    → IsPass a view rows base gone_counts vs' rs' bs' slots' e m
pass-next a view rows base gone_counts vs vs' rs bs rs' bs' slots slots' d e n m f was front within grows stays slots_are vs_are rs_are bs_are m_is = record {
  draft = go (cases_lt f.id n);
  views = rw (left seen_id f.id vs vs' f.seen front.seen vs_are) (ahead-pass seen_id view n m f.id vs was.views more passed);
  rows_ahead = rw rows_left (ahead-pass record_id rows n m f.id rs was.rows_ahead more passed);
  bases = rw (left record_id f.id bs bs' f.base front.base bs_are) (ahead-pass record_id base n m f.id bs was.bases more passed);
  repeats = rw rows_left (repeats-pass rows n m f.id rs was.repeats was.rows_ahead.rising front.least_row more passed reach);
  slotted = subst {A = List (ℕ × Record) × List (Option Record)} (λ p. Slotted (based_by a (has_row base)) rows p.0 p.1)
      (λ k. (sym rows_left k, sym (slots_are ∙ ap (λ o. noted o (is_loose_in a n f) slots) front.row) k))
      (slotted-pass (based_by a (has_row base)) rows f.id rs slots (is_loose_in a n f) was.slotted
      (λ x at. loose_says a rows base n rs bs f x was.bases was.repeats front.least_base front.base at));
}
  where
    more : n ≤ m
    more = omega arith

    passed : f.id < m
    passed = omega arith

    reach : (m ≡ n) ⊎ (m ≡ f.id + 1)
    reach = ⊎_elim (λ (before : f.id < n). inl (omega arith)) (λ (after : n ≤ f.id). inr (omega arith)) (cases_lt f.id n)

    rows_left : rs' ≡ behind_front record_id f.id rs
    rows_left = left record_id f.id rs rs' f.row front.row rs_are

    sides : Sides
    sides = sides_of view rows base gone_counts

    quiet : n ≤ f.id → (j : ℕ) → n ≤ j → j < f.id → IsQuiet (sides_of view rows base gone_counts) j
    quiet after j from before = (
      base_at-none base gone_counts j (ahead-none record_id base n f.id j bs was.bases from before front.least_base),
      view_held-none view j (ahead-none seen_id view n f.id j vs was.views from before front.least_seen),
    )

    go : (f.id < n) ⊎ (n ≤ f.id) → IsDraftBelow a (sides_of view rows base gone_counts) e m
    go (inl before) = subst {A = Draft × ℕ} (λ p. IsDraftBelow a (sides_of view rows base gone_counts) p.0 p.1)
        (λ k. (sym (stays before) k, (let same : n ≡ m = omega arith in same) k)) was.draft
    go (inr after) =
        let based : base_in gone_counts f ≡ base_at base gone_counts f.id = cc (in_front record_id base n f.id bs f.base was.bases after front.least_base
        front.base) in
        let seen : seen_in f ≡ (sides_of view rows base gone_counts).handheld f.id =
        ap seen_where (in_front seen_id view n f.id vs f.seen was.views after front.least_seen front.seen) in
        let row : row_in f ≡ (sides_of view rows base gone_counts).desktop f.id =
        ap held_where (in_front record_id rows n f.id rs f.row was.rows_ahead after front.least_row front.row) in
        let grew : Grew d e f.id (fate_for a (sides_of view rows base gone_counts) f.id) ((sides_of view rows base gone_counts).handheld f.id)
        (partner_for a (sides_of view rows base gone_counts) f.id) =
        subst {A = BaseState × SideState × SideState} (λ p. Grew d e f.id (fate_under a p.0 p.1 p.2) p.1 (partner_under a p.0 p.1)) (λ k. (based k, seen k, row k))
        (grows after) in
        rw (← let same : f.id + 1 ≡ m = omega arith in same)
        (draft-next a (sides_of view rows base gone_counts) d e n f.id was.draft grew after within (quiet after))

-- nothing is ahead
pub pass-end : (a : Action) (view : List Seen) (rows base : List Record) (gone_counts : Bool) (vs : List (ℕ × Seen)) (rs bs : List (ℕ × Record))
    (slots counted : List (Option Record)) (d : Draft) (n : ℕ)
    → IsPass a view rows base gone_counts vs rs bs slots d n → NoneAhead vs rs bs → counted ≡ loose_for a slots slots
    → IsDraft a (sides_of view rows base gone_counts) d × (live_contents (found_in counted) ≡ offered_for a (sides_of view rows base gone_counts))
    × (archived_records (found_in counted) ≡ put_away_for a (sides_of view rows base gone_counts))
pass-end a view rows base gone_counts vs rs bs slots counted d n was none counted_is =
    let found : found_in slots ≡ loose (based_by a (has_row base)) rows = slotted-end (based_by a (has_row base)) rows rs slots was.slotted none.1 in
    let both = loose_counted a slots counted counted_is in (
      draft-end a (sides_of view rows base gone_counts) d n was.draft
          (λ j from. (
            base_at-none base gone_counts j (ahead-end record_id base n j bs was.bases none.2 from),
            view_held-none view j
                (ahead-end seen_id view n j vs was.views none.0 from),
          )),
      both.0 ∙ loose-by a live_contents (has_row base) rows (found_in slots) found,
      both.1 ∙ loose-by a archived_records (has_row base) rows (found_in slots) found,
    )

abbrev pub one_if : Bool → ℕ
one_if b = if b then 1 else 0

-- the steps of a round
pub steps-next : (x y z : Bool) (v r b s t total : ℕ) → (x || (y || z)) ≡ true → (x ≡ true → 0 < v) → (y ≡ true → 0 < r) → (z ≡ true → 0 < b)
    → t ≡ s + 3 + one_if x + one_if y + one_if z → s + 4 * (v + r + b) ≤ total → t + 4 * ((v - one_if x) + (r - one_if y) + (b - one_if z)) ≤ total
steps-next x y z v r b s t total some is_v is_r is_b steps fits = grind (arith, common_steps, nat_tests)

-- the same, by the lists
pub steps-left : {A B C : Type 0} (x y z : Bool) (vs vs' : List A) (rs rs' : List B) (bs bs' : List C) (s t total : ℕ) → (x || (y || z)) ≡ true
    → (x ≡ true → 0 < length vs) → (y ≡ true → 0 < length rs)
    → (z ≡ true → 0 < length bs) → vs' ≡ drop (one_if x) vs → rs' ≡ drop (one_if y) rs → bs' ≡ drop (one_if z) bs → t ≡ s + 3 + one_if x + one_if y + one_if z
    → s + 4 * (length vs + length rs + length bs) ≤ total → t + 4 * (length vs' + length rs' + length bs') ≤ total
steps-left x y z vs vs' rs rs' bs bs' s t total some is_v is_r is_b vs_are rs_are bs_are steps fits =
    grind (arith, common_steps, nat_tests, length-drop, steps-next)
