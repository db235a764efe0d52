-- Sessions that go by the desktop: one that stopped before the commit is begun anew by the next one, which purges what was added.
use Rattle.std.proofs.Common.{◌≡◌, ℕ, ◌==◌, List, [], ◌∷◌, ◌++◌, refl, ap, ◌∙◌, sym, subst, arith, true, false, Bool, Option, Some, None, map, if◌then◌else◌}
use Rattle.std.proofs.Common.{nat_lt, flat_map, drop, take-append-drop}
use Rattle.std.proofs.lemmas.Bool.Decides.{nat_tests}
use Rattle.pdb_values.specs.Contents.{ContentValue}
use Rattle.pdb_values.specs.declared.record.Record.{Record}
use Rattle.palm_device.specs.Records.{place_of_id, put_record, new_record}
use Rattle.palm_device.proofs.RecordLaws.{put_record_new}
use Rattle.conduit_rules.specs.ById.{id_bound, with_id, at, put}
use Rattle.conduit_rules.specs.Choices.{Choice}
use Rattle.conduit_rules.specs.Plans.{replacement, replaced_rows, purged_ids}
use Rattle.conduit_rules.specs.States.{SideState, live, held, first}
use Rattle.conduit_rules.specs.declared.action.Action.TheVariants.{Desktop}
use Rattle.conduit_rules.proofs.ActionLaws.{desktop-is}
use Rattle.conduit_rules.proofs.AgreedLaws.{RowsDiffer}
use Rattle.conduit_rules.proofs.ByIdLaws.{each_below-same}
use Rattle.conduit_rules.proofs.PlanLaws.{at-each_below}
use Rattle.record_merge.specs.Merging.{kept_record, new_under, settled_record, merged_records, AreBounded, AreNew}
use Rattle.record_merge.specs.Writes.{Write, replace, add, purge, clean_up, reset, after, numbered, replaces, adding, purges, giving, clearing, AreFree}
use Rattle.record_merge.specs.Writes.{GotFreeIds}
use Rattle.record_merge.proofs.AfterLaws.{place-first}
use Rattle.record_merge.proofs.CountLaws.{new-free}
use Rattle.record_merge.proofs.PutLaws.{held-put, first-put, put_over, differ-put, differ-ids}
use Rattle.front_laws.specs.Repeats.{Finding, IsRead, EndAlike, ended, sides, chosen, shown, GotIds, news_done, left_among_news}
use Rattle.front_laws.proofs.FirstLaws.{first-out}
use Rattle.front_laws.proofs.CommitLaws.{base-alike}
use Rattle.front_laws.proofs.NewsLaws.{whole-is, ended_by}
use Rattle.front_laws.proofs.ResumeLaws.{replaced_put, purges_put, rows_behind, replace_head, add_head}
use Rattle.record_merge.proofs.BoundLaws.{bounded-put}

-- ---- ids that are free among more records

pub first_place : (i : ℕ) (records : List Record) → first i records ≡ None → place_of_id i records ≡ None
first_place i [] e = refl
first_place i (r ∷ records) e = grind (arith, e, first_place i records)

-- each record of these has its id among those
abbrev Fewer : List Record → List Record → Type 0
Fewer few many = (i : ℕ) → first i many ≡ None → first i few ≡ None

fewer-put : (g : ℕ) (a : ContentValue) (few many : List Record) → Fewer few many → Fewer (put_record g a few) (put_record g a many)
fewer-put g a few many fewer i none = first-put g a few i ∙ by (i == g) refl
  where
    by : (b : Bool) → (i == g) ≡ b → (if b then Some (put_over g a (first g few)) else first i few) ≡ None
    by true is = absurd (let no : Some (put_over g a (first g many))
        ≡ None = ap (λ b. if b then Some (put_over g a (first g many)) else first i many) (sym is) ∙ sym (first-put g a many i) ∙ none in cc)
    by false is = fewer i (ap (λ b. if b then Some (put_over g a (first g many)) else first i many) (sym is) ∙ sym (first-put g a many i) ∙ none)

free-fewer : (es : List (ℕ × ContentValue)) (few many : List Record) → Fewer few many → AreFree es many → AreFree es few
free-fewer [] few many fewer free = tt
free-fewer (e ∷ es) few many fewer free =
    grind (
      arith,
      first_place e.0 few (fewer e.0 (place-first e.0 many free.0.none)),
      free-fewer es (put_record e.0 e.1 few) (put_record e.0 e.1 many) (fewer-put e.0 e.1 few many fewer) free.1,
    )

put-fewer : (g : ℕ) (a : ContentValue) (records : List Record) → Fewer records (put_record g a records)
put-fewer g a records i none = by (i == g) refl
  where
    by : (b : Bool) → (i == g) ≡ b → first i records ≡ None
    by true is = absurd (let no : Some (put_over g a (first g records))
        ≡ None = ap (λ b. if b then Some (put_over g a (first g records)) else first i records) (sym is) ∙ sym (first-put g a records i) ∙ none in cc)
    by false is = ap (λ b. if b then Some (put_over g a (first g records)) else first i records) (sym is) ∙ sym (first-put g a records i) ∙ none

-- ---- an add that no row is kept for goes again

last_goes : (f : Record → List Record) (xs : List Record) (y : Record) → f y ≡ [] → flat_map f (xs ++ y ∷ []) ≡ flat_map f xs
last_goes f [] y none = ap (λ zs. zs ++ []) none
last_goes f (x ∷ xs) y none = ap (λ zs. f x ++ zs) (last_goes f xs y none)

abbrev kept_of : (ℕ → Option ContentValue) → (ℕ → SideState) → List Record → List Record
kept_of keep h records = flat_map (λ r. kept_record (keep r.id) (h r.id) r) records

same_kept : (keep : ℕ → Option ContentValue) (h1 h : ℕ → SideState) (g : ℕ) (records : List Record) → first g records ≡ None
    → ((j : ℕ) → (j == g) ≡ false → h1 j ≡ h j) → kept_of keep h1 records ≡ kept_of keep h records
same_kept keep h1 h g [] none same = refl
same_kept keep h1 h g (r ∷ records) none same = grind (arith, same_kept keep h1 h g records)

pub new_none : (j : ℕ) (o : Option Record) → new_under j o None ≡ []
new_none j o = grind arith

new_same : (keep : ℕ → Option ContentValue) (g : ℕ) (a : ContentValue) (records : List Record) → keep g ≡ None → (j : ℕ)
    → new_under j (first j (put_record g a records)) (keep j) ≡ new_under j (first j records) (keep j)
new_same keep g a records none j = by (j == g) refl
  where
    by : (b : Bool) → (j == g) ≡ b → new_under j (first j (put_record g a records)) (keep j) ≡ new_under j (first j records) (keep j)
    by true is =
        let bare : keep j ≡ None = (let same : j ≡ g = grind (arith, nat_tests, is) in ap keep same ∙ none) in
        ap (new_under j (first j (put_record g a records))) bare ∙ new_none j (first j (put_record g a records))
        ∙ sym (ap (new_under j (first j records)) bare ∙ new_none j (first j records))
    by false is = ap (λ o. new_under j o (keep j)) (first-put g a records j ∙ ap (λ b. if b then Some (put_over g a (first g records)) else first j records) is)

held_beside : (g : ℕ) (a : ContentValue) (records : List Record) (j : ℕ) → (j == g) ≡ false → held (put_record g a records) j ≡ held records j
held_beside g a records j is = held-put g a records j ∙ ap (λ b. if b then live a else held records j) is

merged-add : (ch : Choice) (later : List ℕ) (g : ℕ) (a : ContentValue) (records : List Record) → place_of_id g records ≡ None → ch.keep g ≡ None
    → merged_records ch (held (put_record g a records)) later (put_record g a records) ≡ merged_records ch (held records) later records
merged-add ch later g a records free none =
    let z = put_record g a records in
    let kept : kept_of ch.keep (held z) z ≡ kept_of ch.keep (held records) records =
    ap (kept_of ch.keep (held z)) (put_record_new g a records free)
    ∙ last_goes (λ r. kept_record (ch.keep r.id) (held z r.id) r) records (new_record g a) (ap (λ k. kept_record k (held z g) (new_record g a)) none)
    ∙ same_kept ch.keep (held z) (held records) g records (place-first g records free) (λ j is. held_beside g a records j is) in
    let new = each_below-same (λ j. new_under j (first j z) (ch.keep j)) (λ j. new_under j (first j records) (ch.keep j)) id_bound
    (λ j l. new_same ch.keep g a records none j) in
    λ k. kept k ++ (map settled_record (new k) ++ map settled_record (numbered later ch.adds))

-- ---- the writes of a session that stopped

replaced_same : (keep : ℕ → Option ContentValue) (g : ℕ) (a : ContentValue) (records : List Record) → keep g ≡ None
    → replaced_rows keep (held (put_record g a records)) ≡ replaced_rows keep (held records)
replaced_same keep g a records none =
    each_below-same (λ j. with_id j (replacement (keep j) (held (put_record g a records) j))) (λ j. with_id j (replacement (keep j) (held records j)))
    id_bound (λ j l. ap (with_id j) (one j (j == g) refl))
  where
    one : (j : ℕ) (b : Bool) → (j == g) ≡ b → replacement (keep j) (held (put_record g a records) j) ≡ replacement (keep j) (held records j)
    one j true is =
        let bare : keep j ≡ None = (let same : j ≡ g = grind (arith, nat_tests, is) in ap keep same ∙ none) in
        ap (λ k. replacement k (held (put_record g a records) j)) bare ∙ sym (ap (λ k. replacement k (held records j)) bare)
    one j false is = ap (replacement (keep j)) (held_beside g a records j is)

add_parts : {g : ℕ} {a : ContentValue} (e : ℕ × ContentValue) (es : List (ℕ × ContentValue)) {ws : List Write} → adding (e ∷ es) ≡ add g a ∷ ws
    → (e ≡ (g, a)) × (adding es ≡ ws)
add_parts e es is = grind arith

-- the merge of what is left is the one of what was found, and ids that are free for that one are free for this one
abbrev Again : Choice → List ℕ → List Record → List Record → Type 0
Again ch later z records = GotFreeIds ch (held records) later records × (merged_records ch (held z) later z ≡ merged_records ch (held records) later records)

again-adds : (ws : List Write) (es : List (ℕ × ContentValue)) (more : List Write) (ch : Choice) (later : List ℕ) (records : List Record)
    → adding es ≡ ws ++ more → AreFree es records → AreNew ch.keep es id_bound → replaced_rows ch.keep (held records) ≡ []
    → GotFreeIds ch (held (after ws records)) later (after ws records) → Again ch later (after ws records) records
again-adds [] es more ch later records is free new none got = (got, refl)
again-adds (add g a ∷ ws) [] more ch later records is free new none got = absurd (cc)
again-adds (add g a ∷ ws) (e ∷ es) more ch later records is free new none got =
    grind (
      arith,
      add_parts e es is,
      replaced_same ch.keep g a records,
      again-adds ws es more ch later (put_record g a records) (add_parts e es is).1,
      free-fewer (numbered later ch.adds) records (put_record g a records) (put-fewer g a records),
      put-fewer g a records,
      merged-add ch later g a records,
    )
again-adds (replace i c ∷ ws) [] more ch later records is free new none got = absurd (cc)
again-adds (replace i c ∷ ws) (e ∷ es) more ch later records is free new none got = absurd (cc)
again-adds (purge i ∷ ws) [] more ch later records is free new none got = absurd (cc)
again-adds (purge i ∷ ws) (e ∷ es) more ch later records is free new none got = absurd (cc)
again-adds (clean_up ∷ ws) [] more ch later records is free new none got = absurd (cc)
again-adds (clean_up ∷ ws) (e ∷ es) more ch later records is free new none got = absurd (cc)
again-adds (reset ∷ ws) [] more ch later records is free new none got = absurd (cc)
again-adds (reset ∷ ws) (e ∷ es) more ch later records is free new none got = absurd (cc)

kept_by : (b : Bool) (k : Option ContentValue) (h : SideState) {c : ContentValue} → (if b then replacement k h else None) ≡ Some c → k ≡ Some c
kept_by b k h is = grind arith

kept_first : (keep : ℕ → Option ContentValue) (h : ℕ → SideState) (i : ℕ) (c : ContentValue) {rest : List (ℕ × ContentValue)}
    → replaced_rows keep h ≡ (i, c) ∷ rest → keep i ≡ Some c
kept_first keep h i c {rest} is =
    kept_by (nat_lt i id_bound) (keep i) (h i) (sym (at-each_below (λ j. replacement (keep j) (h j)) id_bound i) ∙ ap (at i) is ∙ there)
  where
    there : at i ((i, c) ∷ rest) ≡ Some c
    there = grind (arith, nat_tests)

abbrev IsNews : Write → Type 0
IsNews (replace i c) = Unit {0}
IsNews (add g c) = Unit {0}
IsNews (purge i) = ⊥
IsNews clean_up = ⊥
IsNews reset = ⊥

first_news : (es adds : List (ℕ × ContentValue)) {w : Write} {ws : List Write} → replaces es ++ adding adds ≡ w ∷ ws → IsNews w
first_news [] [] is = absurd (cc)
first_news [] (x ∷ adds) {w} is = let same : add x.0 x.1 ≡ w = cc in subst IsNews same tt
first_news (e ∷ es) adds {w} is = let same : replace e.0 e.1 ≡ w = cc in subst IsNews same tt

again-news : (ws more : List Write) (ch : Choice) (given later : List ℕ) (records : List Record) → giving ch (held records) given ≡ ws ++ more
    → RowsDiffer records → AreBounded records → GotFreeIds ch (held records) given records
    → GotFreeIds ch (held (after ws records)) later (after ws records) → Again ch later (after ws records) records
again-news [] more ch given later records is differ bounded got then_got = (then_got, refl)
again-news (replace i c ∷ ws) more ch given later records is differ bounded got then_got =
    let z = put_record i c records in
    let rows = replaced_rows ch.keep (held records) in
    let adds = numbered later ch.adds in
    let head = replace_head rows (numbered given ch.adds) is in
    let kept = kept_first ch.keep (held records) i c head.0 in
    let holds : held z ≡ put (held records) i (live c) = λ k j. held-put i c records j k in
    let next : replaced_rows ch.keep (held z) ≡ rows_behind rows = ap (replaced_rows ch.keep) holds ∙ replaced_put ch.keep (held records) i kept head.0 in
    let cleared : purged_ids ch.keep (held z) ≡ purged_ids ch.keep (held records) = ap (purged_ids ch.keep) holds
    ∙ sym (purges_put ch.keep (held records) i kept) in
    let now : after (replaces rows) records ≡ after (replaces (replaced_rows ch.keep (held z))) z = ap (λ es. after (replaces es) records) head.0
    ∙ ap (λ es. after (replaces es) z) (sym next) in
    let l = (first-out (λ j. replacement (ch.keep j) (held records j)) id_bound head.0).0 in
    let z_differ = differ-put i c records differ in
    let z_bounded = bounded-put i c records (grind (arith, nat_tests, l)) bounded in
    let rest = again-news ws more ch given later z (ap (λ es. replaces es ++ adding (numbered given ch.adds)) next
    ∙ head.1) z_differ z_bounded (subst (AreFree (numbered given ch.adds)) now got) then_got in
    let later_got : GotFreeIds ch (held records) later records = subst (AreFree adds) (sym now) rest.0 in (
      later_got,
      rest.1
          ∙ sym (whole-is ch (held z) later z z_differ z_bounded (λ j. refl) rest.0)
          ∙ ap {A = List (ℕ × ContentValue) × List ℕ} (λ p. after ((replaces p.0 ++ adding adds) ++ (purges p.1 ++ clean_up ∷ reset ∷ [])) z)
          (λ k. (next k, cleared k))
          ∙ sym (ap (λ es. after ((replaces es ++ adding adds) ++ clearing ch (held records)) records) head.0)
          ∙ whole-is ch (held records) later records differ bounded (λ j. refl) later_got,
    )
again-news (add g a ∷ ws) more ch given later records is differ bounded got then_got =
    grind (
      arith,
      add_head (replaced_rows ch.keep (held records)) (numbered given ch.adds) is,
      again-adds (add g a ∷ ws) (numbered given ch.adds) more ch later records
          (add_head (replaced_rows ch.keep (held records)) (numbered given ch.adds) is).1,
      new-free ch (held records) given records,
    )
again-news (purge i ∷ ws) more ch given later records is differ bounded got then_got =
    absurd (first_news (replaced_rows ch.keep (held records)) (numbered given ch.adds) is)
again-news (clean_up ∷ ws) more ch given later records is differ bounded got then_got =
    absurd (first_news (replaced_rows ch.keep (held records)) (numbered given ch.adds) is)
again-news (reset ∷ ws) more ch given later records is differ bounded got then_got =
    absurd (first_news (replaced_rows ch.keep (held records)) (numbered given ch.adds) is)

-- ---- one session after the other

pub chosen-again : (x : Finding) (given : List ℕ) (n : ℕ) → chosen Desktop (left_among_news Desktop x given n) ≡ chosen Desktop x
chosen-again x given n = grind (arith, desktop-is (sides (left_among_news Desktop x given n)), desktop-is (sides x))

pub desktop-news : (x : Finding) (given later : List ℕ) (n : ℕ) → IsRead x → GotIds Desktop x given → IsRead (left_among_news Desktop x given n)
    → GotIds Desktop (left_among_news Desktop x given n) later
    → GotIds Desktop x later × EndAlike (ended Desktop (left_among_news Desktop x given n) later) (ended Desktop x later)
desktop-news x given later n read got then_read later_got =
    let y = left_among_news Desktop x given n in
    let ch = chosen Desktop x in
    let done = news_done Desktop x given n in
    let same = chosen-again x given n in
    let x_shown : shown x ≡ held x.records = λ k i. read.shows i k in
    let y_shown : shown y ≡ held y.records = λ k i. then_read.shows i k in
    let front : giving ch (held x.records) given ≡ done ++ drop n (giving ch (shown x) given) = ap (λ h. giving ch h given) (sym x_shown)
    ∙ sym (take-append-drop n (giving ch (shown x) given)) in
    let then_got : GotFreeIds ch (held y.records) later y.records =
    subst (λ (p : Choice × (ℕ → SideState)). GotFreeIds p.0 p.1 later y.records) (λ k. (same k, y_shown k)) later_got in
    let again = again-news done (drop n (giving ch (shown x) given)) ch given later x.records front (differ-ids x.records read.ids) read.bounded
    (subst (λ h. GotFreeIds ch h given x.records) x_shown got) then_got in (
      subst (λ h. GotFreeIds ch h later x.records) (sym x_shown) again.0,
      subst (λ c. EndAlike (ended_by c (shown y) later y.records x.archive) (ended Desktop x later)) (sym same) (record {
        records = ap (λ h. merged_records ch h later y.records) y_shown ∙ again.1 ∙ ap (λ h. merged_records ch h later x.records) (sym x_shown);
        rows = refl;
        base = base-alike ch (shown y) (shown x) later;
        archive = refl;
      }),
    )
