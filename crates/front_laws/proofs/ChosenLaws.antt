-- What a choice does with a content, and that what is kept, added or archived stands in the merge.
use Rattle.std.proofs.lemmas.Grind.{common_steps}
use Rattle.std.proofs.lemmas.Bool.{cases_Bool, or_cases, or_left, or_right}
use Rattle.std.proofs.lemmas.Bool.Decides.{nat_tests}
use Rattle.std.proofs.lemmas.List.Folds.{list_any-append}
use Rattle.std.proofs.Common.{◌≡◌, ⊎_elim, ℕ, ◌<◌, ◌||◌, List, [], ◌∷◌, ◌++◌, refl, ap, ◌∙◌, sym, arith, true, false, Bool, Option, Some, None}
use Rattle.std.proofs.Common.{option_to_list, map, if◌then◌else◌, length, nat_lt}
use Rattle.std.specs.List.{list_any}
use Rattle.std.specs.Option.{option_or}
use Rattle.pdb_values.specs.Contents.{ContentValue}
use Rattle.conduit_rules.specs.ById.{at, each_id, id_bound}
use Rattle.conduit_rules.specs.Choices.{Choice, Sides, choice_for, contents_of, fate_for, kept_twice, offered_for, offers_for, partner_for, partner_under}
use Rattle.conduit_rules.specs.Choices.{partners_for, put_away_for}
use Rattle.conduit_rules.specs.Contents.{count_of, same_content}
use Rattle.conduit_rules.specs.Fates.{fate_under, named, stands}
use Rattle.conduit_rules.specs.States.{BaseState, SideState, no_base, row, gone}
use Rattle.conduit_rules.specs.declared.action.Action.{Action}
use Rattle.conduit_rules.specs.declared.action.Action.TheVariants.{Sync, Handheld, Desktop, Both}
use Rattle.conduit_rules.proofs.BoundLaws.{live_or}
use Rattle.conduit_rules.proofs.ContentLaws.{same_content-is}
use Rattle.conduit_rules.proofs.PairingLaws.{greater_kept}
use Rattle.record_merge.specs.Merging.{AreNew, merged_archive, merged_rows, row_under}
use Rattle.record_merge.specs.Writes.{numbered}
use Rattle.record_merge.proofs.HeldLaws.{held-rows}
use Rattle.front_laws.specs.Lives.{is_live_in}
use Rattle.front_laws.proofs.StandLaws.{any-below, contents-any, copies-have, counted-stands, has_content, held-live_in, some-below, some-stands}
use Rattle.front_laws.proofs.StandLaws.{stands-counted}
use Rattle.front_laws.proofs.StandLaws.{stands-some}

-- a choice keeps a content under an id, adds it or archives it
pub data IsChosen (ch : Choice) (c : ContentValue) : Type 0 where
  kept : (i : ℕ) → i < id_bound → ch.keep i ≡ Some c → IsChosen ch c
  added : stands c ch.adds ≡ true → IsChosen ch c
  put_away : stands c (contents_of ch.archive) ≡ true → IsChosen ch c

-- ---- new records of the desktop

-- a new record of the handheld is kept
mate-kept : (a : Action) (b : BaseState) (h d : SideState) (c : ContentValue) → partner_under a b h ≡ Some c → (fate_under a b h d).keep ≡ Some c
mate-kept Sync no_base h d c is = is
mate-kept Sync (row b) h d c is = absurd (cc)
mate-kept Sync (gone b) h d c is = absurd (cc)
mate-kept Handheld b h d c is = absurd (cc)
mate-kept Desktop b h d c is = absurd (cc)
mate-kept Both b h d c is = is

none-counted : (c : ContentValue) (xs : List ContentValue) → stands c xs ≡ false → count_of c xs ≡ 0
none-counted c [] none = refl
none-counted c (x ∷ xs) none = grind (arith, common_steps, none-counted c xs)

-- of what is offered each content is added, or the handheld has it new
pub offered-chosen : (a : Action) (s : Sides) (c : ContentValue) → stands c (offers_for a s) ≡ true → IsChosen (choice_for a s) c
offered-chosen a s c is =
    ⊎_elim (λ (there : stands c (choice_for a s).adds ≡ true). added there) (λ none. paired (mates none))
    (cases_Bool (stands c (choice_for a s).adds))
  where
    mates : stands c (choice_for a s).adds ≡ false → stands c (partners_for a s) ≡ true
    mates none =
        let some = stands-counted c (offers_for a s) is in
        let no_add = none-counted c (choice_for a s).adds none in
        let greater = greater_kept c (partners_for a s) (offers_for a s) in
        counted-stands c (partners_for a s) (omega (arith, some, no_add, greater))

    paired : stands c (partners_for a s) ≡ true → IsChosen (choice_for a s) c
    paired there =
        let found = some-below (λ x. same_content x c) (λ i. option_to_list (partner_for a s i)) id_bound there in
        kept found.0 found.1.below
        (mate-kept a (s.base found.0) (s.handheld found.0) (s.desktop found.0) c (stands-some c (partner_for a s found.0) found.1.passes))

pub loose-chosen : (a : Action) (s : Sides) (c : ContentValue) → stands c (offered_for a s) ≡ true → IsChosen (choice_for a s) c
loose-chosen a s c is =
    offered-chosen a s c (list_any-append (λ x. same_content x c) (offered_for a s) (kept_twice a s)
    ∙ or_left (stands c (offered_for a s)) (stands c (kept_twice a s)) is)

-- ---- what becomes of an id

any-entries : (c : ContentValue) (i : ℕ) (xs : List ContentValue) → list_any (has_content c) (map (λ x. (i, x)) xs) ≡ stands c xs
any-entries c i [] = refl
any-entries c i (x ∷ xs) = ap (λ b. same_content x c || b) (any-entries c i xs)

module _ (a : Action) (s : Sides) (i : ℕ) (c : ContentValue) (below : i < id_bound) where
  fate-archived : stands c (fate_for a s i).archive ≡ true → IsChosen (choice_for a s) c
  fate-archived is =
      let F : ℕ → List (ℕ × ContentValue) = λ j. map (λ x. (j, x)) (fate_for a s j).archive in
      let first : List (ℕ × ContentValue) = map (λ x. (0, x)) (put_away_for a s) in
      put_away (contents-any c (choice_for a s).archive ∙ list_any-append (has_content c) first (each_id F)
      ∙ or_right (list_any (has_content c) first) (list_any (has_content c) (each_id F))
      (any-below (has_content c) F i id_bound below (any-entries c i (fate_for a s i).archive ∙ is)))

  fate-new : (fate_for a s i).news ≡ Some c → IsChosen (choice_for a s) c
  fate-new is =
      offered-chosen a s c (list_any-append (λ x. same_content x c) (offered_for a s) (kept_twice a s)
      ∙ or_right (stands c (offered_for a s)) (stands c (kept_twice a s))
      (any-below (λ x. same_content x c) (λ j. option_to_list (fate_for a s j).news) i id_bound below (some-stands c (fate_for a s i).news is)))

  -- each content that it names
  pub named-chosen : stands c (named (fate_for a s i)) ≡ true → IsChosen (choice_for a s) c
  named-chosen is =
      let f = fate_for a s i in
      let p : ContentValue → Bool = λ x. same_content x c in
      ⊎_elim (λ (here : stands c (option_to_list f.keep) ≡ true). kept i below (stands-some c f.keep here))
      (λ (later : stands c (f.archive ++ option_to_list f.news) ≡ true).
      ⊎_elim (λ (away : stands c f.archive ≡ true). fate-archived away)
      (λ (new : stands c (option_to_list f.news) ≡ true). fate-new (stands-some c f.news new))
      (or_cases (stands c f.archive) (stands c (option_to_list f.news)) (sym (list_any-append p f.archive (option_to_list f.news)) ∙ later)))
      (or_cases (stands c (option_to_list f.keep)) (stands c (f.archive ++ option_to_list f.news))
      (sym (list_any-append p (option_to_list f.keep) (f.archive ++ option_to_list f.news)) ∙ is))

-- ---- the merge

pub kept_under : (keep : ℕ → Option ContentValue) (o : Option ContentValue) (i : ℕ) (c : ContentValue) → i < id_bound → keep i ≡ Some c
    → (if nat_lt i id_bound then option_or (keep i) o else None) ≡ Some c
kept_under keep o i c below is = grind (arith, nat_tests, below, is)

-- where each add has its id
record HasItsId (keep : ℕ → Option ContentValue) (es : List (ℕ × ContentValue)) (c : ContentValue) (n g : ℕ) : Type 0 where
  below : g < n
  stands : option_or (keep g) (at g es) ≡ Some c

add-id : (keep : ℕ → Option ContentValue) (es : List (ℕ × ContentValue)) (c : ContentValue) (n : ℕ) → AreNew keep es n
    → list_any (has_content c) es ≡ true → (g : ℕ) × HasItsId keep es c n g
add-id keep [] c n new is = absurd (cc)
add-id keep (e ∷ es) c n new is =
    ⊎_elim (λ (here : same_content e.1 c ≡ true). (e.0, record { below = new.2; stands = own here }))
    (λ (later : list_any (has_content c) es ≡ true). let found = add-id keep es c n new.3 later in (found.0, past found.0 found.1))
    (or_cases (same_content e.1 c) (list_any (has_content c) es) is)
  where
    own : same_content e.1 c ≡ true → option_or (keep e.0) (at e.0 (e ∷ es)) ≡ Some c
    own is = let same = same_content-is e.1 c is in grind (arith, nat_tests, new.0, same)

    past : (g : ℕ) → HasItsId keep es c n g → HasItsId keep (e ∷ es) c n g
    past g is = let there = is.stands in record { below = is.below; stands = grind (arith, nat_tests, new.0, new.1, there) }

numbered-any : (c : ContentValue) (given : List ℕ) (cs : List ContentValue) → length given ≡ length cs
    → list_any (has_content c) (numbered given cs) ≡ stands c cs
numbered-any c [] [] each = refl
numbered-any c [] (x ∷ xs) each = absurd (omega (arith, each))
numbered-any c (g ∷ gs) [] each = absurd (omega (arith, each))
numbered-any c (g ∷ gs) (x ∷ xs) each = ap (λ b. same_content x c || b) (numbered-any c gs xs (omega (arith, each)))

module _ (ch : Choice) (given : List ℕ) (old : List (ℕ × ContentValue)) (c : ContentValue) where
  pub row-live_in : (i : ℕ) → row_under ch given i ≡ Some c → is_live_in c (merged_rows ch given) ≡ true
  row-live_in i is = held-live_in c (merged_rows ch given) i (held-rows ch given i ∙ ap live_or is)

  pub kept-live_in : (i : ℕ) → i < id_bound → ch.keep i ≡ Some c → is_live_in c (merged_rows ch given) ≡ true
  kept-live_in i below is = row-live_in i (kept_under ch.keep (at i (numbered given ch.adds)) i c below is)

  pub added-live_in : AreNew ch.keep (numbered given ch.adds) id_bound → length given ≡ length ch.adds → stands c ch.adds ≡ true
      → is_live_in c (merged_rows ch given) ≡ true
  added-live_in new each is =
      let found = add-id ch.keep (numbered given ch.adds) c id_bound new (numbered-any c given ch.adds each ∙ is) in
      let g = found.0 in
      let below = found.1.below in
      let there = found.1.stands in
      row-live_in g (grind (arith, nat_tests, below, there))

  -- what was archived stays so
  pub old-archived : stands c (contents_of old) ≡ true → stands c (contents_of (merged_archive ch old)) ≡ true
  old-archived is =
      copies-have c (old ++ ch.archive) (contents-any c (old ++ ch.archive) ∙ list_any-append (has_content c) old ch.archive
      ∙ or_left (list_any (has_content c) old) (list_any (has_content c) ch.archive) (sym (contents-any c old) ∙ is))

  new-archived : stands c (contents_of ch.archive) ≡ true → stands c (contents_of (merged_archive ch old)) ≡ true
  new-archived is =
      copies-have c (old ++ ch.archive) (contents-any c (old ++ ch.archive) ∙ list_any-append (has_content c) old ch.archive
      ∙ or_right (list_any (has_content c) old) (list_any (has_content c) ch.archive) (sym (contents-any c ch.archive) ∙ is))

  -- what is chosen is a row of the merge, or archived
  pub chosen-merged : AreNew ch.keep (numbered given ch.adds) id_bound → length given ≡ length ch.adds → IsChosen ch c
      → (is_live_in c (merged_rows ch given) || stands c (contents_of (merged_archive ch old))) ≡ true
  chosen-merged new each (kept i below is) =
      or_left (is_live_in c (merged_rows ch given)) (stands c (contents_of (merged_archive ch old))) (kept-live_in i below is)
  chosen-merged new each (added is) =
      or_left (is_live_in c (merged_rows ch given)) (stands c (contents_of (merged_archive ch old))) (added-live_in new each is)
  chosen-merged new each (put_away is) =
      or_right (is_live_in c (merged_rows ch given)) (stands c (contents_of (merged_archive ch old))) (new-archived is)
