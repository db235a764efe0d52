-- A folder that can be opened as a desktop stays so.
use Rattle.std.proofs.Common.{◌≡◌, ◌⊎◌, ◌≤◌, ℕ, List, [], ◌∷◌, Option, None, Some, inl, inr, refl, sym, ap, subst, ◌∙◌}
use Rattle.std.specs.Prelude.{IfSome, length}
use Rattle.std.specs.FinMap as finmap
use Rattle.std.proofs.lemmas.List.{length-map}
use Rattle.hs_folders.specs.FileMaps.{FileMap}
use Rattle.hs_folders.specs.Moments.{EachMomentSince, Moments}
use Rattle.hs_folders.proofs.MomentLaws.{moments_weaken, no_moment}
use Rattle.desk_journal.specs.Overlays.{FinishesAs, finished}
use Rattle.desk_journal.proofs.FinishLaws.{plain_finished}
use Rattle.desk_store.specs.Desks.{IsDesk, IsDeskOf, IsOpenable, IsReadable, StaysOpenable, all_rows}
use Rattle.desk_store.specs.Finds.{first_bad, rows_count}
use Rattle.desk_store.specs.Shelves.{SlotValue, bad_at, info_of}
use Rattle.desk_store.proofs.CountLaws.{told_number}

-- ---- a desktop

none_bad : (held : FileMap) (slots : ℕ) (names : List (List ℕ)) → ((q : List ℕ) → bad_at held slots q ≡ None) → first_bad held slots names ≡ None
none_bad held slots [] good = refl
none_bad held slots (name ∷ names) good = rw (good name, none_bad held slots names good) refl

readable : (held : FileMap) (slots : List SlotValue) → IsDeskOf held slots → rows_count (finmap.keys held) ≤ 200 → IsReadable held
readable held slots is few = record {
  few = few;
  good = subst (λ (n : ℕ). first_bad held n (finmap.keys held) ≡ None) (sym (length-map slots info_of) ∙ ap length is.marked)
      (none_bad held (length slots) (finmap.keys held) is.good);
}

pub told_openable : (told : Option FileMap) (slots : List SlotValue) → IsDesk told slots → all_rows slots ≤ 200 → IfSome told IsOpenable
told_openable None slots is few = tt
told_openable (Some held) slots is few =
    subst IsReadable (sym (plain_finished held is.stands.no_journal))
    (readable held slots is.stands (subst (λ (n : ℕ). n ≤ 200) (told_number (Some held) slots is) few))

-- ---- what is left

pub finishes_openable : (before now : Option FileMap) → FinishesAs before now → IfSome before IsOpenable → IfSome now IsOpenable
finishes_openable before None same can = tt
finishes_openable None (Some now) same can = absurd cc
finishes_openable (Some held) (Some now) same can = let files : finished now ≡ finished held = cc in subst IsReadable (sym files) can

pub open_openable : (before now : Option FileMap) (old new : Moments) → FinishesAs before now → EachMomentSince (FinishesAs before) old new
    → IfSome before IsOpenable → StaysOpenable now old new
open_openable before now old new same each can = record {
  here = finishes_openable before now same can;
  each = moments_weaken (FinishesAs before) (λ told. IfSome told IsOpenable) old new each (λ told is. finishes_openable before told is can);
}

pub commit_openable : {F : Type 0} (contents : F → Option FileMap) (moments : F → Moments) {old new : F} {made : Option FileMap} {slots after : List SlotValue}
    → IsDesk (contents old) slots → (new ≡ old) ⊎ IsDesk made after → FinishesAs (contents old) (contents new) ⊎ FinishesAs made (contents new)
    → EachMomentSince (FinishesAs made) (moments old) (moments new)
    → all_rows slots ≤ 200 → all_rows after ≤ 200 → StaysOpenable (contents new) (moments old) (moments new)
commit_openable contents moments {old} {new} {made} {slots} {after} is (inl same) left each few more =
    record {
      here = subst (λ f. IfSome (contents f) IsOpenable) (sym same) (told_openable (contents old) slots is few);
      each = no_moment (λ told. IfSome told IsOpenable) (moments old) (moments new) (ap moments same);
    }
commit_openable contents moments {old} {new} {made} {slots} {after} is (inr desk) left each few more =
    record {
      here = elim left [
        | inl same ↦ finishes_openable (contents old) (contents new) same (told_openable (contents old) slots is few)
        | inr same ↦ finishes_openable made (contents new) same (told_openable made after desk more)
      ];
      each = moments_weaken (FinishesAs made) (λ told. IfSome told IsOpenable) (moments old) (moments new) each
          (λ told is. finishes_openable made told is (told_openable made after desk more));
    }
