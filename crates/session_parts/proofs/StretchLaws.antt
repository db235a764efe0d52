-- Stretches whose acts are those of a list.
use Rattle.std.proofs.Common.{◌≡◌, ◌∙◌, refl, sym, ap, subst, ℕ, Bool, true, false, List, [], ◌∷◌, ◌++◌, map, append_assoc}
use Rattle.std.specs.Prelude.{Option, Some, flat_map, filter, if◌then◌else◌}
use Rattle.std.specs.Option.{option_map}
use Rattle.palm_device.specs.Devices.{Device}
use Rattle.palm_device.specs.Handles.{no_handles}
use Rattle.session_parts.proofs.LinkWords.{Talk, Act, said, saying, device_after}
use Rattle.desktop_session.proofs.SaysLaws.{saying_none, saying_then}
use Rattle.desktop_session.proofs.TellLaws.{said_device}
use Rattle.session_parts.specs.Rests.{IsFirst}
use Rattle.session_parts.specs.Stretches.{AreFirst, EachSays, Stretch, each_acts}

-- the second list of acts goes on where the first one ends
pub record Leads (first all : List Act) : Type 0 where
  pub rest : List Act
  pub is : first ++ rest ≡ all

-- one stretch says the acts of its element, and what is told then is answers it was to be told
pub record Steps {J X : Type 0} (acts : Option Talk → J → ℕ → List ℕ → List Act) (job : X → J) (says : X → List Act) (Known : Option Talk
    → Type 0) : Type 0 where
  pub acts_are : (told : Option Talk) (x : X) (one : Stretch) → Known told → IsFirst told one.handle → acts told (job x) one.handle one.given ≡ says x
  pub known : (told : Option Talk) (x : X) → Known told → Known (saying (says x) told)

-- something holds of each element and its answer
abbrev pub Pairs : {X A : Type 0} → (X → A → Type 0) → List X → List A → Type 0
Pairs P [] [] = Unit {0}
Pairs P [] (a ∷ answers) = ⊥
Pairs P (x ∷ xs) [] = ⊥
Pairs P (x ∷ xs) (a ∷ answers) = P x a × Pairs P xs answers

-- all of the stretches, with what their answers say
pub record Joined {J X A : Type 0} (acts : Option Talk → J → ℕ → List ℕ → List Act) (job : X → J) (says : X → List Act) (Known : Option Talk → Type 0)
    (Shown : X → A → Type 0) (told : Option Talk) (xs : List X) (ones : List Stretch) (answers : List A) : Type 0 where
  pub acts_are : each_acts acts told (map job xs) ones ≡ flat_map says xs
  pub known : Known (saying (flat_map says xs) told)
  pub shown : Pairs Shown xs answers

module _ {J X : Type 0} {acts : Option Talk → J → ℕ → List ℕ → List Act} {job : X → J} {says : X → List Act} {Known : Option Talk → Type 0}
    (steps : Steps acts job says Known) where
  -- some of them
  pub stretches_lead : (told : Option Talk) (xs : List X) (ones : List Stretch) → Known told → AreFirst acts told (map job xs) ones
      → Leads (each_acts acts told (map job xs) ones) (flat_map says xs)
  stretches_lead told [] ones known firsts = record { rest = []; is = refl }
  stretches_lead told (x ∷ xs) [] known firsts = record { rest = says x ++ flat_map says xs; is = refl }
  stretches_lead told (x ∷ xs) (one ∷ ones) known firsts =
      let is : acts told (job x) one.handle one.given ≡ says x = steps.acts_are told x one known firsts.0 in
      let later = rw (← is) at (stretches_lead (saying (says x) told) xs ones (steps.known told x known) (rw is at firsts.1)) in
      let mine : List Act = acts told (job x) one.handle one.given in
      record {
        rest = later.rest;
        is = append_assoc mine (each_acts acts (saying mine told) (map job xs) ones) later.rest ∙ ap (λ zs. mine ++ zs) later.is
            ∙ ap (λ zs. zs ++ flat_map says xs) is;
      }

  pub stretches_join : {A : Type 0} (shows : Option Talk → J → ℕ → List ℕ → A → Type 0) (Shown : X → A → Type 0)
      → ((told : Option Talk) (x : X) (one : Stretch) (a : A) → Known told → IsFirst told one.handle → shows told (job x) one.handle one.given a → Shown x a)
      → (told : Option Talk) (xs : List X) (ones : List Stretch) (answers : List A) → Known told → AreFirst acts told (map job xs) ones
      → EachSays acts shows told (map job xs) ones answers → Joined acts job says Known Shown told xs ones answers
  stretches_join shows Shown shown told [] [] [] known firsts all =
      record { acts_are = refl; known = subst Known (sym (saying_none told)) known; shown = tt }
  stretches_join shows Shown shown told (x ∷ xs) (one ∷ ones) (a ∷ answers) known firsts all =
      let is : acts told (job x) one.handle one.given ≡ says x = steps.acts_are told x one known firsts.0 in
      let later = stretches_join shows Shown shown (saying (says x) told) xs ones answers (steps.known told x known) (rw is at firsts.1) (rw is at all.1) in
      record {
        acts_are = ap (λ zs. zs ++ each_acts acts (saying zs told) (map job xs) ones) is ∙ ap (λ zs. says x ++ zs) later.acts_are;
        known = subst Known (saying_then (says x) (flat_map says xs) told) later.known;
        shown = (shown told x one a known firsts.0 all.0, later.shown);
      }
  stretches_join shows Shown shown told xs ones answers known firsts all = absurd all

-- ---- what is said of some of a list alone

-- nothing is said where the test fails
abbrev pub where_kept : Bool → List Act → List Act
where_kept true acts = acts
where_kept false acts = []

pub kept_step : {X : Type 0} (b : Bool) (says : X → List Act) (x : X) (xs : List X)
    → where_kept b (says x) ++ flat_map says xs ≡ flat_map says (if b then x ∷ xs else xs)
kept_step true says x xs = refl
kept_step false says x xs = refl

pub flat_map-kept : {X : Type 0} (test : X → Bool) (says : X → List Act) (xs : List X)
    → flat_map (λ x. where_kept (test x) (says x)) xs ≡ flat_map says (filter test xs)
flat_map-kept test says [] = refl
flat_map-kept test says (x ∷ xs) =
    ap (λ zs. where_kept (test x) (says x) ++ zs) (flat_map-kept test says xs) ∙ kept_step (test x) says x (filter test xs)

pub flat_map-same : {X A : Type 0} (f g : X → List A) (xs : List X) → ((x : X) → f x ≡ g x) → flat_map f xs ≡ flat_map g xs
flat_map-same f g xs each = λ k. flat_map (λ x. each x k) xs

-- ---- a link that tells a device

pub record Tells (device : Device) (told : Option Talk) : Type 0 where
  pub talk : Talk
  pub is : told ≡ Some talk
  pub same : talk.device ≡ device

-- acts that lead to a device
pub tells_on : (old new : Device) (acts : List Act) (told : Option Talk) → Tells old told → device_after acts old ≡ new → Tells new (saying acts told)
unfolding saying
tells_on old new acts told tells leads = record {
  talk = said acts tells.talk;
  is = ap (option_map (said acts)) tells.is;
  same = said_device acts tells.talk ∙ ap (device_after acts) tells.same ∙ leads;
}

-- a handle that is the first where nothing was open
pub first_is : (device : Device) (told : Option Talk) (handle : ℕ) → Tells device told → device.handles ≡ no_handles → IsFirst told handle → handle ≡ 1
first_is device told handle tells none first =
    let here : IsFirst (Some tells.talk) handle = rw tells.is at first in
    here (ap (λ (d : Device). d.handles) tells.same ∙ none)

-- ---- pairs

pub pairs-map : {X Y A : Type 0} (P : Y → A → Type 0) (f : X → Y) (xs : List X) (answers : List A) → Pairs (λ x a. P (f x) a) xs answers
    → Pairs P (map f xs) answers
pairs-map P f [] [] all = tt
pairs-map P f (x ∷ xs) (a ∷ answers) all = (all.0, pairs-map P f xs answers all.1)
pairs-map P f xs answers all = absurd all

pub flat_map-none : {X A : Type 0} (xs : List X) → flat_map (λ (x : X). let none : List A = [] in none) xs ≡ []
flat_map-none [] = refl
flat_map-none (x ∷ xs) = flat_map-none xs
