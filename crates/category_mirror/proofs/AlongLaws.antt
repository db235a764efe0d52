-- Each handheld on the way through some acts, with the writes so far; and a run by a beginning of them.
use Rattle.std.proofs.lemmas.List.{length-append, map-append, take-map}
use Rattle.std.proofs.lemmas.List.Elements.{filter-append}
use Rattle.std.proofs.Common.{arith, ◌≡◌, ◌∙◌, ◌+◌, ap, refl, sym, subst, ℕ, zero, suc, Bool, true, false, List, [], ◌∷◌, ◌++◌, length, map, take}
use Rattle.std.specs.Prelude.{filter, if◌then◌else◌}
use Rattle.std.specs.List.{AllByRecursion}
use Rattle.palm_device.specs.Devices.{Device}
use Rattle.dlp_commands.specs.Changes.{changes, is_change}
use Rattle.dlp_commands.specs.DeviceRuns.{Ran, exchanged}
use Rattle.dlp_commands.specs.DeviceSteps.{DeviceStep, function_number, outcome}
use Rattle.dlp_commands.specs.Reached.{Trial}
use Rattle.dlp_commands.proofs.StepLaws.{changes-text}
use Rattle.dlp_requests.specs.RequestTexts.{IsRequest}
use Rattle.desktop_session.specs.Acts.{Act, AsksNoId, acted, text}
use Rattle.desktop_session.specs.Tellings.{AreSayable, device_after}
use Rattle.desktop_session.proofs.ActLaws.{step_tried, tried_fixed}
use Rattle.category_mirror.specs.Sides.{write_count}

-- ---- how many of them write

pub changes-act : (one : Act) → changes (text one) ≡ is_change (function_number one.asks)
unfolding text
changes-act one = changes-text one.asks

-- one write more, or none
abbrev pub stepped : Bool → ℕ → ℕ
stepped true count = count + 1
stepped false count = count

abbrev pub is_write : Act → Bool
is_write one = is_change (function_number one.asks)

abbrev pub count_of : List Act → ℕ
count_of [] = 0
count_of (one ∷ acts) = stepped (is_write one) (count_of acts)

pub count-is : (acts : List Act) → write_count acts ≡ count_of acts
count-is [] = refl
count-is (one ∷ acts) =
    ap (λ b. length (if b then text one ∷ filter changes (map text acts) else filter changes (map text acts))) (changes-act one)
    ∙ by (is_write one) (count-is acts)
  where
    by : (b : Bool) → write_count acts ≡ count_of acts
        → length (if b then text one ∷ filter changes (map text acts) else filter changes (map text acts)) ≡ stepped b (count_of acts)
    by true is = omega (arith, is)
    by false is = is

pub count-append : (xs ys : List Act) → write_count (xs ++ ys) ≡ write_count xs + write_count ys
count-append xs ys =
    ap (λ (requests : List (List ℕ)). length (filter changes requests)) (map-append text xs ys)
    ∙ ap (λ (requests : List (List ℕ)). length requests) (filter-append changes (map text xs) (map text ys))
    ∙ length-append (filter changes (map text xs)) (filter changes (map text ys))

stepped-sum : (b : Bool) (first rest : ℕ) → stepped b first + rest ≡ first + stepped b rest
stepped-sum true first rest = omega arith
stepped-sum false first rest = refl

-- ---- each handheld on the way

abbrev pub Along : (ℕ → Device → Type 0) → ℕ → List Act → Device → Type 0
Along P writes [] device = P writes device
Along P writes (one ∷ acts) device = P writes device × Along P (stepped (is_write one) writes) acts (acted one device).1

-- what holds on the way, by what holds
pub along_map : {P Q : ℕ → Device → Type 0} → ((writes : ℕ) (device : Device) → P writes device → Q writes device)
    → (writes : ℕ) (acts : List Act) (device : Device) → Along P writes acts device → Along Q writes acts device
along_map each writes [] device along = each writes device along
along_map each writes (one ∷ acts) device along =
    (each writes device along.0, along_map each (stepped (is_write one) writes) acts (acted one device).1 along.1)

-- an act that writes nothing, and leaves this handheld as it is
pub record IsStill (device : Device) (one : Act) : Type 0 where
  pub quiet : is_write one ≡ false
  pub same : (acted one device).1 ≡ device

module _ (P : ℕ → Device → Type 0) where
  -- an act that is known to lead there
  pub along_on : (writes : ℕ) (one : Act) (acts : List Act) {old new : Device} → P writes old → (acted one old).1 ≡ new
      → Along P (stepped (is_write one) writes) acts new → Along P writes (one ∷ acts) old
  along_on writes one acts here is later = (here, subst (Along P (stepped (is_write one) writes) acts) (sym is) later)

  pub along_then : (writes : ℕ) (xs ys : List Act) (old : Device) {mid : Device} → Along P writes xs old → device_after xs old ≡ mid
      → Along P (writes + count_of xs) ys mid → Along P writes (xs ++ ys) old
  along_then writes [] ys old {mid} first is second =
      subst (Along P writes ys) (sym is) (subst (λ n. Along P n ys mid) (let same : writes + 0 ≡ writes = omega arith in same) second)
  along_then writes (x ∷ xs) ys old {mid} first is second = (
    first.0,
    along_then (stepped (is_write x) writes) xs ys (acted x old).1 first.1 is
        (subst (λ n. Along P n ys mid) (sym (stepped-sum (is_write x) writes (count_of xs))) second),
  )

  along_first : (writes : ℕ) (acts : List Act) (device : Device) → Along P writes acts device → P (writes + 0) device
  along_first writes [] device along = subst (λ k. P k device) (let same : writes ≡ writes + 0 = omega arith in same) along
  along_first writes (one ∷ acts) device along = subst (λ k. P k device) (let same : writes ≡ writes + 0 = omega arith in same) along.0

  pub along_take : (n writes : ℕ) (acts : List Act) (device : Device) → Along P writes acts device
      → P (writes + count_of (take n acts)) (device_after (take n acts) device)
  along_take zero writes acts device along = along_first writes acts device along
  along_take (suc n) writes [] device along = along_first writes [] device along
  along_take (suc n) writes (one ∷ acts) device along =
      subst (λ k. P k (device_after (take n acts) (acted one device).1)) (stepped-sum (is_write one) writes (count_of (take n acts)))
      (along_take n (stepped (is_write one) writes) acts (acted one device).1 along.1)

  pub along_last : (writes : ℕ) (acts : List Act) (device : Device) → Along P writes acts device → P (writes + count_of acts) (device_after acts device)
  along_last writes [] device along = along_first writes [] device along
  along_last writes (one ∷ acts) device along =
      subst (λ k. P k (device_after acts (acted one device).1)) (stepped-sum (is_write one) writes (count_of acts))
      (along_last (stepped (is_write one) writes) acts (acted one device).1 along.1)

  -- acts that write nothing, and leave it as it is
  pub still_along : (writes : ℕ) (acts : List Act) (device : Device) → AllByRecursion (IsStill device) acts → P writes device → Along P writes acts device
  still_along writes [] device still here = here
  still_along writes (one ∷ acts) device still here =
      along_on writes one acts here still.0.same
      (subst (λ k. Along P k acts device) (ap (λ b. stepped b writes) (sym still.0.quiet)) (still_along writes acts device still.1 here))

pub still_count : (acts : List Act) (device : Device) → AllByRecursion (IsStill device) acts → count_of acts ≡ 0
still_count [] device still = refl
still_count (one ∷ acts) device still = ap (λ b. stepped b (count_of acts)) still.0.quiet ∙ still_count acts device still.1

-- ---- a run by requests that ask for no id

acts_one : (one : Act) (old new : Device) (reply : List ℕ) → IsRequest one.asks → AsksNoId one.asks → DeviceStep old (text one) reply new
    → (acted one old).1 ≡ new
unfolding text acted
acts_one one old new reply fits fixed step =
    ap (λ (r : Trial). (outcome old (function_number one.asks) r).1) (tried_fixed one.given step.free old one.asks fixed)
    ∙ ap (λ (p : List ℕ × Device). p.1) (step_tried old new one.asks reply fits step)

-- a request whose answer is its own
pub record IsPlain (one : Act) : Type 0 where
  pub request : IsRequest one.asks
  pub fixed : AsksNoId one.asks

pub all_plain : (acts : List Act) (device : Device) → AreSayable acts device → AllByRecursion (λ (one : Act). AsksNoId one.asks) acts
    → AllByRecursion IsPlain acts
all_plain [] device sayable fixed = tt
all_plain (one ∷ acts) device sayable fixed =
    (record { request = sayable.0.request; fixed = fixed.0 }, all_plain acts (acted one device).1 sayable.1 fixed.1)

pub run_is : (count : ℕ) (acts : List Act) (old new : Device) (replies : List (List ℕ)) → AllByRecursion IsPlain acts
    → length replies ≡ length (take count (map text acts)) → Ran old (exchanged (take count (map text acts)) replies) new
    → new ≡ device_after (take count acts) old
run_is zero acts old new replies plain same ran = ran
run_is (suc count) [] old new replies plain same ran = ran
run_is (suc count) (one ∷ acts) old new [] plain same ran = absurd (omega (arith, same))
run_is (suc count) (one ∷ acts) old new (reply ∷ replies) plain same ran =
    run_is count acts ran.0 new replies plain.1 (omega (arith, same)) ran.2
    ∙ ap (device_after (take count acts)) (sym (acts_one one old ran.0 reply plain.0.request plain.0.fixed ran.1))

pub take-texts : (count : ℕ) (acts : List Act) → take count (map text acts) ≡ map text (take count acts)
take-texts count acts = take-map text count acts
