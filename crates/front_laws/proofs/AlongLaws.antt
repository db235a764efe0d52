-- What holds of a handheld after any beginning of acts whose new records get free ids.
use Rattle.std.proofs.lemmas.Grind.{common_steps}
use Rattle.std.proofs.Common.{arith, ◌≡◌, ◌∙◌, refl, ap, sym, subst, ℕ, zero, suc, Bool, true, false, List, [], ◌∷◌, ◌++◌, append_assoc, append-nil, take, map}
use Rattle.std.proofs.Common.{if◌then◌else◌, filter}
use Rattle.dlp_args.specs.Fields.{Fields}
use Rattle.dlp_requests.specs.Forms.{Form, kinds_of}
use Rattle.dlp_requests.specs.Forms.{number_of as number_of_form}
use Rattle.dlp_replies.specs.ReplyValues as reply
use Rattle.palm_device.specs.Devices.{Device}
use Rattle.dlp_commands.specs.Changes.{asks_by, changes, is_change}
use Rattle.dlp_commands.specs.DeviceSteps.{FormMayGive, function_number}
use Rattle.dlp_commands.proofs.StepLaws.{changes-text}
use Rattle.dlp_commands.proofs.TableLaws.{tried_done}
use Rattle.desktop_session.specs.Acts.{Act, acted, text}
use Rattle.desktop_session.specs.Tellings.{device_after, told}
use Rattle.front_laws.specs.Given.{GetFreeIds, id_in, ids_in}

-- the id that an act may give
abbrev pub MayAct : Act → Device → Type 0
MayAct act device = FormMayGive device act.given act.asks.form act.asks.fields

-- a new record is told the id that it got
abbrev pub TellsId : Act → Device → Type 0
TellsId act device = asks_by act.asks.form act.asks.fields ≡ true → told act device ≡ reply.WriteRecord act.given

pub none-told : (act : Act) (device : Device) → asks_by act.asks.form act.asks.fields ≡ false → TellsId act device
none-told act device none is = absurd (let no : true ≡ false = sym is ∙ none in cc)

pub none-in : (act : Act) → asks_by act.asks.form act.asks.fields ≡ false → id_in act ≡ []
none-in act none = ap (λ (b : Bool). if b then act.given ∷ [] else []) none

-- after each beginning, where these ids were given before; and each new record is told its id
abbrev pub Along : (List ℕ → Device → Type 0) → List ℕ → List Act → Device → Type 0
Along P ids [] device = P ids device
Along P ids (act ∷ acts) device =
    P ids device × (MayAct act device → TellsId act device × Along P (ids ++ id_in act) acts (acted act device).1)

pub along-first : (P : List ℕ → Device → Type 0) (ids : List ℕ) (acts : List Act) (device : Device) → Along P ids acts device → P ids device
along-first P ids [] device along = along
along-first P ids (act ∷ acts) device along = along.0

pub along-map : (P Q : List ℕ → Device → Type 0) (ids : List ℕ) (acts : List Act) (device : Device) → ((is : List ℕ) (d : Device) → P is d → Q is d)
    → Along P ids acts device → Along Q ids acts device
along-map P Q ids [] device turn along = turn ids device along
along-map P Q ids (act ∷ acts) device turn along = grind (arith, along-map P Q (ids ++ id_in act) acts (acted act device).1 turn)

pub along-append : (P : List ℕ → Device → Type 0) (ids : List ℕ) (xs ys : List Act) (device : Device) → Along P ids xs device
    → (GetFreeIds xs device → Along P (ids ++ ids_in xs) ys (device_after xs device)) → Along P ids (xs ++ ys) device
along-append P ids [] ys device first second = subst (λ is. Along P is ys device) (append-nil ids) (second tt)
along-append P ids (x ∷ xs) ys device first second =
    grind (arith, along-append P (ids ++ id_in x) xs ys (acted x device).1, Along P, append_assoc ids (id_in x) (ids_in xs))

pub along-take : (P : List ℕ → Device → Type 0) (ids : List ℕ) (acts : List Act) (device : Device) (n : ℕ) → Along P ids acts device
    → GetFreeIds (take n acts) device → P (ids ++ ids_in (take n acts)) (device_after (take n acts) device)
along-take P ids acts device zero along free = subst (λ is. P is device) (sym (append-nil ids)) (along-first P ids acts device along)
along-take P ids [] device (suc n) along free = subst (λ is. P is device) (sym (append-nil ids)) along
along-take P ids (x ∷ xs) device (suc n) along free =
    grind (arith, take n xs, append_assoc ids (id_in x) (ids_in (take n xs)), along-take P (ids ++ id_in x) xs (acted x device).1 n (along.1 free.0).1 free.1)

pub along-last : (P : List ℕ → Device → Type 0) (ids : List ℕ) (acts : List Act) (device : Device) → Along P ids acts device → GetFreeIds acts device
    → P (ids ++ ids_in acts) (device_after acts device)
along-last P ids [] device along free = subst (λ is. P is device) (sym (append-nil ids)) along
along-last P ids (x ∷ xs) device along free =
    grind (arith, append_assoc ids (id_in x) (ids_in xs), along-last P (ids ++ id_in x) xs (acted x device).1 (along.1 free.0).1 free.1)

-- each new record of these acts is told its id
abbrev pub TellIds : List Act → Device → Type 0
TellIds [] device = Unit {0}
TellIds (act ∷ acts) device = TellsId act device × TellIds acts (acted act device).1

pub along-tells : (P : List ℕ → Device → Type 0) (ids : List ℕ) (acts : List Act) (device : Device) (n : ℕ) → Along P ids acts device
    → GetFreeIds (take n acts) device → TellIds (take n acts) device
along-tells P ids acts device zero along free = tt
along-tells P ids [] device (suc n) along free = tt
along-tells P ids (x ∷ xs) device (suc n) along free =
    let step = along.1 free.0 in (step.0, along-tells P (ids ++ id_in x) xs (acted x device).1 n step.1 free.1)

pub along-told : (P : List ℕ → Device → Type 0) (ids : List ℕ) (acts : List Act) (device : Device) → Along P ids acts device → GetFreeIds acts device
    → TellIds acts device
along-told P ids [] device along free = tt
along-told P ids (x ∷ xs) device along free =
    let step = along.1 free.0 in (step.0, along-told P (ids ++ id_in x) xs (acted x device).1 step.1 free.1)

pub told-append : (xs ys : List Act) (device : Device) → TellIds xs device → TellIds ys (device_after xs device) → TellIds (xs ++ ys) device
told-append [] ys device first second = second
told-append (x ∷ xs) ys device first second = (first.0, told-append xs ys (acted x device).1 first.1 second)

-- ---- acts that change nothing

-- databases and user are those
pub record Holds (device other : Device) : Type 0 where
  pub databases : device.databases ≡ other.databases
  pub user : device.user ≡ other.user

pub holds-then : {a b c : Device} → Holds b a → Holds c b → Holds c a
holds-then first second = grind arith

pub quiet-one : (act : Act) (device : Device) → MayAct act device → is_change (function_number act.asks) ≡ false → Holds (acted act device).1 device
unfolding acted
quiet-one act device may quiet = grind (arith, tried_done act.given device act.asks may)

-- a request that changes nothing asks for no id
pub form_asks : (f : Form) (fields : Fields (kinds_of f)) → is_change (number_of_form f) ≡ false → asks_by f fields ≡ false
form_asks f fields quiet = grind (arith, common_steps)

form_may : (device : Device) (given : ℕ) (f : Form) (fields : Fields (kinds_of f)) → is_change (number_of_form f) ≡ false
    → FormMayGive device given f fields
form_may device given f fields quiet = grind (arith, common_steps)

pub quiet-may : (act : Act) (device : Device) → is_change (function_number act.asks) ≡ false → MayAct act device
quiet-may act device quiet = form_may device act.given act.asks.form act.asks.fields quiet

pub quiet-asks : (act : Act) → is_change (function_number act.asks) ≡ false → id_in act ≡ []
quiet-asks act quiet = none-in act (form_asks act.asks.form act.asks.fields quiet)

-- none of these acts changes a database or the user
abbrev pub Quiet : List Act → Type 0
Quiet [] = Unit {0}
Quiet (act ∷ acts) = (is_change (function_number act.asks) ≡ false) × Quiet acts

none_kept : (b : Bool) (x : List ℕ) (xs : List (List ℕ)) → (if b then x ∷ xs else xs) ≡ [] → (b ≡ false) × (xs ≡ [])
none_kept b x xs is = grind (arith, common_steps)

pub quiet-all : (acts : List Act) → filter changes (map text acts) ≡ [] → Quiet acts
unfolding text
quiet-all [] none = tt
quiet-all (act ∷ acts) none =
    let parts = none_kept (changes (text act)) (text act) (filter changes (map text acts)) none in
    (sym (changes-text act.asks) ∙ parts.0, quiet-all acts parts.1)

pub quiet-after : (acts : List Act) (device : Device) → Quiet acts
    → GetFreeIds acts device × Holds (device_after acts device) device × (ids_in acts ≡ [])
quiet-after [] device quiet = (tt, record { databases = refl; user = refl }, refl)
quiet-after (act ∷ acts) device quiet =
    let may = quiet-may act device quiet.0 in
    let rest = quiet-after acts (acted act device).1 quiet.1 in (
      (may, rest.0),
      holds-then (quiet-one act device may quiet.0) rest.1,
      ap (λ is. is ++ ids_in acts) (quiet-asks act quiet.0) ∙ rest.2,
    )

-- through all of them what holds of databases and user stays
pub along-quiet : (P : List ℕ → Device → Type 0) (ids : List ℕ) (acts : List Act) (device : Device) → Quiet acts
    → ((d : Device) → Holds d device → P ids d) → Along P ids acts device
along-quiet P ids [] device quiet holds = holds device (record { databases = refl; user = refl })
along-quiet P ids (act ∷ acts) device quiet holds =
    grind (
      arith,
      none-told act device (form_asks act.asks.form act.asks.fields quiet.0),
      Along P,
      quiet-asks act quiet.0,
      append-nil ids,
      along-quiet P ids acts (acted act device).1 quiet.1,
      quiet-one act device,
    )
