-- A run of a device by the requests of acts is that of the acts, with the ids that its new records got.
use Rattle.std.proofs.lemmas.Grind.{common_steps}
use Rattle.std.proofs.Common.{arith, ◌≡◌, ◌∙◌, refl, ap, sym, subst, ℕ, zero, suc, Bool, true, false, List, [], ◌∷◌, ◌++◌, length, map, take}
use Rattle.std.specs.Prelude.{Ok}
use Rattle.std.specs.List.{AllByRecursion, flat_map}
use Rattle.dlp_args.specs.Fields.{Fields}
use Rattle.dlp_requests.specs.Forms as form
use Rattle.dlp_requests.specs.Forms.{Form, kinds_of}
use Rattle.dlp_requests.specs.Forms.{number_of as number_of_form}
use Rattle.dlp_requests.specs.RequestReading.{request_at}
use Rattle.dlp_requests.specs.RequestTexts.{IsRequest, request_text}
use Rattle.dlp_requests.specs.RequestValues.{RequestValue}
use Rattle.dlp_replies.specs.ReplyValues as reply
use Rattle.dlp_replies.specs.ReplyValues.{ReplyValue}
use Rattle.palm_device.specs.Devices.{Device}
use Rattle.dlp_commands.specs.Changes.{asks_by, given_in}
use Rattle.dlp_commands.specs.DeviceRuns.{Exchange, Ran, exchanged}
use Rattle.dlp_commands.specs.DeviceSteps.{DeviceStep, FormMayGive, MayGive, MayGiveTo}
use Rattle.desktop_session.specs.Acts.{Act, acted, text}
use Rattle.desktop_session.specs.Tellings.{AreSayable, IsTellable, device_after, exchanges, told}
use Rattle.desktop_session.proofs.ActLaws.{read_back, step_tried, tried_fixed}
use Rattle.desktop_session.proofs.TellLaws.{acted_proper, acted_reads, form_gives}
use Rattle.front_laws.specs.Given.{GetFreeIds, id_in, ids_in}
use Rattle.front_laws.proofs.AlongLaws.{MayAct, TellIds}
use Rattle.front_laws.proofs.FitLaws.{Fit}

-- ---- the same acts with other ids

abbrev pub asks : Act → Bool
asks act = asks_by act.asks.form act.asks.fields

abbrev first_id : List ℕ → ℕ
first_id [] = 0
first_id (i ∷ ids) = i

abbrev rest_ids : List ℕ → List ℕ
rest_ids [] = []
rest_ids (i ∷ ids) = ids

abbrev pub given_to : Bool → List ℕ → Act → Act
given_to true ids act = record act { given = first_id ids }
given_to false ids act = act

abbrev pub ids_left : Bool → List ℕ → List ℕ
ids_left true ids = rest_ids ids
ids_left false ids = ids

-- those that ask for ids get these, in order
abbrev pub relabel : List ℕ → List Act → List Act
relabel ids [] = []
relabel ids (act ∷ acts) = given_to (asks act) ids act ∷ relabel (ids_left (asks act) ids) acts

abbrev pub count_one : Bool → ℕ → ℕ
count_one true n = suc n
count_one false n = n

-- how many ask for one
abbrev pub asks_in : List Act → ℕ
asks_in [] = 0
asks_in (act ∷ acts) = count_one (asks act) (asks_in acts)

pub relabel-take : (n : ℕ) (ids : List ℕ) (acts : List Act) → take n (relabel ids acts) ≡ relabel ids (take n acts)
relabel-take zero ids acts = refl
relabel-take (suc n) ids [] = refl
relabel-take (suc n) ids (act ∷ acts) = grind (arith, given_to (asks act) ids act, relabel-take n (ids_left (asks act) ids) acts)

-- ---- a step

may_from : (device : Device) (free : ℕ) {value : RequestValue} (bytes : List ℕ) → request_at bytes ≡ Ok value → MayGive device bytes free
    → FormMayGive device free value.form value.fields
unfolding MayGive
may_from device free bytes read may = subst (MayGiveTo device free) read may

-- the act that a step was
record WasAct (old new : Device) (answer : List ℕ) (act : Act) : Type 0 where
  may : MayAct act old
  does : acted act old ≡ (answer, new)

was_asked : (old : Device) {new : Device} {answer : List ℕ} (act : Act) → IsRequest act.asks → (step : DeviceStep old (text act) answer new)
    → WasAct old new answer (record act { given = step.free })
unfolding text acted
was_asked old {new} {answer} act fits step =
    grind (arith, may_from old step.free (request_text act.asks) (read_back act.asks fits) step.may, step_tried old new act.asks answer fits step)

was_fixed : (old : Device) {new : Device} {answer : List ℕ} (act : Act) → IsRequest act.asks → asks act ≡ false → DeviceStep old (text act) answer new
    → WasAct old new answer act
unfolding text acted
was_fixed old {new} {answer} act fits none step =
    grind (
      arith,
      form_gives old act.given act.asks.form act.asks.fields none,
      tried_fixed act.given step.free old act.asks none,
      step_tried old new act.asks answer fits step,
    )

-- ---- a run

abbrev pub answers : List Exchange → List (List ℕ)
answers es = map (λ (e : Exchange). e.reply) es

pub record RunsBy (acts : List Act) (old new : Device) (replies : List (List ℕ)) : Type 0 where
  pub ids : List ℕ
  pub all : length ids ≡ asks_in acts
  pub free : GetFreeIds (relabel ids acts) old
  pub reaches : device_after (relabel ids acts) old ≡ new
  pub told : replies ≡ answers (exchanges (relabel ids acts) old)

-- by the first act as it was
module _ (act : Act) {acts : List Act} {old between new : Device} {answer : List ℕ} {replies : List (List ℕ)} (rest : RunsBy acts between new replies) where
  runs_was : {was_act : Act} (ids : List ℕ) → WasAct old between answer was_act → length ids ≡ asks_in (act ∷ acts)
      → relabel ids (act ∷ acts) ≡ was_act ∷ relabel rest.ids acts → RunsBy (act ∷ acts) old new (answer ∷ replies)
  runs_was ids was all same =
      let then_at = ap (λ (p : List ℕ × Device). p.1) was.does in
      record {
        ids = ids;
        all = all;
        free = subst (λ (zs : List Act). GetFreeIds zs old) (sym same) (was.may, subst (GetFreeIds (relabel rest.ids acts)) (sym then_at) rest.free);
        reaches = ap (λ (zs : List Act). device_after zs old) same ∙ ap (device_after (relabel rest.ids acts)) then_at ∙ rest.reaches;
        told = ap {A = List ℕ × List (List ℕ)} (λ p. p.0 ∷ p.1) (λ k. (
          sym (ap (λ (p : List ℕ × Device). p.0) was.does) k,
          (rest.told ∙ ap (λ (d : Device). answers (exchanges (relabel rest.ids acts) d)) (sym then_at)) k,
        )) ∙ ap (λ (zs : List Act). answers (exchanges zs old)) (sym same);
      }

  -- which asks for an id or doesn't
  runs_first : (b : Bool) → asks act ≡ b → IsRequest act.asks → DeviceStep old (text act) answer between
      → RunsBy (act ∷ acts) old new (answer ∷ replies)
  runs_first true is fits step =
      let ids = step.free ∷ rest.ids in
      runs_was ids (was_asked old act fits step)
      (ap suc rest.all ∙ sym (ap (λ b. count_one b (asks_in acts)) is)) (ap (λ b. given_to b ids act ∷ relabel (ids_left b ids) acts) is)
  runs_first false is fits step =
      grind (arith, was_fixed old act fits is step, relabel rest.ids (act ∷ acts), relabel rest.ids acts, asks_in acts)

pub runs-by : (acts : List Act) (old new : Device) (replies : List (List ℕ)) → Fit acts → length replies ≡ length (map text acts)
    → Ran old (exchanged (map text acts) replies) new → RunsBy acts old new replies
runs-by [] old new [] fit count ran = record { ids = []; all = refl; free = tt; reaches = sym ran; told = refl }
runs-by [] old new (r ∷ replies) fit count ran = absurd (cc)
runs-by (act ∷ acts) old new [] fit count ran = absurd (cc)
runs-by (act ∷ acts) old new (r ∷ replies) fit count ran =
    runs_first act (runs-by acts ran.0 new replies fit.1 (ap pred_of count) ran.2) (asks act) refl fit.0 ran.1
  where
    pred_of : ℕ → ℕ
    pred_of zero = zero
    pred_of (suc n) = n

-- ---- the ids that are told

-- a request that asks for an id is WriteRecord
form_writes : (f : Form) (fields : Fields (kinds_of f)) → asks_by f fields ≡ true → number_of_form f ≡ 0x21
form_writes f fields is = grind (arith, common_steps)

given_one : (b : Bool) (act : Act) {device : Device} → asks act ≡ b → IsRequest act.asks → IsTellable device → MayAct act device
    → (asks act ≡ true → told act device ≡ reply.WriteRecord act.given) → given_in (text act) (acted act device).0 ≡ id_in act
unfolding given_in text
given_one false act is fits proper may tells = grind (arith, [], read_back act.asks fits)
given_one true act {device} is fits proper may tells =
    grind (
      arith,
      form_writes act.asks.form act.asks.fields is,
      acted_reads act device proper (record { request = fits; free = may }),
      [],
      read_back act.asks fits,
    )

pub given-all : (acts : List Act) {device : Device} → Fit acts → IsTellable device → GetFreeIds acts device → TellIds acts device
    → flat_map (λ (e : Exchange). given_in e.request e.reply) (exchanges acts device) ≡ ids_in acts
given-all [] fit proper free tells = refl
given-all (act ∷ acts) {device} fit proper free tells =
    ap {A = List ℕ × List ℕ} (λ p. p.0 ++ p.1) (λ k. (
      given_one (asks act) act refl fit.0 proper free.0 tells.0 k,
      given-all acts fit.1 (acted_proper act device proper (record { request = fit.0; free = free.0 })) free.1 tells.1 k,
    ))

-- what asks for no id gives none, whatever is replied
none-given : (act : Act) (answer : List ℕ) → IsRequest act.asks → asks act ≡ false → given_in (text act) answer ≡ []
unfolding given_in text
none-given act answer fits none = grind (arith, [], read_back act.asks fits)

pub none-all-given : (acts : List Act) → Fit acts → AllByRecursion (λ (act : Act). asks act ≡ false) acts
    → AllByRecursion (λ (request : List ℕ). (answer : List ℕ) → given_in request answer ≡ []) (map text acts)
none-all-given [] fit none = tt
none-all-given (act ∷ acts) fit none = (λ answer. none-given act answer fit.0 none.0, none-all-given acts fit.1 none.1)

pub sayable-all : (acts : List Act) (device : Device) → Fit acts → GetFreeIds acts device → AreSayable acts device
sayable-all [] device fit free = tt
sayable-all (act ∷ acts) device fit free = grind (arith, sayable-all acts (acted act device).1 fit.1 free.1)

pub said-free : (acts : List Act) (device : Device) → AreSayable acts device → GetFreeIds acts device
said-free [] device said = tt
said-free (act ∷ acts) device said = (said.0.free, said-free acts (acted act device).1 said.1)

pub exchanges-are : (acts : List Act) (device : Device) → exchanged (map text acts) (answers (exchanges acts device)) ≡ exchanges acts device
exchanges-are [] device = refl
exchanges-are (act ∷ acts) device = grind (arith, exchanges-are acts (acted act device).1)

pub answers-count : (acts : List Act) (device : Device) → length (answers (exchanges acts device)) ≡ length (map text acts)
answers-count [] device = refl
answers-count (act ∷ acts) device = ap suc (answers-count acts (acted act device).1)
