-- An exchange is an act: what the table makes of its request at the device.
use Rattle.std.proofs.Common.{◌≡◌, refl, ℕ, false, List, [], ◌∷◌}
use Rattle.std.specs.Prelude.{Option, Some, None, Ok, ◌==◌}
use Rattle.dlp_args.specs.Fields.{Fields}
use Rattle.dlp_requests.specs.Forms as form
use Rattle.dlp_requests.specs.Forms.{Form, kinds_of}
use Rattle.dlp_requests.specs.RequestReading.{request_at}
use Rattle.dlp_requests.specs.RequestTexts.{IsRequest, request_text}
use Rattle.dlp_requests.specs.RequestValues.{RequestValue}
use Rattle.dlp_requests.proofs.RequestLaws.{request_again, request_written}
use Rattle.palm_device.specs.Devices.{Device}
use Rattle.dlp_commands.specs.Changes.{asks_by}
use Rattle.dlp_commands.specs.DeviceSteps.{DeviceStep, function_number, outcome, served, tried, tried_by}
use Rattle.dlp_commands.specs.Reached.{writes}
use Rattle.dlp_commands.specs.Writings.{WriteRecord}
use Rattle.dlp_commands.specs.Talks.{Talk, HasAnswer, WasAnswered}
use Rattle.desktop_session.specs.Acts.{Act, act, acted, text, AsksNoId}
use Rattle.desktop_session.specs.Says.{saying}
use Rattle.std.proofs.Common.{rules}

-- a request is read back
pub read_back : (value : RequestValue) → IsRequest value → request_at (request_text value) ≡ Ok value
read_back value fits = request_again value (request_text value) (request_written value fits)

-- ---- only WriteRecord of id 0 looks at the id that a new record gets

write_fixed : (free other : ℕ) (device : Device) (handle id attributes category : ℕ) (bytes : List ℕ) → (id == 0) ≡ false
    → writes free device handle (WriteRecord id attributes category bytes) ≡ writes other device handle (WriteRecord id attributes category bytes)
write_fixed free other device handle id attributes category bytes fixed = rw fixed refl

form_fixed : (free other : ℕ) (device : Device) (f : Form) (fields : Fields (kinds_of f)) → asks_by f fields ≡ false
    → tried_by free device f fields ≡ tried_by other device f fields
form_fixed free other device form.WriteRecord (handle, (flags, (id, (attributes, (category, (bytes, end)))))) fixed =
    write_fixed free other device handle id attributes category bytes fixed
form_fixed free other device f fields fixed = refl

pub tried_fixed : (free other : ℕ) (device : Device) (value : RequestValue) → AsksNoId value → tried free device value ≡ tried other device value
unfolding tried
tried_fixed free other device value fixed = form_fixed free other device value.form value.fields fixed

-- ---- a step by a request is an act

-- the step of a request, by the table
pub step_tried : (old new : Device) (value : RequestValue) (answer : List ℕ) → IsRequest value → (step : DeviceStep old (request_text value) answer new)
    → outcome old (function_number value) (tried step.free old value) ≡ (answer, new)
unfolding served
step_tried old new value answer fits step = search (rules, read_back)

pub step_act : {old new : Device} (value : RequestValue) {answer : List ℕ} → IsRequest value → AsksNoId value → DeviceStep old (request_text value) answer new
    → acted (act value) old ≡ (answer, new)
unfolding acted
step_act {old} {new} value {answer} fits fixed step =
    cc (tried_fixed 0 step.free old value fixed, step_tried old new value answer fits step)

-- what was answered is the act
pub told_one : {old : Talk} {new : Option Talk} (one : Act) {answer : List ℕ} (was : WasAnswered old (text one) answer new)
    → acted one old.device ≡ (answer, was.device) → new ≡ saying (one ∷ []) (Some old)
unfolding saying
told_one one was is = search (rules)

pub saying_answered : {new : Option Talk} (old : Option Talk) (value : RequestValue) (answer : List ℕ) → IsRequest value → AsksNoId value
    → HasAnswer old (request_text value) answer new → new ≡ saying (act value ∷ []) old
unfolding saying text
saying_answered None value answer fits fixed is = is
saying_answered (Some old) value answer fits fixed is =
    told_one (act value) is (step_act value fits fixed is.step)
