-- What a function of a handheld's program did, against the table.
use Rattle.std.specs.Prelude.{◌≡◌, ℕ, List, Result, Ok, Err}
use Rattle.dlp_replies.specs.ReplyValues.{ReplyValue, Refused}
use Rattle.dlp_replies.specs.Frames.{reply_text}
use Rattle.palm_device.specs.Devices.{Device}
use Rattle.dlp_commands.specs.DeviceSteps.{outcome}
use Rattle.dlp_commands.specs.Reached.{Trial}
use Rattle.dlp_commands.specs.declared.refusal.Refusal.{Refusal}
use Rattle.dlp_commands.specs.Refusals.{code_of}

-- what was found, seen by `view`, is what the table finds, or the refusal is the table's
abbrev pub Finds : {X Y : Type 0} → (X → Y) → Result X Refusal → Result Y ℕ → Type 0
Finds view (Ok x) found = found ≡ Ok (view x)
Finds view (Err refusal) found = found ≡ Err (code_of refusal)

-- the reply to a function: what its answer says, or its error
abbrev pub answer_text : {A : Type 0} → ℕ → (A → ReplyValue) → Result A Refusal → List ℕ
answer_text number reply (Ok x) = reply_text (reply x)
answer_text number reply (Err refusal) = reply_text (Refused number (code_of refusal))

-- the reply to a function of what the table finds
abbrev pub answered : ℕ → Result ReplyValue ℕ → List ℕ
answered number (Ok value) = reply_text value
answered number (Err code) = reply_text (Refused number code)

-- the answer's reply, under the byte of any function, and the new device are what the table says of
-- the old one
abbrev pub Does : {A : Type 0} → (A → ReplyValue) → Device → Device → Result A Refusal
    → Trial → Type 0
Does reply old new result tried =
    (number : ℕ) → outcome old number tried ≡ (answer_text number reply result, new)
