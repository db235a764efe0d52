-- Replies that are written again.
use Rattle.std.proofs.Common.{◌≡◌, ◌<◌, ◌^◌, get_or, ◌+◌, ◌-◌, ◌∙◌, ℕ, suc, List, [], ◌++◌, ap, sym, refl, subst, arith, append_assoc}
use Rattle.std.specs.Prelude.{take, drop, is_ok}
use Rattle.std.proofs.lemmas.Bool.{cond-true}
use Rattle.palm_device.specs.Bounds.{IsBounded}
use Rattle.palm_device.specs.Devices.{Device}
use Rattle.palm_device.specs.Soundness.{IsDevice}
use Rattle.dlp_replies.specs.ReplyReading.{reply_at}
use Rattle.dlp_commands.specs.DeviceSteps.{DeviceStep, first_byte}
use Rattle.dlp_commands.proofs.StepLaws.{reply_read, stepped}
use Rattle.port_link.specs.Mended.{byte_in, entries_again, entry_again, heard, mended}

first_entry : (left : ℕ) (bytes : List ℕ)
    → entries_again (suc left) bytes ≡ entry_again (take (byte_in 0 bytes) bytes) ++ entries_again left (drop (byte_in 0 bytes) bytes)
unfolding entries_again
first_entry left bytes = refl

-- one entry more was written
pub entries_on : (count i : ℕ) (out bytes : List ℕ) → i < count
    → (out ++ entry_again (take (byte_in 0 bytes) bytes)) ++ entries_again (count - (i + 1)) (drop (byte_in 0 bytes) bytes)
    ≡ out ++ entries_again (count - i) bytes
entries_on count i out bytes lt =
    append_assoc out (entry_again (take (byte_in 0 bytes) bytes)) (entries_again (count - (i + 1)) (drop (byte_in 0 bytes) bytes))
    ∙ ap (λ (xs : List ℕ). out ++ xs) (sym (first_entry (count - (i + 1)) bytes))
    ∙ ap (λ (n : ℕ). out ++ entries_again n bytes) (omega arith)

-- none is left
pub no_entries : (left : ℕ) (bytes : List ℕ) → left ≡ 0 → entries_again left bytes ≡ []
unfolding entries_again
no_entries left bytes none = rw none refl

-- what our own device replies is heard as it is
pub heard_own : (old new : Device) (request reply : List ℕ) → IsDevice old → IsBounded old → DeviceStep old request reply new
    → heard (first_byte request) reply ≡ reply
heard_own old new request reply sound bounded step =
    let read = reply_read old new request reply sound bounded (stepped old new request reply step) in
    cond-true (is_ok (reply_at (first_byte request) reply)) reply (mended (first_byte request) reply) (ap is_ok read.read)

-- what is heard of the request's function
pub heard-of : {function : ℕ} {request bytes reply : List ℕ} (came : List ℕ) → reply ≡ heard function came → function ≡ first_byte bytes → bytes ≡ request
    → reply ≡ heard (first_byte request) came
heard-of came is of same = is ∙ ap (λ (n : ℕ). heard n came) (of ∙ ap first_byte same)

-- its bytes are bytes
pub bytes-of : {request bytes : List ℕ} → bytes ≡ request → ((i : ℕ) → get_or bytes i 0 < 2 ^ 8) → (i : ℕ) → get_or request i 0 < 2 ^ 8
bytes-of same are i = subst (λ (l : List ℕ). get_or l i 0 < 2 ^ 8) same (are i)
