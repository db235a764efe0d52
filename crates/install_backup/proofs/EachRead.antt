-- Readings at one index after another grow by one, and leave the device as it was.
use Rattle.std.proofs.Common.{◌≡◌, ◌∙◌, ◌≤◌, ◌<◌, ◌+◌, ◌-◌, refl, ap, sym, subst, ℕ, zero, suc, List, [], ◌∷◌, ◌++◌, append_assoc, arith}
use Rattle.std.proofs.lemmas.List.{append-nil}
use Rattle.std.specs.Prelude.{Option, Some, None, IfSome, Err}
use Rattle.palm_device.specs.Devices.{Device}
use Rattle.dlp_commands.specs.DeviceSteps.{tried}
use Rattle.dlp_commands.specs.declared.reading.Reading.TheVariants as reading
use Rattle.desktop_session.specs.Requests.{reading_resource}
use Rattle.desktop_session.proofs.TellLaws.{said_device}
use Rattle.session_parts.proofs.LinkWords.{Act, AsksOne, LinkFault, SessionFault, SessionValue, Talk, acted, device_after, reading_at, said, saying}
use Rattle.session_parts.proofs.RestLaws.{reads_same}
use Rattle.mirrors.specs.Asks.{Asks}
use Rattle.mirrors.proofs.AskLaws.{SoFar, asked_part, asks_then, none_said, said_on, said_part}
use Rattle.install_backup.specs.BackupActs.{each_read}
use Rattle.install_backup.specs.Copies.{each_told}
use Rattle.desktop_session.proofs.ListLaws.{next, after_append}

pub at_same : (handle index : ℕ) (device : Device) → (acted (reading_at handle index) device).1 ≡ device
unfolding acted tried
at_same handle index device = reads_same device handle 0x20 (reading.RecordAt index 0 65535)

pub resource_same : (handle index : ℕ) (device : Device) → (acted (reading_resource handle index) device).1 ≡ device
unfolding acted tried
resource_same handle index device = reads_same device handle 0x23 (reading.ResourceAt index 0 65535)

pub read_none : (asks : ℕ → Act) → each_read asks 0 ≡ []
unfolding each_read
read_none asks = refl

pub read_next : (asks : ℕ → Act) (k : ℕ) → each_read asks (k + 1) ≡ each_read asks k ++ asks k ∷ []
unfolding each_read
read_next asks k = ap (each_read asks) (next k)

pub told_none : {X : Type 0} (asks : ℕ → Act) (read : List ℕ → List X) (device : Device) → each_told asks read device 0 ≡ []
unfolding each_told
told_none asks read device = refl

told_next : {X : Type 0} (asks : ℕ → Act) (read : List ℕ → List X) (device : Device) (k : ℕ)
    → each_told asks read device (k + 1) ≡ each_told asks read device k ++ read (acted (asks k) device).0
unfolding each_told
told_next asks read device k = ap (each_told asks read device) (next k)

-- the readings behind so many
record ReadsLeft (asks : ℕ → Act) (k count : ℕ) : Type 0 where
  left : List Act
  is : each_read asks k ++ left ≡ each_read asks count

left_more : (asks : ℕ → Act) (k d : ℕ) → ReadsLeft asks k (k + d)
left_more asks k zero = record {
  left = [];
  is = append-nil (each_read asks k) ∙ ap (each_read asks) (let same : k ≡ k + 0 = omega arith in same);
}
left_more asks k (suc d) =
    let before = left_more asks k d in
    record {
      left = before.left ++ asks (k + d) ∷ [];
      is = sym (append_assoc (each_read asks k) before.left (asks (k + d) ∷ []))
          ∙ ap (λ acts. acts ++ asks (k + d) ∷ []) before.is
          ∙ sym (read_next asks (k + d))
          ∙ ap (each_read asks) (let same : k + d + 1 ≡ k + suc d = omega arith in same);
    }

reads_left : (asks : ℕ → Act) (k count : ℕ) → k ≤ count → ReadsLeft asks k count
reads_left asks k count within =
    subst (ReadsLeft asks k) (let same : k + (count - k) ≡ count = omega arith in same) (left_more asks k (count - k))

-- acts that leave the device as it was
abbrev pub AllSame : (ℕ → Act) → Type 0
AllSame asks = (k : ℕ) (device : Device) → (acted (asks k) device).1 ≡ device

after_reads : (asks : ℕ → Act) → AllSame asks → (k : ℕ) (device : Device) → device_after (each_read asks k) device ≡ device
unfolding each_read
after_reads asks same zero device = refl
after_reads asks same (suc k) device =
    after_append (each_read asks k) (asks k ∷ []) device
    ∙ ap (λ d. (acted (asks k) d).1) (after_reads asks same k device) ∙ same k device

-- the last reply is the device's
read_from : {X : Type 0} {now : Option Talk} (asks : ℕ → Act) → AllSame asks → (read : List ℕ → List X) (first : Option Talk) (k : ℕ) (reply : List ℕ)
    → now ≡ saying (each_read asks k) first → IfSome now (λ talk. reply ≡ (acted (asks k) talk.device).0)
    → IfSome first (λ talk. read reply ≡ read (acted (asks k) talk.device).0)
unfolding saying
read_from asks same read None k reply is told = tt
read_from asks same read (Some talk) k reply is told =
    let here : reply ≡ (acted (asks k) (said (each_read asks k) talk).device).0 = rw is at told in
    ap read (here ∙ ap (λ d. (acted (asks k) d).0) (said_device (each_read asks k) talk ∙ after_reads asks same k talk.device))

-- what was read so far
pub told_grows : {X : Type 0} {now : Option Talk} (asks : ℕ → Act) (same : AllSame asks) (read : List ℕ → List X) (first : Option Talk) (k : ℕ)
    (items : List X) (x : X) (reply : List ℕ)
    → now ≡ saying (each_read asks k) first → IfSome now (λ talk. reply ≡ (acted (asks k) talk.device).0) → read reply ≡ x ∷ []
    → IfSome first (λ talk. items ≡ each_told asks read talk.device k) → IfSome first (λ talk. items ++ x ∷ [] ≡ each_told asks read talk.device (k + 1))
told_grows asks same read None k items x reply is told one before = tt
told_grows asks same read (Some talk) k items x reply is told one before =
    ap (λ ys. items ++ ys) (sym one) ∙ ap (λ ys. items ++ ys) (read_from asks same read (Some talk) k reply is told)
    ∙ ap (λ ys. ys ++ read (acted (asks k) talk.device).0) before ∙ sym (told_next asks read talk.device k)

pub told_begin : {X : Type 0} (asks : ℕ → Act) (read : List ℕ → List X) (first : Option Talk) (items : List X) → items ≡ []
    → IfSome first (λ talk. items ≡ each_told asks read talk.device 0)
told_begin asks read None items none = tt
told_begin asks read (Some talk) items none = none ∙ sym (told_none asks read talk.device)

module _ {L : Type 0} {talk : L → Option Talk} {since : L → L → Type 0} {fault : L → Option LinkFault} {downs : L → ℕ} (asks : ℕ → Act)
    {old : SessionValue L} where
  pub reads_none : (itself : (a : L) → since a a) → SoFar talk since fault downs (each_read asks 0) old old
  reads_none itself = subst (λ acts. SoFar talk since fault downs acts old old) (sym (read_none asks)) (none_said talk since fault downs itself old)

  pub reads_on : (since_more : (a b c : L) → since a b → since b c → since a c) (k : ℕ) {now new : SessionValue L}
      → fault new.link ≡ None → SoFar talk since fault downs (each_read asks k) old now → AsksOne talk since fault downs (asks k) now new
      → SoFar talk since fault downs (each_read asks (k + 1)) old new
  reads_on since_more k none before asked = rw (read_next asks k) (said_on since_more none before asked)

  pub reads_part : {A : Type 0} (k count : ℕ) {now : SessionValue L} (cause : SessionFault) → k ≤ count
      → SoFar talk since fault downs (each_read asks k) old now → Asks {A = A} talk since fault downs (each_read asks count) old now (Err cause)
  reads_part k count cause few before =
      let left = reads_left asks k count few in
      rw (← left.is) (said_part left.left cause before)

  pub reads_stop : {A : Type 0} (since_more : (a b c : L) → since a b → since b c → since a c) (k count : ℕ) {now new : SessionValue L} (cause : SessionFault)
      → k < count → SoFar talk since fault downs (each_read asks k) old now → AsksOne talk since fault downs (asks k) now new
      → Asks {A = A} talk since fault downs (each_read asks count) old new (Err cause)
  reads_stop {A} since_more k count {now} {new} cause below before asked =
      let left = reads_left asks (k + 1) count (omega arith) in
      let all : each_read asks k ++ asks k ∷ left.left ≡ each_read asks count =
      sym (append_assoc (each_read asks k) (asks k ∷ []) left.left) ∙ ap (λ acts. acts ++ left.left) (sym (read_next asks k)) ∙ left.is in
      rw (← all) (asks_then talk since fault downs since_more (each_read asks k) (asks k ∷ left.left) old now new (Err cause) before
      (asked_part talk since fault downs (asks k) left.left now new cause asked))
