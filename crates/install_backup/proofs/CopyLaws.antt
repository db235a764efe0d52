-- What was lent is what the reply has, and what was read is what the device tells.
use Rattle.std.proofs.lemmas.Grind.{common_steps}
use Rattle.std.proofs.lemmas.Bool.Decides.{nat_tests}
use Rattle.std.proofs.Common.{arith, ◌≡◌, ◌∙◌, ap, refl, sym, subst, ℕ, Bool, List, [], ◌∷◌, rules}
use Rattle.std.specs.Prelude.{Option, Some, None, IfOk, IfSome, Result, Ok, Err}
use Rattle.pdb_values.specs.Databases.{DatabaseValue}
use Rattle.pdb_values.specs.declared.head.DbHead.{DbHead}
use Rattle.dlp_replies.specs.ReplyReading.{reply_at}
use Rattle.dlp_replies.specs.ReplyValues.{ReplyValue}
use Rattle.dlp_replies.specs.declared.fault.ReplyFault.{ReplyFault}
use Rattle.palm_device.specs.Devices.{Device}
use Rattle.dlp_commands.specs.DeviceSteps.{tried}
use Rattle.dlp_commands.specs.declared.reading.Reading.TheVariants as reading
use Rattle.desktop_session.specs.Answers.{block_of, or_none, record_of}
use Rattle.desktop_session.specs.Lent.{LentValue}
use Rattle.desktop_session.specs.Requests.{reading_app, reading_sort}
use Rattle.session_parts.proofs.LinkWords.{Act, AsksOne, LinkFault, SessionFault, SessionValue, Talk, acted, answer_by, counting, said_in, saying}
use Rattle.session_parts.proofs.RestLaws.{reads_same}
use Rattle.mirrors.specs.Asks.{Asks}
use Rattle.mirrors.specs.Reads.{entries_of, entries_told}
use Rattle.mirrors.proofs.AskLaws.{asks_then, one_said}
use Rattle.install_backup.specs.BackupActs.{backup_under}
use Rattle.install_backup.specs.Copies.{block_in, blocked, copied, or_no_block, record_from, records_in, with_entries}
use Rattle.mirrors.proofs.ReadLaws.{grown_untold}

pub lent_record : (function : ℕ) (fault : Option LinkFault) (read : Result ReplyValue ReplyFault) {lent : LentValue} → answer_by fault (said_in function record_of read) ≡ Ok lent
    → records_in read ≡ record_from lent ∷ []
lent_record function fault read is = grind (arith, common_steps, nat_tests)

-- what was answered
pub if_ok : {A E : Type 0} {P Q : A → Type 0} (r : Result A E) → IfOk r P → ((x : A) → P x → Q x) → IfOk r Q
if_ok (Ok x) held each = each x held
if_ok (Err cause) held each = tt

-- a block that was read
pub block_said : (function : ℕ) (fault : Option LinkFault) (read : Result ReplyValue ReplyFault) (block : Option (List ℕ)) → answer_by fault (or_none (said_in function block_of read)) ≡ Ok block
    → (fault ≡ None) × (block_in function read ≡ block)
block_said function None read block is = (refl, by (or_none (said_in function block_of read)) is)
  where
    by : (said : Result (Option (List ℕ)) SessionFault) → said ≡ Ok block → or_no_block said ≡ block
    by (Ok other) is = let same : other ≡ block = cc in same
    by (Err cause) is = absurd cc
block_said function (Some fault) read block is = absurd cc

-- ---- acts that leave the device as it was

pub app_same : (handle : ℕ) (device : Device) → (acted (reading_app handle) device).1 ≡ device
unfolding acted tried
app_same handle device = reads_same device handle 0x1B (reading.AppBlock 0 65535)

pub sort_same : (handle : ℕ) (device : Device) → (acted (reading_sort handle) device).1 ≡ device
unfolding acted tried
sort_same handle device = reads_same device handle 0x1D (reading.SortBlock 0 65535)

pub count_same : (handle : ℕ) (device : Device) → (acted (counting handle) device).1 ≡ device
unfolding acted tried
count_same handle device = reads_same device handle 0x2B reading.EntryCount

-- what holds of the device behind one holds of the device before
pub told_before : (P : Device → Type 0) (one : Act) → ((device : Device) → (acted one device).1 ≡ device) → (o : Option Talk) {now : Option Talk}
    → now ≡ saying (one ∷ []) o → IfSome now (λ talk. P talk.device) → IfSome o (λ talk. P talk.device)
unfolding saying
told_before P one same None is told = tt
told_before P one same (Some talk) is told = subst P (same talk.device) (rw is at told)

-- ---- the whole

pub copied_by : (o : Option Talk) (head : DbHead) (handle count : ℕ) (app sort : Option (List ℕ)) (app_reply sort_reply : List ℕ) (whole : DatabaseValue)
    → IfSome o (λ talk. count ≡ entries_told talk.device handle)
    → IfSome o (λ talk. app_reply ≡ (acted (reading_app handle) talk.device).0) → block_in 0x1B (reply_at 0x1B app_reply) ≡ app
    → IfSome o (λ talk. sort_reply ≡ (acted (reading_sort handle) talk.device).0) → block_in 0x1D (reply_at 0x1D sort_reply) ≡ sort
    → IfSome o (λ talk. whole ≡ with_entries (blocked head app sort) talk.device handle count) → IfSome o (λ talk. whole ≡ copied head handle talk.device)
unfolding copied
copied_by None head handle count app sort app_reply sort_reply whole counted app_told app_is sort_told sort_is is = tt
copied_by (Some talk) head handle count app sort app_reply sort_reply whole counted app_told app_is sort_told sort_is is =
    let device = talk.device in
    is
    ∙ ap (λ n. with_entries (blocked head app sort) device handle n) counted
    ∙ ap (λ (b : Option (List ℕ)). with_entries (blocked head b sort) device handle (entries_told device handle))
    (sym app_is ∙ ap (λ bytes. block_in 0x1B (reply_at 0x1B bytes)) app_told)
    ∙ ap (λ (b : Option (List ℕ)). with_entries (blocked head (block_in 0x1B (reply_at 0x1B (acted (reading_app handle) device).0)) b) device handle
    (entries_told device handle)) (sym sort_is ∙ ap (λ bytes. block_in 0x1D (reply_at 0x1D bytes)) sort_told)

saying_untold : (xs ys : List Act) → saying xs None ≡ saying ys None
unfolding saying
saying_untold xs ys = refl

module _ {L A : Type 0} {talk : L → Option Talk} {since : L → L → Type 0} {fault : L → Option LinkFault} {downs : L → ℕ} {old : SessionValue L} where
  untold : {xs ys : List Act} {new : SessionValue L} {answer : Result A SessionFault} → talk old.link ≡ None
      → Asks talk since fault downs xs old new answer → Asks talk since fault downs ys old new answer
  untold none asks = search (rules, grown_untold, saying_untold)

  -- as many entries as the device told
  pub counted_asks : (of_resources : Bool) (handle count : ℕ) {new : SessionValue L} {answer : Result A SessionFault} (o : Option Talk) → talk old.link ≡ o
      → IfSome o (λ talk. count ≡ entries_told talk.device handle) → Asks talk since fault downs (backup_under of_resources count handle) old new answer
      → Asks talk since fault downs (backup_under of_resources (entries_of o handle) handle) old new answer
  counted_asks of_resources handle count None is told asks = untold is asks
  counted_asks of_resources handle count (Some here) is told asks = rw (← told) asks

  -- an act, answered, and then others
  pub asks_behind : (since_more : (a b c : L) → since a b → since b c → since a c) (one : Act) (rest : List Act) {now new : SessionValue L}
      {answer : Result A SessionFault} → fault now.link ≡ None → AsksOne talk since fault downs one old now → Asks talk since fault downs rest now new answer
      → Asks talk since fault downs (one ∷ rest) old new answer
  asks_behind since_more one rest {now} {new} {answer} none asked asks =
      asks_then talk since fault downs since_more (one ∷ []) rest old now new answer (one_said talk since fault downs one old now none asked) asks
