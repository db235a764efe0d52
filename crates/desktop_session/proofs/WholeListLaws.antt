-- Over a device the list of its databases is whole: no request goes out too early or too late.
use Rattle.std.proofs.Common.{◌≡◌, ◌∙◌, ◌≤◌, ◌<◌, ◌+◌, ◌-◌, ◌^◌, refl, ap, sym, inl, inr, ℕ, zero, suc, Bool, true, false, cond, List, [], ◌∷◌, ◌++◌, length}
use Rattle.std.proofs.Common.{map, take, arith, lit<}
use Rattle.std.proofs.lemmas.List.{append-nil, map-append}
use Rattle.std.proofs.lemmas.Bool.{le-ltb, ltb-false, ltb-true}
use Rattle.std.specs.Prelude.{◌⊎◌, max, Option, Some, None, Ok, nat_lt, slice_get}
use Rattle.pdb_values.specs.Databases.{DatabaseValue}
use Rattle.pdb_values.specs.Heads.{has_bit}
use Rattle.dlp_replies.specs.ReplyValues as reply
use Rattle.palm_device.specs.Devices.{Device}
use Rattle.dlp_commands.specs.DatabaseFunctions.{listed, more_flag, read_db_list}
use Rattle.dlp_commands.specs.DeviceSteps.{tried}
use Rattle.dlp_replies.proofs.ListLaws.{within_list}
use Rattle.dlp_replies.specs.ReplyValues.{ReplyValue}
use Rattle.pdb_values.specs.declared.head.DbHead.{DbHead}
use Rattle.desktop_session.specs.Lists.{has_more, heads_in, heads_listed, list_reply}
use Rattle.desktop_session.specs.Requests.{listing}
use Rattle.desktop_session.specs.Tellings.{IsTellable, told}
use Rattle.desktop_session.proofs.GrowLaws.{take_next, take_whole}
use Rattle.desktop_session.proofs.RequestFits.{list_fits}
use Rattle.desktop_session.proofs.TellLaws.{act_sayable, acted_reads}
use Rattle.std.proofs.Common.{rules}
use Rattle.std.proofs.lemmas.Grind.{common_steps}
use Rattle.std.proofs.lemmas.Bool.Decides.{nat_tests}

told_there : (device : Device) (k : ℕ) {database : DatabaseValue} → slice_get device.databases k ≡ Some database
    → told (listing k) device ≡ reply.ReadDbList k (more_flag k (length device.databases)) ((k, listed database.head) ∷ [])
unfolding told tried read_db_list
told_there device k there = rw there refl

told_none : (device : Device) (k : ℕ) → slice_get device.databases k ≡ None → told (listing k) device ≡ reply.Refused 0x16 5
unfolding told tried read_db_list
told_none device k none = rw none refl

reply_is : {device : Device} (k : ℕ) → IsTellable device → k < 2 ^ 16 → list_reply device k ≡ Ok (told (listing k) device)
reply_is k proper half = search (rules, acted_reads, act_sayable, list_fits)

flag_is : (b : Bool) → has_bit 0x80 (cond b 0x80 0) ≡ b
flag_is true = refl
flag_is false = refl

-- more follow where a further database is there
more_there : {device : Device} (k : ℕ) {database : DatabaseValue} → IsTellable device → k < 2 ^ 16 → slice_get device.databases k ≡ Some database
    → has_more (list_reply device k) ≡ nat_lt (k + 1) (length device.databases)
more_there k proper half there = search (rules, reply_is, told_there, flag_is)

more_none : {device : Device} (k : ℕ) → IsTellable device → k < 2 ^ 16 → slice_get device.databases k ≡ None → has_more (list_reply device k) ≡ false
more_none {device} k proper half none = cc (reply_is k proper half, told_none device k none)

past : (databases : List DatabaseValue) (k : ℕ) → slice_get databases k ≡ None → nat_lt (k + 1) (length databases) ≡ false
past databases k none = let out = within_list databases k none in le-ltb _ _ (omega arith)

more_by : (o : Option DatabaseValue) {device : Device} (k : ℕ) → IsTellable device → k < 2 ^ 16 → slice_get device.databases k ≡ o
    → has_more (list_reply device k) ≡ nat_lt (k + 1) (length device.databases)
more_by o k proper half there = search (rules, more_there, more_none, past)

pub more_is : (device : Device) (k : ℕ) → IsTellable device → k < 2 ^ 16
    → has_more (list_reply device k) ≡ nat_lt (k + 1) (length device.databases)
more_is device k proper half = more_by (slice_get device.databases k) k proper half refl

-- as many requests as databases, and one where there is none
pub count_is : (device : Device) (count : ℕ) → IsTellable device → 0 < count → count ≤ 65536
    → ((k : ℕ) → k + 1 < count → has_more (list_reply device k) ≡ true)
    → (count ≡ 65536) ⊎ (has_more (list_reply device (count - 1)) ≡ false) → count ≡ max 1 (length device.databases)
count_is device zero proper some few more last = absurd (omega arith)
count_is device (suc zero) proper some few more (inl full) = absurd (omega arith)
count_is device (suc zero) proper some few more (inr none) =
    let small : length device.databases ≤ 1 = ltb-false _ _ (sym (more_is device 0 proper (lit< tt)) ∙ none) in omega arith
count_is device (suc (suc k)) proper some few more last =
    let before : k + 1 < length device.databases = ltb-true _ _ (sym (more_is device k proper (omega arith)) ∙ more k (omega arith)) in
    let all = proper.sound.few in
    elim last as (λ l. suc (suc k) ≡ max 1 (length device.databases)) [
      | inl full ↦ absurd (omega arith)
      | inr none ↦
          let end : length device.databases ≤ suc k + 1 = ltb-false _ _ (sym (more_is device (suc k) proper (omega arith))
          ∙ ap (λ n. has_more (list_reply device n)) (let same : suc k ≡ suc (suc k) - 1 = omega arith in same) ∙ none) in omega arith
    ]

-- the head of a database, as it is listed
abbrev pub head_of : DatabaseValue → DbHead
head_of database = listed database.head

heads_one : (o : Option DatabaseValue) {device : Device} (k : ℕ) → IsTellable device → k < 2 ^ 16 → slice_get device.databases k ≡ o
    → map head_of (take k device.databases) ++ heads_in (list_reply device k) ≡ map head_of (take (k + 1) device.databases)
heads_one (Some database) {device} k proper half there =
    cc (reply_is k proper half, told_there device k there, map-append head_of (take k device.databases) (database ∷ []), take_next device.databases k there)
heads_one None {device} k proper half none = grind (arith, common_steps, nat_tests, within_list, reply_is, told_none, append-nil, take_whole)

heads_so_far : {device : Device} (count : ℕ) → IsTellable device → count ≤ 65536 → heads_listed device count ≡ map head_of (take count device.databases)
unfolding heads_listed
heads_so_far zero proper few = refl
heads_so_far {device} (suc k) proper few =
    ap (λ heads. heads ++ heads_in (list_reply device k)) (heads_so_far k proper (omega arith))
    ∙ heads_one (slice_get device.databases k) k proper (omega arith) refl
    ∙ ap (λ n. map head_of (take n device.databases)) (let same : k + 1 ≡ suc k = omega arith in same)

pub heads_are : (device : Device) (count : ℕ) → IsTellable device → length device.databases ≤ count → count ≤ 65536
    → heads_listed device count ≡ map (λ database. listed database.head) device.databases
heads_are device count proper all few = search (rules, heads_so_far, take_whole)
