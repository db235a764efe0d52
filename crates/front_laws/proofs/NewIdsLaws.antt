-- There are ids that a handheld may give to the new records of a whole session.
use Rattle.std.proofs.lemmas.Bool.Decides.{nat_tests}
use Rattle.std.proofs.lemmas.List.{length-append}
use Rattle.std.proofs.Common.{◌≡◌, ◌⊎◌, inl, inr, ◌∙◌, ◌+◌, ◌≤◌, ◌||◌, ap, sym, refl, subst, arith, ℕ, zero, suc, Bool, true, false, List, [], ◌∷◌, ◌++◌, length}
use Rattle.std.proofs.Common.{take, drop, is_some}
use Rattle.std.specs.Prelude.{Option, Some, None, ◌==◌, if◌then◌else◌}
use Rattle.std.specs.List.{AllByRecursion}
use Rattle.std.specs.Str.{bytes_eq}
use Rattle.pdb_values.specs.Contents.{ContentValue}
use Rattle.pdb_values.specs.Databases.{DatabaseValue}
use Rattle.pdb_values.specs.NamedDatabases.{database_of}
use Rattle.pdb_values.specs.declared.record.Record.{Record}
use Rattle.pdb_values.proofs.NamedLaws.{AllByRecursion-database_of, bytes_eq-is, bytes_eq-own}
use Rattle.palm_device.specs.Bounds.{IsBoundedDatabase}
use Rattle.palm_device.specs.FreshIds.{is_among, least_id}
use Rattle.palm_device.specs.Records.{put_record}
use Rattle.palm_device.specs.Soundness.{ids_of}
use Rattle.handheld_files.proofs.SettledLaws.{least_free, least_low}
use Rattle.conduit_rules.specs.Choices.{Choice}
use Rattle.conduit_rules.specs.States.{SideState, first}
use Rattle.record_merge.specs.Writes.{AreFree, GotFreeIds, after, numbered, replaces}
use Rattle.record_merge.proofs.PutLaws.{first-put, first-among}
use Rattle.session_plan.specs.Choosing.{action_or_sync, base_rows, base_rows_by, choice, seen_held, add_count}
use Rattle.session_plan.specs.Limits.{first_behind, first_over}
use Rattle.sync_session.specs.News.{replaced as replacements}
use Rattle.session_plan.specs.Skips.{active}
use Rattle.session_plan.specs.Tasks.{Meeting, Task, records_of, slot_of, task_of}
use Rattle.front_laws.specs.Meetings.{IsActive, action_at, found, found_of, ids_at, ids_dealt}
use Rattle.front_laws.specs.Renaming.{AreUnknown, is_known}
use Rattle.front_laws.specs.Repeats.{Finding, GotAllIds}
use Rattle.front_laws.proofs.MergedLaws.{IsTask}
use Rattle.front_laws.proofs.TaskLaws.{is-active}
use Rattle.front_laws.proofs.WholeLaws.{before_records, chosen-is, shown-is}
use Rattle.front_laws.specs.Sound.{IsSoundMeeting}
use Rattle.front_laws.proofs.PhaseActs.{first_not, has_room, within}
use Rattle.front_laws.proofs.PutActs.{replaces-length}
use Rattle.front_laws.proofs.ReadyLaws.{IsKept, are-kept, handheld-sound, ready-of, shows-no_other}
use Rattle.front_laws.proofs.TaskActs.{HasRoom}
use Rattle.std.proofs.lemmas.Bool.{or_parts}
use Rattle.front_laws.proofs.DesktopLaws.{first_place}
use Rattle.handheld_files.proofs.GivenLaws.{least_few}
use Rattle.handheld_files.proofs.ChangeLaws.{take_front, drop_front}
use Rattle.mirrors.proofs.ViewLaws.{ids_count}

-- ---- ids that are not taken

-- so many of them, the least first
abbrev fresh_for : ℕ → List ℕ → List ℕ
fresh_for zero taken = []
fresh_for (suc n) taken = least_id taken ∷ fresh_for n (least_id taken ∷ taken)

fresh-length : (n : ℕ) (taken : List ℕ) → length (fresh_for n taken) ≡ n
fresh-length zero taken = refl
fresh-length (suc n) taken = let rest = fresh-length n (least_id taken ∷ taken) in omega (arith, rest)

fresh-each : (P : ℕ → Type 0) (n : ℕ) (taken : List ℕ) → ((g : ℕ) → is_among g taken ≡ false → P g) → AllByRecursion P (fresh_for n taken)
fresh-each P zero taken new = tt
fresh-each P (suc n) taken new = (
  new (least_id taken) (least_free taken),
  fresh-each P n (least_id taken ∷ taken) (λ g apart. new g (or_parts (least_id taken == g) (is_among g taken) apart).1),
)

first-then : (g h : ℕ) (c : ContentValue) (records : List Record) → (g == h) ≡ false → first h records ≡ None → first h (put_record g c records) ≡ None
first-then g h c records apart none = grind (arith, nat_tests, first-put g c records h)

-- each is free at its turn
fresh-free : (n : ℕ) (taken : List ℕ) (cs : List ContentValue) (records : List Record) → length taken + n ≤ 16777214
    → ((g : ℕ) → is_among g taken ≡ false → first g records ≡ None) → AreFree (numbered (fresh_for n taken) cs) records
fresh-free zero taken cs records few none = tt
fresh-free (suc n) taken [] records few none = tt
fresh-free (suc n) taken (c ∷ cs) records few none =
    let g = least_id taken in
    let least = least_few (length taken) 1 taken in
    let low = least_low taken (length taken) 1 in (
      record {
        some = omega (arith, low);
        bound = omega (arith, least, few);
        none = first_place g records (none g (least_free taken));
      },
      fresh-free n (g ∷ taken) cs (put_record g c records) (omega (arith, few)) (λ h apart.
          let parts = or_parts (g == h) (is_among h taken) apart in first-then g h c records parts.0 (none h parts.1)),
    )

are-unknown : (x : Finding) (ids : List ℕ) → AllByRecursion (λ (g : ℕ). is_known x g ≡ false) ids → AreUnknown x ids
are-unknown x [] all = tt
are-unknown x (g ∷ ids) all = (all.0, are-unknown x ids all.1)

-- ---- one database

among-append : (g : ℕ) (xs ys : List ℕ) → is_among g (xs ++ ys) ≡ false → (is_among g xs ≡ false) × (is_among g ys ≡ false)
among-append g [] ys apart = (refl, apart)
among-append g (x ∷ xs) ys apart =
    let parts = or_parts (x == g) (is_among g (xs ++ ys)) apart in
    let rest = among-append g xs ys parts.1 in
    (ap (λ (b : Bool). b || is_among g xs) parts.0 ∙ rest.0, rest.1)

-- its records behind its replacements
abbrev records_then : Meeting → Task → List Record
records_then m t = after (replaces (replacements m t)) (records_of t.handheld)

-- no new record may have the id of one of these, of one before, or of a base row
abbrev taken_for : Meeting → Task → List ℕ
taken_for m t = ids_of (records_then m t) ++ (ids_of (records_of t.handheld) ++ ids_of (base_rows t))

abbrev ids_for : Meeting → Task → List ℕ
ids_for m t = fresh_for (add_count m t) (taken_for m t)

ids-count : (m : Meeting) (t : Task) → length (ids_for m t) ≡ add_count m t
ids-count m t = fresh-length (add_count m t) (taken_for m t)

base-few : {m : Meeting} → IsSoundMeeting m → (t : Task) → t ≡ task_of m t.name → length (base_rows t) ≤ 65535
base-few {m} sound t is = by t.rows t.base (ap (λ (x : Task). x.base) is)
  where
    by : (r b : Option DatabaseValue) → b ≡ database_of t.name (slot_of m).shelves.bases → length (base_rows_by r b) ≤ 65535
    by None b there = omega arith
    by (Some r) None there = omega arith
    by (Some r) (Some d) there =
        (AllByRecursion-database_of IsBoundedDatabase t.name (slot_of m).shelves.bases d sound.slot.bases (sym there)).whole.few_records

-- so many ids can be given
record IsGivable (m : Meeting) (t : Task) : Type 0 where
  got : GotAllIds (action_or_sync t.action) (found m t) (ids_for m t)
  unknown : AreUnknown (found m t) (ids_for m t)

givable : (m : Meeting) → IsSoundMeeting m → (t : Task) → IsKept m t → HasRoom m t (records_of t.handheld) → IsGivable m t
givable m sound t kept room =
    let rs = records_of t.handheld in
    let own = handheld-sound sound t kept.is in
    let grown = replaces-length (replacements m t) rs (ready-of m sound t kept).apart in
    let base = base-few sound t kept.is in
    let count = length-append (ids_of (records_then m t)) (ids_of rs ++ ids_of (base_rows t)) in
    let rest = length-append (ids_of rs) (ids_of (base_rows t)) in
    let first_ids = ids_count (records_then m t) in
    let own_ids = ids_count rs in
    let base_ids = ids_count (base_rows t) in
    let own_few = own.few in
    let few : length (taken_for m t) + add_count m t ≤ 16777214 = omega (arith, grown, base, count, rest, first_ids, own_ids, base_ids, own_few, room) in
    let free : GotFreeIds (choice m t) (seen_held m t) (ids_for m t) rs =
    fresh-free (add_count m t) (taken_for m t) (choice m t).adds (records_then m t) few
    (λ g apart. first-among g (records_then m t) (among-append g (ids_of (records_then m t)) (ids_of rs ++ ids_of (base_rows t)) apart).0) in
    record {
      got = record {
        got = subst (λ (p : Choice × (ℕ → SideState)). GotFreeIds p.0 p.1 (ids_for m t) rs) (λ k. (chosen-is m t k, shown-is m t k)) free;
        each = ids-count m t ∙ ap (λ (c : Choice). length c.adds) (chosen-is m t);
      };
      unknown = are-unknown (found m t) (ids_for m t) (fresh-each (λ g. is_known (found m t) g ≡ false) (add_count m t) (taken_for m t) (λ g apart.
          let parts = among-append g (ids_of rs) (ids_of (base_rows t))
          (among-append g (ids_of (records_then m t)) (ids_of rs ++ ids_of (base_rows t)) apart).1 in
          ap (λ (o : Option Record). is_some o || is_some (first g (base_rows t))) (first-among g rs parts.0)
          ∙ ap is_some (first-among g (base_rows t) parts.1)));
    }

-- ---- all of them

all-givable : (m : Meeting) → IsSoundMeeting m → (ts : List Task) (handhelds desktops : ℕ) → AllByRecursion (IsKept m) ts
    → first_behind m handhelds desktops ts ≡ None → AllByRecursion (IsGivable m) ts
all-givable m sound [] handhelds desktops kept none = tt
all-givable m sound (t ∷ ts) handhelds desktops kept none =
    let parts = first_not m t ts handhelds desktops none in
    let ready = ready-of m sound t kept.0 in
    let room = has_room m t ready (shows-no_other m t (handheld-sound sound t kept.0.is)) (within m t handhelds desktops parts.0) in (
      givable m sound t kept.0 (subst (HasRoom m t) (before_records t.handheld t.rows ready.before) room),
      all-givable m sound ts _ _ kept.1 parts.1,
    )

-- the ids of all databases, in order
abbrev new_ids : Meeting → List Task → List ℕ
new_ids m [] = []
new_ids m (t ∷ ts) = ids_for m t ++ new_ids m ts

-- each database gets its own of them
dealt-own : (m : Meeting) (ts : List Task) (name : List ℕ) → AllByRecursion (IsKept m) ts → IsTask (task_of m name) ts
    → ids_dealt m ts (new_ids m ts) name ≡ ids_for m (task_of m name)
dealt-own m [] name kept is = absurd is
dealt-own m (t ∷ ts) name kept is = by (bytes_eq t.name name) refl (dealt-own m ts name kept.1)
  where
    no_both : (b : Bool) → b ≡ false → b ≡ true → ⊥
    no_both b is_false is_true = cc

    behind : bytes_eq t.name name ≡ false → (t ≡ task_of m name) ⊎ IsTask (task_of m name) ts → IsTask (task_of m name) ts
    behind apart (inl here) =
        absurd (no_both (bytes_eq t.name name) apart (ap (λ (u : Task). bytes_eq u.name name) here ∙ bytes_eq-own name))
    behind apart (inr later) = later

    by : (b : Bool) → bytes_eq t.name name ≡ b
        → (IsTask (task_of m name) ts → ids_dealt m ts (new_ids m ts) name ≡ ids_for m (task_of m name))
        → (if b then take (add_count m t) (ids_for m t ++ new_ids m ts) else ids_dealt m ts (drop (add_count m t) (ids_for m t ++ new_ids m ts)) name)
        ≡ ids_for m (task_of m name)
    by true same later =
        ap (λ n. take n (ids_for m t ++ new_ids m ts)) (sym (ids-count m t)) ∙ take_front (ids_for m t) (new_ids m ts)
        ∙ ap (ids_for m) (kept.0.is ∙ ap (task_of m) (bytes_eq-is t.name name same))
    by false apart later =
        ap (λ n. ids_dealt m ts (drop n (ids_for m t ++ new_ids m ts)) name) (sym (ids-count m t))
        ∙ ap (λ (ids : List ℕ). ids_dealt m ts ids name) (drop_front (ids_for m t) (new_ids m ts))
        ∙ later (behind apart is)

one-of : (P : Task → Type 0) (ts : List Task) (t : Task) → AllByRecursion P ts → IsTask t ts → P t
one-of P [] t all is = absurd is
one-of P (u ∷ ts) t all (inl same) = subst P same all.0
one-of P (u ∷ ts) t all (inr later) = one-of P ts t all.1 later

-- ids that one whole session could give
pub new-given : (m : Meeting) → IsSoundMeeting m → first_over m ≡ None → (new : List ℕ) × ((name : List ℕ) → IsActive m name
    → GotAllIds (action_at m name) (found_of m name) (ids_at m new name) × AreUnknown (found_of m name) (ids_at m new name))
unfolding first_over
new-given m sound none = (
  new_ids m (active m),
  λ name is.
      let there = is-active m name is.there is.kept in
      let own = dealt-own m (active m) name (are-kept m) there in
      let can = one-of (IsGivable m) (active m) (task_of m name) (all-givable m sound (active m) _ _ (are-kept m) none) there in (
        subst (GotAllIds (action_at m name) (found_of m name)) (sym own) can.got,
        subst (AreUnknown (found_of m name)) (sym own) can.unknown,
      ),
)
