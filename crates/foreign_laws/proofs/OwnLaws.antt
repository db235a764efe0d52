-- Our own device is a handheld of another make, too, that gives handle 1 and lists one database a reply.
use Rattle.std.proofs.Common.{◌≡◌, ◌∙◌, ◌≤◌, ◌+◌, ◌^◌, refl, sym, ap, subst, inl, inr, ℕ, zero, suc, Bool, true, false, cond, List, [], ◌∷◌, ◌++◌, length, map, take, arith, ltb, rules, zero-add}
use Rattle.std.proofs.lemmas.Grind.{common_steps}
use Rattle.std.proofs.lemmas.Bool.Decides.{nat_tests}
use Rattle.std.proofs.lemmas.List.Sorted.{IsPermutation-refl}
use Rattle.std.specs.Prelude.{◌⊎◌, Option, Some, None, Ok, Err, IsPermutation, slice_get}
use Rattle.std.specs.List.{list_all}
use Rattle.pdb_values.specs.Databases.{DatabaseValue}
use Rattle.pdb_values.specs.Heads.{has_bit}
use Rattle.pdb_values.specs.NamedDatabases.{NamesRise, comes_before, database_of}
use Rattle.pdb_values.proofs.NamedLaws.{bytes_eq-own, comes_before-differs}
use Rattle.dlp_args.specs.Fields.{Fields}
use Rattle.dlp_requests.specs.Forms as form
use Rattle.dlp_requests.specs.Forms.{Form, kinds_of, number_of}
use Rattle.dlp_requests.specs.RequestTexts.{IsRequest, request_text}
use Rattle.dlp_requests.specs.RequestValues.{RequestValue}
use Rattle.dlp_replies.specs.ReplyReading.{reply_at}
use Rattle.dlp_replies.specs.ReplyValues as reply
use Rattle.dlp_replies.specs.ReplyValues.{ReplyValue}
use Rattle.palm_device.specs.Devices.{Device}
use Rattle.palm_device.specs.Handles.{free_handle, no_handles}
use Rattle.dlp_commands.specs.DatabaseFunctions.{create_db, listed, more_flag, open_db, read_db_list}
use Rattle.dlp_commands.specs.DeviceSteps.{DeviceStep, MayGive, function_number, outcome, tried, tried_by}
use Rattle.dlp_commands.specs.Errors.{need, not_found, ◌>>=◌}
use Rattle.dlp_commands.specs.Reached.{Trial}
use Rattle.desktop_session.specs.Acts.{act_given, acted}
use Rattle.desktop_session.specs.Tellings.{IsSayable, IsTellable, tells, told}
use Rattle.desktop_session.proofs.ActLaws.{read_back, step_tried}
use Rattle.desktop_session.proofs.ListLaws.{Same, outcome_same}
use Rattle.desktop_session.proofs.TellLaws.{IfDone, Opens, acted_proper, acted_reads, done_then, need_some, open_done}
use Rattle.foreign_laws.specs.Foreign.{Does, ForeignStep, Grants, HasNoneFrom, IsAskedAlone, IsForeign, IsOpened, IsPage, KeepsHandle, MayReply, Rise, as_foreign, at_handle, is_some_left, listed_from}
use Rattle.foreign_laws.specs.Foreign.{AreBelow}

-- ---- what it is

pub rise_from : (databases : List DatabaseValue) (start place : ℕ) → start ≤ place → place + length databases ≤ 2 ^ 16
    → Rise start (listed_from place databases)
rise_from [] start place above few = tt
rise_from (database ∷ later) start place above few = (above, omega arith, rise_from later (place + 1) (place + 1) (omega arith) (omega arith))

names_listed : (databases : List DatabaseValue) (place : ℕ)
    → map (λ (one : ℕ × List ℕ). one.1) (listed_from place databases) ≡ map (λ (database : DatabaseValue). database.head.name) databases
names_listed [] place = refl
names_listed (database ∷ later) place = ap (λ (names : List (List ℕ)). database.head.name ∷ names) (names_listed later (place + 1))

pub own_foreign : (device : Device) → IsTellable device → IsForeign (as_foreign device)
own_foreign device proper = record {
  proper = proper;
  rise = rise_from device.databases 0 0 (omega arith) (omega (arith, proper.sound.few));
  names = let names = map (λ (database : DatabaseValue). database.head.name) device.databases in
      subst (λ (l : List (List ℕ)). IsPermutation l names) (sym (names_listed device.databases 0)) (IsPermutation-refl names);
  byte = omega arith;
}

-- ---- what it replies

opened_ours : (number : ℕ) (value : ReplyValue) (r : Trial) → IfDone (λ (done : Device × ReplyValue). (done.1 ≡ reply.OpenDb 1) ⊎ (done.1 ≡ reply.CreateDb 1)) r
    → tells number r ≡ value → IsOpened 1 value value
opened_ours number value (Ok done) (inl is) said = subst (λ (v : ReplyValue). IsOpened 1 v v) (sym is ∙ said) (refl, refl)
opened_ours number value (Ok done) (inr is) said = subst (λ (v : ReplyValue). IsOpened 1 v v) (sym is ∙ said) (refl, refl)
opened_ours number value (Err code) is said = subst (λ (v : ReplyValue). IsOpened 1 v v) said refl

least_free : (device : Device) {handle : ℕ} → device.handles ≡ no_handles → free_handle device.handles ≡ Some handle → handle ≡ 1
least_free device none is = search (rules)

made_done : (device : Device) (creator kind : List ℕ) (flags version : ℕ) (name : List ℕ) → device.handles ≡ no_handles
    → IfDone (Opens name 0xC0 (reply.CreateDb 1)) (create_db device creator kind 0 flags version name)
unfolding create_db
made_done device creator kind flags version name none = search (rules, done_then, least_free, need_some)

left_open : (name : List ℕ) (mode : ℕ) (r : Trial) → IfDone (Opens name mode (reply.OpenDb 1)) r
    → IfDone (λ (done : Device × ReplyValue). (done.1 ≡ reply.OpenDb 1) ⊎ (done.1 ≡ reply.CreateDb 1)) r
left_open name mode (Ok done) is = inl is.reply
left_open name mode (Err code) is = tt

left_made : (name : List ℕ) (mode : ℕ) (r : Trial) → IfDone (Opens name mode (reply.CreateDb 1)) r
    → IfDone (λ (done : Device × ReplyValue). (done.1 ≡ reply.OpenDb 1) ⊎ (done.1 ≡ reply.CreateDb 1)) r
left_made name mode (Ok done) is = inr is.reply
left_made name mode (Err code) is = tt

part_ours : (value : ReplyValue) → MayReply form.ReadRecordIdList 1 value value
part_ours (reply.ReadRecordIdList ids) = (length ids, ap reply.ReadRecordIdList (all ids))
  where
    all : (ids : List ℕ) → ids ≡ take (suc (length ids)) ids
    all [] = refl
    all (id ∷ ids) = ap (λ (l : List ℕ). id ∷ l) (all ids)
part_ours value = refl

-- ---- lists

below_listed : (databases : List DatabaseValue) (place start : ℕ) → place + length databases ≤ start → AreBelow start (listed_from place databases)
below_listed [] place start below = tt
below_listed (database ∷ later) place start below = (omega arith, below_listed later (place + 1) start (omega arith))

-- where a database stands among those that are listed
record Stands (databases : List DatabaseValue) (place k : ℕ) (database : DatabaseValue) : Type 0 where
  before : List (ℕ × List ℕ)
  behind : List (ℕ × List ℕ)
  parts : listed_from place databases ≡ before ++ ((place + k, database.head.name) ∷ []) ++ behind
  below : AreBelow (place + k) before
  more : is_some_left behind ≡ ltb (k + 1) (length databases)

pub left_by : (databases : List DatabaseValue) (place : ℕ) → is_some_left (listed_from place databases) ≡ ltb 1 (1 + length databases)
left_by [] place = refl
left_by (database ∷ later) place = grind (arith, nat_tests)

stands_at : (databases : List DatabaseValue) (place k : ℕ) (database : DatabaseValue) → slice_get databases k ≡ Some database
    → Stands databases place k database
stands_at [] place k database there = absurd cc
stands_at (first ∷ later) place zero database there =
    let same : first ≡ database = some_same there in
    record {
      before = [];
      behind = listed_from (place + 1) later;
      parts = ap (λ (d : DatabaseValue). (place, d.head.name) ∷ listed_from (place + 1) later) same
          ∙ ap (λ (n : ℕ). (n, database.head.name) ∷ listed_from (place + 1) later) (omega arith);
      below = tt;
      more = left_by later (place + 1) ∙ ap (λ (n : ℕ). ltb 1 n) (omega arith);
    }
  where
    some_same : {A : Type 0} {x y : A} → Some x ≡ Some y → x ≡ y
    some_same is = cc
stands_at (first ∷ later) place (suc k) database there =
    let rest = stands_at later (place + 1) k database there in
    let sum : place + 1 + k ≡ place + suc k = omega arith in
    record {
      before = (place, first.head.name) ∷ rest.before;
      behind = rest.behind;
      parts = ap (λ (l : List (ℕ × List ℕ)). (place, first.head.name) ∷ l) rest.parts
          ∙ ap (λ (n : ℕ). ((place, first.head.name) ∷ rest.before) ++ ((n, database.head.name) ∷ []) ++ rest.behind) sum;
      below = (omega arith, subst (λ (n : ℕ). AreBelow n rest.before) sum rest.below);
      more = rest.more ∙ (grind (arith, nat_tests));
    }

passes : (test : DatabaseValue → Bool) (databases : List DatabaseValue) (k : ℕ) (database : DatabaseValue) → list_all test databases ≡ true
    → slice_get databases k ≡ Some database → test database ≡ true
passes test [] k database all there = absurd cc
passes test (first ∷ later) zero database all there = grind (arith, nat_tests, common_steps)
passes test (first ∷ later) (suc k) database all there = grind (arith, nat_tests, common_steps, passes test later k database)

-- a database is found by its own name, where names differ
pub found_at : (databases : List DatabaseValue) (k : ℕ) (database : DatabaseValue) → NamesRise databases → slice_get databases k ≡ Some database
    → database_of database.head.name databases ≡ Some database
found_at [] k database rise there = absurd cc
found_at (first ∷ later) zero database rise there = grind (arith, nat_tests, common_steps, bytes_eq-own first.head.name)
found_at (first ∷ later) (suc k) database rise there =
    let before = passes (λ (other : DatabaseValue). comes_before first.head.name other.head.name) later k database rise.0 there in
    rw (comes_before-differs first.head.name database.head.name before) (found_at later k database rise.1 there)

none_behind : {X : Type 0} (xs : List X) (k : ℕ) → slice_get xs k ≡ None → length xs ≤ k
none_behind [] k none = omega arith
none_behind (x ∷ xs) zero none = absurd cc
none_behind (x ∷ xs) (suc k) none = let rest = none_behind xs k none in omega arith

-- its reply to a list, by what stands at the start
abbrev pub list_value : ℕ → ℕ → Option DatabaseValue → ReplyValue
list_value start count None = reply.Refused 0x16 5
list_value start count (Some database) = reply.ReadDbList start (more_flag start count) ((start, listed database.head) ∷ [])

list_by : (device : Device) (start : ℕ) (found : Option DatabaseValue)
    → tells 0x16 (need not_found found >>= λ database. Ok (
      device,
      reply.ReadDbList start (more_flag start (length device.databases)) ((start, listed database.head) ∷ []),
    )) ≡ list_value start (length device.databases) found
list_by device start None = refl
list_by device start (Some database) = refl

pub told_page : (device : Device) (start : ℕ)
    → tells 0x16 (read_db_list device 0x80 0 start) ≡ list_value start (length device.databases) (slice_get device.databases start)
unfolding read_db_list
told_page device start = list_by device start (slice_get device.databases start)

pub list_keeps : (device : Device) (start : ℕ) → IfDone (Same device) (read_db_list device 0x80 0 start)
unfolding read_db_list
list_keeps device start = search (rules, done_then)

pub flag_is : (b : Bool) → has_bit 0x80 (cond b 0x80 0) ≡ b
flag_is true = refl
flag_is false = refl

page_ours : (device : Device) (start : ℕ) (found : Option DatabaseValue) → NamesRise device.databases → slice_get device.databases start ≡ found
    → IsPage (as_foreign device) start (list_value start (length device.databases) found)
    ⊎ HasNoneFrom (as_foreign device) start (list_value start (length device.databases) found)
page_ours device start None rise there =
    inr (record {
      below = below_listed device.databases 0 start (let behind = none_behind device.databases start there in omega arith);
      is = refl;
    })
page_ours device start (Some database) rise there =
    let at = stands_at device.databases 0 start database there in
    inl (record {
      before = at.before;
      first = (start, database.head.name);
      later = [];
      behind = at.behind;
      parts = at.parts ∙ ap (λ (n : ℕ). at.before ++ ((n, database.head.name) ∷ []) ++ at.behind) (zero-add start);
      below = subst (λ (n : ℕ). AreBelow n at.before) (zero-add start) at.below;
      above = omega arith;
      flags = more_flag start (length device.databases);
      entries = (start, listed database.head) ∷ [];
      are = (record { database = database; there = found_at device.databases start database rise there; is = refl }, tt);
      more = flag_is (ltb (start + 1) (length device.databases)) ∙ sym at.more;
      is = refl;
    })

-- ---- a step

module _ (old new : Device) (answer : List ℕ) (free : ℕ) (proper : IsTellable old) where
  abbrev telling : (f : Form) → Fields (kinds_of f) → ReplyValue
  telling f fields = tells (number_of f) (tried_by free old f fields)

  done : (f : Form) (fields : Fields (kinds_of f)) (value : ReplyValue) → fields ≡ at_handle 1 f fields
      → DeviceStep old (request_text (record { form = f; fields = fields })) answer new → reply_at (number_of f) answer ≡ Ok value
      → MayReply f 1 value value → KeepsHandle f 1 1 → Does (as_foreign old) (record { form = f; fields = fields }) value (as_foreign new)
  done f fields value alone step reads may keeps = record {
    under = alone;
    own = answer;
    step = subst (λ (other : Fields (kinds_of f)). DeviceStep old (request_text (record { form = f; fields = other })) answer new) alone step;
    ours = value;
    told = reads;
    replies = may;
    keeps = keeps;
  }

  page : (start : ℕ) → new ≡ (outcome old 0x16 (read_db_list old 0x80 0 start)).1
      → Grants (as_foreign old) form.ReadDbList (0x80, (0, (start, tt))) (tells 0x16 (read_db_list old 0x80 0 start)) (as_foreign new)
  page start after = (
    subst (λ (v : ReplyValue). IsPage (as_foreign old) start v ⊎ HasNoneFrom (as_foreign old) start v) (sym (told_page old start))
        (page_ours old start (slice_get old.databases start) proper.sound.names refl),
    ap as_foreign (after ∙ outcome_same 0x16 (read_db_list old 0x80 0 start) (list_keeps old start)),
  )

  listing : (flags card start : ℕ) → flags ≡ 0x80 → card ≡ 0 → new ≡ (outcome old 0x16 (read_db_list old flags card start)).1
      → Grants (as_foreign old) form.ReadDbList (flags, (card, (start, tt))) (tells 0x16 (read_db_list old flags card start)) (as_foreign new)
  listing flags card start flag none after =
      let P : ℕ → ℕ → Type 0 = λ f c. new ≡ (outcome old 0x16 (read_db_list old f c start)).1
      → Grants (as_foreign old) form.ReadDbList (f, (c, (start, tt))) (tells 0x16 (read_db_list old f c start)) (as_foreign new) in
      subst (λ (f : ℕ). P f card) (sym flag) (subst (λ (c : ℕ). P 0x80 c) (sym none) (page start)) after

  -- by the form of the request
  grants : (f : Form) (fields : Fields (kinds_of f)) → IsAskedAlone old f fields
      → DeviceStep old (request_text (record { form = f; fields = fields })) answer new → reply_at (number_of f) answer ≡ Ok (telling f fields)
      → new ≡ (outcome old (number_of f) (tried_by free old f fields)).1 → Grants (as_foreign old) f fields (telling f fields) (as_foreign new)
  grants form.ReadDbList (flags, (card, (start, end))) alone step reads after = listing flags card start alone.0 alone.1 after
  grants form.OpenDb (card, (mode, (name, end))) alone step reads after =
      done form.OpenDb (card, (mode, (name, end))) _ refl step reads
      (opened_ours 0x17 _ (open_db old card mode name) (left_open name mode (open_db old card mode name)
      (subst (λ (c : ℕ). IfDone (Opens name mode (reply.OpenDb 1)) (open_db old c mode name)) (sym alone.0) (open_done old mode name alone.1))) refl) tt
  grants form.CreateDb (creator, (kind, (card, (pad, (flags, (version, (name, end))))))) alone step reads after =
      done form.CreateDb (creator, (kind, (card, (pad, (flags, (version, (name, end))))))) _ refl step reads
      (opened_ours 0x18 _ (create_db old creator kind card flags version name) (left_made name 0xC0 (create_db old creator kind card flags version name)
      (subst (λ (c : ℕ). IfDone (Opens name 0xC0 (reply.CreateDb 1)) (create_db old creator kind c flags version name)) (sym alone.0)
      (made_done old creator kind flags version name alone.1))) refl) tt
  grants form.ReadRecordIdList fields alone step reads after =
      done form.ReadRecordIdList fields _ alone step reads (part_ours (telling form.ReadRecordIdList fields)) refl
  grants form.ReadNextModifiedRec fields alone step reads after = done form.ReadNextModifiedRec fields _ alone step reads (inl refl) refl
  grants form.ReadRecordById fields alone step reads after = done form.ReadRecordById fields _ alone step reads (inl refl) refl
  grants form.ReadRecordByIndex fields alone step reads after = done form.ReadRecordByIndex fields _ alone step reads (inl refl) refl
  grants f fields alone step reads after = done f fields _ alone step reads refl refl

pub own_step_is : (old new : Device) (request : RequestValue) (answer : List ℕ) → IsTellable old → IsRequest request
    → IsAskedAlone old request.form request.fields → DeviceStep old (request_text request) answer new
    → ForeignStep (as_foreign old) (request_text request) answer (as_foreign new)
unfolding acted told tried MayGive
own_step_is old new request answer proper fits alone step =
    let one = act_given step.free request in
    let is : acted one old ≡ (answer, new) = step_tried old new request answer fits step in
    let back = read_back request fits in
    let sayable : IsSayable one old = record { request = fits; free = rw back at step.may } in
    let after : (acted one old).1 ≡ new = ap (λ (q : List ℕ × Device). q.1) is in
    let reads : reply_at (function_number request) answer ≡ Ok (told one old) =
    ap (λ (q : List ℕ × Device). reply_at (function_number request) q.0) (sym is) ∙ acted_reads one old proper sayable in
    record {
      request = request;
      asked = back;
      value = told one old;
      reads = reads;
      serves = inr (grants old new answer step.free proper request.form request.fields alone step reads (sym after));
      proper = own_foreign new (subst IsTellable after (acted_proper one old proper sayable));
    }
