-- Lists that come in several replies grow by one request.
use Rattle.std.proofs.Common.{◌≡◌, ◌∙◌, ◌<◌, ◌+◌, ◌-◌, ◌*◌, refl, ap, sym, subst, inl, inr, ℕ, zero, suc, true, false, List, [], ◌∷◌, ◌++◌, map, below_more}
use Rattle.std.proofs.Common.{arith}
use Rattle.std.proofs.lemmas.List.{map-append}
use Rattle.std.specs.Prelude.{◌⊎◌, Option, Some, None, IfSome, Ok, Err}
use Rattle.pdb_values.specs.declared.head.DbHead.{DbHead}
use Rattle.dlp_replies.specs.ReplyReading.{reply_at}
use Rattle.dlp_replies.specs.ReplyValues.{ReplyValue}
use Rattle.palm_device.specs.Devices.{Device}
use Rattle.dlp_commands.specs.declared.link.LinkFault.{LinkFault}
use Rattle.dlp_commands.specs.DatabaseFunctions.{read_db_list}
use Rattle.dlp_commands.specs.DeviceSteps.{outcome, tried}
use Rattle.dlp_commands.specs.Reached.{Trial, reads}
use Rattle.dlp_commands.specs.Talks.{Talk}
use Rattle.dlp_commands.specs.declared.reading.Reading.TheVariants as reading
use Rattle.desktop_session.specs.declared.fault.SessionFault.{SessionFault}
use Rattle.desktop_session.specs.Acts.{Act, acted, text}
use Rattle.desktop_session.specs.Lists.{Lists, has_more, heads_in, heads_listed, id_listings, ids_in, ids_listed, list_reply, listings}
use Rattle.desktop_session.specs.Requests.{listing, listing_ids}
use Rattle.desktop_session.specs.Says.{said, saying}
use Rattle.desktop_session.specs.Sessions.{SessionValue}
use Rattle.desktop_session.specs.Stops.{AsksOne, Does, Stops}
use Rattle.desktop_session.specs.Starts.{next_start}
use Rattle.desktop_session.proofs.StartLaws.{more_follow, told_end, told_next}
use Rattle.desktop_session.proofs.StopLaws.{does_none, does_then, fell_none, stops_none, stops_then}
use Rattle.desktop_session.proofs.UntoldLaws.{does_none_told, stops_none_told}
use Rattle.desktop_session.proofs.TellLaws.{IfDone, done_then, said_device}
use Rattle.desktop_session.specs.Tellings.{device_after}
use Rattle.std.proofs.lemmas.Grind.{common_steps}
use Rattle.std.proofs.lemmas.Bool.Decides.{nat_tests}
use Rattle.std.proofs.Common.{rules}

-- ---- a request that only reads leaves the device as it is

-- what was done left the device as it was
abbrev pub Same : Device → Device × ReplyValue → Type 0
Same device done = done.0 ≡ device

-- a trial that leaves the device as it was does so with the reply that it makes
pub outcome_same : {device : Device} (number : ℕ) (r : Trial) → IfDone (Same device) r → (outcome device number r).1 ≡ device
outcome_same number r same = search (rules)

list_keeps : (device : Device) (start : ℕ) → IfDone (Same device) (read_db_list device 0x80 0 start)
unfolding read_db_list
list_keeps device start = search (rules, done_then)

list_same : (device : Device) (start : ℕ) → (acted (listing start) device).1 ≡ device
unfolding acted tried
list_same device start = outcome_same 0x16 (read_db_list device 0x80 0 start) (list_keeps device start)

-- a list of ids leaves the device as it was
pub ids_keep : (device : Device) (handle start : ℕ) → IfDone (Same device) (reads device handle (reading.RecordIds start 8000))
ids_keep device handle start = search (rules, done_then)

pub ids_same : (device : Device) (handle start : ℕ) → (acted (listing_ids handle start) device).1 ≡ device
unfolding acted tried
ids_same device handle start = search (rules, outcome_same, ids_keep)

pub after_append : (xs ys : List Act) (device : Device) → device_after (xs ++ ys) device ≡ device_after ys (device_after xs device)
after_append [] ys device = refl
after_append (x ∷ xs) ys device = after_append xs ys (acted x device).1

pub listings_same : (count : ℕ) (device : Device) → device_after (listings count) device ≡ device
unfolding listings
listings_same zero device = refl
listings_same (suc count) device = grind (arith, common_steps, nat_tests, after_append, listings_same count device, list_same)

pub id_listings_same : (handle parts : ℕ) (device : Device) → device_after (id_listings handle parts) device ≡ device
unfolding id_listings
id_listings_same handle zero device = refl
id_listings_same handle (suc parts) device = grind (arith, common_steps, nat_tests, after_append, id_listings_same handle parts device, ids_same)

-- ---- one more

pub next : (k : ℕ) → k + 1 ≡ suc k
next k = omega arith

pub listings_next : (k : ℕ) → listings (k + 1) ≡ listings k ++ listing k ∷ []
unfolding listings
listings_next k = cc (next k)

pub id_listings_next : (handle k : ℕ) → id_listings handle (k + 1) ≡ id_listings handle k ++ listing_ids handle (8000 * k) ∷ []
unfolding id_listings
id_listings_next handle k = cc (next k)

pub heads_next : (device : Device) (k : ℕ) → heads_listed device (k + 1) ≡ heads_listed device k ++ heads_in (list_reply device k)
unfolding heads_listed
heads_next device k = cc (next k)

pub ids_next : (device : Device) (handle k : ℕ)
    → ids_listed device handle (k + 1) ≡ ids_listed device handle k ++ ids_in (reply_at 0x31 (acted (listing_ids handle (8000 * k)) device).0)
unfolding ids_listed
ids_next device handle k = cc (next k)

-- ---- the last reply is the device's

-- what was listed so far leaves the device as it was
pub list_device : (count : ℕ) (talk : Talk) → (said (listings count) talk).device ≡ talk.device
list_device count talk = said_device (listings count) talk ∙ listings_same count talk.device

pub id_device : (handle parts : ℕ) (talk : Talk) → (said (id_listings handle parts) talk).device ≡ talk.device
id_device handle parts talk = search (rules, said_device, id_listings_same)

reply_from : {now : Option Talk} (first : Option Talk) (count : ℕ) (reply : List ℕ) → now ≡ saying (listings count) first
    → IfSome now (λ talk. reply ≡ (acted (listing count) talk.device).0) → IfSome first (λ talk. reply_at 0x16 reply ≡ list_reply talk.device count)
unfolding saying
reply_from first count reply is told = grind (arith, common_steps, nat_tests, list_device)

pub id_reply_from : {now : Option Talk} (first : Option Talk) {start : ℕ} (handle parts : ℕ) (reply : List ℕ) → start ≡ 8000 * parts
    → now ≡ saying (id_listings handle parts) first → IfSome now (λ talk. reply ≡ (acted (listing_ids handle start) talk.device).0)
    → IfSome first (λ talk. reply_at 0x31 reply ≡ reply_at 0x31 (acted (listing_ids handle (8000 * parts)) talk.device).0)
unfolding saying
id_reply_from first handle parts reply begins is told = grind (arith, common_steps, nat_tests, id_device)

-- ---- a list of the databases so far

pub record ListsSoFar {L : Type 0} (talk : L → Option Talk) (since : L → L → Type 0) (fault : L → Option LinkFault) (downs : L → ℕ) (count : ℕ)
    (listed : List DbHead) (old now : SessionValue L) : Type 0 where
  pub does : Does talk (listings count) old.link now.link
  pub stops : Stops talk since fault downs (map text (listings count)) old.link now.link
  pub more : IfSome (talk old.link) (λ talk. (k : ℕ) → k < count → has_more (list_reply talk.device k) ≡ true)
  pub heads : IfSome (talk old.link) (λ talk. listed ≡ heads_listed talk.device count)
  pub user : now.user ≡ old.user
  pub abandoned : now.abandoned ≡ old.abandoned

no_more_yet : (o : Option Talk) → IfSome o (λ talk. (k : ℕ) → k < 0 → has_more (list_reply talk.device k) ≡ true)
no_more_yet o = search (rules)

no_heads_yet : (o : Option Talk) {heads : List DbHead} → heads ≡ [] → IfSome o (λ talk. heads ≡ heads_listed talk.device 0)
unfolding heads_listed
no_heads_yet None none = tt
no_heads_yet (Some talk) none = none

more_on : (o : Option Talk) (count : ℕ) (bytes : List ℕ) → IfSome o (λ talk. (k : ℕ) → k < count → has_more (list_reply talk.device k) ≡ true)
    → IfSome o (λ talk. reply_at 0x16 bytes ≡ list_reply talk.device count) → has_more (reply_at 0x16 bytes) ≡ true
    → IfSome o (λ talk. (k : ℕ) → k < count + 1 → has_more (list_reply talk.device k) ≡ true)
more_on o count bytes before is more = search (rules, below_more)

heads_on : (o : Option Talk) (count : ℕ) {now : List DbHead} (heads : List DbHead) (bytes : List ℕ) → IfSome o (λ talk. heads ≡ heads_listed talk.device count)
    → IfSome o (λ talk. reply_at 0x16 bytes ≡ list_reply talk.device count) → now ≡ heads ++ heads_in (reply_at 0x16 bytes)
    → IfSome o (λ talk. now ≡ heads_listed talk.device (count + 1))
heads_on o count heads bytes before is added = grind (arith, common_steps, nat_tests, heads_next)

more_but_last : (o : Option Talk) (count : ℕ) → IfSome o (λ talk. (k : ℕ) → k < count → has_more (list_reply talk.device k) ≡ true)
    → IfSome o (λ talk. (k : ℕ) → k + 1 < count + 1 → has_more (list_reply talk.device k) ≡ true)
more_but_last o count before = grind (arith, common_steps, nat_tests)

last_is : (o : Option Talk) {count : ℕ} (bytes : List ℕ) → IfSome o (λ talk. reply_at 0x16 bytes ≡ list_reply talk.device count) → count < 65536
    → next_start count (reply_at 0x16 bytes) ≡ None
    → IfSome o (λ talk. (count + 1 ≡ 65536) ⊎ (has_more (list_reply talk.device (count + 1 - 1)) ≡ false))
last_is None bytes is few ends = tt
last_is (Some talk) {count} bytes is few ends = by (told_end talk.device count few (sym (ap (next_start count) is) ∙ ends))
  where
    by : (count ≡ 65535) ⊎ (has_more (list_reply talk.device count) ≡ false)
        → (count + 1 ≡ 65536) ⊎ (has_more (list_reply talk.device (count + 1 - 1)) ≡ false)
    by (inl full) = inl (omega arith)
    by (inr none) = inr (ap (λ n. has_more (list_reply talk.device n)) (let same : count + 1 - 1 ≡ count = omega arith in same) ∙ none)

-- behind the device's reply the list goes on at the next index
next_is : (o : Option Talk) {start next : ℕ} (bytes : List ℕ) → IfSome o (λ talk. reply_at 0x16 bytes ≡ list_reply talk.device start) → start < 65536
    → next_start start (reply_at 0x16 bytes) ≡ Some next → IfSome o (λ talk. start + 1 ≡ next)
next_is None bytes is few goes = tt
next_is (Some talk) {start} {next} bytes is few goes = sym (told_next talk.device start next few (sym (ap (next_start start) is) ∙ goes))

module _ {L : Type 0} {talk : L → Option Talk} {since : L → L → Type 0} {fault : L → Option LinkFault} {downs : L → ℕ} {heads : List DbHead}
    {old : SessionValue L} where
  pub lists_none : (itself : (a : L) → since a a) → heads ≡ [] → ListsSoFar talk since fault downs 0 heads old old
  unfolding listings
  lists_none itself none = record {
    does = does_none;
    stops = stops_none talk since fault downs [] old.link old.link refl (itself old.link) (fell_none fault downs old.link);
    more = no_more_yet (talk old.link);
    heads = no_heads_yet (talk old.link) none;
    user = refl;
    abandoned = refl;
  }

  -- one request more, that was answered
  pub stops_on : (since_more : (a b c : L) → since a b → since b c → since a c) {count : ℕ} {now new : SessionValue L}
      → ListsSoFar talk since fault downs count heads old now → AsksOne talk since fault downs (listing count) now new
      → Stops talk since fault downs (map text (listings (count + 1))) old.link new.link
  stops_on since_more before asked = search (rules, listings_next, map-append, stops_then)

  pub does_on : {count : ℕ} {now new : SessionValue L} → ListsSoFar talk since fault downs count heads old now
      → AsksOne talk since fault downs (listing count) now new → fault new.link ≡ None → Does talk (listings (count + 1)) old.link new.link
  does_on {count} {now} {new} before asked none =
      rw (listings_next count) (does_then talk (listings count) (listing count ∷ []) old.link now.link new.link before.does (asked.does none))

  reply_on : {count : ℕ} {now new : SessionValue L} → ListsSoFar talk since fault downs count heads old now
      → AsksOne talk since fault downs (listing count) now new → fault new.link ≡ None
      → IfSome (talk old.link) (λ talk. reply_at 0x16 new.reply ≡ list_reply talk.device count)
  reply_on before asked none = grind (arith, common_steps, nat_tests, reply_from)

  pub lists_on : (since_more : (a b c : L) → since a b → since b c → since a c) {count : ℕ} {more_heads : List DbHead} {now new : SessionValue L}
      → ListsSoFar talk since fault downs count heads old now → AsksOne talk since fault downs (listing count) now new → fault new.link ≡ None
      → has_more (reply_at 0x16 new.reply) ≡ true → more_heads ≡ heads ++ heads_in (reply_at 0x16 new.reply)
      → ListsSoFar talk since fault downs (count + 1) more_heads old new
  lists_on since_more {count} {new} before asked none more added =
      let here = reply_on before asked none in
      record {
        does = does_on before asked none;
        stops = stops_on since_more before asked;
        more = more_on (talk old.link) count new.reply before.more here more;
        heads = heads_on (talk old.link) count heads new.reply before.heads here added;
        user = cc;
        abandoned = cc;
      }

  -- where nothing is told, any number of requests says the same
  recounted : {count other : ℕ} {now : SessionValue L} → IfSome (talk old.link) (λ talk. count ≡ other)
      → ListsSoFar talk since fault downs count heads old now → ListsSoFar talk since fault downs other heads old now
  recounted {count} {other} {now} same before = by (talk old.link) refl same
    where
      by : (o : Option Talk) → talk old.link ≡ o → IfSome o (λ talk. count ≡ other) → ListsSoFar talk since fault downs other heads old now
      by (Some told) is same = subst (λ (n : ℕ). ListsSoFar talk since fault downs n heads old now) same before
      by None is same = record {
        does = does_none_told talk (listings count) (listings other) old.link now.link is before.does;
        stops = stops_none_told (map text (listings other)) is before.stops;
        more = rw is tt;
        heads = rw is tt;
        user = before.user;
        abandoned = before.abandoned;
      }

  -- ---- where it ended

  pub lists_done : (since_more : (a b c : L) → since a b → since b c → since a c) {count : ℕ} {all : List DbHead} {now new : SessionValue L}
      → ListsSoFar talk since fault downs count heads old now → AsksOne talk since fault downs (listing count) now new → fault new.link ≡ None → count < 65536
      → next_start count (reply_at 0x16 new.reply) ≡ None → all ≡ heads ++ heads_in (reply_at 0x16 new.reply)
      → Lists talk since fault downs old.link new.link (Ok all)
  lists_done since_more {count} {new} before asked none few ends added =
      let here = reply_on before asked none in
      record {
        count = count + 1;
        some = omega arith;
        few = omega arith;
        stops = stops_on since_more before asked;
        more = more_but_last (talk old.link) count before.more;
        does = does_on before asked none;
        heads = heads_on (talk old.link) count heads new.reply before.heads here added;
        last = last_is (talk old.link) new.reply here few ends;
      }

  pub lists_failed : (since_more : (a b c : L) → since a b → since b c → since a c) {count : ℕ} {now new : SessionValue L} (why : SessionFault)
      → ListsSoFar talk since fault downs count heads old now → AsksOne talk since fault downs (listing count) now new → count < 65536
      → Lists talk since fault downs old.link new.link (Err why)
  lists_failed since_more {count} why before asked few = record {
    count = count + 1;
    some = omega arith;
    few = omega arith;
    stops = stops_on since_more before asked;
    more = more_but_last (talk old.link) count before.more;
    does = tt;
    heads = tt;
    last = tt;
  }

-- the list goes on behind a reply
pub lists_goes_on : {L : Type 0} {talk : L → Option Talk} {since : L → L → Type 0} {fault : L → Option LinkFault} {downs : L → ℕ} {heads : List DbHead}
    {old : SessionValue L} (since_more : (a b c : L) → since a b → since b c → since a c) {start next : ℕ} {more_heads : List DbHead}
    {now new : SessionValue L} → ListsSoFar talk since fault downs start heads old now → AsksOne talk since fault downs (listing start) now new
    → fault new.link ≡ None → start < 65536 → next_start start (reply_at 0x16 new.reply) ≡ Some next
    → more_heads ≡ heads ++ heads_in (reply_at 0x16 new.reply) → ListsSoFar talk since fault downs next more_heads old new
lists_goes_on {talk} {old} since_more {start} {next} {new} before asked none few goes added =
    recounted (next_is (talk old.link) new.reply (reply_on before asked none) few goes)
    (lists_on since_more before asked none (more_follow (reply_at 0x16 new.reply) start next goes) added)
