-- The number of entries, and then the ids.
use Rattle.std.proofs.Common.{◌≡◌, ◌∙◌, refl, ap, subst, sym, ℕ, List, [], ◌∷◌, map, rules}
use Rattle.std.specs.Prelude.{Option, Some, None, IfErr, IfOk, IfSome, OnOk, Result, Ok, Err}
use Rattle.dlp_replies.specs.ReplyReading.{reply_at}
use Rattle.dlp_commands.specs.declared.link.LinkFault.{LinkFault}
use Rattle.dlp_commands.specs.Talks.{Talk}
use Rattle.desktop_session.specs.declared.fault.SessionFault.{SessionFault}
use Rattle.desktop_session.specs.Acts.{Act, acted, text}
use Rattle.desktop_session.specs.Answers.{answer_by, count_of, said_in}
use Rattle.desktop_session.specs.Lasts.{IsByLastReply}
use Rattle.desktop_session.specs.Lists.{id_listings, id_parts, ids_listed}
use Rattle.desktop_session.specs.Requests.{counting}
use Rattle.desktop_session.specs.Says.{said, saying}
use Rattle.desktop_session.specs.Sessions.{SessionValue}
use Rattle.desktop_session.specs.Starts.{IsCounted}
use Rattle.desktop_session.specs.Stops.{AsksOne, Does, Stops}
use Rattle.desktop_session.proofs.StopLaws.{does_then, stops_then}
use Rattle.desktop_session.proofs.UntoldLaws.{does_none_told, stops_none_told}
use Rattle.mirrors.specs.Reads.{entries_of, entries_told}
use Rattle.mirrors.proofs.ReadLaws.{count_from, count_same, count_told}
use Rattle.mirrors.specs.FastReads.{ids_told, listing_acts}

abbrev counted : ℕ → ℕ → List Act
counted handle count = counting handle ∷ id_listings handle (id_parts count)

-- the same, by what the device tells
stops_by : {L : Type 0} {talk : L → Option Talk} {since : L → L → Type 0} {fault : L → Option LinkFault} {downs : L → ℕ} (handle count : ℕ) {old new : L}
    → IfSome (talk old) (λ told. count ≡ entries_told told.device handle) → Stops talk since fault downs (map text (counted handle count)) old new
    → Stops talk since fault downs (map text (listing_acts handle (talk old))) old new
stops_by {talk} {since} {fault} {downs} handle count {old} {new} same stops = by (talk old) refl same
  where
    by : (o : Option Talk) → talk old ≡ o → IfSome o (λ told. count ≡ entries_told told.device handle)
        → Stops talk since fault downs (map text (listing_acts handle (talk old))) old new
    by None is same = stops_none_told (map text (listing_acts handle (talk old))) is stops
    by (Some told) is same =
        rw (← same ∙ ap (λ o. entries_of o handle) (sym is)) stops

does_by : {L : Type 0} {talk : L → Option Talk} (handle count : ℕ) {old new : L} → IfSome (talk old) (λ told. count ≡ entries_told told.device handle)
    → Does talk (counted handle count) old new → Does talk (listing_acts handle (talk old)) old new
does_by {talk} handle count {old} {new} same does = by (talk old) refl same
  where
    by : (o : Option Talk) → talk old ≡ o → IfSome o (λ told. count ≡ entries_told told.device handle) → Does talk (listing_acts handle (talk old)) old new
    by None is same = does_none_told talk (counted handle count) (listing_acts handle (talk old)) old new is does
    by (Some told) is same = rw (← same ∙ ap (λ o. entries_of o handle) (sym is)) does

-- the ids of the device that told the count
ids_by : {now : Option Talk} (first : Option Talk) {handle here : ℕ} (count : ℕ) (ids : List ℕ) → here ≡ handle → now ≡ saying (counting handle ∷ []) first
    → IfSome first (λ told. count ≡ entries_told told.device handle) → IfSome now (λ told. ids ≡ ids_listed told.device here (id_parts count))
    → IfSome first (λ told. ids ≡ ids_told handle told.device)
unfolding saying
ids_by first count ids same is told listed = search (rules, count_same)

count_stays : {now : Option Talk} {count : ℕ} (handle : ℕ) (bytes : List ℕ) (first : Option Talk) → now ≡ saying (counting handle ∷ []) first
    → IfSome first (λ told. bytes ≡ (acted (counting handle) told.device).0) → said_in 0x2B count_of (reply_at 0x2B bytes) ≡ Ok count
    → IsCounted now handle count
unfolding saying
count_stays handle bytes None is told said = rw is tt
count_stays {count} handle bytes (Some first) is told said =
    rw (is, count_same first.device) (ap (λ xs. said_in 0x2B count_of (reply_at 0x2B xs)) (sym told) ∙ said)

said_without : {fault : Option LinkFault} {said : Result ℕ SessionFault} {count : ℕ} → Ok count ≡ answer_by fault said → fault ≡ None → Ok count ≡ said
said_without is none = cc

module _ {L : Type 0} {talk : L → Option Talk} {since : L → L → Type 0} {fault : L → Option LinkFault} {downs : L → ℕ} {count : ℕ}
    {old now : SessionValue L} where
  -- the count was told
  pub told_count : (handle : ℕ) → Ok count ≡ answer_by (fault now.link) (said_in 0x2B count_of (reply_at 0x2B now.reply))
      → AsksOne talk since fault downs (counting handle) old now → IfSome (talk old.link) (λ told. count ≡ entries_told told.device handle)
  told_count handle x1 asked = search (rules, count_from, count_told)

  -- behind the counting the count is what the device tells
  counted_there : {handle here : ℕ} → here ≡ handle → Ok count ≡ answer_by (fault now.link) (said_in 0x2B count_of (reply_at 0x2B now.reply))
      → AsksOne talk since fault downs (counting handle) old now → IsCounted (talk now.link) here count
  counted_there {handle} {here} is said asked =
      let from = count_from (fault now.link) (reply_at 0x2B now.reply) said in
      subst (λ n. IsCounted (talk now.link) n count) (sym is)
      (count_stays handle now.reply (talk old.link) (asked.does from.0).said (asked.told from.0) (sym (said_without said from.0)))

  pub listing_stops : (since_more : (a b c : L) → since a b → since b c → since a c) {handle here : ℕ} {new : L} → here ≡ handle
      → Ok count ≡ answer_by (fault now.link) (said_in 0x2B count_of (reply_at 0x2B now.reply)) → AsksOne talk since fault downs (counting handle) old now
      → (IsCounted (talk now.link) here count → Stops talk since fault downs (map text (id_listings here (id_parts count))) now.link new)
      → Stops talk since fault downs (map text (listing_acts handle (talk old.link))) old.link new
  listing_stops since_more {handle} {new} is said asked stops =
      let from = count_from (fault now.link) (reply_at 0x2B now.reply) said in
      stops_by handle count (told_count handle said asked)
      (stops_then talk since fault downs since_more (counting handle ∷ []) (map text (id_listings handle (id_parts count))) old.link now.link new
      (asked.does from.0) asked.stops (rw (← is) (stops (counted_there is said asked))))

  listing_does : {handle here : ℕ} {new : L} → here ≡ handle → Ok count ≡ answer_by (fault now.link) (said_in 0x2B count_of (reply_at 0x2B now.reply))
      → AsksOne talk since fault downs (counting handle) old now → Does talk (id_listings here (id_parts count)) now.link new
      → Does talk (listing_acts handle (talk old.link)) old.link new
  listing_does {handle} {new} is said asked does =
      let from = count_from (fault now.link) (reply_at 0x2B now.reply) said in
      does_by handle count (told_count handle said asked)
      (does_then talk (counting handle ∷ []) (id_listings handle (id_parts count)) old.link now.link new (asked.does from.0)
      (rw (← is) does))

  pub listing_done : {A : Type 0} {handle here : ℕ} (new : L) (answer : Result A SessionFault) → here ≡ handle
      → Ok count ≡ answer_by (fault now.link) (said_in 0x2B count_of (reply_at 0x2B now.reply)) → AsksOne talk since fault downs (counting handle) old now
      → OnOk answer (IsCounted (talk now.link) here count → Does talk (id_listings here (id_parts count)) now.link new)
      → OnOk answer (Does talk (listing_acts handle (talk old.link)) old.link new)
  listing_done new (Ok x) is said asked does =
      listing_does is said asked (does (counted_there is said asked))
  listing_done new (Err cause) is said asked does = tt

  pub listing_ids : {A : Type 0} {handle here : ℕ} (items : A → List ℕ) (answer : Result A SessionFault) → here ≡ handle
      → Ok count ≡ answer_by (fault now.link) (said_in 0x2B count_of (reply_at 0x2B now.reply)) → AsksOne talk since fault downs (counting handle) old now
      → IfOk answer (λ ids. IsCounted (talk now.link) here count → IfSome (talk now.link) (λ told. items ids ≡ ids_listed told.device here (id_parts count)))
      → IfOk answer (λ ids. IfSome (talk old.link) (λ told. items ids ≡ ids_told handle told.device))
  listing_ids {handle} items (Ok ids) is said asked listed =
      let from = count_from (fault now.link) (reply_at 0x2B now.reply) said in
      ids_by (talk old.link) count (items ids) is (asked.does from.0).said
      (told_count handle said asked) (listed (counted_there is said asked))
  listing_ids items (Err cause) is said asked listed = tt

  pub listing_last : {A : Type 0} {handle here : ℕ} (new : L) (answer : Result A SessionFault) → here ≡ handle
      → Ok count ≡ answer_by (fault now.link) (said_in 0x2B count_of (reply_at 0x2B now.reply)) → AsksOne talk since fault downs (counting handle) old now
      → IfErr answer (λ cause. IsCounted (talk now.link) here count → IsByLastReply (talk new) cause) → IfErr answer (IsByLastReply (talk new))
  listing_last new (Ok x) is said asked last = tt
  listing_last new (Err cause) is said asked last = last (counted_there is said asked)
