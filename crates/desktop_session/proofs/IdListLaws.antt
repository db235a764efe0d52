-- A list of ids grows by 8,000.
use Rattle.std.proofs.Common.{◌≡◌, ◌∙◌, ◌≤◌, ◌+◌, ◌-◌, ◌*◌, refl, ap, subst, ℕ, zero, suc, List, [], ◌∷◌, ◌++◌, map, arith}
use Rattle.std.proofs.lemmas.List.{map-append}
use Rattle.std.specs.Prelude.{Option, Some, None, IfSome}
use Rattle.dlp_replies.specs.ReplyReading.{reply_at}
use Rattle.dlp_commands.specs.declared.link.LinkFault.{LinkFault}
use Rattle.dlp_commands.specs.Talks.{Talk}
use Rattle.desktop_session.specs.Acts.{acted, text}
use Rattle.desktop_session.specs.Lists.{id_listings, ids_in, ids_listed}
use Rattle.desktop_session.specs.Requests.{listing_ids}
use Rattle.desktop_session.specs.Sessions.{SessionValue}
use Rattle.desktop_session.specs.Stops.{AsksOne, Does, Stops}
use Rattle.desktop_session.proofs.ListLaws.{id_listings_next, id_reply_from, ids_next}
use Rattle.desktop_session.proofs.StopLaws.{does_none, does_then, fell_none, stops_more, stops_none, stops_then}
use Rattle.std.proofs.lemmas.Grind.{common_steps}
use Rattle.std.proofs.lemmas.Bool.Decides.{nat_tests}

-- so many parts
pub record IdsSoFar {L : Type 0} (talk : L → Option Talk) (since : L → L → Type 0) (fault : L → Option LinkFault) (downs : L → ℕ) (handle parts : ℕ)
    (listed : List ℕ) (old now : SessionValue L) : Type 0 where
  pub does : Does talk (id_listings handle parts) old.link now.link
  pub stops : Stops talk since fault downs (map text (id_listings handle parts)) old.link now.link
  pub ids : IfSome (talk old.link) (λ talk. listed ≡ ids_listed talk.device handle parts)
  pub user : now.user ≡ old.user
  pub abandoned : now.abandoned ≡ old.abandoned

no_ids_yet : (o : Option Talk) (handle : ℕ) {ids : List ℕ} → ids ≡ [] → IfSome o (λ talk. ids ≡ ids_listed talk.device handle 0)
unfolding ids_listed
no_ids_yet None handle none = tt
no_ids_yet (Some talk) handle none = none

ids_more : (o : Option Talk) (handle parts : ℕ) {now : List ℕ} (ids bytes : List ℕ) → IfSome o (λ talk. ids ≡ ids_listed talk.device handle parts)
    → IfSome o (λ talk. reply_at 0x31 bytes ≡ reply_at 0x31 (acted (listing_ids handle (8000 * parts)) talk.device).0)
    → now ≡ ids ++ ids_in (reply_at 0x31 bytes) → IfSome o (λ talk. now ≡ ids_listed talk.device handle (parts + 1))
ids_more o handle parts ids bytes before is added = grind (arith, common_steps, nat_tests, ids_next)

module _ {L : Type 0} {talk : L → Option Talk} {since : L → L → Type 0} {fault : L → Option LinkFault} {downs : L → ℕ} where
  pub ids_none : (itself : (a : L) → since a a) {handle : ℕ} {ids : List ℕ} {old : SessionValue L} → ids ≡ []
      → IdsSoFar talk since fault downs handle 0 ids old old
  unfolding id_listings
  ids_none itself {handle} {ids} {old} none = record {
    does = does_none;
    stops = stops_none talk since fault downs [] old.link old.link refl (itself old.link) (fell_none fault downs old.link);
    ids = no_ids_yet (talk old.link) handle none;
    user = refl;
    abandoned = refl;
  }

  -- one request more, that was sent
  pub ids_stop : (since_more : (a b c : L) → since a b → since b c → since a c) {handle parts : ℕ} (start : ℕ) {ids : List ℕ} {old now new : SessionValue L}
      → start ≡ 8000 * parts → IdsSoFar talk since fault downs handle parts ids old now → AsksOne talk since fault downs (listing_ids handle start) now new
      → Stops talk since fault downs (map text (id_listings handle (parts + 1))) old.link new.link
  ids_stop since_more {handle} {parts} start {old} {now} {new} begins before asked =
      let here : Stops talk since fault downs (text (listing_ids handle (8000 * parts)) ∷ []) now.link new.link =
      rw (← begins) asked.stops in
      rw (ap (map text) (id_listings_next handle parts) ∙ map-append text (id_listings handle parts) (listing_ids handle (8000 * parts) ∷ []))
      (stops_then talk since fault downs since_more (id_listings handle parts) (text (listing_ids handle (8000 * parts)) ∷ []) old.link now.link new.link
      before.does before.stops here)

  pub ids_on : (since_more : (a b c : L) → since a b → since b c → since a c) {handle parts : ℕ} (start : ℕ) {ids more_ids : List ℕ}
      {old now new : SessionValue L}
      → start ≡ 8000 * parts → IdsSoFar talk since fault downs handle parts ids old now → AsksOne talk since fault downs (listing_ids handle start) now new
      → fault new.link ≡ None → more_ids ≡ ids ++ ids_in (reply_at 0x31 new.reply) → IdsSoFar talk since fault downs handle (parts + 1) more_ids old new
  ids_on since_more {handle} {parts} start {ids} {old} {now} {new} begins before asked none added =
      let does : Does talk (listing_ids handle (8000 * parts) ∷ []) now.link new.link =
      rw (← begins) (asked.does none) in
      record {
        does = rw (id_listings_next handle parts)
            (does_then talk (id_listings handle parts) (listing_ids handle (8000 * parts) ∷ []) old.link now.link new.link before.does does);
        stops = ids_stop since_more start begins before asked;
        ids = ids_more (talk old.link) handle parts ids new.reply before.ids
            (id_reply_from (talk old.link) handle parts new.reply begins before.does.said (asked.told none)) added;
        user = cc;
        abandoned = cc;
      }

  -- what went out so far begins all that is to go out
  more_parts : (handle parts d : ℕ) {a b : L} → Stops talk since fault downs (map text (id_listings handle parts)) a b
      → Stops talk since fault downs (map text (id_listings handle (parts + d))) a b
  more_parts handle parts zero {a} {b} stops =
      subst (λ n. Stops talk since fault downs (map text (id_listings handle n)) a b) (let same : parts ≡ parts + 0 = omega arith in same) stops
  more_parts handle parts (suc d) {a} {b} stops =
      let so_far = more_parts handle parts d stops in
      let one = id_listings_next handle (parts + d) in
      subst (λ n. Stops talk since fault downs (map text (id_listings handle n)) a b) (let same : parts + d + 1 ≡ parts + suc d = omega arith in same)
      (rw (ap (map text) one ∙ map-append text (id_listings handle (parts + d)) (listing_ids handle (8000 * (parts + d)) ∷ []))
      (stops_more talk since fault downs (map text (id_listings handle (parts + d))) (map text (listing_ids handle (8000 * (parts + d)) ∷ [])) a b so_far))

  pub ids_begin : (handle parts all : ℕ) {a b : L} → parts ≤ all → Stops talk since fault downs (map text (id_listings handle parts)) a b
      → Stops talk since fault downs (map text (id_listings handle all)) a b
  ids_begin handle parts all {a} {b} within stops =
      subst (λ n. Stops talk since fault downs (map text (id_listings handle n)) a b) (let same : parts + (all - parts) ≡ all = omega arith in same)
      (more_parts handle parts (all - parts) stops)
