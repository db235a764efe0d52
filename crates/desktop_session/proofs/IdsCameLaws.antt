-- A list of ids grows by those that come, whatever the replies say; over a device that is told by 8,000.
use Rattle.std.proofs.Common.{◌≡◌, ◌∙◌, ◌≤◌, ◌<◌, ◌+◌, ◌*◌, ◌%◌, refl, ap, sym, subst, ℕ, List, [], ◌∷◌, ◌++◌, length, map, arith}
use Rattle.std.proofs.lemmas.List.{length-append, map-append}
use Rattle.std.proofs.lemmas.Grind.{common_steps}
use Rattle.std.proofs.lemmas.Bool.Decides.{nat_tests}
use Rattle.std.specs.Prelude.{Option, Some, None, IfSome, IsOk, Err}
use Rattle.palm_device.specs.Devices.{Device}
use Rattle.dlp_replies.specs.declared.fault.ReplyFault.TheVariants as broken
use Rattle.dlp_replies.specs.ReplyReading.{reply_at}
use Rattle.dlp_commands.specs.declared.link.LinkFault.{LinkFault}
use Rattle.dlp_commands.specs.Talks.{Talk}
use Rattle.desktop_session.specs.Acts.{Act, acted, text}
use Rattle.desktop_session.specs.Answers.{ids_of, said_in}
use Rattle.desktop_session.specs.Lists.{IsByReplyTo, id_listings, id_parts, ids_in, ids_listed}
use Rattle.desktop_session.specs.Requests.{listing_ids}
use Rattle.desktop_session.specs.Says.{saying}
use Rattle.desktop_session.specs.Sessions.{SessionValue}
use Rattle.desktop_session.specs.Starts.{IsCounted}
use Rattle.desktop_session.specs.Stops.{AsksOne, Does, Stops}
use Rattle.desktop_session.proofs.CameLaws.{Came, ids_came}
use Rattle.desktop_session.proofs.IdListLaws.{IdsSoFar, ids_begin, ids_stop}
use Rattle.desktop_session.proofs.ListLaws.{id_listings_next, id_reply_from, ids_next}
use Rattle.desktop_session.proofs.RepliedLaws.{ids_replied}
use Rattle.desktop_session.proofs.StopLaws.{does_none, does_then, fell_none, stops_none, stops_then}
use Rattle.desktop_session.proofs.UntoldLaws.{does_none_told, stops_none_told}

-- over a device: so many requests went out, and 8,000 ids came in reply to each that was not the last
pub record AtParts (handle count : ℕ) (ids : List ℕ) (acts : List Act) (device : Device) : Type 0 where
  pub parts : ℕ
  pub acts_are : acts ≡ id_listings handle parts
  pub ids_are : ids ≡ ids_listed device handle parts
  pub within : parts ≤ id_parts count
  pub at : length ids < count → length ids ≡ 8000 * parts
  pub done : count ≤ length ids → parts ≡ id_parts count

at_none : (device : Device) (handle count : ℕ) → AtParts handle count [] [] device
unfolding id_listings ids_listed
at_none device handle count = record {
  parts = 0;
  acts_are = refl;
  ids_are = refl;
  within = omega arith;
  at = λ less. refl;
  done = λ all. omega (arith, all);
}

pub at_more : (device : Device) (handle count : ℕ) (ids came : List ℕ) (acts : List Act) (before : AtParts handle count ids acts device)
    → length ids < count → came ≡ ids_in (reply_at 0x31 (acted (listing_ids handle (8000 * before.parts)) device).0)
    → Came (8000 * before.parts) count (length came)
    → AtParts handle count (ids ++ came) (acts ++ listing_ids handle (length ids) ∷ []) device
at_more device handle count ids came acts before less is some =
    let start : length ids ≡ 8000 * before.parts = before.at less in
    let size : length (ids ++ came) ≡ length ids + length came = length-append ids came in
    record {
      parts = before.parts + 1;
      acts_are = ap (λ n. acts ++ listing_ids handle n ∷ []) start ∙ ap (λ xs. xs ++ listing_ids handle (8000 * before.parts) ∷ []) before.acts_are
          ∙ sym (id_listings_next handle before.parts);
      ids_are = ap (λ xs. ids ++ xs) is
          ∙ ap (λ xs. xs ++ ids_in (reply_at 0x31 (acted (listing_ids handle (8000 * before.parts)) device).0)) before.ids_are
          ∙ sym (ids_next device handle before.parts);
      within = omega (arith, less, start);
      at = λ fewer. let full = some.full (omega (arith, fewer, size, start)) in omega (arith, full, size, start);
      done = λ all. let few = some.few in omega (arith, all, few, size, start, less);
    }

-- what was asked, and what came
pub record IdsCame {L : Type 0} (talk : L → Option Talk) (since : L → L → Type 0) (fault : L → Option LinkFault) (downs : L → ℕ) (handle count : ℕ)
    (ids : List ℕ) (old now : SessionValue L) : Type 0 where
  pub acts : List Act
  pub does : Does talk acts old.link now.link
  pub stops : Stops talk since fault downs (map text acts) old.link now.link
  pub told : IsCounted (talk old.link) handle count → IfSome (talk old.link) (λ talk. AtParts handle count ids acts talk.device)
  pub user : now.user ≡ old.user
  pub abandoned : now.abandoned ≡ old.abandoned

none_told : (o : Option Talk) (handle count : ℕ) {ids : List ℕ} → ids ≡ [] → IfSome o (λ talk. AtParts handle count ids [] talk.device)
none_told None handle count none = tt
none_told (Some talk) handle count none = subst (λ ids. AtParts handle count ids [] talk.device) (sym none) (at_none talk.device handle count)

-- a message of no bytes is none
pub none_read : (number : ℕ) → reply_at number [] ≡ Err (broken.Wrapper 0)
unfolding reply_at
none_read number = refl

pub asked_at : {L : Type 0} {talk : L → Option Talk} {since : L → L → Type 0} {fault : L → Option LinkFault} {downs : L → ℕ} {handle start : ℕ}
    {now new : SessionValue L} (ids : List ℕ) → start ≡ length ids → AsksOne talk since fault downs (listing_ids handle start) now new
    → AsksOne talk since fault downs (listing_ids handle (length ids)) now new
asked_at {talk} {since} {fault} {downs} {handle} {now} {new} ids is asked =
    subst (λ n. AsksOne talk since fault downs (listing_ids handle n) now new) is asked

untold_on : {now : Option Talk} (first : Option Talk) (acts : List Act) → first ≡ None → now ≡ saying acts first → now ≡ None
unfolding saying
untold_on first acts none is = grind (arith, nat_tests, common_steps)

module _ {L : Type 0} {talk : L → Option Talk} {since : L → L → Type 0} {fault : L → Option LinkFault} {downs : L → ℕ} {handle count : ℕ}
    {old : SessionValue L} where
  pub came_none : (itself : (a : L) → since a a) {ids : List ℕ} → ids ≡ [] → IdsCame talk since fault downs handle count ids old old
  came_none itself none = record {
    acts = [];
    does = does_none;
    stops = stops_none talk since fault downs [] old.link old.link refl (itself old.link) (fell_none fault downs old.link);
    told = λ counted. none_told (talk old.link) handle count none;
    user = refl;
    abandoned = refl;
  }

  -- over a device that is told
  so_far : {ids : List ℕ} {now : SessionValue L} {said : Talk} (before : IdsCame talk since fault downs handle count ids old now) → talk old.link ≡ Some said
      → (at : AtParts handle count ids before.acts said.device) → IdsSoFar talk since fault downs handle at.parts ids old now
  so_far {ids} {now} before is at = record {
    does = subst (λ acts. Does talk acts old.link now.link) at.acts_are before.does;
    stops = subst (λ acts. Stops talk since fault downs (map text acts) old.link now.link) at.acts_are before.stops;
    ids = subst (λ o. IfSome o (λ talk. ids ≡ ids_listed talk.device handle at.parts)) (sym is) at.ids_are;
    user = before.user;
    abandoned = before.abandoned;
  }

  at_of : {ids : List ℕ} {now : SessionValue L} {said : Talk} (before : IdsCame talk since fault downs handle count ids old now) → talk old.link ≡ Some said
      → IsCounted (talk old.link) handle count → AtParts handle count ids before.acts said.device
  at_of {ids} before is counted = subst (λ o. IfSome o (λ talk. AtParts handle count ids before.acts talk.device)) is (before.told counted)

  -- the reply is the device's
  reply_of : {ids : List ℕ} {now new : SessionValue L} {said : Talk} (before : IdsCame talk since fault downs handle count ids old now)
      (is : talk old.link ≡ Some said) (at : AtParts handle count ids before.acts said.device) → length ids < count
      → AsksOne talk since fault downs (listing_ids handle (length ids)) now new → fault new.link ≡ None
      → reply_at 0x31 new.reply ≡ reply_at 0x31 (acted (listing_ids handle (8000 * at.parts)) said.device).0
  reply_of {ids} {now} {new} {said} before is at less asked none =
      subst (λ o. IfSome o (λ talk. reply_at 0x31 new.reply ≡ reply_at 0x31 (acted (listing_ids handle (8000 * at.parts)) talk.device).0)) is
      (id_reply_from (talk old.link) handle at.parts new.reply (at.at less) (so_far before is at).does.said (asked.told none))

  came_of : {ids : List ℕ} {now new : SessionValue L} {said : Talk} (before : IdsCame talk since fault downs handle count ids old now)
      (is : talk old.link ≡ Some said) (at : AtParts handle count ids before.acts said.device) → IsCounted (talk old.link) handle count
      → length ids < count → AsksOne talk since fault downs (listing_ids handle (length ids)) now new → fault new.link ≡ None
      → IsOk (said_in 0x31 ids_of (reply_at 0x31 new.reply)) → Came (8000 * at.parts) count (length (ids_in (reply_at 0x31 new.reply)))
  came_of {new} {said} before is at counted less asked none read =
      let same = reply_of before is at less asked none in
      subst (λ r. Came (8000 * at.parts) count (length (ids_in r))) (sym same)
      (ids_came said.device handle (8000 * at.parts) count (subst (λ o. IsCounted o handle count) is counted)
      (subst (λ r. IsOk (said_in 0x31 ids_of r)) same read))

  told_more : {ids : List ℕ} {now new : SessionValue L} (before : IdsCame talk since fault downs handle count ids old now) → length ids < count
      → AsksOne talk since fault downs (listing_ids handle (length ids)) now new → fault new.link ≡ None
      → IsOk (said_in 0x31 ids_of (reply_at 0x31 new.reply)) → IsCounted (talk old.link) handle count → (o : Option Talk) → talk old.link ≡ o
      → IfSome o (λ talk. AtParts handle count (ids ++ ids_in (reply_at 0x31 new.reply)) (before.acts ++ listing_ids handle (length ids) ∷ []) talk.device)
  told_more before less asked none read counted None is = tt
  told_more {ids} {now} {new} before less asked none read counted (Some said) is =
      let at = at_of before is counted in
      at_more said.device handle count ids (ids_in (reply_at 0x31 new.reply)) before.acts at less (ap ids_in (reply_of before is at less asked none))
      (came_of before is at counted less asked none read)

  pub came_more : (since_more : (a b c : L) → since a b → since b c → since a c) {ids more : List ℕ} {now new : SessionValue L}
      → IdsCame talk since fault downs handle count ids old now → length ids < count
      → AsksOne talk since fault downs (listing_ids handle (length ids)) now new → fault new.link ≡ None
      → IsOk (said_in 0x31 ids_of (reply_at 0x31 new.reply)) → more ≡ ids ++ ids_in (reply_at 0x31 new.reply)
      → IdsCame talk since fault downs handle count more old new
  came_more since_more {ids} {more} {now} {new} before less asked none read added =
      let one = listing_ids handle (length ids) in
      record {
        acts = before.acts ++ one ∷ [];
        does = does_then talk before.acts (one ∷ []) old.link now.link new.link before.does (asked.does none);
        stops = rw (map-append text before.acts (one ∷ []))
            (stops_then talk since fault downs since_more before.acts (text one ∷ []) old.link now.link new.link before.does before.stops asked.stops);
        told = λ counted. subst (λ ids. IfSome (talk old.link) (λ talk. AtParts handle count ids (before.acts ++ one ∷ []) talk.device)) (sym added)
            (told_more before less asked none read counted (talk old.link) refl);
        user = asked.user ∙ before.user;
        abandoned = asked.abandoned ∙ before.abandoned;
      }

  -- some came, where a device is told
  pub some_came : {ids : List ℕ} {now new : SessionValue L} → IdsCame talk since fault downs handle count ids old now → length ids < count
      → AsksOne talk since fault downs (listing_ids handle (length ids)) now new → fault new.link ≡ None
      → IsOk (said_in 0x31 ids_of (reply_at 0x31 new.reply)) → IsCounted (talk old.link) handle count
      → IfSome (talk old.link) (λ talk. 0 < length (ids_in (reply_at 0x31 new.reply)))
  some_came {ids} {now} {new} before less asked none read counted = by (talk old.link) refl
    where
      by : (o : Option Talk) → talk old.link ≡ o → IfSome o (λ talk. 0 < length (ids_in (reply_at 0x31 new.reply)))
      by None is = tt
      by (Some said) is =
          let at = at_of before is counted in
          (came_of before is at counted less asked none read).some (subst (λ n. n < count) (at.at less) less)

  -- ---- where it ended

  pub came_stops : (since_more : (a b c : L) → since a b → since b c → since a c) {ids : List ℕ} {now new : SessionValue L}
      → IdsCame talk since fault downs handle count ids old now → length ids < count
      → AsksOne talk since fault downs (listing_ids handle (length ids)) now new → IsCounted (talk old.link) handle count
      → Stops talk since fault downs (map text (id_listings handle (id_parts count))) old.link new.link
  came_stops since_more {ids} {now} {new} before less asked counted = by (talk old.link) refl
    where
      by : (o : Option Talk) → talk old.link ≡ o → Stops talk since fault downs (map text (id_listings handle (id_parts count))) old.link new.link
      by None is = stops_none_told (map text (id_listings handle (id_parts count))) is
          (stops_then talk since fault downs since_more before.acts (text (listing_ids handle (length ids)) ∷ []) old.link now.link new.link
          before.does before.stops asked.stops)
      by (Some said) is =
          let at = at_of before is counted in
          let start = at.at less in
          ids_begin handle (at.parts + 1) (id_parts count) (omega (arith, start, less)) (ids_stop since_more (length ids) start (so_far before is at) asked)

  pub came_replied : {ids : List ℕ} {now new : SessionValue L} → IdsCame talk since fault downs handle count ids old now → length ids < count
      → AsksOne talk since fault downs (listing_ids handle (length ids)) now new → IsCounted (talk old.link) handle count
      → IsByReplyTo talk fault (id_parts count) (λ part. listing_ids handle (8000 * part)) old new
  came_replied {ids} {now} {new} before less asked counted = by (talk old.link) refl
    where
      by : (o : Option Talk) → talk old.link ≡ o → IsByReplyTo talk fault (id_parts count) (λ part. listing_ids handle (8000 * part)) old new
      by None is = λ none. rw is tt
      by (Some said) is =
          let at = at_of before is counted in
          let start = at.at less in
          ids_replied (id_parts count) (so_far before is at)
          (subst (λ n. AsksOne talk since fault downs (listing_ids handle n) now new) start asked) (omega (arith, start, less))

  pub came_all_stops : {ids : List ℕ} {now : SessionValue L} → IdsCame talk since fault downs handle count ids old now → count ≤ length ids
      → IsCounted (talk old.link) handle count → Stops talk since fault downs (map text (id_listings handle (id_parts count))) old.link now.link
  came_all_stops {ids} {now} before all counted = by (talk old.link) refl
    where
      by : (o : Option Talk) → talk old.link ≡ o → Stops talk since fault downs (map text (id_listings handle (id_parts count))) old.link now.link
      by None is = stops_none_told (map text (id_listings handle (id_parts count))) is before.stops
      by (Some said) is =
          let at = at_of before is counted in
          subst (λ n. Stops talk since fault downs (map text (id_listings handle n)) old.link now.link) (at.done all) (so_far before is at).stops

  pub came_all_does : {ids : List ℕ} {now : SessionValue L} → IdsCame talk since fault downs handle count ids old now → count ≤ length ids
      → IsCounted (talk old.link) handle count → Does talk (id_listings handle (id_parts count)) old.link now.link
  came_all_does {ids} {now} before all counted = by (talk old.link) refl
    where
      by : (o : Option Talk) → talk old.link ≡ o → Does talk (id_listings handle (id_parts count)) old.link now.link
      by None is = does_none_told talk before.acts (id_listings handle (id_parts count)) old.link now.link is before.does
      by (Some said) is =
          let at = at_of before is counted in
          subst (λ n. Does talk (id_listings handle n) old.link now.link) (at.done all) (so_far before is at).does

  pub came_all : {ids : List ℕ} {now : SessionValue L} → IdsCame talk since fault downs handle count ids old now → count ≤ length ids
      → IsCounted (talk old.link) handle count → IfSome (talk old.link) (λ talk. ids ≡ ids_listed talk.device handle (id_parts count))
  came_all {ids} {now} before all counted = by (talk old.link) refl
    where
      by : (o : Option Talk) → talk old.link ≡ o → IfSome o (λ talk. ids ≡ ids_listed talk.device handle (id_parts count))
      by None is = tt
      by (Some said) is =
          let at = at_of before is counted in
          at.ids_are ∙ ap (ids_listed said.device handle) (at.done all)

  -- ---- a reply without ids where some are due comes from no device that is told

  pub short_untold : {ids more : List ℕ} {now new : SessionValue L} → IdsCame talk since fault downs handle count ids old now → length ids < count
      → AsksOne talk since fault downs (listing_ids handle (length ids)) now new → fault new.link ≡ None
      → IsOk (said_in 0x31 ids_of (reply_at 0x31 new.reply)) → more ≡ ids ++ ids_in (reply_at 0x31 new.reply) → length more ≡ length ids
      → IsCounted (talk old.link) handle count → talk old.link ≡ None
  short_untold {ids} {more} {now} {new} before less asked none read added same counted =
      by (talk old.link) (some_came before less asked none read counted)
    where
      size : length more ≡ length ids + length (ids_in (reply_at 0x31 new.reply))
      size = ap length added ∙ length-append ids (ids_in (reply_at 0x31 new.reply))

      by : (o : Option Talk) → IfSome o (λ talk. 0 < length (ids_in (reply_at 0x31 new.reply))) → o ≡ None
      by None some = refl
      by (Some said) some = absurd (omega (arith, some, size, same))

  -- nor does one behind a reply of fewer than 8,000
  pub parted_untold : {ids : List ℕ} {now : SessionValue L} → IdsCame talk since fault downs handle count ids old now → length ids < count
      → (length ids % 8000 ≡ 0 → ⊥) → IsCounted (talk old.link) handle count → talk old.link ≡ None
  parted_untold {ids} before less parted counted = by (talk old.link) refl
    where
      by : (o : Option Talk) → talk old.link ≡ o → o ≡ None
      by None is = refl
      by (Some said) is = let at = at_of before is counted in let start = at.at less in absurd (parted (omega (arith, start)))

  pub tells_on : {ids : List ℕ} {now : SessionValue L} → IdsCame talk since fault downs handle count ids old now → talk old.link ≡ None → talk now.link ≡ None
  tells_on before none = untold_on (talk old.link) before.acts none before.does.said
