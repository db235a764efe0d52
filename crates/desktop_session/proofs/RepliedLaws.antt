-- The refusal of a list is by the device's reply to one of its requests.
use Rattle.std.proofs.Common.{◌≡◌, ◌<◌, ◌*◌, ℕ, List}
use Rattle.std.specs.Prelude.{Option, IfSome}
use Rattle.dlp_commands.specs.declared.link.LinkFault.{LinkFault}
use Rattle.dlp_commands.specs.Talks.{Talk}
use Rattle.pdb_values.specs.declared.head.DbHead.{DbHead}
use Rattle.desktop_session.specs.Acts.{acted}
use Rattle.desktop_session.specs.Lists.{HasReplied, IsByReplyTo, id_listings, listings}
use Rattle.desktop_session.specs.Requests.{listing, listing_ids}
use Rattle.desktop_session.specs.Says.{saying}
use Rattle.desktop_session.specs.Sessions.{SessionValue}
use Rattle.desktop_session.specs.Stops.{AsksOne}
use Rattle.desktop_session.proofs.IdListLaws.{IdsSoFar}
use Rattle.desktop_session.proofs.ListLaws.{ListsSoFar, id_device, list_device}
use Rattle.std.proofs.Common.{rules}

list_reply_from : {now : Option Talk} (first : Option Talk) (count : ℕ) (bytes : List ℕ) → count < 65536 → now ≡ saying (listings count) first
    → IfSome now (λ talk. bytes ≡ (acted (listing count) talk.device).0) → IfSome first (λ talk. HasReplied 65536 listing talk.device bytes)
unfolding saying
list_reply_from first count bytes few is told = search (rules, list_device)

pub list_replied : {L : Type 0} {talk : L → Option Talk} {since : L → L → Type 0} {fault : L → Option LinkFault} {downs : L → ℕ} {count : ℕ}
    {heads : List DbHead} {old now new : SessionValue L}
    → ListsSoFar talk since fault downs count heads old now → AsksOne talk since fault downs (listing count) now new → count < 65536
    → IsByReplyTo talk fault 65536 listing old new
list_replied {talk} {count} {old} {new} before asked few none =
    list_reply_from (talk old.link) count new.reply few before.does.said (asked.told none)

ids_reply_from : {now : Option Talk} (first : Option Talk) (handle parts all : ℕ) (bytes : List ℕ) → parts < all → now ≡ saying (id_listings handle parts) first
    → IfSome now (λ talk. bytes ≡ (acted (listing_ids handle (8000 * parts)) talk.device).0)
    → IfSome first (λ talk. HasReplied all (λ part. listing_ids handle (8000 * part)) talk.device bytes)
unfolding saying
ids_reply_from first handle parts all bytes few is told = search (rules, id_device)

pub ids_replied : {L : Type 0} {talk : L → Option Talk} {since : L → L → Type 0} {fault : L → Option LinkFault} {downs : L → ℕ} {handle parts : ℕ} (all : ℕ)
    {ids : List ℕ} {old now new : SessionValue L}
    → IdsSoFar talk since fault downs handle parts ids old now → AsksOne talk since fault downs (listing_ids handle (8000 * parts)) now new → parts < all
    → IsByReplyTo talk fault all (λ part. listing_ids handle (8000 * part)) old new
ids_replied {talk} {handle} {parts} all {old} {new} before asked few none =
    ids_reply_from (talk old.link) handle parts all new.reply few before.does.said (asked.told none)
