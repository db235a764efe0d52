-- What a fast reading asks for fits into messages.
use Rattle.std.proofs.Common.{◌≡◌, ◌≤◌, ◌<◌, ◌+◌, ◌*◌, ◌/◌, ◌^◌, refl, ℕ, zero, suc, true, List, [], ◌∷◌, ◌++◌, length}
use Rattle.std.proofs.Common.{arith, rules}
use Rattle.std.specs.Prelude.{Option, Some, filter, replicate}
use Rattle.pdb_values.specs.declared.record.Record.{Record}
use Rattle.palm_device.specs.Devices.{Device}
use Rattle.palm_device.specs.Handles.{Base, base_at as opened_base}
use Rattle.palm_device.specs.Records.{is_changed}
use Rattle.dlp_commands.specs.Holding.{on_records}
use Rattle.conduit_rules.specs.ById.{each_below, each_id, id_bound}
use Rattle.conduit_rules.specs.States.{BaseState, first}
use Rattle.conduit_rules.proofs.ByIdLaws.{each_below-suc, each_below-zero, id_bound-is}
use Rattle.desktop_session.specs.Acts.{Act, acted}
use Rattle.desktop_session.specs.Lists.{id_listings, id_parts}
use Rattle.desktop_session.specs.Requests.{counting, listing_ids, reading_next, reading_of}
use Rattle.desktop_session.specs.Tellings.{AreSayable, IsTellable}
use Rattle.desktop_session.proofs.RequestFits.{count_fits, ids_fit, next_fits, of_fits}
use Rattle.desktop_session.proofs.TellLaws.{act_sayable}
use Rattle.mirrors.specs.FastReads.{asks_of, fast_asks, fast_reads, other_reads}
use Rattle.mirrors.proofs.ViewLaws.{fast_reads-are, few_records, first_id}

-- what can be said of any device
AreFree : List Act → Type 0
AreFree acts = (device : Device) → AreSayable acts device

none_free : AreFree []
unfolding AreFree
none_free device = tt

behind : (xs ys : List Act) (device : Device) → AreSayable xs device → AreFree ys → AreSayable (xs ++ ys) device
unfolding AreFree
behind [] ys device first second = second device
behind (x ∷ xs) ys device first second = (first.0, behind xs ys (acted x device).1 first.1 second)

append_free : (xs ys : List Act) → AreFree xs → AreFree ys → AreFree (xs ++ ys)
unfolding AreFree
append_free xs ys first second device = behind xs ys device (first device) second

counting_free : (handle : ℕ) → handle < 2 ^ 8 → AreFree (counting handle ∷ [])
unfolding AreFree
counting_free handle byte device = (act_sayable (counting handle).asks device (count_fits handle byte) refl, tt)

listing_free : (handle start : ℕ) → handle < 2 ^ 8 → start < 2 ^ 16 → AreFree (listing_ids handle start ∷ [])
unfolding AreFree
listing_free handle start byte half device = search (rules, act_sayable, ids_fit)

listings_free : (handle parts : ℕ) → handle < 2 ^ 8 → parts ≤ 9 → AreFree (id_listings handle parts)
unfolding id_listings
listings_free handle zero byte few = none_free
listings_free handle (suc parts) byte few =
    append_free (id_listings handle parts) (listing_ids handle (8000 * parts) ∷ []) (listings_free handle parts byte (omega arith))
    (listing_free handle (8000 * parts) byte (omega arith))

next_free : (handle : ℕ) → handle < 2 ^ 8 → AreFree (reading_next handle ∷ [])
unfolding AreFree
next_free handle byte device = search (rules, act_sayable, next_fits)

nexts_free : (handle n : ℕ) → handle < 2 ^ 8 → AreFree (replicate n (reading_next handle))
nexts_free handle zero byte = none_free
nexts_free handle (suc n) byte =
    append_free (reading_next handle ∷ []) (replicate n (reading_next handle)) (next_free handle byte) (nexts_free handle n byte)

own_free : (handle id : ℕ) → handle < 2 ^ 8 → id < 2 ^ 32 → AreFree (reading_of handle id ∷ [])
unfolding AreFree
own_free handle id byte word device = search (rules, act_sayable, of_fits)

other_free : (handle id : ℕ) (based : BaseState) → handle < 2 ^ 8 → id < 2 ^ 32 → AreFree (other_reads handle id based)
other_free handle id based byte word = search (rules, none_free, own_free)

asks_free : (rows : List Record) (handle i : ℕ) (found : Option Record) → handle < 2 ^ 8 → i < id_bound
    → ((item : Record) → found ≡ Some item → item.id ≡ i) → AreFree (asks_of rows handle found)
asks_free rows handle i found byte below own = search (rules, none_free, id_bound-is, other_free)

each_free : (f : ℕ → List Act) (n : ℕ) → ((i : ℕ) → i < n → AreFree (f i)) → AreFree (each_below f n)
each_free f zero each = rw (each_below-zero f) none_free
each_free f (suc n) each =
    rw (each_below-suc f n) (append_free (each_below f n) (f n) (each_free f n (λ i below. each i (omega arith))) (each n (omega arith)))

asked_free : (rows : List Record) (handle : ℕ) (records : List Record) → handle < 2 ^ 8 → length records < 2 ^ 16 → AreFree (fast_asks rows handle records)
asked_free rows handle records byte few =
    let parts : (length records + 7999) / 8000 ≤ 9 = omega arith in
    let nexts = replicate (suc (length (filter is_changed records))) (reading_next handle) in
    let others = each_id (λ i. asks_of rows handle (first i records)) in
    append_free (counting handle ∷ id_listings handle (id_parts (length records))) (nexts ++ others)
    (append_free (counting handle ∷ []) (id_listings handle (id_parts (length records))) (counting_free handle byte)
    (listings_free handle (id_parts (length records)) byte parts))
    (append_free nexts others (nexts_free handle (suc (length (filter is_changed records))) byte)
    (each_free (λ i. asks_of rows handle (first i records)) id_bound
    (λ i below. asks_free rows handle i (first i records) byte below (λ item found. first_id records found))))

pub fast_sayable : (device : Device) (handle : ℕ) (base : Base) (rows : List Record) → IsTellable device → handle < 2 ^ 8
    → opened_base device handle ≡ Some base → on_records base.database ≡ true → base.opened.next ≡ 0
    → AreSayable (fast_reads rows handle device) device
unfolding AreFree
fast_sayable device handle base rows proper byte is records new =
    rw (fast_reads-are device handle base rows proper byte is records new)
    (asked_free rows handle base.database.records byte (few_records handle proper is) device)
