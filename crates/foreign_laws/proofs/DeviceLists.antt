-- Our own device's list of the databases: one a reply, in its order.
use Rattle.std.proofs.Common.{◌≡◌, ◌∙◌, ◌≤◌, ◌<◌, ◌+◌, ◌^◌, refl, sym, ap, subst, ℕ, zero, suc, List, [], ◌∷◌, ◌++◌, length, arith, ltb, append_assoc, length-append}
use Rattle.std.proofs.lemmas.Bool.Decides.{nat_tests}
use Rattle.std.specs.Prelude.{Option, Some, None, Ok, slice_get}
use Rattle.pdb_values.specs.Databases.{DatabaseValue}
use Rattle.pdb_values.specs.Heads.{has_bit}
use Rattle.pdb_values.specs.declared.head.DbHead.{DbHead}
use Rattle.dlp_requests.specs.RequestTexts.{request_text}
use Rattle.dlp_replies.specs.ReplyReading.{reply_at}
use Rattle.palm_device.specs.Devices.{Device}
use Rattle.dlp_commands.specs.DatabaseFunctions.{listed, more_flag, read_db_list}
use Rattle.dlp_commands.specs.DeviceSteps.{DeviceStep, tried}
use Rattle.desktop_session.specs.Acts.{acted}
use Rattle.desktop_session.specs.Greeted.{asks_page, lists_all, lists_from, lists_on, page}
use Rattle.desktop_session.specs.Inquiries.{◌>>=◌}
use Rattle.desktop_session.specs.Requests.{listing}
use Rattle.desktop_session.specs.Tellings.{IsTellable, told}
use Rattle.desktop_session.proofs.ListLaws.{outcome_same}
use Rattle.desktop_session.proofs.RequestFits.{list_fits}
use Rattle.desktop_session.proofs.TellLaws.{act_sayable, acted_reads}
use Rattle.foreign_laws.specs.Endings.{EndsOver}
use Rattle.foreign_laws.specs.Foreign.{is_some_left, listed_from, own_heads}
use Rattle.foreign_laws.proofs.DeviceLaws.{own_step}
use Rattle.foreign_laws.proofs.EndLaws.{ends_then}
use Rattle.foreign_laws.proofs.ListTwins.{behind_by, next_by}
use Rattle.foreign_laws.proofs.OwnLaws.{flag_is, left_by, list_keeps, list_value, rise_from, told_page}

list_same : (device : Device) (start : ℕ) → (acted (listing start) device).1 ≡ device
unfolding acted tried
list_same device start = outcome_same 0x16 (read_db_list device 0x80 0 start) (list_keeps device start)

list_told : (device : Device) (start : ℕ) → told (listing start) device ≡ list_value start (length device.databases) (slice_get device.databases start)
unfolding told tried
list_told device start = told_page device start

-- the database behind others is at its place
pub at_place_in : (done later : List DatabaseValue) (one : DatabaseValue) → slice_get (done ++ one ∷ later) (length done) ≡ Some one
at_place_in [] later one = refl
at_place_in (first ∷ done) later one = at_place_in done later one

module _ (device : Device) (proper : IsTellable device) where
  -- one reply
  own_page : (start : ℕ) (heads : List DbHead) (found : List DbHead × Option ℕ) → start < 2 ^ 16
      → page start heads (Ok (list_value start (length device.databases) (slice_get device.databases start))) ≡ Ok found
      → EndsOver DeviceStep (asks_page start heads) device found device
  own_page start heads found half is =
      let value = (listing start).asks in
      let fits = list_fits start half in
      let reads : reply_at 0x16 (acted (listing start) device).0 ≡ Ok (list_value start (length device.databases) (slice_get device.databases start)) =
      acted_reads (listing start) device proper (act_sayable value device fits refl) ∙ ap Ok (list_told device start) in (
        (acted (listing start) device).0,
        device,
        fits,
        subst (λ (d : Device). DeviceStep device (request_text value) (acted (listing start) device).0 d) (list_same device start)
            (own_step value device fits refl),
        (ap (page start heads) reads ∙ is, refl),
      )

  abbrev OwnGoes : ℕ → Type 0
  OwnGoes most =
      (done later : List DatabaseValue) (one : DatabaseValue) (heads : List DbHead) → device.databases ≡ done ++ one ∷ later → length later < most
      → EndsOver DeviceStep (lists_from most (length done) heads) device (heads ++ own_heads (one ∷ later)) device

  module _ (most : ℕ) (goes : OwnGoes most) (done : List DatabaseValue) (one : DatabaseValue) (heads : List DbHead) where
    abbrev start : ℕ
    start = length done

    abbrev heads_now : List DbHead
    heads_now = heads ++ listed one.head ∷ []

    -- what follows behind the page
    by_later : (later : List DatabaseValue) → device.databases ≡ done ++ one ∷ later → length later < suc most
        → EndsOver DeviceStep (lists_on (next_by (listed_from (start + 1) later) start) heads_now (λ next. lists_from most next heads_now)) device
        (heads ++ own_heads (one ∷ later)) device
    by_later [] is few = (refl, refl)
    by_later (two ∷ later) is few =
        let more : device.databases ≡ (done ++ one ∷ []) ++ two ∷ later = is ∙ sym (append_assoc done (one ∷ []) (two ∷ later)) in
        let rest = goes (done ++ one ∷ []) later two heads_now more (omega arith) in
        let at = subst (λ (n : ℕ). EndsOver DeviceStep (lists_from most n heads_now) device (heads_now ++ own_heads (two ∷ later)) device)
        (length-append done (one ∷ [])) rest in
        subst (λ (h : List DbHead). EndsOver DeviceStep (lists_from most (start + 1) heads_now) device h device)
        (append_assoc heads (listed one.head ∷ []) (own_heads (two ∷ later))) at

    at_start : (later : List DatabaseValue) → device.databases ≡ done ++ one ∷ later → length later < suc most
        → EndsOver DeviceStep (asks_page start heads >>= (λ found. lists_on found.1 found.0 (λ next. lists_from most next found.0))) device
        (heads ++ own_heads (one ∷ later)) device
    at_start later is few =
        let count : length device.databases ≡ length done + (length later + 1) =
        ap (length {A = DatabaseValue}) is ∙ length-append done (one ∷ later) ∙ (omega arith) in
        let low : length device.databases ≤ 200 = proper.sound.few in
        let there : slice_get device.databases start ≡ Some one = ap (λ (l : List DatabaseValue). slice_get l start) is ∙ at_place_in done later one in
        let flags = more_flag start (length device.databases) in
        let more : has_bit 0x80 flags ≡ is_some_left (listed_from (start + 1) later) =
        flag_is (ltb (start + 1) (length device.databases)) ∙ same_test count ∙ sym (left_by later (start + 1)) in
        let next = behind_by start start flags (listed_from (start + 1) later) more (omega arith)
        (rise_from later (start + 1) (start + 1) (omega arith) (omega arith)) in
        let said : page start heads (Ok (list_value start (length device.databases) (slice_get device.databases start)))
        ≡ Ok (heads_now, next_by (listed_from (start + 1) later) start) =
        ap (λ (o : Option DatabaseValue). page start heads (Ok (list_value start (length device.databases) o))) there
        ∙ ap (λ (n : Option ℕ). Ok (heads_now, n)) next in
        ends_then DeviceStep (asks_page start heads) (λ (found : List DbHead × Option ℕ). lists_on found.1 found.0 (λ next. lists_from most next found.0))
        device (heads_now, next_by (listed_from (start + 1) later) start) device (heads ++ own_heads (one ∷ later)) device
        (own_page start heads _ (omega arith) said) (by_later later is few)
      where
        same_test : length device.databases ≡ length done + (length later + 1) → ltb (start + 1) (length device.databases) ≡ ltb 1 (1 + length later)
        same_test count = grind (arith, nat_tests)

  own_goes : (most : ℕ) → OwnGoes most
  unfolding lists_from
  own_goes zero done later one heads is few = absurd (omega arith)
  own_goes (suc most) done later one heads is few = at_start most (own_goes most) done one heads later is few

  by_databases : (databases : List DatabaseValue) → device.databases ≡ databases
      → EndsOver DeviceStep (lists_from 65536 0 []) device (own_heads databases) device
  unfolding lists_from
  by_databases [] is =
      let there : slice_get device.databases 0 ≡ None = ap (λ (l : List DatabaseValue). slice_get l 0) is in
      ends_then DeviceStep (asks_page 0 []) (λ (found : List DbHead × Option ℕ). lists_on found.1 found.0 (λ next. lists_from 65535 next found.0))
      device ([], None) device [] device
      (own_page 0 [] ([], None) (omega arith)
      (ap (λ (o : Option DatabaseValue). page 0 [] (Ok (list_value 0 (length device.databases) o))) there)) (refl, refl)
  by_databases (one ∷ later) is =
      own_goes 65536 [] later one [] is
      (let low = proper.sound.few in let count = ap (length {A = DatabaseValue}) is in omega arith)

  pub own_lists : EndsOver DeviceStep lists_all device (own_heads device.databases) device
  own_lists = by_databases device.databases refl
