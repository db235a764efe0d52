-- Lists of ids that come in parts of any length make the same list as those of our own device.
use Rattle.std.proofs.Common.{◌≡◌, ◌∙◌, ◌≤◌, ◌<◌, ◌+◌, ◌%◌, ◌^◌, refl, sym, ap, subst, inl, inr, ℕ, zero, suc, Bool, true, false, cond, List, [], ◌∷◌, ◌++◌, length, take, drop, min, arith, lit<, ltb, append_assoc, length-append}
use Rattle.std.proofs.lemmas.Bool.Decides.{nat_tests}
use Rattle.std.proofs.lemmas.List.{append-nil, length-take, take-append-drop}
use Rattle.std.proofs.Math.ListN.{drop_of_length-le}
use Rattle.std.proofs.Math.Seq.{drop-append_seam}
use Rattle.std.specs.Prelude.{◌⊎◌, Result, Ok, Err}
use Rattle.dlp_requests.specs.RequestTexts.{IsRequest, request_text}
use Rattle.dlp_replies.specs.declared.fault.ReplyFault.{ReplyFault}
use Rattle.dlp_replies.specs.declared.fault.ReplyFault.TheVariants.{Wrapper}
use Rattle.dlp_replies.specs.ReplyReading.{reply_at}
use Rattle.dlp_replies.specs.ReplyValues as reply
use Rattle.dlp_replies.specs.ReplyValues.{ReplyValue}
use Rattle.palm_device.specs.Devices.{Device}
use Rattle.dlp_commands.specs.DeviceSteps.{DeviceStep}
use Rattle.desktop_session.specs.declared.fault.SessionFault.TheVariants as session
use Rattle.desktop_session.specs.Acts.{acted}
use Rattle.desktop_session.specs.Answers.{count_of, ids_of, mapped, said_in}
use Rattle.desktop_session.specs.Asking.{all_ids, asks_ids, is_page, lists_ids, repeats}
use Rattle.desktop_session.specs.Inquiries.{Ends, Inquiry, ◌>>=◌}
use Rattle.desktop_session.specs.Lendings.{counts}
use Rattle.desktop_session.specs.Requests.{counting, listing_ids}
use Rattle.desktop_session.specs.Tellings.{IsTellable, told}
use Rattle.desktop_session.proofs.IdsFollow.{page_new, page_none}
use Rattle.desktop_session.proofs.ListLaws.{ids_same}
use Rattle.desktop_session.proofs.RequestFits.{ids_fit}
use Rattle.desktop_session.proofs.TellLaws.{act_sayable, acted_reads}
use Rattle.mirrors.proofs.ReadLaws.{count_same}
use Rattle.mirrors.specs.ReadInquiries.{reads_ids}
use Rattle.foreign_laws.specs.Endings.{EndsOver}
use Rattle.foreign_laws.specs.Foreign.{Does, Foreign, ForeignStep, IsForeign, IsPartOf, Refuses}
use Rattle.foreign_laws.specs.Twins.{HasTwin}
use Rattle.foreign_laws.proofs.AskTwins.{twin_counts}
use Rattle.foreign_laws.proofs.DeviceLaws.{few_ids, ids_open, own_step, step_is, told_count, told_ids, told_list}
use Rattle.foreign_laws.proofs.EndLaws.{ends_parts, ends_then, ok_same}
use Rattle.foreign_laws.proofs.StepLaws.{Served, fits_twin, stays_foreign, step_of}

-- a reply that is taken for none, and what is asked behind a part
abbrev no_page : Inquiry (List ℕ)
no_page = Ends (Err (session.BadReply 0x31 (Wrapper 0)))

abbrev part_next : ℕ → ℕ → ℕ → ℕ → List ℕ → Inquiry (List ℕ)
part_next most handle count before all = cond (is_page before all) (lists_ids most handle count all) no_page

-- ---- a part of the ids

-- so many of the ids from a start on came behind those before them, and nothing changed
record NextPart (start : ℕ) (before x : List ℕ) (old new : Device) : Type 0 where
  count : ℕ
  is : x ≡ before ++ take (suc count) (take 8000 (drop start (ids_open old)))
  same : new ≡ old

record PartOf (ours : ReplyValue) (before x : List ℕ) : Type 0 where
  count : ℕ
  is : x ≡ before ++ take (suc count) (ids_of ours)

part_of : (ours value : ReplyValue) (before x : List ℕ) → IsPartOf ours value
    → mapped (λ (more : List ℕ). before ++ more) (said_in 0x31 ids_of (Ok value)) ≡ Ok x → PartOf ours before x
part_of (reply.ReadRecordIdList ids) value before x is said = record {
  count = is.0;
  is = ok_same (sym said ∙ ap (λ (v : ReplyValue). mapped (λ (more : List ℕ). before ++ more) (said_in 0x31 ids_of (Ok v))) is.1);
}
part_of (reply.Refused number code) value before x is said =
    absurd (let e : Err _ ≡ Ok x = sym (ap (λ (v : ReplyValue). mapped (λ (more : List ℕ). before ++ more) (said_in 0x31 ids_of (Ok v))) is) ∙ said in cc)
part_of ours value before x is said = record {
  count = 0;
  is = ok_same (sym said ∙ ap (λ (v : ReplyValue). mapped (λ (more : List ℕ). before ++ more) (said_in 0x31 ids_of (Ok v))) is);
}

module _ (handle start : ℕ) (before x : List ℕ) where
  by_part : (old between new : Foreign) (answer : List ℕ) → IsForeign old → IsRequest (listing_ids handle start).asks
      → Served old (listing_ids handle start).asks answer between
      → mapped (λ (more : List ℕ). before ++ more) (said_in 0x31 ids_of (reply_at 0x31 answer)) ≡ Ok x → new ≡ between
      → NextPart start before x old.device new.device
  by_part old between new answer proper fits served is stays = each served.serves
    where
      each : Refuses old (listing_ids handle start).asks served.value between ⊎ Does old (listing_ids handle start).asks served.value between
          → NextPart start before x old.device new.device
      each (inl refuses) =
          absurd (let e : Err _ ≡ Ok x = sym (ap (λ (r : Result ReplyValue ReplyFault). mapped (λ (more : List ℕ). before ++ more) (said_in 0x31 ids_of r))
          (served.reads ∙ ap Ok refuses.is)) ∙ is in cc)
      each (inr done) =
          let own = step_is (listing_ids 1 start).asks old.device between.device done.own proper.proper (fits_twin (listing_ids handle start).asks fits) refl
          done.step in
          let ours : done.ours ≡ told (listing_ids 1 start) old.device = ok_same (sym done.told ∙ own.reads) in
          let part = part_of done.ours served.value before x done.replies
          (sym (ap (λ (r : Result ReplyValue ReplyFault). mapped (λ (more : List ℕ). before ++ more) (said_in 0x31 ids_of r)) served.reads) ∙ is) in
          record {
            count = part.count;
            is = part.is ∙ ap (λ (ids : List ℕ). before ++ take (suc part.count) ids) (ap ids_of ours ∙ told_ids old.device start);
            same = ap (λ (hand : Foreign). hand.device) stays ∙ own.device ∙ ids_same old.device 1 start;
          }

  next_part : (old new : Foreign) → IsForeign old → EndsOver ForeignStep (asks_ids handle start before) old x new
      → NextPart start before x old.device new.device
  next_part old new proper ended =
      by_part old ended.1 new ended.0 proper ended.2 (step_of (listing_ids handle start).asks old ended.1 ended.0 ended.2 ended.3) ended.4.0 ended.4.1

-- ---- parts of any length

-- these are the first ids, and at least so many; nothing changed
record FirstIds (all : List ℕ) (count : ℕ) (x : List ℕ) (old new : Device) : Type 0 where
  rest : List ℕ
  is : all ≡ x ++ rest
  enough : count ≤ length x
  same : new ≡ old

-- more of the first ids are the first ones
more_first : (all ids rest x : List ℕ) (count : ℕ) → all ≡ ids ++ rest → x ≡ ids ++ take (suc count) (take 8000 (drop (length ids) all))
    → (later : List ℕ) × (all ≡ x ++ later)
more_first all ids rest x count is more =
    let left : drop (length ids) all ≡ rest = ap (drop (length ids)) is ∙ drop-append_seam ids rest in
    let part = take 8000 rest in (
      drop (suc count) part ++ drop 8000 rest,
      is ∙ ap (λ (r : List ℕ). ids ++ r) (sym (take-append-drop 8000 rest)
          ∙ ap (λ (r : List ℕ). r ++ drop 8000 rest) (sym (take-append-drop (suc count) part))
          ∙ append_assoc (take (suc count) part) (drop (suc count) part) (drop 8000 rest))
          ∙ sym (append_assoc ids (take (suc count) part) (drop (suc count) part ++ drop 8000 rest))
          ∙ ap (λ (r : List ℕ). (ids ++ take (suc count) (take 8000 r)) ++ (drop (suc count) part ++ drop 8000 rest)) (sym left)
          ∙ ap (λ (r : List ℕ). r ++ (drop (suc count) part ++ drop 8000 rest)) (sym more),
    )

lt_by : (a b : ℕ) → ltb a b ≡ true → a < b
lt_by a b is = grind (arith, nat_tests)

ge_by : (a b : ℕ) → ltb a b ≡ false → b ≤ a
ge_by a b is = grind (arith, nat_tests)

module _ (handle count : ℕ) where
  -- what holds of a list that goes on so many times
  abbrev Goes : ℕ → Type 0
  Goes most =
      (ids rest : List ℕ) (old new : Foreign) (x : List ℕ) → IsForeign old → ids_open old.device ≡ ids ++ rest → count ≤ most + length ids
      → EndsOver ForeignStep (lists_ids most handle count ids) old x new → FirstIds (ids_open old.device) count x old.device new.device

  at_end : (ids rest : List ℕ) (old new : Foreign) (x : List ℕ) → ids_open old.device ≡ ids ++ rest → count ≤ length ids
      → EndsOver ForeignStep (Ends (Ok ids)) old x new → FirstIds (ids_open old.device) count x old.device new.device
  at_end ids rest old new x is enough ended =
      let same : ids ≡ x = ok_same ended.0 in
      record {
        rest = rest;
        is = is ∙ ap (λ (l : List ℕ). l ++ rest) same;
        enough = omega (arith, ap (length {A = ℕ}) same);
        same = ap (λ (hand : Foreign). hand.device) ended.1;
      }

  module _ (most : ℕ) (goes : Goes most) (ids rest : List ℕ) (old : Foreign) (proper : IsForeign old) (is : ids_open old.device ≡ ids ++ rest)
      (enough : count ≤ suc most + length ids) where
    at_page : (mid new : Foreign) (page x : List ℕ) (b : Bool) → is_page (length ids) page ≡ b → IsForeign mid
        → NextPart (length ids) ids page old.device mid.device
        → EndsOver ForeignStep (cond b (lists_ids most handle count page) no_page) mid x new → FirstIds (ids_open old.device) count x old.device new.device
    at_page mid new page x true paged fine part ended =
        let first = more_first (ids_open old.device) ids rest page part.count is part.is in
        let more : length ids < length page = longer in
        let later = goes page first.0 mid new x fine (ap ids_open part.same ∙ first.1) (omega arith) ended in
        record {
          rest = later.rest;
          is = ap ids_open (sym part.same) ∙ later.is;
          enough = later.enough;
          same = later.same ∙ part.same;
        }
      where
        longer : length ids < length page
        longer = by_test (ltb (length ids) (length page)) refl
          where
            by_test : (b : Bool) → ltb (length ids) (length page) ≡ b → length ids < length page
            by_test true is = lt_by (length ids) (length page) is
            by_test false is = absurd (let e = sym paged ∙ page_none (length ids) page (ge_by (length ids) (length page) is) in cc)
    at_page mid new page x false paged fine part ended = absurd (let e = ended.0 in cc)

    at_part : (new : Foreign) (x : List ℕ) → EndsOver ForeignStep (asks_ids handle (length ids) ids >>= part_next most handle count (length ids)) old x new
        → FirstIds (ids_open old.device) count x old.device new.device
    at_part new x ended =
        let parts = ends_parts ForeignStep (asks_ids handle (length ids) ids) (part_next most handle count (length ids)) old x new ended in
        at_page parts.between new parts.x x (is_page (length ids) parts.x) refl
        (stays_foreign (asks_ids handle (length ids) ids) old parts.between parts.x proper parts.first)
        (next_part handle (length ids) ids parts.x old parts.between proper parts.first) parts.rest

    by_less : (new : Foreign) (x : List ℕ) (b : Bool) → ltb (length ids) count ≡ b
        → EndsOver ForeignStep (cond b (asks_ids handle (length ids) ids >>= part_next most handle count (length ids)) (Ends (Ok ids))) old x new
        → FirstIds (ids_open old.device) count x old.device new.device
    by_less new x true is_less ended = at_part new x ended
    by_less new x false is_less ended = at_end ids rest old new x is (ge_by (length ids) count is_less) ended

  goes_all : (most : ℕ) → Goes most
  unfolding lists_ids
  goes_all zero ids rest old new x proper is enough ended = at_end ids rest old new x is (omega arith) ended
  goes_all (suc most) ids rest old new x proper is enough ended =
      by_less most (goes_all most) ids rest old proper is enough new x (ltb (length ids) count) refl ended

-- ---- our own list

nil_of : {X : Type 0} (rest : List X) → length rest ≤ 0 → rest ≡ []
nil_of [] none = refl
nil_of (x ∷ rest) none = absurd (omega arith)

-- where these are the first ids, and there are no more, they are all
whole_of : (all ids rest : List ℕ) → all ≡ ids ++ rest → length all ≤ length ids → ids ≡ all
whole_of all ids rest is enough =
    let none : rest ≡ [] = nil_of rest (omega (arith, ap (length {A = ℕ}) is, length-append ids rest)) in
    sym (is ∙ ap (λ (r : List ℕ). ids ++ r) none ∙ append-nil ids)

mod_more : (a : ℕ) → a % 8000 ≡ 0 → (a + 8000) % 8000 ≡ 0
mod_more a is = omega (arith, is)

once_page : (before : ℕ) (all : List ℕ) → before % 8000 ≡ 0 → false ≡ repeats before all
once_page before all is = rw is refl

module _ (device : Device) (proper : IsTellable device) where
  own_part : (start : ℕ) (before : List ℕ) → start < 2 ^ 16 → 0 < length (ids_open device)
      → EndsOver DeviceStep (asks_ids 1 start before) device (before ++ take 8000 (drop start (ids_open device))) device
  own_part start before half some =
      let fits = ids_fit 1 start (lit< tt) half in
      let value = (listing_ids 1 start).asks in
      let reads : reply_at 0x31 (acted (listing_ids 1 start) device).0 ≡ Ok (reply.ReadRecordIdList (take 8000 (drop start (ids_open device)))) =
      acted_reads (listing_ids 1 start) device proper (act_sayable value device fits refl) ∙ ap Ok (told_list device start some) in (
        (acted (listing_ids 1 start) device).0,
        device,
        fits,
        subst (λ (d : Device). DeviceStep device (request_text value) (acted (listing_ids 1 start) device).0 d) (ids_same device 1 start)
            (own_step value device fits refl),
        (ap (λ (r : Result ReplyValue ReplyFault). mapped (λ (more : List ℕ). before ++ more) (said_in 0x31 ids_of r)) reads, refl),
      )

  module _ (count : ℕ) (full : count ≡ length (ids_open device)) where
    abbrev OwnGoes : ℕ → Type 0
    OwnGoes most =
        (ids rest : List ℕ) → ids_open device ≡ ids ++ rest → count ≤ most + length ids → (length ids % 8000 ≡ 0) ⊎ (rest ≡ [])
        → EndsOver DeviceStep (lists_ids most 1 count ids) device (ids_open device) device

    own_end : (ids rest : List ℕ) → ids_open device ≡ ids ++ rest → count ≤ length ids → EndsOver DeviceStep (Ends (Ok ids)) device (ids_open device) device
    own_end ids rest is enough = (ap Ok (whole_of (ids_open device) ids rest is (omega arith)), refl)

    module _ (most : ℕ) (goes : OwnGoes most) (ids rest : List ℕ) (is : ids_open device ≡ ids ++ rest) (enough : count ≤ suc most + length ids) where
      own_page : length ids % 8000 ≡ 0 → length ids < count
          → EndsOver DeviceStep (asks_ids 1 (length ids) ids >>= part_next most 1 count (length ids)) device (ids_open device) device
      own_page parts less =
          let left : drop (length ids) (ids_open device) ≡ rest = ap (drop (length ids)) is ∙ drop-append_seam ids rest in
          let page = ids ++ take 8000 rest in
          let sum : length (ids_open device) ≡ length ids + length rest = ap (length {A = ℕ}) is ∙ length-append ids rest in
          let size : length page ≡ length ids + min 8000 (length rest) =
          length-append ids (take 8000 rest) ∙ ap (λ (n : ℕ). length ids + n) (length-take 8000 rest) in
          let more : length ids < length page = omega arith in
          let whole : ids_open device ≡ page ++ drop 8000 rest =
          is ∙ ap (λ (r : List ℕ). ids ++ r) (sym (take-append-drop 8000 rest)) ∙ sym (append_assoc ids (take 8000 rest) (drop 8000 rest)) in
          let first : EndsOver DeviceStep (asks_ids 1 (length ids) ids) device page device =
          subst (λ (r : List ℕ). EndsOver DeviceStep (asks_ids 1 (length ids) ids) device (ids ++ take 8000 r) device) left
          (own_part (length ids) ids (omega (arith, few_ids device proper)) (omega arith)) in
          let later = goes page (drop 8000 rest) whole (omega arith) (at_next size (ltb (length rest) 8000) refl) in
          ends_then DeviceStep (asks_ids 1 (length ids) ids) (part_next most 1 count (length ids)) device page device (ids_open device) device first
          (subst (λ (b : Bool). EndsOver DeviceStep (cond b (lists_ids most 1 count page) no_page) device (ids_open device) device)
          (sym (page_new (length ids) page more (once_page (length ids) page parts))) later)
        where
          at_next : length (ids ++ take 8000 rest) ≡ length ids + min 8000 (length rest) → (b : Bool) → ltb (length rest) 8000 ≡ b
              → (length (ids ++ take 8000 rest) % 8000 ≡ 0) ⊎ (drop 8000 rest ≡ [])
          at_next size true few = inr (drop_of_length-le rest {i = 8000} (let below = lt_by (length rest) 8000 few in omega arith))
          at_next size false many =
              let all : length (ids ++ take 8000 rest) ≡ length ids + 8000 = let above = ge_by (length rest) 8000 many in omega arith in
              inl (ap (λ (n : ℕ). n % 8000) all ∙ mod_more (length ids) parts)

      own_less : (length ids % 8000 ≡ 0) ⊎ (rest ≡ []) → (b : Bool) → ltb (length ids) count ≡ b
          → EndsOver DeviceStep (cond b (asks_ids 1 (length ids) ids >>= part_next most 1 count (length ids)) (Ends (Ok ids))) device (ids_open device) device
      own_less (inl parts) true less = own_page parts (lt_by (length ids) count less)
      own_less (inr none) true less =
          absurd (let below = lt_by (length ids) count less in
          omega (arith, ap (length {A = ℕ}) is, length-append ids rest, ap (length {A = ℕ}) none))
      own_less parts false less = own_end ids rest is (ge_by (length ids) count less)

    own_goes : (most : ℕ) → OwnGoes most
    unfolding lists_ids
    own_goes zero ids rest is enough parts = own_end ids rest is (omega arith)
    own_goes (suc most) ids rest is enough parts = own_less most (own_goes most) ids rest is enough parts (ltb (length ids) count) refl

    pub own_ids : EndsOver DeviceStep (all_ids 1 count) device (ids_open device) device
    own_ids = own_goes count [] (ids_open device) refl (omega arith) (inl refl)

-- ---- both

pub twin_ids : (handle : ℕ) → HasTwin (reads_ids handle) (reads_ids 1)
twin_ids handle = record {
  ends = λ old new x proper ended.
      let parts = ends_parts ForeignStep (counts handle) (λ (count : ℕ). all_ids handle count) old x new ended in
      let mid = parts.between in
      let fine = stays_foreign (counts handle) old mid parts.x proper parts.first in
      let first = (twin_counts handle).ends old mid parts.x proper parts.first in
      let act = step_is (counting 1).asks old.device first.1 first.0 proper.proper first.2 refl first.3 in
      let same : mid.device ≡ old.device = first.4.1 ∙ act.device ∙ count_same old.device 1 in
      let counted = told_count old.device parts.x (ap (said_in 0x2B count_of) (sym act.reads) ∙ first.4.0) in
      let listed = goes_all handle parts.x parts.x [] (ids_open mid.device) mid new x fine refl (omega arith) parts.rest in
      let here : ids_open old.device ≡ ids_open mid.device = ap ids_open (sym same) in
      let sum : length (ids_open mid.device) ≡ length x + length listed.rest = ap (length {A = ℕ}) listed.is ∙ length-append x listed.rest in
      let full : parts.x ≡ length (ids_open mid.device) =
      counted (omega (arith, listed.enough, ap (length {A = ℕ}) here, sum)) ∙ ap (length {A = ℕ}) here in
      let whole : x ≡ ids_open mid.device = whole_of (ids_open mid.device) x listed.rest listed.is (omega (arith, full, listed.enough)) in
      ends_then DeviceStep (counts 1) (λ (count : ℕ). all_ids 1 count) old.device parts.x mid.device x new.device first
      (subst (λ (d : Device). EndsOver DeviceStep (all_ids 1 parts.x) mid.device x d) (sym listed.same)
      (subst (λ (l : List ℕ). EndsOver DeviceStep (all_ids 1 parts.x) mid.device l mid.device) (sym whole) (own_ids mid.device fine.proper parts.x full)));
}
