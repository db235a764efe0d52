-- Writes that are carried out one after the other.
use Rattle.std.proofs.Common.{◌≡◌, ◌∙◌, ◌+◌, ◌<◌, ◌≤◌, ℕ, List, [], ◌∷◌, ◌++◌, ap, refl, sym, subst, arith, filter, get_or, length}
use Rattle.std.proofs.Common.{take, None}
use Rattle.std.proofs.lemmas.List.{length-append, length-take-le, map-append}
use Rattle.pdb_values.specs.Contents.{ContentValue}
use Rattle.pdb_values.specs.Databases.{DatabaseValue}
use Rattle.pdb_values.specs.declared.record.Record.{Record}
use Rattle.palm_device.specs.Kept.{is_kept}
use Rattle.palm_device.specs.declared.kept.Kept.TheVariants.{Live}
use Rattle.palm_device.specs.Records.{IsFree, new_record, place_of_id, put_record, reset_flags, with_records, without_record}
use Rattle.palm_device.proofs.RecordLaws.{put_record_new}
use Rattle.record_merge.specs.Writes.{AreFree, Write, add, adding, after, clean_up, numbered, purge, purges, replace, replaces, reset}
use Rattle.record_merge.proofs.AfterLaws.{after-append}
use Rattle.record_merge.proofs.PutLaws.{put_record-cons}
use Rattle.mirrors.proofs.NewsLaws.{split_at}
use Rattle.session_plan.proofs.RowLaws.{numbered-push}

-- ---- replacements

pub replaces_more : (rows : List (ℕ × ContentValue)) (k : ℕ) (row : ℕ × ContentValue) (records : List Record) → k < length rows → row ≡ get_or rows k row
    → after (replaces (take (k + 1) rows)) records ≡ put_record row.0 row.1 (after (replaces (take k rows)) records)
replaces_more rows k row records within is =
    rw ((split_at rows k row within is).next, map-append (λ (e : ℕ × ContentValue). replace e.0 e.1) (take k rows) (row ∷ []))
    (after-append (replaces (take k rows)) (replaces (row ∷ [])) records)

grows_put : (id : ℕ) (content : ContentValue) (records : List Record) → length records ≤ length (put_record id content records)
grows_put id content [] = omega arith
grows_put id content (r ∷ records) = grind (arith, put_record-cons id content r records, grows_put id content records)

grows : (rows : List (ℕ × ContentValue)) (records : List Record) → length records ≤ length (after (replaces rows) records)
grows [] records = omega arith
grows (row ∷ rows) records =
    let one = grows_put row.0 row.1 records in
    let others = grows rows (put_record row.0 row.1 records) in
    omega (arith, one, others)

-- a new row for which there is no room
pub full_replacing : (rows : List (ℕ × ContentValue)) (k : ℕ) (row : ℕ × ContentValue) (records now : List Record) → k < length rows
    → row ≡ get_or rows k row → now ≡ after (replaces (take k rows)) records → place_of_id row.0 now ≡ None → length now ≡ 65535
    → 65535 < length (after (replaces rows) records)
full_replacing rows k row records now within is now_is none full =
    let split = split_at rows k row within is in
    let whole : after (replaces rows) records ≡ after (replaces split.rest) (put_record row.0 row.1 now) =
    ap (λ es. after (replaces es) records) (sym split.is)
    ∙ ap (λ ws. after ws records) (map-append (λ (e : ℕ × ContentValue). replace e.0 e.1) (take k rows) (row ∷ split.rest))
    ∙ after-append (replaces (take k rows)) (replaces (row ∷ split.rest)) records
    ∙ ap (λ (rs : List Record). after (replaces (row ∷ split.rest)) rs) (sym now_is) in
    let one : length (put_record row.0 row.1 now) ≡ length now + 1 =
    ap length (put_record_new row.0 row.1 now none) ∙ length-append now (new_record row.0 row.1 ∷ []) in
    let more = grows split.rest (put_record row.0 row.1 now) in
    let same = ap length whole in
    omega (arith, one, more, same, full)

-- ---- adds

free-push : (es : List (ℕ × ContentValue)) (e : ℕ × ContentValue) (records : List Record) → AreFree es records → IsFree e.0 (after (adding es) records)
    → AreFree (es ++ e ∷ []) records
free-push [] e records free last = (last, tt)
free-push (d ∷ es) e records free last = (free.0, free-push es e (put_record d.0 d.1 records) free.1 last)

-- what stands once some of the contents were added under these ids
pub record IsAdded (given : List ℕ) (adds : List ContentValue) (k : ℕ) (old now : List Record) : Type 0 where
  pub counted : length given ≡ k
  pub free : AreFree (numbered given (take k adds)) old
  pub is : now ≡ after (adding (numbered given (take k adds))) old
  pub long : length now ≡ length old + k

pub none_added : (adds : List ContentValue) (old : List Record) → IsAdded [] adds 0 old old
none_added adds old = record { counted = refl; free = tt; is = refl; long = omega arith }

pub one_added : (given : List ℕ) (adds : List ContentValue) (k id : ℕ) (content : ContentValue) (old now : List Record) → k < length adds
    → content ≡ get_or adds k content → IsFree id now → IsAdded given adds k old now
    → IsAdded (given ++ id ∷ []) adds (k + 1) old (put_record id content now)
one_added given adds k id content old now within is free before =
    let split = split_at adds k content within is in
    let taken : length (take k adds) ≡ k = omega (arith, length-take-le k adds (omega arith)) in
    let pairs : numbered (given ++ id ∷ []) (take (k + 1) adds) ≡ numbered given (take k adds) ++ (id, content) ∷ [] =
    ap (numbered (given ++ id ∷ [])) split.next ∙ numbered-push given (take k adds) id content (before.counted ∙ sym taken) in
    let here : IsFree id (after (adding (numbered given (take k adds))) old) = subst (IsFree id) before.is free in
    record {
      counted = length-append given (id ∷ []) ∙ ap (λ n. n + 1) before.counted;
      free = subst (λ es. AreFree es old) (sym pairs) (free-push (numbered given (take k adds)) (id, content) old before.free here);
      is = ap (put_record id content) before.is
          ∙ sym (ap (λ es. after (adding es) old) pairs
          ∙ ap (λ ws. after ws old) (map-append (λ (e : ℕ × ContentValue). add e.0 e.1) (numbered given (take k adds)) ((id, content) ∷ []))
          ∙ after-append (adding (numbered given (take k adds))) (add id content ∷ []) old);
      long = ap length (put_record_new id content now free.none) ∙ length-append now (new_record id content ∷ [])
          ∙ (let long = before.long in omega arith);
    }

-- ---- purges

pub purges_more : (ids : List ℕ) (k id : ℕ) (records : List Record) → k < length ids → id ≡ get_or ids k id
    → after (purges (take (k + 1) ids)) records ≡ without_record id (after (purges (take k ids)) records)
purges_more ids k id records within is =
    rw ((split_at ids k id within is).next, map-append purge (take k ids) (id ∷ [])) (after-append (purges (take k ids)) (purge id ∷ []) records)

-- ---- all of them

-- what is left once the deleted ones went and all are unchanged
pub cleared : (ids : List ℕ) (old purged kept last : DatabaseValue) → purged ≡ with_records (after (purges ids) old.records) old
    → kept ≡ with_records (filter (is_kept Live) purged.records) purged → last ≡ with_records (reset_flags kept.records) kept
    → last ≡ with_records (after (purges ids ++ clean_up ∷ reset ∷ []) old.records) old
cleared ids old purged kept last one two three =
    let records = after-append (purges ids) (clean_up ∷ reset ∷ []) old.records in
    rw (three, two, one) (ap (λ rs. with_records rs old) (sym records))

-- the writes of a plan, in three parts
pub written : (rows adds : List Write) (others : List Write) (old replaced added last : DatabaseValue) → replaced ≡ with_records (after rows old.records) old
    → added ≡ with_records (after adds replaced.records) replaced → last ≡ with_records (after others added.records) added
    → last ≡ with_records (after (rows ++ (adds ++ others)) old.records) old
written rows adds others old replaced added last one two three =
    let first = after-append rows (adds ++ others) old.records in
    let second = after-append adds others (after rows old.records) in
    rw (three, two, one) (ap (λ rs. with_records rs old) (sym (first ∙ second)))
