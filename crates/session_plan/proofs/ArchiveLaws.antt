-- An archive, entry by entry.
use Rattle.std.proofs.Common.{◌≡◌, ◌∙◌, ◌<◌, ◌+◌, ap, refl, sym, subst, ℕ, Bool, true, false, List, [], ◌∷◌, ◌++◌, map, take, length, get_or, append_assoc}
use Rattle.std.proofs.lemmas.List.{append-nil, map-append}
use Rattle.std.specs.Prelude.{◌||◌, ◌&&◌, ◌==◌, if◌then◌else◌, cond, not}
use Rattle.std.specs.HashSet.{HashSet, contains}
use Rattle.pdb_values.specs.Contents.{ContentValue}
use Rattle.pdb_values.specs.declared.record.Record.{Record}
use Rattle.conduit_rules.specs.Contents.{same_content}
use Rattle.record_merge.specs.Merging.{is_archived, one_copy_behind, settled_record}
use Rattle.mirrors.proofs.NewsLaws.{split_at}
use Rattle.session_plan.specs.Archives.{Notes, archive_records, entries_of, entry_at, same_entry, with_entries, with_entry}
use Rattle.session_plan.specs.declared.archive.EntryKey.{EntryKey}

pub or_later : (a b c : Bool) → (a || (b || c)) ≡ (b || (a || c))
or_later true true c = refl
or_later true false c = refl
or_later false true c = refl
or_later false false c = refl

-- what was put last stands there too
is_archived-push : (e x : ℕ × ContentValue) (es : List (ℕ × ContentValue)) → is_archived e (es ++ x ∷ []) ≡ is_archived e (x ∷ es)
is_archived-push e x [] = refl
is_archived-push e x (y ∷ es) = ap (λ b. ((y.0 == e.0) && same_content y.1 e.1) || b) (is_archived-push e x es)
    ∙ or_later ((y.0 == e.0) && same_content y.1 e.1) ((x.0 == e.0) && same_content x.1 e.1) (is_archived e es)

flipped : {A : Type 0} (b : Bool) (x y : A) → (if not b then x else y) ≡ (if b then y else x)
flipped true x y = refl
flipped false x y = refl

or-cond : (b c : Bool) → cond b true c ≡ (b || c)
or-cond true c = refl
or-cond false c = refl

-- a set that got an entry's key has the keys of one entry more
noted_behind : {S : Type 0} (seen new : HashSet EntryKey S) (key : EntryKey) (kept : List Record) → Notes seen kept
    → ((q : EntryKey) → contains same_entry new q ≡ cond (same_entry key q) true (contains same_entry seen q))
    → Notes new (kept ++ settled_record (entry_at key) ∷ [])
noted_behind seen new key kept notes more q =
    more q ∙ or-cond (same_entry key q) (contains same_entry seen q) ∙ ap (λ b. same_entry key q || b) (notes q)
    ∙ sym (is_archived-push (entry_at q) (entry_at key) (entries_of kept))
    ∙ ap (is_archived (entry_at q)) (sym (map-append (λ (r : Record). (r.id, r.content)) kept (settled_record (entry_at key) ∷ [])))

-- and so where the record is told
pub noted_more : {S : Type 0} (seen new : HashSet EntryKey S) (key : EntryKey) (e : ℕ × ContentValue) (kept longer : List Record) (r : Record)
    → entry_at key ≡ e → r ≡ settled_record e → longer ≡ kept ++ r ∷ [] → Notes seen kept
    → ((q : EntryKey) → contains same_entry new q ≡ cond (same_entry key q) true (contains same_entry seen q))
    → Notes new longer
noted_more seen new key e kept longer r at is pushed notes more =
    subst (Notes new) (sym (pushed ∙ ap (λ x. kept ++ x ∷ []) (is ∙ ap settled_record (sym at)))) (noted_behind seen new key kept notes more)

-- whether an entry is put, by whether its key is new
by_key : (e : ℕ × ContentValue) (kept : List Record) (new : Bool) → new ≡ not (is_archived e (entries_of kept))
    → (if new then kept ++ settled_record e ∷ [] else kept) ≡ with_entry e kept
by_key e kept new is = rw is (flipped (is_archived e (entries_of kept)) (kept ++ settled_record e ∷ []) kept)

-- an entry whose key is new stands there not yet
pub put_new_entry : {S : Type 0} (seen : HashSet EntryKey S) (key : EntryKey) (e : ℕ × ContentValue) (kept longer : List Record) (r : Record) (new : Bool)
    → entry_at key ≡ e → r ≡ settled_record e → longer ≡ kept ++ r ∷ [] → Notes seen kept
    → new ≡ not (contains same_entry seen key) → new ≡ true → longer ≡ with_entry e kept
put_new_entry seen key e kept longer r new at is pushed notes told is_new =
    pushed ∙ ap (λ x. kept ++ x ∷ []) is ∙ ap (λ b. if b then kept ++ settled_record e ∷ [] else kept) (sym is_new)
    ∙ by_key e kept new (told ∙ ap not (notes key ∙ ap (λ x. is_archived x (entries_of kept)) at))

-- one whose key is not new stands there
pub put_known_entry : {S : Type 0} (seen : HashSet EntryKey S) (key : EntryKey) (e : ℕ × ContentValue) (kept : List Record) (new : Bool)
    → entry_at key ≡ e → Notes seen kept → new ≡ not (contains same_entry seen key) → new ≡ false → kept ≡ with_entry e kept
put_known_entry seen key e kept new at notes told is_old =
    ap (λ b. if b then kept ++ settled_record e ∷ [] else kept) (sym is_old)
    ∙ by_key e kept new (told ∙ ap not (notes key ∙ ap (λ x. is_archived x (entries_of kept)) at))

pub entries-records : (es : List (ℕ × ContentValue)) → entries_of (archive_records es) ≡ es
entries-records [] = refl
entries-records (e ∷ es) = ap (λ xs. e ∷ xs) (entries-records es)

with_entries-append : (xs ys : List (ℕ × ContentValue)) (kept : List Record) → with_entries (xs ++ ys) kept ≡ with_entries ys (with_entries xs kept)
with_entries-append [] ys kept = refl
with_entries-append (x ∷ xs) ys kept = with_entries-append xs ys (with_entry x kept)

-- what becomes of the first entry, by whether it stands there
put_by : (b c : Bool) (earlier kept es : List (ℕ × ContentValue)) (e : ℕ × ContentValue) → c ≡ b
    → (b ≡ true → with_entries es (archive_records kept) ≡ archive_records (kept ++ one_copy_behind earlier es))
    → (b ≡ false → with_entries es (archive_records (kept ++ e ∷ [])) ≡ archive_records ((kept ++ e ∷ []) ++ one_copy_behind (e ∷ earlier) es))
    → with_entries es (if b then archive_records kept else archive_records kept ++ settled_record e ∷ [])
    ≡ archive_records (kept ++ (if c then one_copy_behind earlier es else e ∷ one_copy_behind (e ∷ earlier) es))
put_by true c earlier kept es e is there new = rw is (there refl)
put_by false c earlier kept es e is there new =
    rw is (ap (with_entries es) (sym (map-append settled_record kept (e ∷ []))) ∙ new refl
    ∙ ap archive_records (append_assoc kept (e ∷ []) (one_copy_behind (e ∷ earlier) es)))

-- entries that were put are those that none before equals
copies : (earlier kept es : List (ℕ × ContentValue)) → ((e : ℕ × ContentValue) → is_archived e earlier ≡ is_archived e kept)
    → with_entries es (archive_records kept) ≡ archive_records (kept ++ one_copy_behind earlier es)
copies earlier kept [] same = ap archive_records (sym (append-nil kept))
copies earlier kept (e ∷ es) same =
    ap (λ ks. with_entries es (if is_archived e ks then archive_records kept else archive_records kept ++ settled_record e ∷ [])) (entries-records kept)
    ∙ put_by (is_archived e kept) (is_archived e earlier) earlier kept es e (same e) (λ here. copies earlier kept es same)
    (λ here. copies (e ∷ earlier) (kept ++ e ∷ []) es
    (λ x. ap (λ b. ((e.0 == x.0) && same_content e.1 x.1) || b) (same x) ∙ sym (is_archived-push x e kept)))

pub one_copy_of_each : (old new : List (ℕ × ContentValue))
    → with_entries new (with_entries old []) ≡ archive_records (one_copy_behind [] (old ++ new))
one_copy_of_each old new = sym (with_entries-append old new []) ∙ copies [] [] (old ++ new) (λ e. refl)

-- one more of a list
more : {A : Type 0} (f : A → ℕ × ContentValue) (xs : List A) (k : ℕ) (x : A) (kept : List Record) → k < length xs → x ≡ get_or xs k x
    → with_entries (map f (take (k + 1) xs)) kept ≡ with_entry (f x) (with_entries (map f (take k xs)) kept)
more f xs k x kept within is =
    rw ((split_at xs k x within is).next, map-append f (take k xs) (x ∷ []), with_entries-append (map f (take k xs)) (f x ∷ []) kept)

pub old_more : (old : List Record) (k : ℕ) (r : Record) (kept : List Record) → k < length old → r ≡ get_or old k r
    → with_entries (entries_of (take (k + 1) old)) kept ≡ with_entry (r.id, r.content) (with_entries (entries_of (take k old)) kept)
old_more old k r kept within is = more (λ (x : Record). (x.id, x.content)) old k r kept within is

pub new_more : (new : List (ℕ × ContentValue)) (k : ℕ) (e : ℕ × ContentValue) (kept : List Record) → k < length new → e ≡ get_or new k e
    → with_entries (take (k + 1) new) kept ≡ with_entry e (with_entries (take k new) kept)
new_more new k e kept within is = rw ((split_at new k e within is).next, with_entries-append (take k new) (e ∷ []) kept)
