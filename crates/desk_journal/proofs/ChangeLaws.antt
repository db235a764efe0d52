-- The entries that change a file: together they change all that all entries do.
use Rattle.std.proofs.lemmas.Bool.Decides.{nat_tests}
use Rattle.std.proofs.lemmas.Grind.{common_steps}
use Rattle.std.proofs.Common.{◌≡◌, ◌≤◌, ◌||◌, ℕ, Bool, true, false, cond, List, [], ◌∷◌, ◌++◌, append_assoc, get_or, length, Option, None, Some, refl, sym, ap, subst, ◌∙◌, arith}
use Rattle.std.specs.Prelude.{IfSome, not}
use Rattle.std.specs.FinMap as finmap
use Rattle.std.specs.Option.{option_map, option_or}
use Rattle.std.proofs.lemmas.List.{append-nil, map_push}
use Rattle.std.proofs.lemmas.List.Elements.{filter-append as list_filter-append}
use Rattle.hs_folders.specs.FileMaps.{FileMap}
use Rattle.hs_folders.specs.Moments.{Moments}
use Rattle.desk_journal.specs.declared.entry.Entry.{Entry}
use Rattle.desk_journal.specs.Entries.{AreEntries, EntryValue, IsJournal, entry_value, entry_values, is_named}
use Rattle.desk_journal.specs.Overlays.{put_all}
use Rattle.desk_journal.specs.Steps.{GoesThroughAll, changed_in, commit_steps, has_bytes, is_changed}
use Rattle.desk_journal.proofs.OverlayLaws.{get-put_all, last_of, same_name, same_name-other, same_name-true}
use Rattle.std.proofs.lemmas.Slice.Eq.{bytes_eq-Decides}
use Rattle.hs_folders.proofs.FileTrees.{same_files}

-- ---- fewer entries

named-append : (a b : List EntryValue) (name : List ℕ) → is_named (a ++ b) name ≡ (is_named a name || is_named b name)
named-append [] b name = refl
named-append (entry ∷ a) b name = grind (arith, nat_tests, common_steps, named-append a b name)

-- with fewer before them
entries_fewer : (before fewer entries : List EntryValue) → ((name : List ℕ) → is_named before name ≡ false → is_named fewer name ≡ false)
    → AreEntries before entries → AreEntries fewer entries
entries_fewer before fewer [] less form = tt
entries_fewer before fewer (entry ∷ entries) less form = (
  form.0,
  less entry.name form.1,
  entries_fewer (before ++ entry ∷ []) (fewer ++ entry ∷ []) entries
      (λ name none. grind (arith, nat_tests, common_steps, named-append before (entry ∷ []) name, named-append fewer (entry ∷ []) name, less name)) form.2,
)

-- without one of them
pub entries_without : (before front : List EntryValue) (entry : EntryValue) (rest : List EntryValue) → AreEntries before (front ++ entry ∷ rest)
    → AreEntries before (front ++ rest)
entries_without before [] entry rest form =
    entries_fewer (before ++ entry ∷ []) before rest
    (λ name none. grind (arith, nat_tests, common_steps, named-append before (entry ∷ []) name)) form.2
entries_without before (first ∷ front) entry rest form = (form.0, form.1, entries_without (before ++ first ∷ []) front entry rest form.2)

-- ---- the same files

-- a name that stood before is none of theirs
named_none : (before entries : List EntryValue) (q : List ℕ) → AreEntries before entries → is_named before q ≡ true → last_of q entries ≡ None
named_none before [] q form named = refl
named_none before (entry ∷ entries) q form named =
    let more : is_named (before ++ entry ∷ []) q ≡ true = named-append before (entry ∷ []) q
    ∙ ap (λ (b : Bool). b || is_named (entry ∷ []) q) named in
    let other : same_name q entry.name ≡ false = same_name-other q entry.name
    (λ e. let no : is_named before q ≡ false = ap (is_named before) e ∙ form.1 in cc) in
    rw (named_none (before ++ entry ∷ []) entries q form.2 more, other) refl

pub or_none : (a b : Option (List ℕ)) → option_or a b ≡ None → (a ≡ None) × (b ≡ None)
or_none None b none = (refl, none)
or_none (Some x) b none = absurd cc

changed_none : (held : FileMap) (entries : List EntryValue) (q : List ℕ) → last_of q entries ≡ None → last_of q (changed_in held entries) ≡ None
changed_none held [] q none = refl
changed_none held (entry ∷ entries) q none =
    let parts = or_none (last_of q entries) (cond (same_name q entry.name) (Some entry.bytes) None) none in
    by (is_changed held entry) (changed_none held entries q parts.0) parts.1
  where
    by : (test : Bool) → last_of q (changed_in held entries) ≡ None → cond (same_name q entry.name) (Some entry.bytes) None ≡ None
        → last_of q (cond test (entry ∷ changed_in held entries) (changed_in held entries)) ≡ None
    by true rest here = rw rest here
    by false rest here = rest

-- a file that does not change has the entry's bytes
same_bytes : (old : Option (List ℕ)) (bytes : List ℕ) → not (has_bytes old bytes) ≡ false → old ≡ Some bytes
same_bytes None bytes same = absurd cc
same_bytes (Some old) bytes same = grind (arith, nat_tests, common_steps, bytes_eq-Decides)

same_got : (held : FileMap) (before entries : List EntryValue) (q : List ℕ) → AreEntries before entries
    → option_or (last_of q (changed_in held entries)) (finmap.get held q) ≡ option_or (last_of q entries) (finmap.get held q)
same_got held before [] q form = refl
same_got held before (entry ∷ entries) q form =
    by (is_changed held entry) refl (same_name q entry.name) refl (same_got held (before ++ entry ∷ []) entries q form.2)
  where
    got : Option (List ℕ)
    got = finmap.get held q

    here_last : q ≡ entry.name → last_of q entries ≡ None
    here_last same = named_none (before ++ entry ∷ []) entries q form.2 (named-append before (entry ∷ []) q ∙ last_named same)
      where
        last_named : q ≡ entry.name → (is_named before q || is_named (entry ∷ []) q) ≡ true
        last_named same = grind (arith, nat_tests, common_steps, bytes_eq-Decides)

    by : (test : Bool) → is_changed held entry ≡ test → (same : Bool) → same_name q entry.name ≡ same
        → option_or (last_of q (changed_in held entries)) got ≡ option_or (last_of q entries) got
        → option_or (last_of q (cond test (entry ∷ changed_in held entries) (changed_in held entries))) got
        ≡ option_or (option_or (last_of q entries) (cond (same_name q entry.name) (Some entry.bytes) None)) got
    by true test false other rest = grind (arith, nat_tests, common_steps, rest, other)
    by false test false other rest = grind (arith, nat_tests, common_steps, rest, other)
    by true test true same rest =
        let none = here_last (same_name-true q entry.name same) in rw (none, changed_none held entries q none) refl
    by false test true same rest =
        let is = same_name-true q entry.name same in
        let none = here_last is in
        let there : got ≡ Some entry.bytes = ap (finmap.get held) is ∙ same_bytes (finmap.get held entry.name) entry.bytes test in
        rw (none, changed_none held entries q none, same, there) refl

pub put_all-changed : (held : FileMap) (entries : List EntryValue) → IsJournal entries → put_all (changed_in held entries) held ≡ put_all entries held
put_all-changed held entries form =
    same_files _ _ (λ q. get-put_all (changed_in held entries) held q ∙ (same_got held [] entries q form.1 ∙ sym (get-put_all entries held q)))

pub told_changed : (told : Option FileMap) (changed entries : List EntryValue) → IsJournal entries
    → IfSome told (λ held. changed ≡ changed_in held entries) → option_map (put_all changed) told ≡ option_map (put_all entries) told
told_changed None changed entries form is = refl
told_changed (Some held) changed entries form is = ap Some (ap (λ (e : List EntryValue). put_all e held) is ∙ put_all-changed held entries form)

-- ---- one entry after the other

-- where contents are told, these of the entries change a file
abbrev pub AreChanged : Option FileMap → List EntryValue → List EntryValue → Type 0
AreChanged told entries changed = IfSome told (λ held. changed ≡ changed_in held entries)

filter-append : (held : FileMap) (a b : List EntryValue) → changed_in held (a ++ b) ≡ changed_in held a ++ changed_in held b
filter-append held a b = list_filter-append (is_changed held) a b

pub changed_more : (told : Option FileMap) (entries changed : List EntryValue) (entry : EntryValue) → AreChanged told entries changed
    → IfSome told (λ held. true ≡ is_changed held entry) → AreChanged told (entries ++ entry ∷ []) (changed ++ entry ∷ [])
changed_more None entries changed entry so_far new = tt
changed_more (Some held) entries changed entry so_far new =
    ap (λ (e : List EntryValue). e ++ entry ∷ []) so_far ∙ sym (filter-append held entries (entry ∷ []) ∙ ap (λ (b : Bool). changed_in held entries
    ++ cond b (entry ∷ []) []) (sym new))

pub changed_same : (told : Option FileMap) (entries changed : List EntryValue) (entry : EntryValue) → AreChanged told entries changed
    → IfSome told (λ held. false ≡ is_changed held entry) → AreChanged told (entries ++ entry ∷ []) changed
changed_same None entries changed entry so_far same = tt
changed_same (Some held) entries changed entry so_far same =
    so_far ∙ sym (filter-append held entries (entry ∷ []) ∙ (ap (λ (b : Bool). changed_in held entries ++ cond b (entry ∷ []) []) (sym same)
    ∙ append-nil (changed_in held entries)))

values_push : (entries : List Entry) (entry : Entry) → entry_values (entries ++ entry ∷ []) ≡ entry_values entries ++ entry_value entry ∷ []
values_push entries entry = map_push entry_value entries entry

pub changed_pushed : (told : Option FileMap) (yielded changed : List Entry) (entry : Entry) {now : List Entry} → now ≡ changed ++ entry ∷ []
    → AreChanged told (entry_values yielded) (entry_values changed) → IfSome told (λ held. true ≡ is_changed held (entry_value entry))
    → AreChanged told (entry_values (yielded ++ entry ∷ [])) (entry_values now)
changed_pushed told yielded changed entry is so_far new =
    rw (is, values_push yielded entry, values_push changed entry)
    (changed_more told (entry_values yielded) (entry_values changed) (entry_value entry) so_far new)

pub changed_passed : (told : Option FileMap) (yielded changed : List Entry) (entry : Entry) → AreChanged told (entry_values yielded) (entry_values changed)
    → IfSome told (λ held. false ≡ is_changed held (entry_value entry)) → AreChanged told (entry_values (yielded ++ entry ∷ [])) (entry_values changed)
changed_passed told yielded changed entry so_far same =
    rw (values_push yielded entry) (changed_same told (entry_values yielded) (entry_values changed) (entry_value entry) so_far same)

pub form_pushed : (changed rest : List Entry) (entry : Entry) {now left : List Entry} → now ≡ changed ++ entry ∷ [] → left ≡ entry ∷ rest
    → AreEntries [] (entry_values changed ++ entry_values left) → AreEntries [] (entry_values now ++ entry_values rest)
form_pushed changed rest entry {now} {left} is step form =
    let form : AreEntries [] (entry_values changed ++ entry_value entry ∷ entry_values rest) =
    subst (λ (e : List Entry). AreEntries [] (entry_values changed ++ entry_values e)) step form in
    let same : entry_values now ++ entry_values rest ≡ entry_values changed ++ entry_value entry ∷ entry_values rest =
    ap (λ (e : List Entry). entry_values e ++ entry_values rest) is
    ∙ (ap (λ (e : List EntryValue). e ++ entry_values rest) (values_push changed entry)
    ∙ append_assoc (entry_values changed) (entry_value entry ∷ []) (entry_values rest)) in
    subst (AreEntries []) (sym same) form

pub form_passed : (changed rest : List Entry) (entry : Entry) {left : List Entry} → left ≡ entry ∷ rest
    → AreEntries [] (entry_values changed ++ entry_values left) → AreEntries [] (entry_values changed ++ entry_values rest)
form_passed changed rest entry step form =
    entries_without [] (entry_values changed) (entry_value entry) (entry_values rest)
    (subst (λ (e : List Entry). AreEntries [] (entry_values changed ++ entry_values e)) step form)

pub one_entry : (entries : List Entry) {item : Entry} → 1 ≤ length entries → length entries ≤ 1 → item ≡ get_or entries 0 item
    → entry_values entries ≡ entry_value item ∷ []
one_entry [] some few is = absurd (omega arith)
one_entry (entry ∷ []) some few is = ap (λ (e : Entry). entry_value e ∷ []) (sym is)
one_entry (entry ∷ other ∷ entries) some few is = absurd (omega arith)

-- ---- where contents are told

pub told_all : (told : Option FileMap) (entries changed : List EntryValue) (old new : Moments) → AreChanged told entries changed
    → IfSome told (λ held. GoesThroughAll (commit_steps changed (Some held)) old new)
    → IfSome told (λ held. GoesThroughAll (commit_steps (changed_in held entries) (Some held)) old new)
told_all None entries changed old new are it = tt
told_all (Some held) entries changed old new are it = subst (λ (e : List EntryValue). GoesThroughAll (commit_steps e (Some held)) old new) are it
