-- The lines of slots: what is read is such lines, and such lines are read.
use Rattle.std.proofs.lemmas.Bool.Decides.{nat_tests}
use Rattle.std.proofs.lemmas.Grind.{common_steps}
use Rattle.std.proofs.Common.{◌≡◌, ℕ, zero, suc, ◌+◌, ◌<◌, ◌≤◌, Bool, true, false, cond, eqb, List, [], ◌∷◌, ◌++◌, length, get_or, take, Result, Ok, Err, refl}
use Rattle.std.proofs.Common.{sym, ap, subst, ◌∙◌, arith, inl, inr}
use Rattle.std.specs.Prelude.{◌||◌, ◌≢◌, not}
use Rattle.std.specs.List.{AllByRecursion, list_any}
use Rattle.std.proofs.lemmas.Bool.{and_parts, cases_lt, eqb-false, eqb-true, ne_eqb}
use Rattle.std.proofs.lemmas.List.{append-nil, append_assoc, length-append, length-map, length-take, map-append, nil_from_length}
use Rattle.pdb_values.specs.declared.user.Marks.{Marks}
use Rattle.folder_files.specs.InfoFiles.{AreSaid, IsSlotSaid, if_follows, is_parted_line, marks_of, parted_at, parted_values, said_of, slot_form, slot_forms}
use Rattle.folder_files.specs.InfoFiles.{slot_lines, slot_values, slots_at, with_parted}
use Rattle.folder_files.specs.Lines.{AreLines, LineForm, Number, Says, SaysNumber, Slot, Value, Values, lines_text, text_of}
use Rattle.folder_files.specs.Partings.{StemsRise}
use Rattle.folder_files.specs.Reading.{◌>>=◌, line_at, lines_at}
use Rattle.folder_files.specs.Slots.{AreUsers, SlotInfoValue, all_marks, is_user, may_follow, pc_of, users_of}
use Rattle.folder_files.specs.Views.{FindsUnless}
use Rattle.folder_files.specs.declared.fault.LineFault.{LineFault}
use Rattle.folder_files.specs.declared.fault.LineFault.TheVariants.{Left, OutOfMemory}
use Rattle.folder_files.specs.declared.parted.Parted.{Parted}
use Rattle.folder_files.specs.declared.unread.Unread.{Unread}
use Rattle.folder_files.proofs.LineLaws.{bind_ok, line_found, line_only, ok_is}
use Rattle.folder_files.proofs.PartedLaws.{parted-text, parted_found, parted_only}
use Rattle.folder_files.proofs.ValueLaws.{slot_key-no_feed}

-- ---- users

-- no slot has the user
abbrev HasNone : List Marks → ℕ → Type 0
HasNone slots user = (i : ℕ) → i < length slots → get_or (users_of slots) i 0 ≢ user

none_has : (slots : List Marks) (user : ℕ) → HasNone slots user → is_user slots user ≡ false
none_has [] user none = refl
none_has (marks ∷ slots) user none =
    let first : eqb marks.user user ≡ false = ne_eqb _ _ (none 0 (omega arith)) in
    rw first (none_has slots user (λ i less. none (suc i) (omega arith)))

has_none : (slots : List Marks) (user : ℕ) → is_user slots user ≡ false → HasNone slots user
has_none [] user none i less = absurd (omega arith)
has_none (marks ∷ slots) user none zero less = grind (arith, nat_tests, common_steps)
has_none (marks ∷ slots) user none (suc i) less = grind (arith, nat_tests, common_steps, has_none slots user)

pub not_true : (b : Bool) → not b ≡ true → b ≡ false
not_true b e = grind arith

or_second : (a b : Bool) → a ≡ false → (a || b) ≡ true → b ≡ true
or_second a b none e = cc

users-length : (slots : List Marks) → length (users_of slots) ≡ length slots
users-length slots = length-map slots (λ marks. marks.user)

front_user : (before more : List Marks) (i : ℕ) → i < length before → get_or (users_of (before ++ more)) i 0 ≡ get_or (users_of before) i 0
front_user before more i less = grind (arith, nat_tests, common_steps)

next_user : (before : List Marks) (marks : Marks) (more : List Marks) → get_or (users_of (before ++ marks ∷ more)) (length before) 0 ≡ marks.user
next_user before marks more = grind (arith, nat_tests, common_steps)

next_place : (before : List Marks) (marks : Marks) (more : List Marks) → length before < length (users_of (before ++ marks ∷ more))
next_place before marks more = grind (arith, nat_tests, common_steps)

may_come : (before : List Marks) (marks : Marks) (more : List Marks) → AreUsers (users_of (before ++ marks ∷ more)) → may_follow before marks.user ≡ true
may_come [] marks more users = refl
may_come (first ∷ before) marks more users =
    let all : List Marks = first ∷ before in
    let place = next_place all marks more in
    let own = next_user all marks more in
    let some : eqb marks.user 0 ≡ false = ne_eqb _ _ (λ e. (users 0 (length all) (omega arith) place).0 (own ∙ e)) in
    let none : HasNone all marks.user = λ i less e. (users i (length all) less place).1 (front_user all (marks ∷ more) i less ∙ (e ∙ sym own)) in
    let there : eqb (length all) 0 ≡ false = ne_eqb _ _ (λ e. omega arith) in
    rw (there, some, none_has all marks.user none) refl

-- the users with one more
users_more : (before : List Marks) (marks : Marks) → AreUsers (users_of before) → may_follow before marks.user ≡ true
    → AreUsers (users_of (before ++ marks ∷ []))
users_more [] marks users may i j less short = absurd (omega arith)
users_more (first ∷ before) marks users may i j less short =
    let all : List Marks = first ∷ before in
    let there : eqb (length all) 0 ≡ false = ne_eqb _ _ (λ e. omega arith) in
    let tests = and_parts (not (eqb marks.user 0)) (not (is_user all marks.user)) (or_second _ _ there may) in
    let count = users-length (all ++ marks ∷ []) in
    let long = length-append all (marks ∷ []) in
    let own = next_user all marks [] in
    elim (cases_lt j (length all)) [
      | inl old ↦
          let pair = users i j less (omega (arith, users-length all)) in
          let at_j = front_user all (marks ∷ []) j old in
          let at_i = front_user all (marks ∷ []) i (omega arith) in
          (λ e. pair.0 (sym at_j ∙ e), λ e. pair.1 (sym at_i ∙ (e ∙ at_j)))
      | inr past ↦
          let last : j ≡ length all = omega (arith, count, long) in
          let at_j : get_or (users_of (all ++ marks ∷ [])) j 0 ≡ marks.user = ap (λ (k : ℕ). get_or (users_of (all ++ marks ∷ [])) k 0) last ∙ own in
          let at_i = front_user all (marks ∷ []) i (omega arith) in
          (λ e. eqb-false _ _ (not_true _ tests.0) (sym at_j ∙ e), λ e. has_none all marks.user (not_true _ tests.1) i (omega arith) (sym at_i ∙ (e ∙ at_j)))
    ]

-- ---- lines

pub is_user-infos : (infos : List SlotInfoValue) (user : ℕ) → list_any (λ info. eqb info.marks.user user) infos ≡ is_user (all_marks infos) user
is_user-infos [] user = refl
is_user-infos (info ∷ infos) user = ap (λ (b : Bool). eqb info.marks.user user || b) (is_user-infos infos user)

-- the marks of slots with others behind them
marks-append : (before more : List SlotInfoValue) → all_marks (before ++ more) ≡ all_marks before ++ all_marks more
marks-append before more = map-append (λ info. info.marks) before more

pub marks-length : (infos : List SlotInfoValue) → length (all_marks infos) ≡ length infos
marks-length infos = length-map infos (λ info. info.marks)

users-push : (before : List SlotInfoValue) (info : SlotInfoValue) → AreUsers (users_of (all_marks before)) → may_follow (all_marks before) info.marks.user ≡ true
    → AreUsers (users_of (all_marks (before ++ info ∷ [])))
users-push before info users may =
    subst (λ (marks : List Marks). AreUsers (users_of marks)) (sym (marks-append before (info ∷ []))) (users_more (all_marks before) info.marks users may)

users-follow : (before : List SlotInfoValue) (info : SlotInfoValue) (more : List SlotInfoValue) → AreUsers (users_of (all_marks (before ++ info ∷ more)))
    → may_follow (all_marks before) info.marks.user ≡ true
users-follow before info more users =
    may_come (all_marks before) info.marks (all_marks more) (subst (λ (marks : List Marks). AreUsers (users_of marks)) (marks-append before (info ∷ more)) users)

-- a slot that isn't the first may have a user who isn't 0 and whom none has
pub may_follow-more : (infos : List SlotInfoValue) (user : ℕ) (used : Bool) → (length infos ≡ 0 → ⊥) → (user ≡ 0 → ⊥)
    → used ≡ list_any (λ info. eqb info.marks.user user) infos → not used ≡ may_follow (all_marks infos) user
may_follow-more infos user used some other is =
    let there : eqb (length (all_marks infos)) 0 ≡ false = ne_eqb _ _ (λ e. some (sym (marks-length infos) ∙ e)) in
    let known : eqb user 0 ≡ false = ne_eqb _ _ other in
    rw (there, known, sym (is ∙ is_user-infos infos user)) refl

-- at most so many databases of each slot took no part, and their stems rise
pub record AreRoomy (room : ℕ) (infos : List SlotInfoValue) : Type 0 where
  pub few : AllByRecursion (λ info. length info.parted ≤ room) infos
  pub rise : AllByRecursion (λ info. StemsRise info.parted) infos

-- what was read behind the slots before
pub record ReadsMore (room pc count : ℕ) (before all : List SlotInfoValue) (bytes : List ℕ) : Type 0 where
  pub more : List SlotInfoValue
  pub whole : all ≡ before ++ more
  pub number : length more ≡ count
  pub one_desktop : AllByRecursion (λ marks. marks.pc ≡ pc) (all_marks more)
  pub parted : AreRoomy room more
  pub lines : AreLines (slot_forms (length before) more) (slot_values (length before) more) bytes
  pub users : AreUsers (users_of (all_marks before)) → AreUsers (users_of (all_marks all))

follows_ok : (before : List SlotInfoValue) (marks : Marks) (bytes : List ℕ) (found : Marks) → if_follows before marks bytes ≡ Ok found
    → (may_follow (all_marks before) marks.user ≡ true) × (marks ≡ found)
follows_ok before marks bytes found e = grind arith

no_slot_more : (room pc : ℕ) (before : List SlotInfoValue) (bytes : List ℕ) (all : List SlotInfoValue) → length bytes ≡ 0 → before ≡ all
    → ReadsMore room pc 0 before all bytes
no_slot_more room pc before bytes all none same = record {
  more = [];
  whole = sym same ∙ sym (append-nil before);
  number = refl;
  one_desktop = tt;
  parted = record { few = tt; rise = tt };
  lines = nil_from_length bytes none;
  users = λ users. subst (λ (infos : List SlotInfoValue). AreUsers (users_of (all_marks infos))) same users;
}

place-push : (before : List SlotInfoValue) (info : SlotInfoValue) → length (before ++ info ∷ []) ≡ suc (length before)
place-push before info = omega (arith, length-append before (info ∷ []))

-- a slot in front of those that were read
one_slot_more : (room pc count : ℕ) (before : List SlotInfoValue) (info : SlotInfoValue) (all : List SlotInfoValue) (bytes text behind rest : List ℕ)
    → bytes ≡ (slot_form (length before)).key ++ (text ++ 10 ∷ behind) → Says Slot (said_of info.marks) text → info.marks.pc ≡ pc
    → may_follow (all_marks before) info.marks.user ≡ true → length info.parted ≤ room → StemsRise info.parted
    → ((forms : List LineForm) (values : Values forms) → AreLines forms values rest → AreLines (with_parted info.parted forms) (parted_values info.parted forms values) behind)
    → ReadsMore room pc count (before ++ info ∷ []) all rest → ReadsMore room pc (suc count) before all bytes
one_slot_more room pc count before info all bytes text behind rest is says own may few rise lines later = record {
  more = info ∷ later.more;
  whole = later.whole ∙ append_assoc before (info ∷ []) later.more;
  number = omega (arith, later.number);
  one_desktop = (own, later.one_desktop);
  parted = record { few = (few, later.parted.few); rise = (rise, later.parted.rise) };
  lines = (
    text,
    behind,
    is,
    says,
    lines (slot_forms (suc (length before)) later.more) (slot_values (suc (length before)) later.more)
        (subst (λ (k : ℕ). AreLines (slot_forms k later.more) (slot_values k later.more) rest) (place-push before info) later.lines),
  );
  users = λ users. later.users (users-push before info users may);
}

pub slots_found : (room pc count : ℕ) (before : List SlotInfoValue) (bytes : List ℕ) (all : List SlotInfoValue) → slots_at room pc count before bytes ≡ Ok all
    → ReadsMore room pc count before all bytes
unfolding slots_at
slots_found room pc zero before bytes all e = empty (eqb (length bytes) 0) refl e
  where
    empty : (b : Bool) → eqb (length bytes) 0 ≡ b → cond {A = Result (List SlotInfoValue) Unread} b (Ok before) (Err (record { 0 = length bytes })) ≡ Ok all
        → ReadsMore room pc 0 before all bytes
    empty false is e = absurd cc
    empty true is e = no_slot_more room pc before bytes all (eqb-true _ _ is) (ok_is _ _ e)
slots_found room pc (suc count) before bytes all e =
    let line = bind_ok (line_at (slot_form (length before)) bytes) _ all e in
    let next = bind_ok (if_follows before (marks_of pc line.0.0) bytes) _ all line.2 in
    let step = follows_ok before (marks_of pc line.0.0) bytes next.0 next.1 in
    let parted = bind_ok (parted_at room [] line.0.1) _ all next.2 in
    let read = parted_found room [] line.0.1 parted.0 parted.1 in
    let info : SlotInfoValue = record { marks = next.0; parted = parted.0.0 } in
    let found = line_found (slot_form (length before)) bytes line.0 line.1 in
    one_slot_more room pc count before info all bytes found.0 line.0.1 parted.0.1 found.1
    (subst (λ (marks : Marks). Says Slot (said_of marks) found.0) step.1 found.2)
    (ap (λ (marks : Marks). marks.pc) (sym step.1))
    (subst (λ (marks : Marks). may_follow (all_marks before) marks.user ≡ true) step.1 step.0)
    (subst (λ (p : List Parted). length p ≤ room) (sym read.whole) read.few)
    (read.rise tt)
    (λ forms values lines. subst (λ (p : List Parted). AreLines (with_parted p forms) (parted_values p forms values) line.0.1) (sym read.whole)
    (read.lines forms values lines))
    (slots_found room pc count (before ++ info ∷ []) parted.0.1 all parted.2)

-- the lines of slots begin with no word of a database
slots_end_parted : (number : ℕ) (infos : List SlotInfoValue) (rest : List ℕ) → AreLines (slot_forms number infos) (slot_values number infos) rest
    → is_parted_line rest ≡ false
slots_end_parted number [] rest is = ap is_parted_line is
slots_end_parted number (info ∷ infos) rest is = ap is_parted_line is.2

-- a slot more
slots-step : (room pc left : ℕ) (before : List SlotInfoValue) (info : SlotInfoValue) (bytes behind rest : List ℕ)
    → line_at (slot_form (length before)) bytes ≡ Ok (said_of info.marks, behind) → info.marks.pc ≡ pc → may_follow (all_marks before) info.marks.user ≡ true
    → parted_at room [] behind ≡ Ok (info.parted, rest) → slots_at room pc (suc left) before bytes ≡ slots_at room pc left (before ++ info ∷ []) rest
unfolding slots_at
slots-step room pc left before info bytes behind rest line own may parted =
    let same : marks_of pc (said_of info.marks) ≡ info.marks = ap (λ (p : ℕ). marks_of p (said_of info.marks)) (sym own) in
    rw (line, same, may, parted) refl

pub slots_only : (room pc : ℕ) (before more : List SlotInfoValue) (bytes : List ℕ) → AllByRecursion (λ marks. marks.pc ≡ pc) (all_marks more)
    → length before + length more ≤ 16 → AreUsers (users_of (all_marks (before ++ more))) → AreRoomy room more
    → AreLines (slot_forms (length before) more) (slot_values (length before) more) bytes → slots_at room pc (length more) before bytes ≡ Ok (before ++ more)
unfolding slots_at
slots_only room pc before [] bytes one few users roomy lines = cc (append-nil before)
slots_only room pc before (info ∷ more) bytes one few users roomy lines =
    let line : line_at (slot_form (length before)) bytes ≡ Ok (said_of info.marks, lines.1) =
    ap (line_at (slot_form (length before))) lines.2 ∙ line_only (slot_form (length before)) (said_of info.marks) lines.0 lines.1
    (slot_key-no_feed (length before) (omega arith)) lines.3 in
    let may = users-follow before info more users in
    let parted = parted_only (slot_forms (suc (length before)) more) (slot_values (suc (length before)) more) room [] info.parted lines.1 roomy.few.0 roomy.rise.0 lines.4
    (slots_end_parted (suc (length before)) more) in
    let whole : (before ++ info ∷ []) ++ more ≡ before ++ info ∷ more = append_assoc before (info ∷ []) more in
    let later = slots_only room pc (before ++ info ∷ []) more parted.0 one.1 (omega (arith, place-push before info))
    (subst (λ (infos : List SlotInfoValue). AreUsers (users_of (all_marks infos))) (sym whole) users)
    (record { few = roomy.few.1; rise = roomy.rise.1 })
    (subst (λ (k : ℕ). AreLines (slot_forms k more) (slot_values k more) parted.0) (sym (place-push before info)) parted.1) in
    slots-step room pc (length more) before info bytes lines.1 parted.0 line one.0 may parted.2
    ∙ (later ∙ ap (λ (infos : List SlotInfoValue). let r : Result (List SlotInfoValue) Unread = Ok infos in r) whole)

-- ---- line by line

pub slots_stop : (room pc left : ℕ) (before : List SlotInfoValue) (key bytes : List ℕ) (unread : Unread) → 0 < left → key ≡ (slot_form (length before)).key
    → line_at (record { key = key; kind = Slot }) bytes ≡ Err unread → slots_at room pc left before bytes ≡ Err unread
unfolding slots_at
slots_stop room pc left before key bytes unread some is line = grind arith

pub slots_refused : (room pc left : ℕ) (before : List SlotInfoValue) (key bytes : List ℕ) (found : Value Slot × List ℕ) → 0 < left
    → key ≡ (slot_form (length before)).key → line_at (record { key = key; kind = Slot }) bytes ≡ Ok found → may_follow (all_marks before) found.0.0 ≡ false
    → slots_at room pc left before bytes ≡ Err (record { 0 = length bytes })
unfolding slots_at
slots_refused room pc left before key bytes found some is line may = grind arith

pub slots_stop_parted : (room pc left : ℕ) (before : List SlotInfoValue) (key bytes : List ℕ) (found : Value Slot × List ℕ) → 0 < left
    → key ≡ (slot_form (length before)).key → line_at (record { key = key; kind = Slot }) bytes ≡ Ok found → may_follow (all_marks before) found.0.0 ≡ true
    → (unread : Unread) → parted_at room [] found.1 ≡ Err unread → slots_at room pc left before bytes ≡ Err unread
unfolding slots_at
slots_stop_parted room pc left before key bytes found some is line may unread parted = grind arith

-- a fault of the lines of databases is one of those of slots
pub stop_unless : {A B C D : Type 0} (view : A → B) (other : C → D) (fault : LineFault) (said : Result B Unread) (all : Result D Unread)
    → ((unread : Unread) → said ≡ Err unread → all ≡ Err unread) → FindsUnless view (Err fault) said → FindsUnless other (Err fault) all
stop_unless view other (Left unread) said all stop is = stop unread is
stop_unless view other OutOfMemory said all stop is = tt

pub slots_more : (room pc left : ℕ) (before : List SlotInfoValue) (key bytes : List ℕ) (found : Value Slot × List ℕ) (parted : List Parted) (rest : List ℕ)
    → key ≡ (slot_form (length before)).key → line_at (record { key = key; kind = Slot }) bytes ≡ Ok found → may_follow (all_marks before) found.0.0 ≡ true
    → parted_at room [] found.1 ≡ Ok (parted, rest)
    → slots_at room pc (suc left) before bytes ≡ slots_at room pc left (before ++ record { marks = marks_of pc found.0; parted = parted } ∷ []) rest
unfolding slots_at
slots_more room pc left before key bytes found parted rest is line may read = cc

pub slots_end : (room pc left : ℕ) (before : List SlotInfoValue) (bytes : List ℕ) (end : Result (Unit {0}) Unread) → left ≡ 0 → end ≡ lines_at [] bytes
    → slots_at room pc left before bytes ≡ (end >>= λ _. Ok before)
unfolding slots_at
slots_end room pc left before bytes end none is = grind arith

-- ---- what is written

-- the lines of slots with one more behind them
pub lines-push : (number : ℕ) (infos : List SlotInfoValue) (info : SlotInfoValue)
    → lines_text (slot_forms number (infos ++ info ∷ [])) (slot_values number (infos ++ info ∷ [])) ≡ lines_text (slot_forms number infos)
    (slot_values number infos) ++ slot_lines (number + length infos) info
lines-push number [] info = grind (arith, nat_tests, common_steps, parted-text, append_assoc)
lines-push number (first ∷ infos) info = grind (arith, nat_tests, common_steps, parted-text, append_assoc, lines-push (suc number) infos info)

abbrev pub lines_of : List SlotInfoValue → List ℕ
lines_of infos = lines_text (slot_forms 0 infos) (slot_values 0 infos)

one_more : (infos : List SlotInfoValue) (place : ℕ) (info : SlotInfoValue) → place < length infos → info ≡ get_or infos place info
    → take (place + 1) infos ≡ take place infos ++ info ∷ []
one_more infos place info less is = grind (arith, nat_tests, common_steps)

pub text_more : (front : List ℕ) (infos : List SlotInfoValue) (place : ℕ) (info : SlotInfoValue) → place < length infos → info ≡ get_or infos place info
    → (front ++ lines_of (take place infos)) ++ slot_lines place info ≡ front ++ lines_of (take (place + 1) infos)
text_more front infos place info less is = grind (arith, nat_tests, common_steps, length-take, append_assoc, lines_of, lines-push, one_more)

pub said_more : (infos : List SlotInfoValue) (place : ℕ) (info : SlotInfoValue) → place < length infos → info ≡ get_or infos place info
    → AllByRecursion IsSlotSaid (take place infos) → IsSlotSaid info → AllByRecursion IsSlotSaid (take (place + 1) infos)
said_more infos place info less is said here = grind (arith, nat_tests, common_steps)

-- the number of the desktop is that of its first slot
pub first-pc : (infos : List SlotInfoValue) (marks : Marks) (d : SlotInfoValue) → 1 ≤ length (all_marks infos) → marks ≡ (get_or infos 0 d).marks
    → marks.pc ≡ pc_of (all_marks infos)
first-pc [] marks d some is = absurd (omega arith)
first-pc (info ∷ infos) marks d some is = ap (λ (m : Marks). m.pc) is

pub said_all : (infos : List SlotInfoValue) (place : ℕ) (d : SlotInfoValue) → length infos ≤ place → 0 < length infos
    → SaysNumber (get_or infos 0 d).marks.pc (text_of Number (get_or infos 0 d).marks.pc) → AllByRecursion IsSlotSaid (take place infos) → AreSaid infos
said_all infos place d past some number said = grind (arith, nat_tests, common_steps)
