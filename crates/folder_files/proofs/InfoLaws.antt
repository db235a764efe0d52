-- Information files: what is read is one, each one is read, and what is written is one.
use Rattle.std.proofs.lemmas.Bool.Decides.{nat_tests}
use Rattle.std.proofs.lemmas.Grind.{common_steps}
use Rattle.std.proofs.Common.{◌≡◌, ℕ, suc, ◌<◌, ◌≤◌, Bool, true, false, cond, List, [], ◌∷◌, ◌++◌, length, Result, Ok, refl, sym, ap, subst, ◌∙◌, arith, inl, inr}
use Rattle.std.specs.Prelude.{IfOk, String, string_bytes}
use Rattle.std.specs.declared.alloc.Global.{Global}
use Rattle.std.specs.Global.{Vec}
use Rattle.std.specs.List.{AllByRecursion}
use Rattle.pdb_values.specs.declared.user.Marks.{Marks}
use Rattle.pdb_values.specs.declared.user.UserInfo.{UserInfo}
use Rattle.folder_files.specs.InfoFiles.{AreSaid, IsDesktopFile, IsDeviceFile, IsSlotSaid, IsSlotsFile, count_form, desktop_forms, desktop_in, desktop_text, desktop_values}
use Rattle.folder_files.specs.InfoFiles.{device_forms, device_in, device_of, device_values, has_parted, is_one_user, is_third, made, many_slots_at, one_slot_at, one_slot_of}
use Rattle.folder_files.specs.InfoFiles.{one_user_forms, one_user_values, pc_form, plain_info, room_in, slot_forms, slot_values, title_form}
use Rattle.folder_files.specs.Lines.{AreLines, Count, Positive, Says, Values}
use Rattle.folder_files.specs.Partings.{StemsRise, most_parted}
use Rattle.folder_files.specs.Reading.{◌>>=◌, line_at, lines_at}
use Rattle.folder_files.specs.Slots.{AllRise, AreSlots, AreUsers, SlotInfoValue, all_marks, pc_of, users_of}
use Rattle.folder_files.specs.Views.{Reads}
use Rattle.folder_files.specs.declared.bad_line.BadLine.{BadLine}
use Rattle.folder_files.specs.declared.fault.InfoFault.{InfoFault}
use Rattle.folder_files.specs.declared.unread.Unread.{Unread}
use Rattle.folder_files.proofs.HexLaws.{HasNoFeed}
use Rattle.folder_files.proofs.LineLaws.{AllSay, ArePlain, bind_ok, line_found, line_only, lines_found, lines_only, lines_written, ok_is}
use Rattle.folder_files.proofs.PartedLaws.{parted-say}
use Rattle.folder_files.proofs.SlotLaws.{AreRoomy, marks-length, slots_found, slots_only}

made_of : {A B : Type 0} (make : A → B) (bytes : List ℕ) (r : Result A Unread) (y : B) → made make bytes r ≡ Ok y → (x : A) × (r ≡ Ok x) × (make x ≡ y)
made_of make bytes r y e = grind arith

device_plain : ArePlain device_forms
device_plain = (refl, (refl, (refl, (refl, (refl, (refl, (refl, (refl, tt))))))))

one_user_plain : ArePlain one_user_forms
one_user_plain = (refl, (refl, (refl, (refl, (refl, tt)))))

pub device_found : (bytes : List ℕ) (info : UserInfo) → device_in bytes ≡ Ok info → IsDeviceFile info bytes
unfolding device_in
device_found bytes info e =
    let is = made_of device_of bytes (lines_at device_forms bytes) info e in
    subst (λ (i : UserInfo). IsDeviceFile i bytes) is.2 (lines_found device_forms bytes is.0 is.1)

pub device_only : (bytes : List ℕ) (info : UserInfo) → IsDeviceFile info bytes → device_in bytes ≡ Ok info
unfolding device_in
device_only bytes info is = cc (lines_only device_forms (device_values info) bytes device_plain is)

pub if_ok_then : {A E : Type 0} (r : Result A E) (P Q : A → Type 0) → ((x : A) → P x → Q x) → IfOk r P → IfOk r Q
if_ok_then r P Q fact if_ok = grind arith

-- ---- a desktop with one user

one_slot : (marks : Marks) → 0 < marks.pc → AreSlots (all_marks (plain_info marks ∷ []))
one_slot marks some = grind arith

one_rises : (marks : Marks) → AllRise (plain_info marks ∷ [])
one_rises marks = (record { few = omega arith; rise = tt }, tt)

one_slot_found : (bytes : List ℕ) (infos : List SlotInfoValue) → one_slot_at bytes ≡ Ok infos → IsDesktopFile infos bytes
unfolding one_slot_at
one_slot_found bytes infos e =
    let is = bind_ok (lines_at one_user_forms bytes) (λ values. Ok (one_slot_of values)) infos e in
    let lines = lines_found one_user_forms bytes is.0 is.1 in
    let marks : Marks = record { pc = is.0.1.0; user = is.0.1.1.0; last = is.0.1.1.1.0; name = is.0.1.1.1.1.0 } in
    subst (λ (i : List SlotInfoValue). IsDesktopFile i bytes) (ok_is (one_slot_of is.0) infos is.2)
    (record { formed = one_slot marks lines.4.3.2; rise = one_rises marks; lines = inl (record { marks = marks; one = refl; lines = lines }) })

one_slot_only : (bytes : List ℕ) (marks : Marks) → AreLines one_user_forms (one_user_values marks) bytes → one_slot_at bytes ≡ Ok (plain_info marks ∷ [])
unfolding one_slot_at
one_slot_only bytes marks is = ap (λ (r : Result (Values one_user_forms) Unread). r >>= λ values. Ok (one_slot_of values))
    (lines_only one_user_forms (one_user_values marks) bytes one_user_plain is)

one_user_title : (bytes : List ℕ) (marks : Marks) → AreLines one_user_forms (one_user_values marks) bytes → is_one_user bytes ≡ true
one_user_title bytes marks is = cc

-- ---- a desktop with slots

-- the first line of either version
title_told : (third : Bool) (rest : List ℕ) → (is_one_user ((title_form third).key ++ rest) ≡ false) × (is_third ((title_form third).key ++ rest) ≡ third)
title_told true rest = (refl, refl)
title_told false rest = (refl, refl)

title-no_feed : (third : Bool) → HasNoFeed (title_form third).key
title-no_feed true = refl
title-no_feed false = refl

few_in : (third : Bool) (count : ℕ) → count ≤ room_in third → count ≤ most_parted
few_in true count few = few
few_in false count few = omega arith

all_rise : (third : Bool) (infos : List SlotInfoValue) → AreRoomy (room_in third) infos → AllRise infos
all_rise third [] roomy = tt
all_rise third (info ∷ infos) roomy = (
  record { few = few_in third (length info.parted) roomy.few.0; rise = roomy.rise.0 },
  all_rise third infos (record { few = roomy.few.1; rise = roomy.rise.1 }),
)

each_rise : (infos : List SlotInfoValue) → AllRise infos → AllByRecursion (λ info. StemsRise info.parted) infos
each_rise [] rise = tt
each_rise (info ∷ infos) rise = (rise.0.rise, each_rise infos rise.1)

first_pc : (pc : ℕ) (marks : List Marks) → 1 ≤ length marks → AllByRecursion (λ marks. marks.pc ≡ pc) marks → pc ≡ pc_of marks
first_pc pc [] some one = absurd (omega arith)
first_pc pc (marks ∷ more) some one = sym one.0

many_slots_found : (third : Bool) (bytes : List ℕ) (infos : List SlotInfoValue) → many_slots_at third bytes ≡ Ok infos → IsDesktopFile infos bytes
unfolding many_slots_at
many_slots_found third bytes infos e =
    let title = bind_ok (line_at (title_form third) bytes) _ infos e in
    let pc = bind_ok (line_at pc_form title.0.1) _ infos title.2 in
    let count = bind_ok (line_at count_form pc.0.1) _ infos pc.2 in
    let read = slots_found (room_in third) pc.0.0 count.0.0 [] count.0.1 infos count.2 in
    let title_line = line_found (title_form third) bytes title.0 title.1 in
    let pc_line = line_found pc_form title.0.1 pc.0 pc.1 in
    let count_line = line_found count_form pc.0.1 count.0 count.1 in
    let long = marks-length read.more in
    let some : 1 ≤ length (all_marks read.more) = omega (arith, long, read.number, count_line.2.1) in
    let number : pc.0.0 ≡ pc_of (all_marks read.more) = first_pc pc.0.0 (all_marks read.more) some read.one_desktop in
    subst (λ (i : List SlotInfoValue). IsDesktopFile i bytes) (sym read.whole) (record {
      formed = record {
        some = some;
        few = omega (arith, long, read.number, count_line.2.2);
        number = subst (λ (n : ℕ). 0 < n) number pc_line.2.2;
        one_desktop = subst (λ (n : ℕ). AllByRecursion (λ marks. marks.pc ≡ n) (all_marks read.more)) number read.one_desktop;
        users = subst (λ (i : List SlotInfoValue). AreUsers (users_of (all_marks i))) read.whole (read.users (λ i j less short. absurd (omega arith)));
      };
      rise = all_rise third read.more read.parted;
      lines = inr (record {
        third = third;
        room = read.parted.few;
        lines = (
          title_line.0,
          title.0.1,
          title_line.1,
          title_line.2,
          (
            pc_line.0,
            pc.0.1,
            pc_line.1,
            subst (λ (n : ℕ). Says Positive n pc_line.0) number pc_line.2,
            (count_line.0, count.0.1, count_line.1, subst (λ (n : ℕ). Says Count n count_line.0) (sym read.number) count_line.2, read.lines),
          ),
        );
      });
    })

many_slots_only : (bytes : List ℕ) (infos : List SlotInfoValue) → AreSlots (all_marks infos) → AllRise infos → (file : IsSlotsFile infos bytes)
    → many_slots_at file.third bytes ≡ Ok infos
unfolding many_slots_at
many_slots_only bytes infos formed rise file =
    let is = file.lines in
    let title : line_at (title_form file.third) bytes ≡ Ok (tt, is.1) =
    ap (line_at (title_form file.third)) is.2 ∙ line_only (title_form file.third) tt is.0 is.1 (title-no_feed file.third) is.3 in
    let pc : line_at pc_form is.1 ≡ Ok (pc_of (all_marks infos), is.4.1) =
    ap (line_at pc_form) is.4.2 ∙ line_only pc_form (pc_of (all_marks infos)) is.4.0 is.4.1 refl is.4.3 in
    let count : line_at count_form is.4.1 ≡ Ok (length infos, is.4.4.1) = ap (line_at count_form) is.4.4.2 ∙ line_only count_form (length infos) is.4.4.0
    is.4.4.1 refl is.4.4.3 in
    rw title (rw pc (rw count (slots_only (room_in file.third) (pc_of (all_marks infos)) [] infos is.4.4.1 formed.one_desktop
    (omega (arith, formed.few, marks-length infos)) formed.users (record { few = file.room; rise = each_rise infos rise }) is.4.4.4)))

-- ---- a desktop

whole_of : (bytes : List ℕ) (r : Result (List SlotInfoValue) Unread) (infos : List SlotInfoValue) → made (λ i. i) bytes r ≡ Ok infos → r ≡ Ok infos
whole_of bytes r infos e = grind arith

pub desktop_found : (bytes : List ℕ) (infos : List SlotInfoValue) → desktop_in bytes ≡ Ok infos → IsDesktopFile infos bytes
unfolding desktop_in
desktop_found bytes infos e = by (is_one_user bytes) (whole_of bytes _ infos e)
  where
    by : (one : Bool) → cond one (one_slot_at bytes) (many_slots_at (is_third bytes) bytes) ≡ Ok infos → IsDesktopFile infos bytes
    by true e = one_slot_found bytes infos e
    by false e = many_slots_found (is_third bytes) bytes infos e

pub desktop_only : (bytes : List ℕ) (infos : List SlotInfoValue) → IsDesktopFile infos bytes → desktop_in bytes ≡ Ok infos
unfolding desktop_in
desktop_only bytes infos is =
    elim is.lines [
      | inl one ↦
          let here = one_user_title bytes one.marks one.lines in
          rw here (ap (made (λ i. i) bytes) (one_slot_only bytes one.marks one.lines) ∙ ap (λ (i : List SlotInfoValue). let r : Result (List SlotInfoValue) BadLine = Ok i in r)
          (sym one.one))
      | inr many ↦
          let told = title_told many.third (many.lines.0 ++ 10 ∷ many.lines.1) in
          let here : is_one_user bytes ≡ false = ap is_one_user many.lines.2 ∙ told.0 in
          let third : is_third bytes ≡ many.third = ap is_third many.lines.2 ∙ told.1 in
          rw (here, third) (ap (made (λ i. i) bytes) (many_slots_only bytes infos is.formed is.rise many))
    ]

-- where no slot has one there is no room for it
none_parted : (infos : List SlotInfoValue) → has_parted infos ≡ false → AllByRecursion (λ info. length info.parted ≤ 0) infos
none_parted [] is = tt
none_parted (info ∷ infos) is = grind (arith, nat_tests, common_steps, none_parted infos)

few_parted : (infos : List SlotInfoValue) → AllRise infos → AllByRecursion (λ info. length info.parted ≤ most_parted) infos
few_parted [] rise = tt
few_parted (info ∷ infos) rise = (rise.0.few, few_parted infos rise.1)

room_of : (third : Bool) (infos : List SlotInfoValue) → has_parted infos ≡ third → AllRise infos
    → AllByRecursion (λ info. length info.parted ≤ room_in third) infos
room_of true infos is rise = few_parted infos rise
room_of false infos is rise = none_parted infos is

-- what is written of slots is a file of them
pub desktop_written : (infos : List SlotInfoValue) → AreSlots (all_marks infos) → AllRise infos → AreSaid infos → IsDesktopFile infos (desktop_text infos)
desktop_written infos formed rise said = record {
  formed = formed;
  rise = rise;
  lines = inr (record {
    third = has_parted infos;
    room = room_of (has_parted infos) infos refl rise;
    lines = lines_written (desktop_forms (has_parted infos) infos) (desktop_values (has_parted infos) infos) (
      refl,
      (
        (said.number.0, said.number.1, formed.number),
        (
          (refl, subst (λ (n : ℕ). 1 ≤ n) (marks-length infos) formed.some, subst (λ (n : ℕ). n ≤ 16) (marks-length infos) formed.few),
          said_from 0 infos said.each,
        ),
      ),
    );
  });
}
  where
    said_from : (number : ℕ) (infos : List SlotInfoValue) → AllByRecursion IsSlotSaid infos → AllSay (slot_forms number infos) (slot_values number infos)
    said_from number [] said = tt
    said_from number (info ∷ infos) said = (
      (_, _, _, refl, said.0.user.number, said.0.user.date, said.0.user.name),
      parted-say info.parted (slot_forms (suc number) infos) (slot_values (suc number) infos) said.0.parted (said_from (suc number) infos said.1),
    )

-- ---- of an answer

pub device_read : (answer : Result UserInfo BadLine) (bytes : List ℕ) → answer ≡ device_in bytes → IfOk answer (λ info. IsDeviceFile info bytes)
device_read answer bytes is = grind (arith, nat_tests, common_steps, device_found)

pub desktop_read : (answer : Result (Vec SlotInfoValue) InfoFault) (bytes : List ℕ) → Reads answer (desktop_in bytes)
    → IfOk answer (λ infos. IsDesktopFile infos.items bytes)
desktop_read answer bytes is = grind (arith, nat_tests, common_steps, desktop_found)

pub desktop_rise : (answer : Result (Vec SlotInfoValue) InfoFault) (bytes : List ℕ) → Reads answer (desktop_in bytes)
    → IfOk answer (λ infos. AllRise infos.items)
desktop_rise answer bytes is = if_ok_then answer (λ infos. IsDesktopFile infos.items bytes) (λ infos. AllRise infos.items) (λ infos file. file.rise)
    (desktop_read answer bytes is)

pub desktop_read_only : (answer : Result (Vec SlotInfoValue) InfoFault) (bytes : List ℕ) (infos : List SlotInfoValue) → Reads answer (desktop_in bytes)
    → IsDesktopFile infos bytes → Reads answer (Ok infos)
desktop_read_only answer bytes infos read is = subst (Reads answer) (desktop_only bytes infos is) read

pub desktop_file : {E : Type 0} (answer : Result (String Global) E) (infos : List SlotInfoValue) → AreSlots (all_marks infos) → AllRise infos
    → IfOk answer (λ text. string_bytes text ≡ desktop_text infos) → IfOk answer (λ _. AreSaid infos)
    → IfOk answer (λ text. IsDesktopFile infos (string_bytes text))
desktop_file answer infos formed rise is said = grind (arith, nat_tests, common_steps, desktop_written)
