-- Calls one behind another lose nothing of a database: each is an event of it, and each edit between two.
use Rattle.std.proofs.lemmas.Bool.{and_left, or_cases, or_left}
use Rattle.std.proofs.lemmas.Bool.Decides.{nat_tests}
use Rattle.std.proofs.lemmas.List.Sums.{sum_by-cons}
use Rattle.std.proofs.Common.{arith, ◌≡◌, ◌⊎◌, ⊎_elim, ◌∙◌, ◌≤◌, inl, inr, ap, refl, sym, subst, ℕ, zero, suc, Bool, true, false, List, [], ◌∷◌}
use Rattle.std.proofs.Common.{length, map, get_or}
use Rattle.std.specs.Prelude.{Option, Some, None, IsSome, ◌==◌, not, if◌then◌else◌}
use Rattle.std.specs.Option.{option_map}
use Rattle.hs_folders.specs.FileMaps.{FileMap}
use Rattle.pdb_values.specs.Contents.{ContentValue}
use Rattle.pdb_values.specs.NamedDatabases.{database_of}
use Rattle.pdb_values.specs.declared.record.Record.{Record}
use Rattle.pdb_values.specs.declared.user.Marks.{Marks}
use Rattle.pdb_values.specs.declared.user.UserInfo.{UserInfo}
use Rattle.palm_device.specs.Devices.{Device}
use Rattle.folder_files.specs.Partings.{is_parted}
use Rattle.folder_files.specs.Slots.{SlotInfoValue, pc_of}
use Rattle.conduit_rules.specs.Views.{IsHonest}
use Rattle.conduit_rules.specs.declared.action.Action.{Action}
use Rattle.handheld_files.specs.Openings.{Stands}
use Rattle.desk_journal.specs.Overlays.{finished}
use Rattle.desk_store.specs.Desks.{all_rows, place_of}
use Rattle.desk_store.specs.Shelves.{SlotValue, info_of, infos_of, marks_of, new_slot, number_of, slot_at}
use Rattle.desk_store.proofs.OpenLaws.{picked_number}
use Rattle.run_words.specs.Actions.{action_for}
use Rattle.run_words.specs.Runs.{run_actions}
use Rattle.desktop_session.specs.Seats.{seat_for}
use Rattle.desktop_session.specs.declared.seat.UserWish.{UserWish}
use Rattle.mirrors.specs.Agreements.{agreed}
use Rattle.session_plan.specs.Archives.{entries_of}
use Rattle.session_plan.specs.Choosing.{action_or_sync}
use Rattle.session_plan.specs.Limits.{first_over}
use Rattle.session_plan.specs.Merges.{merged_device, merged_slots}
use Rattle.session_plan.specs.Partings.{agrees_with}
use Rattle.session_plan.specs.Tasks.{Meeting, action_of_word, place_for, records_of, slot_of}
use Rattle.sync_session.specs.Fronts.{MeetingFront}
use Rattle.sync_session.specs.Sessions.{requests}
use Rattle.front_laws.specs.Again.{RunsAgain}
use Rattle.front_laws.specs.Keeping.{ActionSpares, MarksChanges, ShowsChanges, holding_at}
use Rattle.front_laws.specs.Lives.{IsInPlace, IsUnarchived, is_live_in, is_there}
use Rattle.front_laws.specs.Meetings.{AsksTheSame, IsActive, LeftMerged, action_at, found_of, holding, ids_at}
use Rattle.front_laws.specs.Parts.{HasFewRows}
use Rattle.front_laws.specs.Repeats.{Ending, ended as ended_by}
use Rattle.front_laws.specs.Stops.{StandsBehindCommit}
use Rattle.front_laws.proofs.EventLaws.{edits-keep, meeting-found, meeting-keeps}
use Rattle.front_laws.proofs.FrontLaws.{front-among, front-behind}
use Rattle.front_laws.proofs.InPlaceLaws.{end-place, unmet-place}
use Rattle.front_laws.proofs.MeetingLaws.{no_number}
use Rattle.front_laws.proofs.ShownLaws.{based-honest, edit-honest, shown-whole, shows-next, shows-same}
use Rattle.front_laws.proofs.AgainPlaces.{AsksAgain}
use Rattle.front_laws.proofs.SlotLaws.{done-none, merged-picked, merged-place, picked-near, place-again}
use Rattle.front_laws.proofs.WholeLaws.{whole-found}
use Rattle.call_parts.specs.Causes.{ByEnd}
use Rattle.call_parts.specs.SessionCalls.{SentNothing}
use Rattle.call_parts.specs.Told.{CallTold}
use Rattle.call_parts.specs.declared.report.SessionEnd.{SessionEnd}
use Rattle.call_parts.specs.declared.report.SessionEnd.TheVariants.{Ended, NotStarted, Stopped}
use Rattle.call_parts.proofs.FrontLaws.{front_of}
use Rattle.cmd_session.specs.Ends.{EndedSession, StoppedBefore, StoppedBehind}
use Rattle.cmd_session.specs.Runs.{SessionRan, run_command}
use Rattle.run_promises.specs.Lives.{AllLetBe, BeginsLife, CallLetsBe, EditsLetBe, IsEdit, LiveCall, RanBetween, Sides, StandForSides}
use Rattle.run_promises.specs.Lives.{held_of, is_there_still, own_slot, own_wish, was_there}
use Rattle.run_promises.proofs.AgainCalls.{ran-of, session_in}
use Rattle.run_promises.proofs.AgainLaws.{HasSeat, Ran, WroteNone, ended-behind, first-within, given_in, number-of, seated-behind, seated_or, user-begun, user-done, wrote-unseated, wrote_none}
use Rattle.run_promises.proofs.LeftGoodLaws.{rows-few}
use Rattle.run_promises.proofs.OneLaws.{IsOne, info_at, infos-length, one-handheld, same_handheld, same_slots, told_slots}

-- ---- what folders stand for

one_stands : (told : Option FileMap) (one other : Device) → IsSome told → Stands told one.databases one.user → Stands told other.databases other.user
    → IsOne other.databases one.databases other.user one.user
one_stands None one other there first second = absurd (let no : ⊥ = cc in no)
one_stands (Some held) one other there first second = one-handheld second first

-- what is asked of the user of sides
abbrev wish_by : List ℕ → UserInfo → UserWish
wish_by name user = record { name = if user.user == 0 then name else []; add = false }

own-same : (left found : Sides) → found.name ≡ left.name → found.device.user ≡ left.device.user → found.slots ≡ left.slots
    → own_slot found ≡ own_slot left
own-same left found name user slots = λ k.
    slot_at (slots k) (place_of (length (slots k)) (seat_for (marks_of (slots k)) (wish_by (name k) (user k)) (user k)))

held-same : (slot later : SlotValue) (device now : Device) (name : List ℕ) → now.databases ≡ device.databases → later ≡ slot
    → holding now later name ≡ holding device slot name
held-same slot later device now name same_databases same_slot = λ k. record {
  records = records_of (database_of name (same_databases k));
  rows = records_of (database_of name (same_slot k).shelves.rows);
  base = records_of (database_of name (same_slot k).shelves.bases);
  archive = entries_of (records_of (database_of name (same_slot k).shelves.archives));
}

-- ---- a life goes on

pub record GoesOn (c : ContentValue) (name : List ℕ) (left found : Sides) : Type 0 where
  pub begins : BeginsLife c name found
  pub there : is_there c (held_of left name) ≡ true → is_there c (held_of found name) ≡ true

-- where both sides are as they were
same-sides : (c : ContentValue) (name : List ℕ) (left found : Sides) → found.name ≡ left.name → found.device.databases ≡ left.device.databases
    → found.device.user ≡ left.device.user → found.slots ≡ left.slots → BeginsLife c name left → GoesOn c name left found
same-sides c name left found named databases user slots begins =
    let slot = own-same left found named user slots in
    let held : held_of found name ≡ held_of left name =
    held-same (own_slot left) (own_slot found) left.device found.device name databases slot in
    record {
      begins = record {
        place = subst (IsInPlace c) (sym held) begins.place;
        shown = shows-same name user databases slot begins.shown;
      };
      there = λ is. ap (is_there c) held ∙ is;
    }

-- ---- a call without a session

silent-on : (c : ContentValue) (name : List ℕ) (one : LiveCall) → RanBetween one
    → SentNothing (run_command one.call.run) one.call.before one.call.after one.call.status one.call.report → BeginsLife c name one.before
    → GoesOn c name one.before one.after
silent-on c name one ran sent begins =
    let call = one.call in
    let now = one_stands call.after.palm.contents one.before.device one.after.device ran.after.tells.palm
    (subst (λ (told : Option FileMap). Stands told one.before.device.databases one.before.device.user) (sym sent.handheld.contents) ran.before.handheld)
    ran.after.handheld in
    let slots = same_slots call.before.desk.contents call.after.desk.contents ran.before.tells.desk ran.after.tells.desk sent.desktop.stands.stands
    ran.before.desktop ran.after.desktop in
    same-sides c name one.before one.after ran.name now.databases now.user_is slots begins

-- ---- a call with a session

few-at : (slots : List SlotValue) (k : ℕ) (d : SlotValue) → length d.shelves.rows ≡ 0 → length (get_or slots k d).shelves.rows ≤ all_rows slots
few-at [] k d none = omega (arith, none)
few-at (s ∷ slots) zero d none = let all = sum_by-cons (λ (slot : SlotValue). length slot.shelves.rows) s slots in omega (arith, all)
few-at (s ∷ slots) (suc k) d none =
    let all = sum_by-cons (λ (slot : SlotValue). length slot.shelves.rows) s slots in
    let rest = few-at slots k d none in
    omega (arith, all, rest)

pub has-few : (m : Meeting) → all_rows m.slots ≤ 200 → HasFewRows m
has-few m few = let here = few-at m.slots m.picked (new_slot (number_of m.slots)) refl in omega (arith, here, few)

-- the meeting that sides would make
abbrev pub at_sides : Meeting → Sides → Meeting
at_sides m sides = record {
  device = sides.device;
  slots = sides.slots;
  picked = place_for sides.device sides.slots (own_wish sides);
  wishes = record m.wishes { user = own_wish sides };
}

-- it asks again for the user that was asked for
own_asks : (name : List ℕ) (sides : Sides) → (sides.device.user.user ≡ 0 → name ≡ sides.name) → AsksAgain name (own_wish sides).name sides.device.user.user
own_asks name sides asks = by (sides.device.user.user == 0) refl
  where
    by : (b : Bool) → (sides.device.user.user == 0) ≡ b → AsksAgain name (if b then sides.name else []) sides.device.user.user
    by true is = inl (sym (asks (grind (arith, nat_tests, is))))
    by false is = inr (refl, is)

module _ (one : LiveCall) (between : RanBetween one) (session : SessionRan one.call.run one.call.before one.call.after one.call.status one.call.report)
  where
    abbrev ran : Ran
    ran = ran-of one.call session

    abbrev m : Meeting
    m = session.meeting

    abbrev first : Meeting
    first = at_sides m one.before

    abbrev next : Meeting
    next = at_sides m one.after

    -- what the session met are the sides of before
    first-device : IsOne m.device.databases one.before.device.databases m.device.user one.before.device.user
    first-device =
        same_handheld one.call.before.palm.contents one.before.device m.device between.before.tells.palm between.before.handheld session.meets.handheld

    first-slots : one.before.slots ≡ m.slots
    first-slots = told_slots one.call.before.desk.contents between.before.tells.desk session.meets.desktop between.before.desktop

    -- where it has no number, the name that is asked for is the user's
    before-asks : one.before.device.user.user ≡ 0 → m.wishes.user.name ≡ one.before.name
    before-asks none = session.meets.asked.user ∙ between.asks none

    after-asks : (one.after.device.user.user ≡ 0 → m.device.user.user ≡ 0) → one.after.device.user.user ≡ 0 → m.wishes.user.name ≡ one.after.name
    after-asks was none =
        before-asks (sym (ap (λ (u : UserInfo). u.user) first-device.user_is) ∙ was none) ∙ sym between.name

    -- what it left are those of behind
    next-device : IsOne one.after.device.databases ran.line.last.databases one.after.device.user ran.line.last.user
    next-device =
        one_stands one.call.after.palm.contents ran.line.last one.after.device between.after.tells.palm ran.line.stands between.after.handheld

    next-front : MeetingFront m ran.report.writes (given_in ran) next.device
    next-front = grind (arith, next-device, front_of m.device (requests m) ran.line ran.left.issued)

    slots-before : StoppedBefore m one.call.before.desk one.call.after.desk one.call.report → one.after.slots ≡ m.slots
    slots-before b =
        same_slots one.call.before.desk.contents one.call.after.desk.contents between.before.tells.desk between.after.tells.desk b.stands session.meets.desktop
        between.after.desktop

    slots-behind : StoppedBehind m one.call.after.desk one.call.report → one.after.slots ≡ merged_slots m (given_in ran)
    slots-behind b = told_slots one.call.after.desk.contents between.after.tells.desk b.stands between.after.desktop

    asks : AsksTheSame m next
    asks = record { actions = refl; slow = refl }

    -- where nothing was written both sides are as they were
    unwritten-on : (c : ContentValue) (name : List ℕ) → BeginsLife c name one.before → WroteNone ran
        → StoppedBefore m one.call.before.desk one.call.after.desk one.call.report → GoesOn c name one.before one.after
    unwritten-on c name begins wrote b =
        same-sides c name one.before one.after between.name (next-device.databases ∙ wrote.kept.databases ∙ first-device.databases)
        (next-device.user_is ∙ wrote.kept.user ∙ first-device.user_is) (slots-before b ∙ sym first-slots) begins

    module _ (seated : HasSeat m) where
      first-picked : first.picked ≡ m.picked
      first-picked =
          let user = sym first-device.user_is in
          place-again m first seated session.meets.picked refl (own_asks m.wishes.user.name one.before before-asks) first-slots
          (ap (λ (u : UserInfo). u.user) user, ap (λ (u : UserInfo). u.name) user)

      first-slot : own_slot one.before ≡ slot_of m
      first-slot = λ k. slot_at (first-slots k) (first-picked k)

      first-held : (name : List ℕ) → holding_at m name ≡ held_of one.before name
      first-held name =
          held-same (own_slot one.before) (slot_of m) one.before.device m.device name first-device.databases
          (sym first-slot)

      first-shows : (name : List ℕ) → ShowsChanges one.before.device.user one.before.device.databases (own_slot one.before) name
          → ShowsChanges m.device.user m.device.databases (slot_of m) name
      first-shows name shows = shows-same name first-device.user_is first-device.databases (sym first-slot) shows

      -- behind the commit it is the same slot again
      picked-behind : StandsBehindCommit m (given_in ran) next.device → one.after.slots ≡ merged_slots m (given_in ran) → next.picked ≡ m.picked
      picked-behind stands slots =
          let user = user-done next stands in
          let was : one.after.device.user.user ≡ 0 → m.device.user.user ≡ 0 = λ none. elim user [
            | inl same ↦ sym same.0 ∙ none
            | inr done ↦ done-none m (sym done.0 ∙ none)
          ] in
          merged-place m next (given_in ran) session.meets.desktop.formed seated session.meets.picked refl
          (own_asks m.wishes.user.name one.after (after-asks was)) slots user

      module _ (none : first_over m ≡ None) where
        runs-before : StoppedBefore m one.call.before.desk one.call.after.desk one.call.report → RunsAgain m next ran.report.writes (given_in ran)
        runs-before b =
            let stands = front-among m ran.report.writes (given_in ran) next.device ran.left.sound none next-front b.writes in
            let slots = slots-before b in
            let user = user-begun next stands in
            let picked = place-again m next seated session.meets.picked refl
            (own_asks m.wishes.user.name one.after (after-asks (λ is. sym user.0 ∙ is))) slots user in
            record {
              front = next-front;
              slot = inl ((λ k. slot_at (slots k) (picked k)), b.writes);
              asks = asks;
              number = number-of m session.meets.desktop;
            }

        runs-behind : StoppedBehind m one.call.after.desk one.call.report → RunsAgain m next ran.report.writes (given_in ran)
        runs-behind b =
            let stands = front-behind m ran.report.writes (given_in ran) next.device ran.left.sound none next-front b.writes in
            let slots = slots-behind b in
            let picked = picked-behind stands slots in
            record {
              front = next-front;
              slot = inr (
                (λ k. slot_at (slots k) (picked k)) ∙ merged-picked m (given_in ran) (picked-near m m.wishes.user session.meets.picked),
                b.writes,
              );
              asks = asks;
              number = number-of m session.meets.desktop;
            }

      module _ (c : ContentValue) (name : List ℕ) (lets : CallLetsBe c name one) (begins : BeginsLife c name one.before) where
        action-is : action_at m name ≡ action_or_sync (action_of_word (action_for name (run_actions one.call.run)))
        action-is = ap (λ items. action_or_sync (action_of_word (action_for name items))) session.meets.asked.actions

        spares : ActionSpares c (action_at m name) (holding_at m name)
        spares =
            subst (λ (a : Action). ActionSpares c a (holding_at m name)) (sym action-is)
            (subst (ActionSpares c (action_or_sync (action_of_word (action_for name (run_actions one.call.run))))) (sym (first-held name)) lets)

        few : HasFewRows m
        few = has-few m (rows-few between.good.desktop session.meets.desktop)

        shows : ShowsChanges m.device.user m.device.databases (slot_of m) name
        shows = first-shows name begins.shown

        written-on : {writes : ℕ} → first_over m ≡ None → RunsAgain m next writes (given_in ran) → GoesOn c name one.before one.after
        written-on {writes} none runs =
            let place = subst (IsInPlace c) (sym (first-held name)) begins.place in
            let keeps = meeting-keeps m next name c ran.left.sound (shown-whole m name shows) spares place none runs in
            record {
              begins = record {
                place = keeps.place;
                shown = shows-next m next writes (given_in ran) name (record { sound = ran.left.sound; fits = none }) few runs shows;
              };
              there = λ is. keeps.there (ap (is_there c) (first-held name) ∙ is);
            }

        seated-on : StoppedBefore m one.call.before.desk one.call.after.desk one.call.report ⊎ StoppedBehind m one.call.after.desk one.call.report
            → GoesOn c name one.before one.after
        seated-on ends = by (first_over m) refl ends
          where
            by : (o : Option (List ℕ)) → first_over m ≡ o
                → StoppedBefore m one.call.before.desk one.call.after.desk one.call.report ⊎ StoppedBehind m one.call.after.desk one.call.report
                → GoesOn c name one.before one.after
            by None none (inl b) = written-on none (runs-before none b)
            by None none (inr b) = written-on none (runs-behind none b)
            by (Some over) is (inl b) = unwritten-on c name begins (wrote_none ran (subst IsSome (sym is) refl)) b
            by (Some over) is (inr b) = absurd (let no : ◌≡◌ {A = Option (List ℕ)} (Some over) None = sym is ∙ first-within ran b in cc)

      -- behind a session that ended
      module _ (ended : EndedSession m one.call.after.palm one.call.after.desk one.call.report) where
        behind : StoppedBehind m one.call.after.desk one.call.report
        behind = ended-behind ran ended

        within : first_over m ≡ None
        within = first-within ran behind

        left-merged : LeftMerged m next (given_in ran)
        left-merged =
            let now = one_stands one.call.after.palm.contents (merged_device m (given_in ran)) one.after.device between.after.tells.palm ended.handheld
            between.after.handheld in
            let stands = front-behind m ran.report.writes (given_in ran) next.device ran.left.sound within next-front behind.writes in
            let slots = slots-behind behind in
            let picked = picked-behind stands slots in
            record {
              asks = asks;
              databases = now.databases;
              slot = (λ k. slot_at (slots k) (picked k)) ∙ merged-picked m (given_in ran) (picked-near m m.wishes.user session.meets.picked);
            }

        pub ended-life : (c : ContentValue) (name : List ℕ) → IsActive m name
            → ShowsChanges one.before.device.user one.before.device.databases (own_slot one.before) name
            → is_live_in c (held_of one.after name).records ≡ true → BeginsLife c name one.after
        ended-life c name is shown live =
            let few = has-few m (rows-few between.good.desktop session.meets.desktop) in
            let shows = first-shows name shown in
            let a = action_at m name in
            let x = found_of m name in
            let ids = ids_at m (given_in ran) name in
            let found = meeting-found ran.left.sound name (shown-whole m name shows) in
            let stands = front-behind m ran.report.writes (given_in ran) next.device ran.left.sound within next-front behind.writes in
            let left = whole-found m next (given_in ran) name left-merged is in
            let held : held_of one.after name ≡ ended_by a x ids =
            λ k. record { records = left.records k; rows = left.merged.rows k; base = left.merged.base k; archive = left.merged.archive k } in
            let free = stands.free name is in
            record {
              place = subst (IsInPlace c) (sym held)
                  (end-place a x ids c found.read free.got (ap (λ (e : Ending). is_live_in c e.records) (sym held) ∙ live));
              shown = shows-next m next ran.report.writes (given_in ran) name (record { sound = ran.left.sound; fits = within }) few
                  (runs-behind within behind) shows;
            }

    -- a call whose handheld has no slot changes nothing
    session-on : (c : ContentValue) (name : List ℕ) → CallLetsBe c name one → BeginsLife c name one.before
        → StoppedBefore m one.call.before.desk one.call.after.desk one.call.report ⊎ StoppedBehind m one.call.after.desk one.call.report
        → GoesOn c name one.before one.after
    session-on c name lets begins ends = elim ends [
      | inl b ↦ elim (seated_or m) [
        | inl seated ↦ seated-on seated c name lets begins (inl b)
        | inr unseated ↦ unwritten-on c name begins (wrote-unseated ran unseated) b
      ]
      | inr b ↦ seated-on (seated-behind ran b) c name lets begins (inr b)
    ]

-- ---- a call

call-on : (c : ContentValue) (name : List ℕ) (one : LiveCall) → RanBetween one → CallLetsBe c name one → BeginsLife c name one.before
    → GoesOn c name one.before one.after
call-on c name one ran lets begins = by one.call.report.end refl (session_in one.call refl ran.answered)
  where
    by : (end : SessionEnd) → one.call.report.end ≡ end
        → ByEnd end (SentNothing (run_command one.call.run) one.call.before one.call.after one.call.status one.call.report)
        (SessionRan one.call.run one.call.before one.call.after one.call.status one.call.report)
        → GoesOn c name one.before one.after
    by NotStarted is sent = silent-on c name one ran sent begins
    by Stopped is session = session-on one ran session c name lets begins ((ran-of one.call session).left.stopped is)
    by Ended is session =
        let own = ran-of one.call session in session-on one ran session c name lets begins (inr (ended-behind own (own.left.ended is)))

-- ---- an edit

marks-infos : (slots : List SlotValue) → marks_of slots ≡ map (λ (info : SlotInfoValue). info.marks) (infos_of slots)
marks-infos [] = refl
marks-infos (s ∷ slots) = ap (λ (ms : List Marks). s.marks ∷ ms) (marks-infos slots)

-- what is said of the own slot depends on what is said of all, and on the user
abbrev place_by : List SlotInfoValue → List ℕ → UserInfo → ℕ
place_by infos name user = place_of (length infos) (seat_for (map (λ (info : SlotInfoValue). info.marks) infos) (wish_by name user) user)

abbrev info_by : List SlotInfoValue → List ℕ → UserInfo → SlotInfoValue
info_by infos name user =
    get_or infos (place_by infos name user) (info_of (new_slot (pc_of (map (λ (info : SlotInfoValue). info.marks) infos))))

own-info : (sides : Sides) → info_of (own_slot sides) ≡ info_by (infos_of sides.slots) sides.name sides.device.user
own-info sides =
    let slots = sides.slots in
    let user = sides.device.user in
    let count = infos-length slots in
    let marks = marks-infos slots in
    sym (info_at slots (place_for sides.device slots (own_wish sides)) (new_slot (number_of slots)))
    ∙ (λ k. get_or (infos_of slots) (place_of (sym count k) (seat_for (marks k) (own_wish sides) user)) (info_of (new_slot (pc_of (marks k)))))

info-same : (left found : Sides) → found.name ≡ left.name → found.device.user ≡ left.device.user → infos_of found.slots ≡ infos_of left.slots
    → info_of (own_slot found) ≡ info_of (own_slot left)
info-same left found name user infos = own-info found ∙ (λ k. info_by (infos k) (name k) (user k)) ∙ sym (own-info left)

-- the records bear their marks
marked-shows : {name : List ℕ} {left found : Sides} → IsEdit name left found → found.device.user ≡ left.device.user
    → MarksChanges (held_of left name).records (held_of found name).records
    → ShowsChanges left.device.user left.device.databases (own_slot left) name
    → ShowsChanges found.device.user found.device.databases (own_slot found) name
marked-shows {name} {left} {found} edit user marks shows agree =
    let info = info-same left found edit.user user edit.infos in
    let same : agrees_with (agreed found.device.user (own_slot found).marks) (own_slot found).parted name
    ≡ agrees_with (agreed left.device.user (own_slot left).marks) (own_slot left).parted name =
    λ k. agrees_with (agreed (user k) (info k).marks) (info k).parted name in
    subst (λ (base : List Record). IsHonest base (held_of found name).records) (sym edit.base)
    (edit-honest (held_of left name).base (held_of left name).records (held_of found name).records marks (shows (sym same ∙ agree)))

-- or both sides don't agree any more
unmet-shows : (name : List ℕ) (found : Sides) {told : CallTold} → StandForSides told found → found.device.user.pc ≡ 0
    → ShowsChanges found.device.user found.device.databases (own_slot found) name
unmet-shows name found {told} stands none agree =
    let slot = own_slot found in
    let number = picked_number (option_map finished told.desk.contents) found.slots (place_for found.device found.slots (own_wish found)) stands.desktop in
    let some = stands.desktop.formed.number in
    let apart : agreed found.device.user slot.marks ≡ false =
    no_number slot.marks.pc (found.device.user.good == slot.marks.last) none (omega (arith, number, some)) in
    absurd (let no : false ≡ true =
    sym (and_left (agreed found.device.user slot.marks) (not (is_parted name slot.parted)) apart) ∙ agree in cc)

edit-shows : {name : List ℕ} {left found : Sides} {told : CallTold} → IsEdit name left found → StandForSides told found
    → ShowsChanges left.device.user left.device.databases (own_slot left) name
    → ShowsChanges found.device.user found.device.databases (own_slot found) name
edit-shows {name} {left} {found} edit stands shows = elim edit.told [
  | inl (user, marks) ↦ marked-shows edit user marks shows
  | inr user ↦ unmet-shows name found stands (ap (λ (u : UserInfo). u.pc) user)
]

edits-on : (c : ContentValue) (name : List ℕ) (left found : Sides) {told : CallTold} → EditsLetBe c name left found → StandForSides told found
    → BeginsLife c name left → GoesOn c name left found
edits-on c name left found lets stands begins =
    let keeps = edits-keep c (held_of left name) (held_of found name) lets.edit.base lets.edit.archive lets.handheld lets.desktop begins.place in
    record { begins = record { place = keeps.place; shown = edit-shows lets.edit stands begins.shown }; there = keeps.there }

-- ---- all of them

ran-first : (c : ContentValue) (name : List ℕ) (one : LiveCall) (later : List LiveCall) → AllLetBe c name one later → RanBetween one
ran-first c name one [] all = all.0
ran-first c name one (next ∷ later) all = all.0

lives-on : (c : ContentValue) (name : List ℕ) (one : LiveCall) (later : List LiveCall) → BeginsLife c name one.before → AllLetBe c name one later
    → was_there c name one later ≡ true → is_there_still c name one later ≡ true
lives-on c name one [] begins all is = (call-on c name one all.0 all.1 begins).there is
lives-on c name one (next ∷ later) begins all is =
    let call = call-on c name one all.0 all.1 begins in
    let edit = edits-on c name one.after next.before all.2 (ran-first c name next later all.3).before call.begins in
    lives-on c name next later edit.begins all.3
    (⊎_elim (λ (here : is_there c (held_of one.before name) ≡ true). at-first next later (edit.there (call.there here)))
    (λ (behind : was_there c name next later ≡ true). behind)
    (or_cases (is_there c (held_of one.before name)) (was_there c name next later) is))
  where
    at-first : (one : LiveCall) (later : List LiveCall) → is_there c (held_of one.before name) ≡ true → was_there c name one later ≡ true
    at-first one [] is = is
    at-first one (next ∷ later) is = or_left (is_there c (held_of one.before name)) (was_there c name next later) is

pub life-of_calls : (c : ContentValue) (name : List ℕ) (one : LiveCall) (later : List LiveCall) → BeginsLife c name one.before
    → AllLetBe c name one later → was_there c name one later ≡ true → is_there_still c name one later ≡ true
life-of_calls = lives-on

-- ---- where a life begins

pub first-life : (c : ContentValue) (name : List ℕ) (sides : Sides) → (held_of sides name).base ≡ [] → IsUnarchived c (held_of sides name)
    → BeginsLife c name sides
first-life c name sides none unarchived = record {
  place = unmet-place (held_of sides name) c none unarchived;
  shown = λ agree. based-honest (held_of sides name).base (held_of sides name).records none;
}
