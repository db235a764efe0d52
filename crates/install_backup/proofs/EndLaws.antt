-- How a session that installs databases ends, over a link that tells a handheld on which nothing is open.
use Rattle.std.proofs.lemmas.List.{append-nil, map-append}
use Rattle.std.proofs.Common.{◌≡◌, ◌∙◌, ap, refl, sym, subst, inl, inr, ◌⊎◌, ℕ, Bool, true, false, cond, List, [], ◌∷◌, ◌++◌, map, append_assoc}
use Rattle.std.specs.Prelude.{Option, Some, None, IfErr, IfOk, Result, Ok, Err, flat_map}
use Rattle.std.specs.Global.{Vec}
use Rattle.std.specs.List.{AllByRecursion}
use Rattle.pdb_values.specs.Databases.{DatabaseValue}
use Rattle.palm_device.specs.Bounds.{IsBoundedDatabase}
use Rattle.palm_device.specs.Devices.{Device}
use Rattle.desktop_session.proofs.StopLaws.{does_then, stops_more, stops_then}
use Rattle.session_parts.specs.Causes.{IsLater}
use Rattle.session_parts.specs.Rests.{IsAtRest}
use Rattle.session_parts.specs.Stretches.{EachSays, each_acts}
use Rattle.session_parts.specs.declared.stop.Stop.{Stop}
use Rattle.session_parts.specs.declared.stop.Stop.TheVariants as stop
use Rattle.session_parts.proofs.CloseLaws.{TellsClosed}
use Rattle.session_parts.proofs.LinkWords.{Act, Does, LinkFault, SessionFault, SessionValue, Stops, Talk, ending, saying, text}
use Rattle.session_parts.proofs.StretchLaws.{Tells, first_is, flat_map-kept, tells_on}
use Rattle.install_backup.specs.declared.mark.Mark.{Mark}
use Rattle.install_backup.specs.declared.moved.MoveOutcome.{MoveOutcome}
use Rattle.install_backup.specs.declared.moved.Moved.{Moved}
use Rattle.install_backup.specs.Installed.{with_installed}
use Rattle.install_backup.specs.InstallActs.{install_acts, install_one, installs_of, installs_under, is_installable}
use Rattle.install_backup.specs.InstallEnds.{InstallEnds, InstallWent, IsFull, IsInstallCause, IsInstallStop, IsInstalled, StopsAtLimit, all_installed, first_full, until_full}
use Rattle.install_backup.specs.Installs.{SaysMoved, StopsAt, StopsWithin, making_acts}
use Rattle.install_backup.specs.Marks.{marked_greeting, marked_on}
use Rattle.install_backup.specs.Rooms.{IsNoLimit, RestsFor, has_room}
use Rattle.install_backup.proofs.ClosedLaws.{installs_lead, says_one, under_is}
use Rattle.install_backup.proofs.EvolveLaws.{Evolves, evolves, judged_at}
use Rattle.install_backup.proofs.GoneLaws.{with_databases}
use Rattle.install_backup.proofs.MarkLaws.{marked_after, marked_rests}
use Rattle.install_backup.proofs.WithinLaws.{room_or, until-append, until_one}

-- ---- lists of databases

pub installs-are : (databases : List DatabaseValue) → flat_map says_one databases ≡ installs_of databases
unfolding installs_of
installs-are databases = flat_map-kept is_installable (λ (d : DatabaseValue). install_one d 1 []) databases

-- where all before have room, the first without room is among the rest
full-append : (before rest held : List DatabaseValue) → first_full before held ≡ None
    → first_full (before ++ rest) held ≡ first_full rest (all_installed before held)
full-append [] rest held none = refl
full-append (database ∷ before) rest held none =
    by (is_installable database) (has_room database.head.name held) none (full-append before rest (with_installed database held))
    (full-append before rest held)
  where
    by : (b c : Bool) → cond b (cond c (first_full before (with_installed database held)) (Some database.head.name)) (first_full before held) ≡ None
        → (first_full before (with_installed database held) ≡ None
        → first_full (before ++ rest) (with_installed database held) ≡ first_full rest (all_installed before (with_installed database held)))
        → (first_full before held ≡ None → first_full (before ++ rest) held ≡ first_full rest (all_installed before held))
        → cond b (cond c (first_full (before ++ rest) (with_installed database held)) (Some database.head.name)) (first_full (before ++ rest) held)
        ≡ first_full rest (all_installed before (cond b (with_installed database held) held))
    by true true none one two = one none
    by true false none one two = absurd cc
    by false c none one two = two none

all-parts : (P : DatabaseValue → Type 0) (xs ys : List DatabaseValue) → AllByRecursion P (xs ++ ys) → AllByRecursion P xs × AllByRecursion P ys
all-parts P [] ys all = (tt, all)
all-parts P (x ∷ xs) ys all = let rest = all-parts P xs ys all.1 in ((all.0, rest.0), rest.1)

-- what is said before the first database
abbrev pub first_said : Mark → Device → List Act
first_said mark device = marked_greeting mark device.user

module _ {L : Type 0} {talk : L → Option Talk} {since : L → L → Type 0} {fault : L → Option LinkFault} {downs : L → ℕ}
    (since_more : (a b c : L) → since a b → since b c → since a c) {databases : List DatabaseValue} {told : Talk} {old : L}
    (mark : Mark) (is : talk old ≡ Some told) (rests : IsAtRest told.device) (bounded : AllByRecursion IsBoundedDatabase databases) where
  -- it was not greeted, or the mark was refused
  pub ungreeted_ends : {new : L} {cause : SessionFault} → Stops talk since fault downs (map text (first_said mark told.device)) old new
      → IsLater (talk new) (fault new) cause
      → IsNoLimit cause → InstallEnds talk since fault downs mark databases told.device old new (Err (stop.Session cause))
  unfolding install_acts
  ungreeted_ends {new} {cause} stops later other = record {
    stops = rw (map-append text (first_said mark told.device) (installs_of databases ++ ending ∷ []))
        (stops_more talk since fault downs (map text (first_said mark told.device)) (map text (installs_of databases ++ ending ∷ [])) old new stops);
    ended = tt;
    cause = (later, other);
    limit = λ name full. tt;
    until = λ name full. rw (map-append text (first_said mark told.device) (until_full databases told.device.databases))
        (stops_more talk since fault downs (map text (first_said mark told.device)) (map text (until_full databases told.device.databases)) old new stops);
  }

  module _ {F : Type 0} {now : SessionValue L} {left : MoveOutcome L F}
      (greeted : Stops talk since fault downs (map text (first_said mark told.device)) old now.link)
      (does : Does talk (first_said mark told.device) old now.link) (went : InstallWent talk since fault downs databases now left) where
    -- the handheld with the mark
    abbrev marked : Device
    marked = marked_on mark told.device

    still : IsAtRest marked
    still = marked_rests mark told.device rests

    tells : Tells marked (talk now.link)
    tells =
        subst (Tells marked) (sym does.said)
        (tells_on told.device marked (first_said mark told.device) (talk old) (record { talk = told; is = is; same = refl }) (marked_after mark told.device))

    closed : TellsClosed (talk now.link)
    closed = record { talk = tells.talk; is = tells.is; closed = ap (λ (d : Device). d.handles) tells.same ∙ rests.closed }

    abbrev said_all : List Act
    said_all = each_acts installs_under (talk now.link) databases went.stretches

    all_evolve : (moved : List Moved) → EachSays installs_under SaysMoved (talk now.link) databases went.stretches moved
        → Evolves (talk now.link) marked databases went.stretches moved
    all_evolve moved said = evolves (talk now.link) marked databases went.stretches moved tells still bounded went.firsts said

    -- what went out begins the whole
    behind_stops : Stops talk since fault downs (map text (installs_of databases ++ ending ∷ [])) now.link left.link
    behind_stops = by went.whole
      where
        by : ((went.last ≡ []) × StopsWithin talk since fault downs databases now left.link)
            ⊎ ((went.last ≡ ending ∷ []) × EachSays installs_under SaysMoved (talk now.link) databases went.stretches went.moved)
            → Stops talk since fault downs (map text (installs_of databases ++ ending ∷ [])) now.link left.link
        by (inl (none, within)) =
            let lead = installs_lead (talk now.link) databases went.stretches closed went.firsts in
            let said : Stops talk since fault downs (map text said_all) now.link left.link =
            subst (λ (acts : List Act). Stops talk since fault downs (map text acts) now.link left.link)
            (ap (λ (last : List Act). said_all ++ last) none ∙ append-nil said_all) went.stops in
            subst (λ (acts : List Act). Stops talk since fault downs (map text acts) now.link left.link)
            (sym (append_assoc said_all lead.rest (ending ∷ [])) ∙ ap (λ (acts : List Act). acts ++ ending ∷ []) lead.is)
            (rw (map-append text said_all (lead.rest ++ ending ∷ []))
            (stops_more talk since fault downs (map text said_all) (map text (lead.rest ++ ending ∷ [])) now.link left.link said))
        by (inr all) =
            let same : said_all ≡ installs_of databases = (all_evolve went.moved all.1).acts_are ∙ installs-are databases in
            subst (λ (acts : List Act). Stops talk since fault downs (map text acts) now.link left.link)
            (ap (λ (last : List Act). said_all ++ last) all.0 ∙ ap (λ (acts : List Act). acts ++ ending ∷ []) same) went.stops

    all_stops : Stops talk since fault downs (map text (install_acts mark told.device.user databases)) old left.link
    unfolding install_acts
    all_stops =
        rw (map-append text (first_said mark told.device) (installs_of databases ++ ending ∷ []))
        (stops_then talk since fault downs since_more (first_said mark told.device) (map text (installs_of databases ++ ending ∷ [])) old now.link left.link
        does greeted behind_stops)

    is_installed : (moved : List Moved) → Does talk (said_all ++ ending ∷ []) now.link left.link
        → EachSays installs_under SaysMoved (talk now.link) databases went.stretches moved
        → IsInstalled talk mark databases told.device old left.link moved
    unfolding install_acts
    is_installed moved done said =
        let evolve = all_evolve moved said in
        let same : said_all ≡ installs_of databases = evolve.acts_are ∙ installs-are databases in
        record {
          does = does_then talk (first_said mark told.device) (installs_of databases ++ ending ∷ []) old now.link left.link does
              (subst (λ (acts : List Act). Does talk (acts ++ ending ∷ []) now.link left.link) same done);
          room = evolve.room;
          told = evolve.told_are;
        }

    is_full : {name : List ℕ} → StopsAt talk databases name now left.link → IsFull talk mark databases told.device old left.link name
    is_full {name} at =
        let all = all-parts IsBoundedDatabase at.before (at.one ∷ at.rest) (subst (AllByRecursion IsBoundedDatabase) (sym at.parts) bounded) in
        let evolve = evolves (talk now.link) marked at.before at.stretches at.moved tells still all.0 at.firsts at.said in
        let held = all_installed at.before told.device.databases in
        let before_them = each_acts installs_under (talk now.link) at.before at.stretches in
        let same : before_them ≡ installs_of at.before = evolve.acts_are ∙ installs-are at.before in
        let tells_now = subst (Tells (with_databases held marked))
        (ap (λ (acts : List Act). saying acts (talk now.link)) (sym evolve.acts_are) ∙ sym at.does.said) evolve.tells in
        let none : has_room at.one.head.name held ≡ false =
        judged_at (RestsFor at.one) false at.one.head.name (with_databases held marked) (talk at.now.link) tells_now
        (evolve.rests, all.1.0.head.name) at.room in
        let here : first_full (at.one ∷ at.rest) held ≡ Some at.one.head.name = rw (at.writable, none) refl in
        record {
          first = ap (λ (ds : List DatabaseValue). first_full ds told.device.databases) (sym at.parts)
              ∙ full-append at.before (at.one ∷ at.rest) told.device.databases evolve.room ∙ here ∙ ap (λ n. Some n) (sym at.named);
          before = at.before;
          one = at.one;
          rest = at.rest;
          parts = at.parts;
          named = at.named;
          does = does_then talk (first_said mark told.device) (installs_of at.before ++ making_acts at.one) old now.link left.link does
              (does_then talk (installs_of at.before) (making_acts at.one) now.link at.now.link left.link
              (subst (λ (acts : List Act). Does talk acts now.link at.now.link) same at.does) at.asked);
        }

    -- no more than what has room was asked for, and that the first one without be made
    behind_within : StopsWithin talk since fault downs databases now left.link
        → Stops talk since fault downs (map text (until_full databases told.device.databases)) now.link left.link
    behind_within at =
        let all = all-parts IsBoundedDatabase at.before (at.one ∷ at.rest) (subst (AllByRecursion IsBoundedDatabase) (sym at.parts) bounded) in
        let evolve = evolves (talk now.link) marked at.before at.stretches at.moved tells still all.0 at.firsts at.said in
        let held = all_installed at.before told.device.databases in
        let there = with_databases held marked in
        let before_them = each_acts installs_under (talk now.link) at.before at.stretches in
        let later = until_full (at.one ∷ at.rest) held in
        let tells_now : Tells there (talk at.now.link) = subst (Tells there)
        (ap (λ (acts : List Act). saying acts (talk now.link)) (sym evolve.acts_are) ∙ sym at.does.said) evolve.tells in
        let first = first_is there (talk at.now.link) at.handle tells_now rests.closed at.first in
        let acts = under_is (talk at.now.link) at.one at.handle at.given first in
        let one : Stops talk since fault downs (map text later) at.now.link left.link =
        until_one talk since fault downs at.one at.rest held at.now.link left.link
        (subst (λ (acts : List Act). Stops talk since fault downs (map text acts) at.now.link left.link) acts at.stops)
        (λ may. room_or (judged_at (RestsFor at.one) true at.one.head.name there (talk at.now.link) tells_now (evolve.rests, all.1.0.head.name))
        (at.within may)) in
        let whole : Stops talk since fault downs (map text (before_them ++ later)) now.link left.link =
        rw (map-append text before_them later)
        (stops_then talk since fault downs since_more before_them (map text later) now.link at.now.link left.link at.does at.reached one) in
        subst (λ (acts : List Act). Stops talk since fault downs (map text acts) now.link left.link)
        (ap (λ (acts : List Act). acts ++ later) evolve.acts_are
        ∙ sym (until-append at.before (at.one ∷ at.rest) told.device.databases evolve.room)
        ∙ ap (λ (ds : List DatabaseValue). until_full ds told.device.databases) at.parts) whole

    until_stops : (name : List ℕ) → first_full databases told.device.databases ≡ Some name
        → Stops talk since fault downs (map text (first_said mark told.device ++ until_full databases told.device.databases)) old left.link
    until_stops name full =
        rw (map-append text (first_said mark told.device) (until_full databases told.device.databases))
        (stops_then talk since fault downs since_more (first_said mark told.device) (map text (until_full databases told.device.databases)) old now.link
        left.link does greeted (by went.whole))
      where
        by : ((went.last ≡ []) × StopsWithin talk since fault downs databases now left.link)
            ⊎ ((went.last ≡ ending ∷ []) × EachSays installs_under SaysMoved (talk now.link) databases went.stretches went.moved)
            → Stops talk since fault downs (map text (until_full databases told.device.databases)) now.link left.link
        by (inl within) = behind_within within.1
        by (inr all) = absurd (let none = sym (all_evolve went.moved all.1).room ∙ full in cc)

    pub greeted_ends : InstallEnds talk since fault downs mark databases told.device old left.link left.end
    greeted_ends = record {
      stops = all_stops;
      ended = done left.end went.does went.said;
      cause = why left.end went.cause;
      limit = λ name full. limit left.end name full went.does went.said went.cause;
      until = λ name full. until_stops name full;
    }
      where
        done : (r : Result (Vec Moved) Stop) → IfOk r (λ moved. Does talk (said_all ++ ending ∷ []) now.link left.link)
            → IfOk r (λ moved. EachSays installs_under SaysMoved (talk now.link) databases went.stretches moved.items)
            → IfOk r (λ moved. IsInstalled talk mark databases told.device old left.link moved.items)
        done (Ok moved) did said = is_installed moved.items did said
        done (Err cause) did said = tt

        why_of : (cause : Stop) → IsInstallCause talk fault databases now left.link cause
            → IsInstallStop talk fault mark databases told.device old left.link cause
        why_of (stop.Session cause) later = later
        why_of (stop.Limit name) at = is_full at
        why_of (stop.NewHandheld name) none = absurd none
        why_of stop.DeskFault none = absurd none

        why : (r : Result (Vec Moved) Stop) → IfErr r (IsInstallCause talk fault databases now left.link)
            → IfErr r (IsInstallStop talk fault mark databases told.device old left.link)
        why (Ok moved) cause = tt
        why (Err other) cause = why_of other cause

        limit : (r : Result (Vec Moved) Stop) (name : List ℕ) → first_full databases told.device.databases ≡ Some name
            → IfOk r (λ moved. Does talk (said_all ++ ending ∷ []) now.link left.link)
            → IfOk r (λ moved. EachSays installs_under SaysMoved (talk now.link) databases went.stretches moved.items)
            → IfErr r (IsInstallCause talk fault databases now left.link) → StopsAtLimit name r
        limit (Ok moved) name full did said cause =
            absurd (let none = sym (is_installed moved.items did said).room ∙ full in cc)
        limit (Err (stop.Session cause)) name full did said later = tt
        limit (Err (stop.Limit other)) name full did said at =
            let same : ◌≡◌ {A = Option (List ℕ)} (Some other) (Some name) = sym (is_full at).first ∙ full in cc
        limit (Err (stop.NewHandheld other)) name full did said none = absurd none
        limit (Err stop.DeskFault) name full did said none = absurd none
