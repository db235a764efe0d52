-- How a backup ends, over a link that tells a handheld on which nothing is open.
use Rattle.std.proofs.lemmas.Grind.{common_steps}
use Rattle.std.proofs.lemmas.Bool.Decides.{nat_tests}
use Rattle.std.proofs.lemmas.List.{append-nil, map-append}
use Rattle.std.proofs.Common.{arith, ltb-true, ◌≡◌, ◌≢◌, ◌∙◌, ◌<◌, ◌≤◌, ◌+◌, ◌-◌, ap, refl, sym, subst, inl, inr, ◌⊎◌, ℕ, zero, suc, true, false, List, [], ◌∷◌, ◌++◌, length, map, append_assoc}
use Rattle.std.specs.Prelude.{Option, Some, IfErr, IfOk, IfSome, IsErrOf, OnOk, Result, Ok, Err, flat_map, max}
use Rattle.std.specs.Global.{Vec}
use Rattle.std.specs.Option.{option_map}
use Rattle.hs_folders.specs.FileMaps.{FileMap}
use Rattle.hs_folders.specs.Moments.{EachMomentSince, Moments}
use Rattle.hs_folders.proofs.MomentLaws.{no_moment}
use Rattle.pdb_values.specs.Databases.{DatabaseValue}
use Rattle.desktop_session.specs.Seats.{no_wish, unclaimed}
use Rattle.pdb_values.specs.declared.head.DbHead.{DbHead}
use Rattle.dlp_commands.specs.Links.{WentDown}
use Rattle.dlp_commands.specs.declared.link.LinkFault.TheVariants as link_fault
use Rattle.desk_journal.specs.Entries.{EntryValue}
use Rattle.desk_journal.specs.Overlays.{put_all}
use Rattle.palm_device.specs.Devices.{Device}
use Rattle.desktop_session.proofs.StopLaws.{does_then, fell_none, stops_more, stops_none, stops_then}
use Rattle.desktop_session.proofs.WholeListLaws.{count_is, heads_are, more_is, head_of}
use Rattle.desktop_session.specs.Lists.{has_more, heads_listed, list_reply, listings}
use Rattle.desktop_session.specs.Requests.{listing}
use Rattle.desktop_session.specs.Tellings.{IsTellable, device_after}
use Rattle.desktop_session.specs.declared.fault.SessionFault.TheVariants as session
use Rattle.session_parts.specs.Causes.{IsLater}
use Rattle.session_parts.specs.Meets.{Meets, MeetsOrNot, greeting, meeting_acts}
use Rattle.session_parts.specs.Leaving.{Leaves}
use Rattle.session_parts.specs.Rests.{IsAtRest}
use Rattle.session_parts.specs.Stretches.{AreFirst, EachSays, each_acts}
use Rattle.session_parts.specs.declared.meeting.Met.{Met}
use Rattle.session_parts.specs.declared.stop.Stop.{Stop}
use Rattle.session_parts.specs.declared.stop.Stop.TheVariants as stop
use Rattle.desktop_session.specs.Lasts.{IsByLastReply}
use Rattle.session_parts.proofs.LinkWords.{Act, Does, Halted, LinkFault, SessionFault, Stops, Talk, ending, saying, text}
use Rattle.session_parts.proofs.RestLaws.{greeting_same}
use Rattle.session_parts.proofs.StretchLaws.{Leads, Tells, first_is, tells_on}
use Rattle.install_backup.specs.declared.moved.MoveOutcome.{MoveOutcome}
use Rattle.install_backup.specs.declared.moved.Moved.{Moved}
use Rattle.install_backup.specs.BackupActs.{backup_acts, backup_of}
use Rattle.install_backup.specs.BackupEnds.{BackupEnds, BackupWent, Finishes, backup_front, next_of, read_of}
use Rattle.install_backup.specs.Backups.{HasSome, IsBackupCause, KeepsSome, SaysCopied, backups_under, file_of, kept_moved, next_acts}
use Rattle.install_backup.proofs.HelloLaws.{unmet_later}
use Rattle.install_backup.proofs.ReadWhole.{AreHeld, ReadsAll, acts_are, held_all, held_first, held_last, reads_all}
use Rattle.desk_journal.proofs.StepLaws.{none_put}
use Rattle.desktop_session.proofs.ListLaws.{after_append, listings_same}

-- ---- lists

listings-more : (count more : ℕ) → Leads (listings count) (listings (count + more))
unfolding listings
listings-more count zero = record { rest = []; is = append-nil (listings count) ∙ ap listings (let same : count ≡ count + zero = omega arith in same) }
listings-more count (suc more) =
    let before = listings-more count more in
    record {
      rest = before.rest ++ listing (count + more) ∷ [];
      is = sym (append_assoc (listings count) before.rest (listing (count + more) ∷ [])) ∙ ap (λ zs. zs ++ listing (count + more) ∷ []) before.is
          ∙ ap listings (let same : suc (count + more) ≡ count + suc more = omega arith in same);
    }

listings_lead : (count all : ℕ) → count ≤ all → Leads (listings count) (listings all)
listings_lead count all few =
    subst (λ n. Leads (listings count) (listings n)) (let same : count + (all - count) ≡ all = omega arith in same) (listings-more count (all - count))

few_lists : (device : Device) (count : ℕ) → IsTellable device → count ≤ 65536
    → ((k : ℕ) → k + 1 < count → has_more (list_reply device k) ≡ true) → count ≤ max 1 (length device.databases)
few_lists device zero proper few more = omega arith
few_lists device (suc zero) proper few more = omega arith
few_lists device (suc (suc k)) proper few more =
    let before : k + 1 < length device.databases = ltb-true _ _ (sym (more_is device k proper (omega arith)) ∙ more k (omega arith)) in
    omega arith

told_behind : (P : Device → Type 0) (device : Device) (told : Option Talk) → Tells device told → IfSome (saying greeting told) (λ talk. P talk.device)
    → P device
told_behind P device told tells holds =
    let after = tells_on device device greeting told tells (greeting_same device) in
    rw (after.is, after.same) at holds

-- the databases of the first of the heads, and of the others
record SplitHeads (done rest : List DbHead) (databases : List DatabaseValue) : Type 0 where
  kept : List DatabaseValue
  later : List DatabaseValue
  parts : kept ++ later ≡ databases
  done_is : done ≡ map head_of kept
  rest_is : rest ≡ map head_of later

split_heads : (done rest : List DbHead) (databases : List DatabaseValue) → done ++ rest ≡ map head_of databases → SplitHeads done rest databases
split_heads [] rest databases is = record { kept = []; later = databases; parts = refl; done_is = refl; rest_is = is }
split_heads (head ∷ done) rest [] is = absurd cc
split_heads (head ∷ done) rest (database ∷ databases) is =
    let first : head ≡ head_of database = cc in
    let others : done ++ rest ≡ map head_of databases = cc in
    let more = split_heads done rest databases others in
    record {
      kept = database ∷ more.kept;
      later = more.later;
      parts = ap (λ (ds : List DatabaseValue). database ∷ ds) more.parts;
      done_is = ap (λ (h : DbHead). h ∷ done) first ∙ ap (λ (hs : List DbHead). head_of database ∷ hs) more.done_is;
      rest_is = more.rest_is;
    }

files-are : (device : Device) (kept : List DatabaseValue) → map file_of (map (read_of device) kept) ≡ map (λ (d : DatabaseValue). file_of (read_of device d)) kept
files-are device [] = refl
files-are device (database ∷ kept) = ap (λ (es : List EntryValue). file_of (read_of device database) ∷ es) (files-are device kept)

told-are : (device : Device) (kept : List DatabaseValue) → map kept_moved (map (read_of device) kept) ≡ map (λ (d : DatabaseValue). kept_moved (read_of device d)) kept
told-are device [] = refl
told-are device (database ∷ kept) = ap (λ (ms : List Moved). kept_moved (read_of device database) ∷ ms) (told-are device kept)

-- ---- the ends

tells_it : {told : Talk} {o : Option Talk} → o ≡ Some told → Tells told.device o
tells_it {told} is = record { talk = told; is = is; same = refl }

lead_stops : {L : Type 0} (talk : L → Option Talk) (since : L → L → Type 0) (fault : L → Option LinkFault) (downs : L → ℕ) {xs ys : List Act}
    (zs : List Act) (a b : L) → Leads xs ys → Stops talk since fault downs (map text xs) a b → Stops talk since fault downs (map text (ys ++ zs)) a b
lead_stops talk since fault downs {xs} {ys} zs a b lead stops =
    subst (λ (acts : List Act). Stops talk since fault downs (map text acts) a b)
    (sym (append_assoc xs lead.rest zs) ∙ ap (λ (acts : List Act). acts ++ zs) lead.is)
    (rw (map-append text xs (lead.rest ++ zs)) (stops_more talk since fault downs (map text xs) (map text (lead.rest ++ zs)) a b stops))

module _ {L F : Type 0} {talk : L → Option Talk} {since : L → L → Type 0} {fault : L → Option LinkFault} {downs : L → ℕ} {contents : F → Option FileMap} {moments : F → Moments}
    (since_itself : (a : L) → since a a) (since_more : (a b c : L) → since a b → since b c → since a c) {told : Talk} {old : L} {folder : F}
    (is : talk old ≡ Some told) (rests : IsAtRest told.device) where
  none_ends : {new : L} {cause : SessionFault} → Stops talk since fault downs (map text (backup_front told.device ++ next_of told.device.databases)) old new
      → IsLater (talk new) (fault new) cause → BackupEnds talk since fault downs contents moments told.device old new folder folder (Err (stop.Session cause))
  none_ends {new} stops later = record {
    kept = [];
    later = told.device.databases;
    parts = refl;
    files = none_put (contents folder);
    each_moment = no_moment (HasSome [] (contents folder)) (moments folder) (moments folder) refl;
    stops = stops;
    now = new;
    behind = inl refl;
    unkept = λ is. absurd cc;
    ended = tt;
    cause = later;
  }

  -- both sides did not meet
  pub unmet_ends : {halted : Halted L} → MeetsOrNot talk since fault downs (unclaimed ∷ []) no_wish old (Err halted)
      → IsByLastReply (talk halted.link) halted.cause
      → BackupEnds talk since fault downs contents moments told.device old halted.link folder folder (Err (stop.Session halted.cause))
  unmet_ends {halted} (inl meets) last =
      let more = told_behind (λ d. (k : ℕ) → k + 1 < meets.count → has_more (list_reply d k) ≡ true) told.device (talk old) (tells_it is) meets.more in
      let all : ℕ = max 1 (length told.device.databases) in
      let lead = listings_lead meets.count all (few_lists told.device meets.count rests.proper meets.few more) in
      none_ends
      (lead_stops talk since fault downs {xs = meeting_acts meets.count} (next_of told.device.databases) old halted.link
      (record { rest = lead.rest; is = append_assoc greeting (listings meets.count) lead.rest ∙ ap (λ zs. greeting ++ zs) lead.is }) meets.stops)
      (unmet_later (talk old) (talk halted.link) (fault halted.link) halted.cause meets.cause last)
  unmet_ends {halted} (inr lost) last =
      rw lost.1 (none_ends {cause = session.NoMemory}
      (stops_none talk since fault downs (map text (backup_front told.device ++ next_of told.device.databases)) old halted.link (ap talk lost.0)
      (rw lost.0 (since_itself old)) (rw lost.0 (fell_none fault downs old))) tt)

  module _ {met : Met L} (meets : Meets talk since fault downs (unclaimed ∷ []) no_wish old (Ok met)) {left : MoveOutcome L F}
      (went : BackupWent talk since fault downs contents moments met.heads.items met.linked folder left) where
    abbrev link : L
    link = met.linked.link

    all_listed : meets.count ≡ max 1 (length told.device.databases)
    all_listed =
        let more = told_behind (λ d. (k : ℕ) → k + 1 < meets.count → has_more (list_reply d k) ≡ true) told.device (talk old) (tells_it is) meets.more in
        let last = told_behind (λ d. (meets.count ≡ 65536) ⊎ (has_more (list_reply d (meets.count - 1)) ≡ false)) told.device (talk old) (tells_it is) meets.last in
        count_is told.device meets.count rests.proper meets.some meets.few more last

    heads : met.heads.items ≡ map head_of told.device.databases
    heads =
        told_behind (λ d. met.heads.items ≡ heads_listed d meets.count) told.device (talk old) (tells_it is) meets.heads
        ∙ heads_are told.device meets.count rests.proper (let all = all_listed in omega arith) meets.few

    front_does : Does talk (backup_front told.device) old link
    front_does = subst (λ n. Does talk (meeting_acts n) old link) all_listed meets.does

    front_stops : Stops talk since fault downs (map text (backup_front told.device)) old link
    front_stops = subst (λ n. Stops talk since fault downs (map text (meeting_acts n)) old link) all_listed meets.stops

    front_tells : Tells told.device (talk link)
    front_tells =
        let all : ℕ = max 1 (length told.device.databases) in
        subst (Tells told.device) (sym front_does.said)
        (tells_on told.device told.device (backup_front told.device) (talk old) (tells_it is)
        (after_append greeting (listings all) told.device ∙ ap (device_after (listings all)) (greeting_same told.device) ∙ listings_same all told.device))

    abbrev some : KeepsSome talk since fault downs contents moments met.heads.items met.linked went.now folder left.folder went.answer
    some = went.keeps

    split : SplitHeads some.done some.rest told.device.databases
    split = split_heads some.done some.rest told.device.databases (some.parts ∙ heads)

    held : AreHeld told.device.databases (split.kept ++ split.later)
    held = subst (AreHeld told.device.databases) (sym split.parts) (held_all told.device.databases rests.proper.sound.names)

    all : ReadsAll (talk link) told.device split.kept some.stretches some.wholes
    all =
        reads_all (talk link) told.device split.kept some.stretches some.wholes front_tells rests (held_first told.device.databases split.kept split.later held)
        (subst (λ (heads : List DbHead). AreFirst backups_under (talk link) heads some.stretches) split.done_is some.firsts)
        (subst (λ (heads : List DbHead). EachSays backups_under SaysCopied (talk link) heads some.stretches some.wholes) split.done_is some.said)

    same_acts : each_acts backups_under (talk link) some.done some.stretches ≡ flat_map backup_of split.kept
    same_acts = ap (λ (heads : List DbHead). each_acts backups_under (talk link) heads some.stretches) split.done_is ∙ all.acts

    kept_does : Does talk (flat_map backup_of split.kept) link some.now
    kept_does = subst (λ (acts : List Act). Does talk acts link some.now) same_acts some.does

    kept_stops : Stops talk since fault downs (map text (flat_map backup_of split.kept)) link some.now
    kept_stops = subst (λ (acts : List Act). Stops talk since fault downs (map text acts) link some.now) same_acts some.stops

    now_tells : Tells told.device (talk some.now)
    now_tells = subst (Tells told.device) (sym kept_does.said) all.tells

    next_stops : (rest : List DbHead) (later : List DatabaseValue) → rest ≡ map head_of later → AreHeld told.device.databases later
        → Stops talk since fault downs (map text (next_acts (talk some.now) rest some.next)) some.now went.now.link
        → Stops talk since fault downs (map text (next_of later)) some.now went.now.link
    next_stops [] [] same there stops = stops_more talk since fault downs [] (text ending ∷ []) some.now went.now.link stops
    next_stops [] (database ∷ later) same there stops = absurd cc
    next_stops (head ∷ rest) [] same there stops = absurd cc
    next_stops (head ∷ rest) (database ∷ later) same there stops =
        let first : head ≡ head_of database = cc in
        let handle = first_is told.device (talk some.now) some.next.handle now_tells rests.closed some.first in
        subst (λ (acts : List Act). Stops talk since fault downs (map text acts) some.now went.now.link)
        (ap (λ (h : DbHead). backups_under (talk some.now) h some.next.handle some.next.given) first
        ∙ ap (λ (n : ℕ). backups_under (talk some.now) (head_of database) n some.next.given) handle
        ∙ acts_are told.device rests database there.0 (talk some.now) some.next.given now_tells)
        stops

    next_does : (rest : List DbHead) (later : List DatabaseValue) → rest ≡ map head_of later → AreHeld told.device.databases later → rest ≢ []
        → Does talk (next_acts (talk some.now) rest some.next) some.now went.now.link
        → (later ≢ []) × Does talk (next_of later) some.now went.now.link
    next_does [] later same there more does = absurd (more refl)
    next_does (head ∷ rest) [] same there more does = absurd cc
    next_does (head ∷ rest) (database ∷ later) same there more does =
        let first : head ≡ head_of database = cc in
        let handle = first_is told.device (talk some.now) some.next.handle now_tells rests.closed some.first in (
          λ none. cc,
          subst (λ (acts : List Act). Does talk acts some.now went.now.link)
              (ap (λ (h : DbHead). backups_under (talk some.now) h some.next.handle some.next.given) first
              ∙ ap (λ (n : ℕ). backups_under (talk some.now) (head_of database) n some.next.given) handle
              ∙ acts_are told.device rests database there.0 (talk some.now) some.next.given now_tells)
              does,
        )

    all_does : Does talk (backup_front told.device ++ flat_map backup_of split.kept) old some.now
    all_does = does_then talk (backup_front told.device) (flat_map backup_of split.kept) old link some.now front_does kept_does

    read_does : {new : L} → Does talk (next_of split.later) some.now new
        → Does talk (backup_front told.device ++ (flat_map backup_of split.kept ++ next_of split.later)) old new
    read_does {new} does =
        does_then talk (backup_front told.device) (flat_map backup_of split.kept ++ next_of split.later) old link new front_does
        (does_then talk (flat_map backup_of split.kept) (next_of split.later) link some.now new kept_does does)

    all_stops : {new : L} → Stops talk since fault downs (map text (next_of split.later)) some.now new
        → Stops talk since fault downs (map text (backup_front told.device ++ (flat_map backup_of split.kept ++ next_of split.later))) old new
    all_stops {new} stops =
        rw (map-append text (backup_front told.device) (flat_map backup_of split.kept ++ next_of split.later))
        (stops_then talk since fault downs since_more (backup_front told.device) (map text (flat_map backup_of split.kept ++ next_of split.later)) old link new
        front_does front_stops
        (rw (map-append text (flat_map backup_of split.kept) (next_of split.later))
        (stops_then talk since fault downs since_more (flat_map backup_of split.kept) (map text (next_of split.later)) link some.now new kept_does
        kept_stops stops)))

    files : contents left.folder ≡ option_map (put_all (map (λ (d : DatabaseValue). file_of (read_of told.device d)) split.kept)) (contents folder)
    files =
        some.files
        ∙ ap (λ (ws : List DatabaseValue). option_map (put_all (map file_of ws)) (contents folder)) all.wholes_are
        ∙ ap (λ (es : List EntryValue). option_map (put_all es) (contents folder)) (files-are told.device split.kept)

    moments_are : EachMomentSince (HasSome (map (λ (d : DatabaseValue). file_of (read_of told.device d)) split.kept) (contents folder)) (moments folder)
        (moments left.folder)
    moments_are =
        subst (λ (es : List EntryValue). EachMomentSince (HasSome es (contents folder)) (moments folder) (moments left.folder))
        (ap (map file_of) all.wholes_are ∙ files-are told.device split.kept) some.each_moment

    ends : (answer : Result (Vec Moved) Stop) (new : L) → Stops talk since fault downs (map text (next_of split.later)) some.now new
        → (IsErrOf answer stop.DeskFault → (split.later ≢ []) × Does talk (next_of split.later) some.now new)
        → IfOk answer (λ moved. (split.later ≡ [])
        × (Does talk (backup_acts told.device) old new × (moved.items ≡ map (λ (d : DatabaseValue). kept_moved (read_of told.device d)) told.device.databases)))
        → IfErr answer (IsBackupCause talk fault new) → BackupEnds talk since fault downs contents moments told.device old new folder left.folder answer
    ends answer new stops unkept ended cause = record {
      kept = split.kept;
      later = split.later;
      parts = split.parts;
      files = files;
      each_moment = moments_are;
      stops = all_stops stops;
      now = some.now;
      behind = inr (all_does, stops);
      unkept = λ is. let next = unkept is in (next.0, read_does next.1);
      ended = ended;
      cause = cause;
    }

    none_later : (later : List DatabaseValue) → [] ≡ map head_of later → later ≡ []
    none_later [] same = refl
    none_later (d ∷ later) same = absurd cc

    unended : (why : Stop) (new : L) → new ≡ went.now.link
        → (IsErrOf {T = Vec Moved} (Err why) stop.DeskFault → (some.rest ≢ []) × Does talk (next_acts (talk some.now) some.rest some.next) some.now went.now.link)
        → IsBackupCause talk fault went.now.link why
        → BackupEnds talk since fault downs contents moments told.device old new folder left.folder (Err why)
    unended why new same unkept cause =
        rw same (ends (Err why) went.now.link
        (next_stops some.rest split.later split.rest_is (held_last told.device.databases split.kept split.later held) some.behind)
        (λ is. let next = unkept is in
        next_does some.rest split.later split.rest_is (held_last told.device.databases split.kept split.later held) next.0 next.1) tt cause)

    by : (answer told_end : Result (Vec Moved) Stop)
        → (IsErrOf answer stop.DeskFault → (some.rest ≢ []) × Does talk (next_acts (talk some.now) some.rest some.next) some.now went.now.link)
        → OnOk answer ((some.rest ≡ []) × (went.now.link ≡ some.now))
        → IfOk answer (λ moved. moved.items ≡ map kept_moved some.wholes) → IfErr answer (IsBackupCause talk fault went.now.link)
        → Finishes talk since fault downs went.now.link left.link answer told_end
        → BackupEnds talk since fault downs contents moments told.device old left.link folder left.folder told_end
    unfolding backup_acts
    by (Ok moved) (Ok other) unkept whole said cause finishes =
        let none : split.later ≡ [] = none_later split.later (sym whole.0 ∙ split.rest_is) in
        let kept : split.kept ≡ told.device.databases
        = sym (append-nil split.kept) ∙ ap (λ (ds : List DatabaseValue). split.kept ++ ds) (sym none) ∙ split.parts in
        let acts : (backup_front told.device ++ flat_map backup_of split.kept) ++ ending ∷ [] ≡ backup_acts told.device
        = ap (λ (ds : List DatabaseValue). (backup_front told.device ++ flat_map backup_of ds) ++ ending ∷ []) kept
        ∙ append_assoc (backup_front told.device) (flat_map backup_of told.device.databases) (ending ∷ [])
        ∙ append_assoc greeting (listings (max 1 (length told.device.databases))) (flat_map backup_of told.device.databases ++ ending ∷ []) in
        ends (Ok other) left.link (rw none (rw whole.1 at finishes.0)) (λ is. absurd cc) (
          none,
          (
            subst (λ (acts : List Act). Does talk acts old left.link) acts
                (does_then talk (backup_front told.device ++ flat_map backup_of split.kept) (ending ∷ []) old some.now left.link all_does (rw whole.1 at finishes.1.0)),
            ap (λ (v : Vec Moved). v.items) finishes.1.1 ∙ said ∙ ap (map kept_moved) all.wholes_are ∙ told-are told.device split.kept
                ∙ ap (map (λ (d : DatabaseValue). kept_moved (read_of told.device d))) kept,
          ),
        )
        tt
    by (Ok moved) (Err (stop.Session why)) unkept whole said cause finishes =
        let none : split.later ≡ [] = none_later split.later (sym whole.0 ∙ split.rest_is) in
        ends (Err (stop.Session why)) left.link (rw none (rw whole.1 at finishes.0)) (λ is. absurd cc) tt finishes.1
    by (Ok moved) (Err stop.DeskFault) unkept whole said cause finishes = absurd finishes
    by (Ok moved) (Err (stop.Limit name)) unkept whole said cause finishes = absurd finishes
    by (Ok moved) (Err (stop.NewHandheld name)) unkept whole said cause finishes = absurd finishes
    by (Err why) told_end unkept whole said cause finishes = rw finishes.1 (unended why left.link finishes.0 unkept cause)

    pub met_ends : BackupEnds talk since fault downs contents moments told.device old left.link folder left.folder left.end
    met_ends = by went.answer left.end some.unkept some.all some.told some.cause went.finishes

  pub over_ends : {met : Met L} → MeetsOrNot talk since fault downs (unclaimed ∷ []) no_wish old (Ok met) → {left : MoveOutcome L F}
      → BackupWent talk since fault downs contents moments met.heads.items met.linked folder left
      → BackupEnds talk since fault downs contents moments told.device old left.link folder left.folder left.end
  over_ends (inl meets) went = met_ends meets went
  over_ends (inr lost) went = absurd lost

-- ---- what is left of the link

left_after : {L : Type 0} {talk : L → Option Talk} {since : L → L → Type 0} {fault : L → Option LinkFault} {downs : L → ℕ} {zs : List (List ℕ)} {a b : L}
    → Stops talk since fault downs zs a b → Leaves since fault downs a b
left_after stops = record { later = stops.later; fell = stops.fell }

fell_on : {a b c : Option LinkFault} {x y z : ℕ} → WentDown a x y (b ≡ Some link_fault.Down) → WentDown b y z (c ≡ Some link_fault.Down)
    → WentDown a x z (c ≡ Some link_fault.Down)
fell_on first second = grind (arith, common_steps, nat_tests)

leaves_then : {L : Type 0} {since : L → L → Type 0} {fault : L → Option LinkFault} {downs : L → ℕ}
    (since_more : (a b c : L) → since a b → since b c → since a c) (a b c : L) → Leaves since fault downs a b → Leaves since fault downs b c
    → Leaves since fault downs a c
leaves_then since_more a b c first second = record { later = since_more a b c first.later second.later; fell = fell_on first.fell second.fell }

finish_left : {L : Type 0} (talk : L → Option Talk) {since : L → L → Type 0} {fault : L → Option LinkFault} {downs : L → ℕ}
    (since_more : (a b c : L) → since a b → since b c → since a c) (old now new : L) (answer told : Result (Vec Moved) Stop)
    → Finishes talk since fault downs now new answer told → Leaves since fault downs old now → Leaves since fault downs old new
finish_left talk since_more old now new (Ok moved) (Ok other) finishes before = leaves_then since_more old now new before (left_after finishes.0)
finish_left talk since_more old now new (Ok moved) (Err (stop.Session cause)) finishes before = leaves_then since_more old now new before (left_after finishes.0)
finish_left talk since_more old now new (Ok moved) (Err stop.DeskFault) finishes before = absurd finishes
finish_left talk since_more old now new (Ok moved) (Err (stop.Limit name)) finishes before = absurd finishes
finish_left talk since_more old now new (Ok moved) (Err (stop.NewHandheld name)) finishes before = absurd finishes
finish_left {L} talk {since} {fault} {downs} since_more old now new (Err why) told finishes before =
    subst (λ (l : L). Leaves since fault downs old l) (sym finishes.0) before

pub over_leaves : {L F : Type 0} {talk : L → Option Talk} {since : L → L → Type 0} {fault : L → Option LinkFault} {downs : L → ℕ}
    {contents : F → Option FileMap} {moments : F → Moments} (since_more : (a b c : L) → since a b → since b c → since a c) {old : L} {folder : F}
    {met : Met L} → MeetsOrNot talk since fault downs (unclaimed ∷ []) no_wish old (Ok met) → {left : MoveOutcome L F}
    → BackupWent talk since fault downs contents moments met.heads.items met.linked folder left → Leaves since fault downs old left.link
over_leaves {talk = talk} since_more {old} {met = met} (inl meets) {left} went =
    let some = went.keeps in
    finish_left talk since_more old went.now.link left.link went.answer left.end went.finishes
    (leaves_then since_more old some.now went.now.link
    (leaves_then since_more old met.linked.link some.now (left_after meets.stops) (left_after some.stops)) (left_after some.behind))
over_leaves since_more (inr lost) went = absurd lost
