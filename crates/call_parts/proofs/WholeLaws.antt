-- How far what went over a line was dealt with, by how the session over it ended.
use Rattle.std.proofs.lemmas.Grind.{common_steps}
use Rattle.std.proofs.Common.{◌≡◌, ◌⊎◌, ◌∙◌, ◌+◌, ◌<◌, ap, append_assoc, arith, drop, inl, inr, length, refl, sym, subst, take, ℕ, zero, suc, Bool, true}
use Rattle.std.proofs.Common.{false, List, [], ◌∷◌, ◌++◌}
use Rattle.std.specs.Prelude.{IsSome, OnOk, Option, None, Some, Result, Ok, Err, map}
use Rattle.std.specs.Global.{Vec}
use Rattle.std.proofs.lemmas.List.{append_cancel_left, length-append, take_all}
use Rattle.padp_link.specs.declared.piece.Key.{Key}
use Rattle.dlp_commands.specs.declared.link.LinkFault.{LinkFault}
use Rattle.dlp_commands.specs.declared.link.LinkFault.TheVariants as link
use Rattle.trace_text.specs.declared.frame.End.{End}
use Rattle.trace_text.specs.Fates.{FateValue, ends_run}
use Rattle.trace_text.specs.Parts.{Part, message_parts}
use Rattle.trace_text.specs.Stories.{IsStoryOf, told_parts}
use Rattle.trace_text.specs.TraceLines.{FrameValue}
use Rattle.padp_link.specs.Neighbours.{session_id}
use Rattle.line_steps.specs.Acknowledging.{EndsAcknowledging}
use Rattle.line_steps.specs.declared.harm.Stop.{Stop as LineStop}
use Rattle.line_steps.specs.Sending.{StopsBy}
use Rattle.line_steps.specs.Stories.{told_from}
use Rattle.line_steps.specs.TalkTelling.{bytes_of, wake}
use Rattle.line_world.specs.Causes.{BearsOut, IsCause, down_end}
use Rattle.line_world.specs.Stops.{EndsBy}
use Rattle.line_world.specs.Logs.{LogValue, no_log}
use Rattle.line_world.specs.Worlds.{EndsAcknowledged, TellDone, WorldValue, world_talk}
use Rattle.line_world.specs.declared.down.Down.{Down}
use Rattle.line_world.specs.declared.down.Down.TheVariants as down
use Rattle.desktop_session.specs.Acts.{Act, text}
use Rattle.desktop_session.specs.Says.{IsPrefix}
use Rattle.desktop_session.specs.Stops.{Does}
use Rattle.session_parts.specs.declared.report.DbReport.{DbReport}
use Rattle.session_parts.specs.declared.stop.Stop.{Stop}
use Rattle.call_parts.specs.Causes.{EndsAs, IsFallen, IsLineDown, cause_in}
use Rattle.call_parts.specs.LineRuns.{frames_in, log_in}
use Rattle.call_parts.specs.Closings.{Closes, left_end, left_status}
use Rattle.call_parts.specs.Whole.{DealtWith, StopsAnswered, TellsDone, WentWhole}
use Rattle.call_parts.proofs.EndLaws.{all_answered, logged_all}
use Rattle.call_parts.specs.declared.report.Report.{Report}
use Rattle.call_parts.specs.declared.report.SessionEnd.TheVariants.{Ended}
use Rattle.cmd_status.specs.declared.status.Status.{Status}
use Rattle.cmd_status.specs.declared.status.Status.TheVariants.{Done, Usage, BadWord, BadScript, TooLong, BadFile, TooMany, HandheldFolder, DesktopFolder, SourceRead}
use Rattle.cmd_status.specs.declared.status.Status.TheVariants.{TraceWrite, OutWrite, NoMemory, LineDown, Unplugged, Aborted, Undetected, OtherUser}
use Rattle.cmd_status.specs.declared.status.Status.TheVariants.{TooManyUsers, Limit, NewHandheld, WrongSide, InUse, CannotExport, BadRecord, BadText, Overfull, BadTrace, NotProper, BadCategories, CannotInstall, NotBackupFolder, SameDatabase}
use Rattle.cmd_status.specs.declared.status.Status.TheVariants.{StreamEnded, StreamAborted, BadHello, Refused, BadReply}
use Rattle.cmd_status.specs.declared.status.Status.TheVariants.{PortFailed, NoHandheld, LineSilent, LineEndless, PeerAborted, PeerBeganAnew}

-- ---- the frames tell one story

-- parts that tell these messages don't tell the first of them alone
told_once : (number : ℕ) (messages : List (List ℕ)) (n : ℕ) {parts : List Part} → n < length messages
    → IsStoryOf parts (told_from number (take n messages)) → IsStoryOf parts (told_from number messages) → ⊥
told_once number [] n less few all = omega (arith, less)
told_once number (message ∷ later) zero less few all =
    grind (arith, append_assoc (message_parts (session_id number) message) (told_parts (told_from (number + 1) later)) all.rest)
told_once number (message ∷ later) (suc n) less few all =
    let first = message_parts (session_id number) message in
    let short = told_parts (told_from (number + 1) (take n later)) in
    let long = told_parts (told_from (number + 1) later) in
    let same =
    append_cancel_left first (short ++ few.rest) (long ++ all.rest) (sym (append_assoc first short few.rest) ∙ sym few.is ∙ all.is
    ∙ append_assoc first long all.rest) in
    told_once (number + 1) later n {parts = short ++ few.rest} (omega (arith, less)) (record { rest = few.rest; is = refl; unfinished = few.unfinished })
    (record { rest = all.rest; is = same; unfinished = all.unfinished })

-- ---- the last frame

last_same : {A : Type 0} (xs ys : List A) (x y : A) → xs ++ x ∷ [] ≡ ys ++ y ∷ [] → x ≡ y
last_same [] [] x y same = cc
last_same [] (b ∷ ys) x y same = absurd (omega (arith, ap (λ (l : List _). length l) same, length-append ys (y ∷ [])))
last_same (a ∷ xs) [] x y same = absurd (omega (arith, ap (λ (l : List _). length l) same, length-append xs (x ∷ [])))
last_same (a ∷ xs) (b ∷ ys) x y same = last_same xs ys x y (ap (λ (l : List _). drop 1 l) same)

stop_ends : (why : LineStop) (given : FateValue) (bytes : List ℕ) → StopsBy given bytes (Some why) → ends_run given bytes ≡ true
stop_ends why given bytes is = grind (arith, common_steps)

-- a run that goes on behind its last frame doesn't end with it
pub goes_on : {why : LineStop} {Y : End} {key : Key} {frames : List FrameValue} → EndsBy why frames → EndsAcknowledging Y key frames → ⊥
goes_on {why} ends acked =
    grind (
      arith,
      last_same ends.before acked.before ends.last acked.last (sym ends.is
          ∙ acked.is),
      stop_ends why ends.last.fate ends.last.bytes ends.stops,
      false,
    )

-- ---- what a fallen line left off

tells_done : (status : Status) {log : LogValue} {answered : ℕ} {fault : Option LinkFault} {cause : Option Down} {frames : List FrameValue}
    → (down_end cause ≡ None → IsLineDown status → ⊥) → TellDone log answered fault cause frames → TellsDone status log answered frames
tells_done status up done = grind arith

fallen_cause : (answer : Result (Vec DbReport) Stop) (cause : Option Down) {status : Status} → (status ≡ left_status cause answer) ⊎ (status ≡ NoMemory)
    → IsFallen status → IsSome cause
fallen_cause answer cause e fallen = grind (arith, common_steps)

down_fault : (fault : Option LinkFault) (cause : Option Down) → IsCause fault cause → IsSome cause → fault ≡ Some link.Down
down_fault fault cause caused some = grind (arith, common_steps)

-- ---- what was answered

-- these acts were some of what is asked, but not all, and each was answered
pub record SaidShort {F : Type 0} (asked : List (List ℕ)) (old new : WorldValue F) : Type 0 where
  pub acts : List Act
  pub does : Does (λ (world : WorldValue F). Some (world_talk world)) acts old new
  pub some : 0 < length (map text acts)
  pub short : length (map text acts) < length asked

-- these acts were all that is asked, and each was answered
pub record SaidWhole {F : Type 0} (asked : List (List ℕ)) (old new : WorldValue F) : Type 0 where
  pub acts : List Act
  pub does : Does (λ (world : WorldValue F). Some (world_talk world)) acts old new
  pub all : map text acts ≡ asked

-- what an answer says of a session, of which this is all that is asked
pub record SaidOf {F : Type 0} (asked : List (List ℕ)) (old new : WorldValue F) (answer : Result (Vec DbReport) Stop) (status : Status) : Type 0 where
  pub some : 0 < length asked
  pub begins : IsPrefix new.log.issued asked
  pub whole : OnOk answer (SaidWhole asked old new)
  pub short : StopsAnswered status → SaidShort asked old new

-- the answer of a session that ended
whole_of : {F : Type 0} {asked : List (List ℕ)} {old new : WorldValue F} (answer : Result (Vec DbReport) Stop) → OnOk answer (SaidWhole asked old new)
    → left_end answer ≡ Ended → SaidWhole asked old new
whole_of (Ok made) whole ended = whole
whole_of (Err why) whole ended = absurd cc

-- ---- a whole session

none_some : {xs : List (List ℕ)} → 0 < length xs → xs ≡ [] → ⊥
none_some some none = omega (arith, some, ap (λ (l : List (List ℕ)). length l) none)

-- one that ended
went_whole : {asked : List (List ℕ)} {status : Status} (report : Report) {answered : ℕ} → 0 < length asked → (log_in report).issued ≡ asked
    → (log_in report).performed ≡ asked → length (log_in report).replies ≡ length (log_in report).performed
    → ((log_in report).issued ≡ []) ⊎ TellsDone status (log_in report) answered (frames_in report) → length (log_in report).issued ≡ answered
    → (0 < answered → length (log_in report).issued ≡ answered → EndsAcknowledged (log_in report) (frames_in report)) → WentWhole asked report
went_whole report {answered} some issued performed same done all acked =
    grind (
      arith,
      length (log_in report).issued,
      length (log_in report).replies,
      none_some {xs = (log_in report).issued},
      take_all answered (log_in report).replies,
    )

-- what went over whole isn't what a fallen line left off
pub record Over (status : Status) (report : Report) (answered : ℕ) : Type 0 where
  pub done : ((log_in report).issued ≡ []) ⊎ TellsDone status (log_in report) answered (frames_in report)
  pub fallen : IsFallen status → ((log_in report).issued ≡ []) ⊎ (answered < length (log_in report).issued)
  pub unserved : status ≡ HandheldFolder → length (log_in report).performed < length (log_in report).issued
  pub same : length (log_in report).replies ≡ length (log_in report).performed
  pub caused : BearsOut (cause_in status report.faulted.items) (frames_in report)
  pub ends : EndsAs status report.end

fell : (status : Status) (report : Report) (answered : ℕ) {asked : List (List ℕ)} → 0 < length asked → Over status report answered → WentWhole asked report
    → IsFallen status → IsLineDown status → ⊥
fell status report answered more over whole fallen is_down =
    let some : 0 < length (log_in report).issued = omega (arith, more, ap (λ (l : List (List ℕ)). length l) whole.issued) in
    elim (over.fallen fallen) [
      | inl none ↦ none_some some none
      | inr few ↦ elim over.done [
        | inl none ↦ none_some some none
        | inr tells ↦ elim tells.replies [
          | inl just ↦ told_once 0 (bytes_of wake ∷ (log_in report).replies) (suc answered) (omega (arith, few, whole.replied)) just whole.told
          | inr more ↦ more.0 is_down
        ]
      ]
    ]

module _ {asked : List (List ℕ)} where
  stopped_short : {report : Report} → WentWhole asked report → length (log_in report).issued < length asked → ⊥
  stopped_short whole short = omega (arith, short, ap (λ (l : List (List ℕ)). length l) whole.issued)

  whole_over : (status : Status) {report : Report} {answered : ℕ} → 0 < length asked → Over status report answered
      → (StopsAnswered status → length (log_in report).issued < length asked) → WentWhole asked report
      → (report.end ≡ Ended) ⊎ (status ≡ NoMemory)
  whole_over Done some over short whole = inl over.ends
  whole_over TraceWrite some over short whole = inl over.ends
  whole_over OutWrite some over short whole = inl over.ends
  whole_over NoMemory some over short whole = inr refl
  whole_over Usage some over short whole = absurd over.ends
  whole_over (BadWord command kind word) some over short whole = absurd over.ends
  whole_over (BadScript line) some over short whole = absurd over.ends
  whole_over TooLong some over short whole = absurd over.ends
  whole_over (BadFile a b c d) some over short whole = absurd over.ends
  whole_over (TooMany side) some over short whole = absurd over.ends
  whole_over (WrongSide side) some over short whole = absurd over.ends
  whole_over (InUse side) some over short whole = absurd over.ends
  whole_over SourceRead some over short whole = absurd over.ends
  whole_over (CannotExport name form) some over short whole = absurd over.ends
  whole_over (BadRecord index place) some over short whole = absurd over.ends
  whole_over (BadText line flaw) some over short whole = absurd over.ends
  whole_over (Overfull what) some over short whole = absurd over.ends
  whole_over (BadTrace line) some over short whole = absurd over.ends
  whole_over (NotProper rule) some over short whole = absurd over.ends
  whole_over (BadCategories name) some over short whole = absurd over.ends
  whole_over (CannotInstall name) some over short whole = absurd over.ends
  whole_over NotBackupFolder some over short whole = absurd over.ends
  whole_over (SameDatabase first second) some over short whole = absurd over.ends
  whole_over StreamEnded some over short whole = absurd over.ends
  whole_over StreamAborted some over short whole = absurd over.ends
  whole_over BadHello some over short whole = absurd over.ends
  whole_over PortFailed some over short whole = absurd over.ends
  whole_over NoHandheld some over short whole = absurd over.ends
  whole_over LineSilent some over short whole = absurd over.ends
  whole_over LineEndless some over short whole = absurd over.ends
  whole_over PeerAborted some over short whole = absurd over.ends
  whole_over PeerBeganAnew some over short whole = absurd over.ends
  whole_over (Refused function code) some over short whole = absurd over.ends
  whole_over (BadReply function) some over short whole = absurd over.ends
  whole_over (OtherUser handheld desktop) some over short whole = absurd (stopped_short whole (short tt))
  whole_over TooManyUsers some over short whole = absurd (stopped_short whole (short tt))
  whole_over (Limit name) some over short whole = absurd (stopped_short whole (short tt))
  whole_over (NewHandheld name) some over short whole = absurd (stopped_short whole (short tt))
  whole_over DesktopFolder some over short whole = absurd (stopped_short whole (short tt))
  whole_over (LineDown end) {report} {answered} some over short whole = absurd (fell (LineDown end) report answered some over whole tt tt)
  whole_over (Unplugged number) some over short whole = absurd (goes_on over.caused.1 whole.acked.acked)
  whole_over (Aborted number) some over short whole = absurd (goes_on over.caused.1 whole.acked.acked)
  whole_over (Undetected number) some over short whole = absurd (goes_on over.caused.1 whole.acked.acked)
  whole_over HandheldFolder some over short whole = absurd (omega (arith, over.unserved refl, over.same, whole.replied))

-- only a fallen line, or want of memory, leaves a request without an answer
cut_short : (status : Status) (report : Report) (answered : ℕ) → EndsAs status report.end
    → ((report.end ≡ Ended) ⊎ StopsAnswered status → length (log_in report).issued ≡ answered) → answered < length (log_in report).issued
    → IsFallen status ⊎ (status ≡ NoMemory)
cut_short status report answered ends all few = grind (arith, common_steps)

-- ---- all of it

-- the world's part, told in the words of its report
pub dealt_with : {F : Type 0} (asked : List (List ℕ)) (old new : WorldValue F) {answer : Result (Vec DbReport) Stop} {status : Status} {report : Report}
    → old.log ≡ no_log → Closes new answer status report → SaidOf asked old new answer status
    → length (log_in report).replies ≡ length (log_in report).performed → (down_end new.cause ≡ None → IsLineDown status → ⊥)
    → (status ≡ HandheldFolder → new.cause ≡ Some down.Keeper) → EndsAs status report.end
    → BearsOut (cause_in status report.faulted.items) (frames_in report) → DealtWith asked status report new.answered
dealt_with {F} asked old new {answer} {status} {report} silent closes of same up keeper ends bears = record {
  done = done;
  fallen = fallen;
  unserved = unserved;
  all = all;
  cut = cut_short status report new.answered ends all;
  whole = whole;
  over = whole_over status of.some over short;
}
  where
    log : new.log ≡ log_in report
    log = sym closes.tells.said

    split : (begun : Bool) → new.begun ≡ begun → ((log_in report).issued ≡ []) ⊎ TellsDone status (log_in report) new.answered (frames_in report)
    split true begun =
        let told = tells_done status up (closes.tells.done begun) in
        inr (subst (λ (l : LogValue). TellsDone status l new.answered (frames_in report)) log told)
    split false begun = inl (ap (λ (l : LogValue). l.issued) closes.tells.said ∙ closes.tells.silent begun)

    done : ((log_in report).issued ≡ []) ⊎ TellsDone status (log_in report) new.answered (frames_in report)
    done = split new.begun refl

    fallen : IsFallen status → ((log_in report).issued ≡ []) ⊎ (new.answered < length (log_in report).issued)
    fallen fell =
        let some = fallen_cause answer new.cause closes.left.status fell in
        let off = closes.tells.left_off.down (down_fault new.fault new.cause closes.caused some) in
        subst (λ (l : LogValue). (l.issued ≡ []) ⊎ (new.answered < length l.issued)) log off

    unserved : status ≡ HandheldFolder → length (log_in report).performed < length (log_in report).issued
    unserved blamed = subst (λ (l : LogValue). length l.performed < length l.issued) log (closes.tells.left_off.keeper (keeper blamed))

    over : Over status report new.answered
    over = record { done = done; fallen = fallen; unserved = unserved; same = same; caused = bears; ends = ends }

    ended : report.end ≡ Ended → SaidWhole asked old new
    ended finished = whole_of answer of.whole (sym closes.left.end ∙ finished)

    answered : (report.end ≡ Ended) ⊎ StopsAnswered status → length new.log.issued ≡ new.answered
    answered (inl finished) = all_answered silent closes.tells.log (ended finished).does
    answered (inr which) = all_answered silent closes.tells.log (of.short which).does

    all : (report.end ≡ Ended) ⊎ StopsAnswered status → length (log_in report).issued ≡ new.answered
    all which = subst (λ (l : LogValue). length l.issued ≡ new.answered) log (answered which)

    short : StopsAnswered status → length (log_in report).issued < length asked
    short which =
        let few = of.short which in
        let logged = logged_all silent closes.tells.log few.does in
        omega (arith, few.short, ap (λ (l : List (List ℕ)). length l) logged.issued_are, ap (λ (l : LogValue). length l.issued) closes.tells.said)

    whole : report.end ≡ Ended → WentWhole asked report
    whole finished =
        let e = ended finished in
        let logged = logged_all silent closes.tells.log e.does in
        let acked = subst (λ (l : LogValue). 0 < new.answered → length l.issued ≡ new.answered → EndsAcknowledged l (frames_in report)) log closes.tells.acked in
        let issued : (log_in report).issued ≡ asked = ap (λ (l : LogValue). l.issued) closes.tells.said ∙ logged.issued_are ∙ e.all in
        let performed : (log_in report).performed ≡ asked = ap (λ (l : LogValue). l.performed) closes.tells.said ∙ logged.performed_are ∙ e.all in
        went_whole {status = status} report of.some issued performed same done (all (inl finished)) acked

-- so much was issued where it stopped behind the answers to all of it
pub some_issued : {F : Type 0} {asked : List (List ℕ)} {old new : WorldValue F} {answer : Result (Vec DbReport) Stop} {status : Status} {report : Report}
    → old.log ≡ no_log → Closes new answer status report → SaidOf asked old new answer status → StopsAnswered status → 0 < length (log_in report).issued
some_issued silent closes of which =
    let few = of.short which in
    let logged = logged_all silent closes.tells.log few.does in
    omega (arith, few.some, ap (λ (l : List (List ℕ)). length l) logged.issued_are, ap (λ (l : LogValue). length l.issued) closes.tells.said)

-- ---- under another status

-- what holds, or else another thing with an excuse, holds so with another excuse
excused : {A P Q B C : Type 0} → Q → A ⊎ (P × B × C) → A ⊎ (Q × B × C)
excused excuse (inl whole) = inl whole
excused excuse (inr (_, less, story)) = inr (excuse, less, story)

done_as : {status : Status} (other : Status) {log : LogValue} {answered : ℕ} {frames : List FrameValue} → (IsLineDown other → ⊥)
    → (log.issued ≡ []) ⊎ TellsDone status log answered frames → (log.issued ≡ []) ⊎ TellsDone other log answered frames
done_as other up (inl none) = inl none
done_as other up (inr told) = inr (record { requests = excused up told.requests; replies = excused up told.replies })

-- where neither the line nor the handheld's folder is blamed, nor a limit
pub dealt_as : {asked : List (List ℕ)} {status other : Status} {report : Report} {answered : ℕ} → (IsLineDown other → ⊥) → (IsFallen other → ⊥)
    → (StopsAnswered other → ⊥) → (report.end ≡ Ended) ⊎ (other ≡ NoMemory) → DealtWith asked status report answered
    → DealtWith asked other report answered
dealt_as {other} up stands free ends dealt = grind (arith, done_as other up dealt.done)
