-- What goes over a link behind which a handheld of another make stands.
use Rattle.std.proofs.Common.{◌≡◌, refl, sym, ap, subst, inl, inr, ℕ, List, [], ◌∷◌}
use Rattle.std.specs.Prelude.{◌⊎◌, Option, None, Result, Ok, Err}
use Rattle.std.specs.Global.{Vec}
use Rattle.hs_folders.specs.declared.folder.Folder.{Ghosts as FolderMembers}
use Rattle.dlp_args.specs.Fields.{Fields}
use Rattle.dlp_requests.specs.Forms as form
use Rattle.dlp_requests.specs.Forms.{Form, kinds_of}
use Rattle.dlp_requests.specs.RequestReading.{request_at}
use Rattle.dlp_replies.specs.ReplyValues.{ReplyValue}
use Rattle.desk_store.specs.Views.{DeskValue, shelves_in}
use Rattle.desk_store.specs.declared.fault.CommitFault.{CommitFault}
use Rattle.dlp_commands.specs.Tries.{Answered, Try, Unanswered}
use Rattle.dlp_commands.specs.declared.link.Link.{Ghosts}
use Rattle.dlp_commands.specs.declared.link.LinkFault.{LinkFault}
use Rattle.desktop_session.specs.declared.fault.SessionFault.{SessionFault}
use Rattle.desktop_session.specs.Following.{Follows, IsAnswerTo}
use Rattle.desktop_session.specs.Inquiries.{After, Ends, Inquiry}
use Rattle.session_parts.specs.declared.outcome.Outcome.{Outcome}
use Rattle.session_parts.specs.declared.report.DbReport.{DbReport}
use Rattle.session_parts.specs.Stopping.{stop_of}
use Rattle.session_parts.specs.declared.stop.Stop.{Stop}
use Rattle.session_parts.specs.declared.stop.Stop.TheVariants as stop
use Rattle.session_plan.specs.Commits.{CommitsPlanned}
use Rattle.session_plan.specs.declared.planned.Planned.{Planned}
use Rattle.session_plan.specs.declared.wishes.Wishes.{Wishes}
use Rattle.sync_session.specs.ByReplies.{AfterCommit, AfterJudging, AfterLearning, AfterNews, AsksSession, Commits, Decides, Finishes, IsJudged, Sends, Work, end_by}
use Rattle.sync_session.specs.Courses.{done_for, stopped}
use Rattle.sync_session.specs.Inquiries.{Learnt, finishes, learns, sends}
use Rattle.foreign_laws.specs.Endings.{EndsOver, TakesEach}
use Rattle.foreign_laws.specs.Foreign.{Foreign, ForeignStep, Grants, Refuses}
use Rattle.foreign_laws.specs.Links.{ChangesBy, LeadsTo, OwnStepOrNone}
use Rattle.foreign_laws.specs.Sessions.{EndedWith, EndsBehind, picked}
use Rattle.foreign_laws.proofs.EndLaws.{tries_end}

-- ---- a part that was answered

-- it ended over what took the tries
record EndedPart {L A S : Type 0} (link : Ghosts L) (Step : S → List ℕ → List ℕ → S → Type 0) (asked : Inquiry A) (new : L) (from to : S) (x : A) : Type 0 where
  ends : EndsOver Step asked from x to
  fine : link.fault new ≡ None

part_ends : {L A S : Type 0} (link : Ghosts L) (Step : S → List ℕ → List ℕ → S → Type 0) (asked : Inquiry A) (old new : L) (x : A)
    (follows : Follows link asked old new (Ok x)) (from to : S) → link.fault old ≡ None → TakesEach Step from follows.tries to
    → EndedPart link Step asked new from to x
part_ends link Step asked old new x follows from to none takes =
    let leads = follows.leads none in
    let is = answer_is leads.left (link.fault new) x leads.stands in
    record {
      ends = tries_end Step asked follows.tries from x to (subst (λ (left : Inquiry _). After asked follows.tries left) is.0 leads.after) takes;
      fine = is.1;
    }
  where
    answer_is : {A : Type 0} (left : Inquiry A) (fault : Option LinkFault) (x : A) → IsAnswerTo left fault (Ok x) → (left ≡ Ends (Ok x)) × (fault ≡ None)
    answer_is left fault x (inl is) = is
    answer_is left fault x (inr cut) = absurd cut

pub followed_ends : {L A : Type 0} (link : Ghosts L) (asked : Inquiry A) (old new : L) (x : A) (follows : Follows link asked old new (Ok x)) (from to : Foreign)
    → link.fault old ≡ None → TakesEach ForeignStep from follows.tries to → EndsOver ForeignStep asked from x to
followed_ends link asked old new x follows from to none takes = (part_ends link ForeignStep asked old new x follows from to none takes).ends

-- ---- a session that ended

both_ends : {A E : Type 0} {end : Result A E} (x : A) (cause : E) → end ≡ Ok x → end ≡ Err cause → ⊥
both_ends x cause is other = cc

module _ {L F : Type 0} (link : Ghosts L) (folder : FolderMembers F) (hand : L → Foreign) (to : LeadsTo link hand) (left : Outcome L F) (told : Vec DbReport)
    (ok : left.end ≡ Ok told) where
  stays : (cause : Stop) (now : L) (kept : F) → left ≡ stopped now kept cause → ⊥
  stays cause now kept is = both_ends told cause ok (ap (λ (o : Outcome L F). o.end) is)

  -- behind the commit
  finished : (work : Work) (old : L) (kept : F) → Finishes link work old kept left → link.fault old ≡ None
      → EndsOver ForeignStep (finishes work.user work.done work.planned) (hand old) tt (hand left.link)
  finished work old kept goes none = by goes.answer goes.follows goes.end_is
    where
      by : (answer : Result (Unit {0}) SessionFault) → Follows link (finishes work.user work.done work.planned) old left.link answer
          → left.end ≡ end_by work.reports answer → EndsOver ForeignStep (finishes work.user work.done work.planned) (hand old) tt (hand left.link)
      by (Ok done) follows is =
          followed_ends link (finishes work.user work.done work.planned) old left.link tt follows (hand old) (hand left.link) none
          (to.takes old left.link follows.tries follows.heard)
      by (Err cause) follows is = absurd (both_ends told (stop.Session cause) ok is)

  module _ (wishes : Wishes) (learnt : Learnt) (desk : DeskValue F) (planned : List Planned) (reports : Vec DbReport)
      (judged : IsJudged wishes learnt desk planned (Ok reports)) where
    abbrev work : Work
    work = record { user = learnt.user; done = done_for wishes learnt.user desk; planned = planned; reports = reports }

    -- the desktop with which it ended
    record Left (old : L) : Type 0 where
      after : DeskValue F
      same : left.folder ≡ after.folder
      ends : EndsBehind ForeignStep folder wishes learnt (hand old) desk (hand left.link) after

    committed : (old now : L) (ids : List (List ℕ)) → EndsOver ForeignStep (sends (shelves_in desk) learnt.user planned) (hand old) ids (hand now)
        → link.fault now ≡ None → Commits link folder work ids now desk left → Left old
    committed old now ids news none goes = by goes.answer goes.commits goes.goes
      where
        by : (answer : Result (DeskValue F) (CommitFault × F))
            → CommitsPlanned folder.contents folder.moments folder.paths folder.faults (done_for wishes learnt.user desk) learnt.user planned ids desk answer
            → AfterCommit link work now answer left → Left old
        by (Ok after) commits finishing = record {
          after = after;
          same = finishing.same_folder;
          ends = record {
            planned = planned;
            reports = reports;
            judged = judged;
            ids = ids;
            told = hand now;
            news = news;
            commit = commits;
            ending = finished work now after.folder finishing none;
          };
        }
        by (Err refusal) commits is = absurd (stays (stop_of refusal.0) now refusal.1 is)

    sent : (old : L) → link.fault old ≡ None → Sends link folder work old desk left → Left old
    sent old none goes = by goes.answer goes.follows goes.goes
      where
        by : (answer : Result (List (List ℕ)) SessionFault) → Follows link (sends (shelves_in desk) learnt.user planned) old goes.now answer
            → AfterNews link folder work goes.now desk answer left → Left old
        by (Ok ids) follows commits =
            let part = part_ends link ForeignStep (sends (shelves_in desk) learnt.user planned) old goes.now ids follows (hand old) (hand goes.now) none
            (to.takes old goes.now follows.tries follows.heard) in
            committed old goes.now ids part.ends part.fine commits
        by (Err cause) follows is = absurd (stays (stop.Session cause) goes.now desk.folder is)

  decided : (wishes : Wishes) (learnt : Learnt) (old : L) (desk : DeskValue F) → link.fault old ≡ None
      → (goes : Decides link folder wishes learnt old desk left)
      → (after : DeskValue F) × (left.folder ≡ after.folder) × EndsBehind ForeignStep folder wishes learnt (hand old) desk (hand left.link) after
  decided wishes learnt old desk none goes = by goes.answer goes.plans goes.goes
    where
      by : (answer : Result (Vec DbReport) Stop) → IsJudged wishes learnt desk goes.planned answer
          → AfterJudging link folder wishes learnt.user goes.planned old desk answer left
          → (after : DeskValue F) × (left.folder ≡ after.folder) × EndsBehind ForeignStep folder wishes learnt (hand old) desk (hand left.link) after
      by (Ok reports) judged sends =
          let ended = sent wishes learnt desk goes.planned reports judged old none sends in
          (ended.after, ended.same, ended.ends)
      by (Err cause) judged is = absurd (stays cause old desk.folder is)

  pub session_ends : (wishes : Wishes) (old : L) (desk : DeskValue F) → link.fault old ≡ None → AsksSession link folder wishes old desk left
      → EndedWith ForeignStep folder wishes hand old desk left
  session_ends wishes old desk none goes = by goes.answer goes.follows goes.goes
    where
      by : (answer : Result Learnt SessionFault) → Follows link (learns wishes desk) old goes.now answer
          → AfterLearning link folder wishes goes.now desk answer left → EndedWith ForeignStep folder wishes hand old desk left
      by (Ok learnt) follows decides =
          let part = part_ends link ForeignStep (learns wishes desk) old goes.now learnt follows (hand old) (hand goes.now) none
          (to.takes old goes.now follows.tries follows.heard) in
          let ended = decided wishes learnt goes.now (picked wishes learnt.user desk) part.fine decides in
          record {
            after = ended.0;
            same = ended.1;
            ends = record { learnt = learnt; between = hand goes.now; learning = part.ends; behind = ended.2 };
          }
      by (Err cause) follows is = absurd (stays (stop.Session cause) goes.now desk.folder is)

-- ---- what changes

own_or_none : (f : Form) (fields : Fields (kinds_of f)) (bytes : List ℕ) → request_at bytes ≡ Ok (record { form = f; fields = fields })
    → (old new : Foreign) (value : ReplyValue) → Grants old f fields value new → OwnStepOrNone old.device bytes new.device
own_or_none form.ReadDbList fields bytes asked old new value grants = inl (ap (λ (hand : Foreign). hand.device) grants.1)
own_or_none f fields bytes asked old new value grants = inr (record { request = _; asked = asked; own = grants.own; step = grants.step })

pub step_or_none : (old new : Foreign) (bytes answer : List ℕ) → ForeignStep old bytes answer new → OwnStepOrNone old.device bytes new.device
step_or_none old new bytes answer step = by step.serves
  where
    by : Refuses old step.request step.value new ⊎ Grants old step.request.form step.request.fields step.value new → OwnStepOrNone old.device bytes new.device
    by (inl refuses) = inl (ap (λ (hand : Foreign). hand.device) refuses.same)
    by (inr grants) = own_or_none step.request.form step.request.fields bytes step.asked old new step.value grants

pub changes_by : (old : Foreign) (tries : List Try) (new : Foreign) → TakesEach ForeignStep old tries new → ChangesBy old.device tries new.device
changes_by old [] new takes = ap (λ (hand : Foreign). hand.device) takes
changes_by old (Answered bytes reply ∷ tries) new takes =
    (takes.0.device, step_or_none old takes.0 bytes reply takes.1, changes_by takes.0 tries new takes.2)
changes_by old (Unanswered bytes ∷ tries) new takes =
    (new.device, by takes.1, subst (λ (t : List Try). ChangesBy new.device t new.device) (sym takes.0) refl)
  where
    by : (new ≡ old) ⊎ ((answer : List ℕ) × ForeignStep old bytes answer new) → OwnStepOrNone old.device bytes new.device
    by (inl same) = inl (ap (λ (hand : Foreign). hand.device) same)
    by (inr step) = step_or_none old new bytes step.0 step.1
