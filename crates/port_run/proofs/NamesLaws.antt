-- A session over a cable names no database but those that its words touch.
use Rattle.std.proofs.Common.{◌≡◌, ◌∙◌, ℕ, Bool, true, false, List, [], ◌∷◌, ap, refl, subst, sym}
use Rattle.std.specs.Prelude.{Option, Some, None, is_some, if◌then◌else◌}
use Rattle.std.specs.List.{AllByRecursion}
use Rattle.dlp_requests.specs.RequestValues.{RequestValue}
use Rattle.dlp_commands.specs.Tries.{Answered, Try, Unanswered}
use Rattle.port_link.specs.Calls.{LinkValue}
use Rattle.port_link.specs.SinceLaws.{heard_more}
use Rattle.run_words.specs.Actions.{action_for}
use Rattle.run_words.specs.Cables.{Cable, cable_actions, only_of}
use Rattle.run_words.specs.Choices.{action_among, given_actions, is_among, names_in, restricted, restricted_to}
use Rattle.run_words.specs.declared.action.NamedAction.{NamedAction}
use Rattle.run_words.proofs.OnlyLaws.{action_for-restricted}
use Rattle.session_parts.specs.Naming.{AreSuch, NamesOnly, named_by}
use Rattle.session_plan.specs.Tasks.{action_of_word}
use Rattle.session_plan.specs.declared.wishes.Wishes.{Wishes}
use Rattle.sync_session.proofs.NamesLaws.{IsActed, session_named}
use Rattle.port_run.specs.Asking.{AsksCable, link_members}
use Rattle.port_run.specs.Links.{link_over}
use Rattle.port_run.specs.Names.{IsTouched, NamesTouched}
use Rattle.port_run.specs.Syncs.{SessionRan}
use Rattle.port_run.specs.Told.{SyncTold}
use Rattle.port_run.specs.Wishes.{AsksFor}
use Rattle.port_run.specs.declared.synced.CableReport.{CableReport}
use Rattle.cmd_status.specs.declared.status.Status.{Status}

-- what has an action is touched
among : (names : List (List ℕ)) (actions : List NamedAction) (name : List ℕ) → is_some (action_of_word (action_among names actions name)) ≡ true
    → is_among names name ≡ true
among names actions name acted = by (is_among names name) refl acted
  where
    by : (test : Bool) → is_among names name ≡ test → is_some (action_of_word (action_among names actions name)) ≡ true → is_among names name ≡ true
    by true is acted = is
    by false is acted = absurd (let none : false ≡ true = rw is at acted in cc)

acted_touched : {cable : Cable} {wishes : Wishes} → AsksFor cable wishes → (name : List ℕ) → IsActed wishes name → IsTouched cable name
acted_touched {cable} {wishes} asks name acted = λ stems only.
    among (names_in stems) (given_actions cable.actions) name
    (subst (λ word. is_some (action_of_word word) ≡ true)
    (ap (action_for name) (asks.actions ∙ ap (λ (some : Option (List ℕ)). restricted_to some (given_actions cable.actions)) only)
    ∙ action_for-restricted (names_in stems) (given_actions cable.actions) name) acted)

-- what names such databases alone names those alone that these are
names_weaker : (P Q : List ℕ → Type 0) → ((name : List ℕ) → P name → Q name) → (names : List (List ℕ)) → AllByRecursion P names → AllByRecursion Q names
names_weaker P Q weaker [] all = tt
names_weaker P Q weaker (name ∷ names) all = (weaker name all.0, names_weaker P Q weaker names all.1)

such_weaker : (P Q : RequestValue → Type 0) → ((request : RequestValue) → P request → Q request) → (tries : List Try) → AreSuch P tries → AreSuch Q tries
such_weaker P Q weaker [] such = tt
such_weaker P Q weaker (Answered bytes reply ∷ tries) such =
    (record { request = such.0.request; asked = such.0.asked; such = weaker such.0.request such.0.such }, such_weaker P Q weaker tries such.1)
such_weaker P Q weaker (Unanswered bytes ∷ tries) such =
    (record { request = such.0.request; asked = such.0.asked; such = weaker such.0.request such.0.such }, such_weaker P Q weaker tries such.1)

pub names_touched : (cable : Cable) (before after : SyncTold) (status : Status) (report : CableReport) → (ran : SessionRan cable before after status report)
    → NamesTouched cable (link_over ran.opened) ran.link.last
names_touched cable before after status report ran =
    let named = session_named {link = link_members} ran.asked.wishes heard_more ran.asked.session in
    record {
      tries = named.tries;
      heard = named.heard;
      named = such_weaker (NamesOnly (IsActed ran.asked.wishes)) (NamesOnly (IsTouched cable))
          (λ request all. names_weaker (IsActed ran.asked.wishes) (IsTouched cable) (acted_touched ran.asked.asked) (named_by request.form request.fields) all)
          named.tries (named.such refl);
    }
