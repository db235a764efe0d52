-- Copies of what a reply says.
use Rattle.std.proofs.Common.{◌≡◌, ◌∙◌, ap, inl, inr, sym, subst, ℕ, List}
use Rattle.std.specs.Prelude.{Option, Some, None, Result, Ok, Err}
use Rattle.std.specs.Option.{option_map}
use Rattle.dlp_args.specs.Views.{Gives}
use Rattle.dlp_commands.specs.declared.link.LinkFault.{LinkFault}
use Rattle.desktop_session.specs.declared.fault.SessionFault.{SessionFault}
use Rattle.desktop_session.specs.Answers.{IsCopy, answer_by, mapped, or_none}
use Rattle.desktop_session.specs.Following.{OrNoMemory}
use Rattle.std.proofs.Common.{rules}

mapped_is : {X Y : Type 0} (view : X → Y) (found : Result X SessionFault) (said : Result Y SessionFault) → Gives view found said → mapped view found ≡ said
mapped_is view (Ok x) said is = sym is
mapped_is view (Err fault) said is = sym is

-- the exchange was answered: a copy of what the reply says
pub copy_said : {X Y : Type 0} (bytes : X → List ℕ) (view : Y → List ℕ) (fault : Option LinkFault) (r : Result (Option X) SessionFault)
    (found : Result Y SessionFault) (said : Result (List ℕ) SessionFault) → ◌≡◌ {A = Result (Unit {0}) SessionFault} (Ok tt) (answer_by fault (Ok tt))
    → Gives view found said → IsCopy bytes r (or_none (mapped view found)) → IsCopy bytes r (answer_by fault (or_none said))
copy_said bytes view fault r found said is gives copy = search (rules, mapped_is)

-- it was not: the fault of the link
pub copy_failed : {X : Type 0} (bytes : X → List ℕ) (fault : Option LinkFault) (now : SessionFault) (said : Result (Option (List ℕ)) SessionFault)
    → ◌≡◌ {A = Result (Unit {0}) SessionFault} (Err now) (answer_by fault (Ok tt)) → IsCopy bytes (Err now) (answer_by fault said)
copy_failed bytes fault now said is = search (rules)

-- what was said, or memory ran out
copy_or_lost : {X : Type 0} (bytes : X → List ℕ) (r : Result (Option X) SessionFault) (said : Result (Option (List ℕ)) SessionFault) → IsCopy bytes r said
    → OrNoMemory said (mapped (option_map bytes) r)
copy_or_lost bytes (Ok copy) said is = inl (sym is)
copy_or_lost bytes (Err fault) (Ok (Some found)) is = inr (ap (λ (f : SessionFault). Err f) is)
copy_or_lost bytes (Err fault) (Ok None) is = inl (sym is)
copy_or_lost bytes (Err fault) (Err cause) is = inl (sym is)

pub copy_follows : {X Y : Type 0} (bytes : X → List ℕ) (view : Y → List ℕ) (says : List ℕ → Result (List ℕ) SessionFault) (r : Result (Option X) SessionFault)
    (found : Result Y SessionFault) {reply told : List ℕ} → told ≡ reply → Gives view found (says told) → IsCopy bytes r (or_none (mapped view found))
    → OrNoMemory (or_none (says reply)) (mapped (option_map bytes) r)
copy_follows bytes view says r found {reply} {told} same gives copy =
    copy_or_lost bytes r (or_none (says reply))
    (subst (λ (said : Result (List ℕ) SessionFault). IsCopy bytes r (or_none said)) (mapped_is view found (says told) gives ∙ ap says same) copy)
