-- What a call answers after its exchange.
use Rattle.std.proofs.Common.{◌≡◌, refl, ℕ, Bool, true, false, cond}
use Rattle.std.specs.Prelude.{Option, Some, None, Result, Ok, Err}
use Rattle.std.specs.Option.{option_map}
use Rattle.dlp_args.specs.Views.{Gives}
use Rattle.dlp_commands.specs.declared.link.LinkFault.{LinkFault}
use Rattle.desktop_session.specs.declared.fault.SessionFault.{SessionFault}
use Rattle.dlp_replies.specs.declared.error_code.ErrorCode.{ErrorCode}
use Rattle.desktop_session.specs.declared.fault.SessionFault.TheVariants as session
use Rattle.desktop_session.specs.Answers.{answer_by, or_none}
use Rattle.dlp_replies.specs.declared.fault.ReplyFault.{ReplyFault}
use Rattle.dlp_replies.specs.ReplyValues.{ReplyValue}
use Rattle.desktop_session.specs.Lists.{HasCause}
use Rattle.std.proofs.Common.{rules}

-- the exchange was answered: what the reply says
pub answer_said : {A : Type 0} (fault : Option LinkFault) (said : Result A SessionFault)
    → ◌≡◌ {A = Result (Unit {0}) SessionFault} (Ok tt) (answer_by fault (Ok tt)) → said ≡ answer_by fault said
answer_said None said is = refl
answer_said (Some fault) said is = cc

-- it was not: the fault of the link
pub answer_failed : {A : Type 0} (fault : Option LinkFault) (now : SessionFault) (said : Result A SessionFault)
    → ◌≡◌ {A = Result (Unit {0}) SessionFault} (Err now) (answer_by fault (Ok tt)) → Err now ≡ answer_by fault said
answer_failed fault now said is = search (rules)

-- the same of an answer that is seen by a view
pub gives_said : {X Y : Type 0} (view : X → Y) (fault : Option LinkFault) (r : Result X SessionFault) (said : Result Y SessionFault)
    → ◌≡◌ {A = Result (Unit {0}) SessionFault} (Ok tt) (answer_by fault (Ok tt)) → Gives view r said → Gives view r (answer_by fault said)
gives_said view fault r said is gives = search (rules)

pub gives_failed : {X Y : Type 0} (view : X → Y) (fault : Option LinkFault) (now : SessionFault) (said : Result Y SessionFault)
    → ◌≡◌ {A = Result (Unit {0}) SessionFault} (Err now) (answer_by fault (Ok tt)) → answer_by fault said ≡ Err now
gives_failed view fault now said is = search (rules)

-- nothing where error 5 says so
gives_tested : {X Y : Type 0} (view : X → Y) (b : Bool) (function : ℕ) (code : ErrorCode)
    → Gives (option_map view) (cond b (Ok None) (Err (session.Refused function code))) (cond b (Ok None) (Err (session.Refused function code)))
gives_tested view true function code = refl
gives_tested view false function code = refl

gives_fault : {X Y : Type 0} (view : X → Y) (fault : SessionFault) → Gives (option_map view) (or_none {A = X} (Err fault)) (or_none {A = Y} (Err fault))
gives_fault view fault = search (rules, gives_tested)

gives_viewed : {X Y : Type 0} (view : X → Y) (r : Result X SessionFault) (said : Result Y SessionFault) → Gives view r said → Gives (option_map view)
    (or_none r) (or_none said)
gives_viewed view r said is = search (rules, gives_fault)

pub gives_or_none : {X Y : Type 0} (view : X → Y) (r : Result X SessionFault) (found : Result (Option X) SessionFault) (said : Result Y SessionFault)
    → found ≡ or_none r → Gives view r said → Gives (option_map view) found (or_none said)
gives_or_none view r found said is gives = search (rules, gives_viewed)

-- ---- causes

pub fault_none : (fault : Option LinkFault) → ◌≡◌ {A = Result (Unit {0}) SessionFault} (Ok tt) (answer_by fault (Ok tt)) → fault ≡ None
fault_none None is = refl
fault_none (Some fault) is = cc

pub cause_of_link : (fault : Option LinkFault) (read : Result ReplyValue ReplyFault) (now : SessionFault)
    → ◌≡◌ {A = Result (Unit {0}) SessionFault} (Err now) (answer_by fault (Ok tt)) → HasCause fault read now
cause_of_link fault read now is = search (rules)

pub cause_of_reply : (fault : Option LinkFault) (read : Result ReplyValue ReplyFault) (now : SessionFault)
    → ◌≡◌ {A = Result (Unit {0}) SessionFault} (Ok tt) (answer_by fault (Ok tt)) → HasCause None read now → HasCause fault read now
cause_of_reply fault read now is cause = search (rules)
