-- The port behind a link's calls.
use Rattle.std.proofs.Common.{◌≡◌, ◌∙◌, List, [], ◌∷◌, Option, None, Some, refl, sym, subst, ap, arith}
use Rattle.hs_folders.specs.Causes.{HasCause}
use Rattle.port_link.specs.Calls.{AreCalls, Call, Hello, Exchange, GoesOn, IsCall, LinkValue}
use Rattle.port_link.specs.declared.port_cause.PortCause.{PortCause}
use Rattle.port_link.specs.declared.port_cause.PortCause.TheVariants.{PortFailed}

-- once there is a cause nothing is done any more
call-still : (call : Call) (cause : PortCause) (old new : LinkValue) → old.cause ≡ Some cause → IsCall old.cause call old new → new ≡ old
call-still call cause old new is it = subst (λ (o : Option PortCause). IsCall o call old new) is it

calls-still : (calls : List Call) (cause : PortCause) (old new : LinkValue) → old.cause ≡ Some cause → AreCalls old calls new → new ≡ old
calls-still [] cause old new is it = it
calls-still (call ∷ calls) cause old new is it =
    let same = call-still call cause old it.0 is it.1 in
    calls-still calls cause it.0 new (ap (λ (link : LinkValue). link.cause) same ∙ is) it.2 ∙ same

call-goes : (call : Call) (old new : LinkValue) → old.cause ≡ None → IsCall old.cause call old new → GoesOn old new
call-goes Hello old new is it = (subst (λ (o : Option PortCause). IsCall o Hello old new) is it).says.goes_on
call-goes (Exchange request reply) old new is it = (subst (λ (o : Option PortCause). IsCall o (Exchange request reply) old new) is it).asks.goes_on

goes-same : (old : LinkValue) → old.cause ≡ None → GoesOn old old
goes-same old none = record { paths = refl; faults = record { later = omega arith; rose = λ e. absurd cc; still = λ no. refl } }

goes-then : (old between new : LinkValue) → between.cause ≡ None → GoesOn old between → GoesOn between new → GoesOn old new
goes-then old between new none first next =
    let same : between.faults ≡ old.faults = first.faults.still (λ e. absurd cc) in
    record { paths = next.paths ∙ first.paths; faults = subst (λ n. HasCause n new.faults (new.cause ≡ Some PortFailed)) same next.faults }

calls-step : (calls : List Call) (cause : Option PortCause) (old between new : LinkValue) → between.cause ≡ cause → GoesOn old between
    → AreCalls between calls new → (between.cause ≡ None → GoesOn between new) → GoesOn old new
calls-step calls None old between new is first rest next = goes-then old between new is first (next is)
calls-step calls (Some cause) old between new is first rest next =
    subst (λ (link : LinkValue). GoesOn old link) (sym (calls-still calls cause between new is rest)) first

-- a link's port stays opened, and its count rises where it is the cause
pub calls-go : (calls : List Call) (old new : LinkValue) → old.cause ≡ None → AreCalls old calls new → GoesOn old new
calls-go [] old new none it = subst (λ (link : LinkValue). GoesOn old link) (sym it) (goes-same old none)
calls-go (call ∷ calls) old new none it =
    calls-step calls it.0.cause old it.0 new refl (call-goes call old it.0 none it.1) it.2 (λ still. calls-go calls it.0 new still it.2)
