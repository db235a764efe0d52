-- The calls of a link.
use Rattle.std.proofs.Common.{◌≡◌, ℕ, List, [], ◌∷◌, ◌++◌, refl, sym, subst, subst₂, ◌∙◌, inl, inr, true}
use Rattle.std.specs.Prelude.{Option, Some, None, Result, Ok, Err}
use Rattle.std.specs.Option.{option_map}
use Rattle.std.specs.Result.{result_err}
use Rattle.hs_folders.specs.Causes.{HasCause}
use Rattle.port_line.specs.declared.port_fault.PortFault.{PortFault}
use Rattle.slp_frames.proofs.ScanLaws.{continues_start}
use Rattle.port_link.specs.declared.awaited.Awaited.{Awaited}
use Rattle.port_link.specs.declared.desk.Desk.{Desk}
use Rattle.port_link.specs.declared.port_cause.PortCause.{PortCause}
use Rattle.port_link.specs.declared.port_cause.PortCause.TheVariants.{PortFailed}
use Rattle.port_link.specs.declared.turn.Turn.{Turn}
use Rattle.dlp_commands.specs.declared.link.LinkFault.{LinkFault}
use Rattle.dlp_commands.specs.Tries.{Try, tries_of}
use Rattle.port_link.specs.Calls.{AreCalls, Asks, AsksGreeted, Bears, Call, Converses, Exchange, Greets, HailsFirst, Heard, HeardBy, Hello, IsCall, LinkValue, Says, SaysHello, Since, is_quiet, tries_at}
use Rattle.port_link.specs.Causes.{link_fault}
use Rattle.port_link.specs.SinceLaws.{heard_none, heard_one}
use Rattle.port_link.specs.Listening.{Listens}
use Rattle.port_link.specs.Mended.{heard}
use Rattle.dlp_commands.specs.DeviceSteps.{first_byte}
use Rattle.port_link.specs.declared.awaited.Awaited.TheVariants.{Tick}
use Rattle.port_link.specs.Courses.{Course, Scene}
use Rattle.port_link.specs.Desks.{Event, Awaits, reacts}
use Rattle.port_link.specs.Greetings.{id_behind}
use Rattle.port_link.proofs.BehindLaws.{palm-quiet}
use Rattle.port_link.proofs.CourseLaws.{course-one, course-then}
use Rattle.port_link.proofs.TellLaws.{tells-nothing, written-none}

-- a message is awaited
pub awaits : (id : ℕ) (old : Scene) (desk : Desk) → desk ≡ (reacts old.desk (Awaits id)).desk
    → Course (Awaits id ∷ []) None old (record { given = old.given; taken = old.taken; palm = old.palm; held = old.held; desk = desk; log = old.log })
awaits id old desk is = course-one (Awaits id) (continues_start old.held) (written-none old.given) is (tells-nothing old.taken old.log)
    (palm-quiet old.desk (Awaits id) old.palm old.palm refl refl)

-- something was done before
pub says-behind : (awaited : Awaited) (first later : List Event) (old mid new : Scene) (answer : Result Turn PortFault) → Course first None old mid
    → Says awaited later mid new answer → Says awaited (first ++ later) old new answer
says-behind awaited first later old mid new answer did (inl says) = inl (says.0, course-then did says.1, says.2)
says-behind awaited first later old mid new answer did (inr says) = inr (says.0, says.1, course-then did says.2)

-- a request was asked
pub asks-by : (request came reply : List ℕ) (old new : LinkValue) (cause : Option PortCause) → new.cause ≡ cause → new.id ≡ id_behind old.id
    → new.begun ≡ old.begun → new.paths ≡ old.paths → Converses new.id request came old.scene new.scene cause
    → (cause ≡ None → reply ≡ heard (first_byte request) came)
    → HasCause old.faults new.faults (cause ≡ Some PortFailed) → Asks request reply old new
asks-by request came reply old new cause is id begun paths converses heard_is faults =
    record {
      came = came;
      converses = subst (λ (cause : Option PortCause). Converses new.id request came old.scene new.scene cause) (sym is) converses;
      reply_is = λ fine. heard_is (sym is ∙ fine);
      id = id;
      begun = begun;
      goes_on = record {
        paths = paths;
        faults = subst (λ (cause : Option PortCause). HasCause old.faults new.faults (cause ≡ Some PortFailed)) (sym is) faults;
      };
    }

-- a handheld was awaited and greeted
pub hello-by : (result : Result ℕ PortCause) (old new : LinkValue) → new.cause ≡ result_err result
    → (new.cause ≡ None → new.begun ≡ true) → (¬ (new.cause ≡ None) → new.begun ≡ old.begun) → new.id ≡ old.id → new.paths ≡ old.paths
    → Greets old.scene new.scene result → HasCause old.faults new.faults (result_err result ≡ Some PortFailed) → SaysHello result old new
hello-by result old new is begun not_begun id paths greets faults =
    record {
      greets = greets;
      cause = is;
      begun = begun;
      not_begun = not_begun;
      id = id;
      goes_on = record {
        paths = paths;
        faults = subst (λ (cause : Option PortCause). HasCause old.faults new.faults (cause ≡ Some PortFailed)) (sym is) faults;
      };
    }

-- ---- one call was made

pub heard-hello : (old new : LinkValue) → old.cause ≡ None → HailsFirst old new → Heard old [] new
heard-hello old new none hails = heard_one Hello old new (subst (λ (c : Option PortCause). IsCall c Hello old new) (sym none) hails)

asked-with : (request reply : List ℕ) (old new : LinkValue) (after : Option PortCause) → old.cause ≡ None → new.cause ≡ after
    → AsksGreeted request reply old new → Heard old (tries_at None (Exchange request reply) after) new
asked-with request reply old new after none is asks =
    subst₂ (λ (before after : Option PortCause). Heard old (tries_at before (Exchange request reply) after) new) none is
    (heard_one (Exchange request reply) old new (subst (λ (c : Option PortCause). IsCall c (Exchange request reply) old new) (sym none) asks))

pub heard-answered : (request reply : List ℕ) (old new : LinkValue) → old.cause ≡ None → new.cause ≡ None → AsksGreeted request reply old new
    → Heard old (tries_of (option_map link_fault old.cause) request reply (Ok tt)) new
heard-answered request reply old new none fine asks =
    subst (λ (c : Option PortCause). Heard old (tries_of (option_map link_fault c) request reply (Ok tt)) new) (sym none)
    (asked-with request reply old new None none fine asks)

pub heard-left : (request reply : List ℕ) (cause : PortCause) (fault : LinkFault) (old new : LinkValue) → old.cause ≡ None → new.cause ≡ Some cause
    → AsksGreeted request reply old new → Heard old (tries_of (option_map link_fault old.cause) request reply (Err fault)) new
heard-left request reply cause fault old new none failed asks =
    subst (λ (c : Option PortCause). Heard old (tries_of (option_map link_fault c) request reply (Err fault)) new) (sym none)
    (asked-with request reply old new (Some cause) none failed asks)

pub heard-still : (request reply : List ℕ) (cause : PortCause) (answer : Result (Unit {0}) LinkFault) (old new : LinkValue) → old.cause ≡ Some cause
    → new ≡ old → Heard old (tries_of (option_map link_fault old.cause) request reply answer) new
heard-still request reply cause answer old new some same =
    subst (λ (c : Option PortCause). Heard old (tries_of (option_map link_fault c) request reply answer) new) (sym some)
    (subst (λ (v : LinkValue). Heard old [] v) (sym same) (heard_none old))

calls-of : (old : LinkValue) (calls : List Call) (tries : List Try) (new : LinkValue) → HeardBy old calls tries new → AreCalls old calls new
calls-of old [] tries new heard = heard.0
calls-of old (call ∷ calls) tries new heard = (heard.0, heard.1, calls-of heard.0 calls heard.2 new heard.4)

pub heard-since : (old : LinkValue) (tries : List Try) (new : LinkValue) → Heard old tries new → Since old new
heard-since old tries new heard = (heard.0, calls-of old heard.0 tries new heard.1)

-- one tick more
pub bears-then : (ticks : List Scene) (a b c : Scene) (answer : Result Turn PortFault) → Bears ticks a b → is_quiet answer ≡ true → Listens Tick b c answer
    → Bears (ticks ++ c ∷ []) a c
bears-then [] a b c answer bears quiet next =
    (answer, quiet, subst (λ (s : Scene). Listens Tick s c answer) bears next, refl)
bears-then (tick ∷ ticks) a b c answer bears quiet next = (bears.0, bears.1, bears.2, bears-then ticks tick b c answer bears.3 quiet next)
