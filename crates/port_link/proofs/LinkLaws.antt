-- A link and what it tells of the handheld behind its port, from call to call.
use Rattle.std.proofs.Common.{◌≡◌, ◌≤◌, ◌<◌, ◌^◌, get_or, ℕ, ◌+◌, Bool, true, false, List, [], ◌∷◌, length, inl, inr, refl, sym, ap, subst, ◌∙◌}
use Rattle.std.specs.Prelude.{Option, Some, None, Result, Ok, Err, IsSome}
use Rattle.std.specs.Option.{option_map}
use Rattle.device_stream.specs.Laws.{DidNothing}
use Rattle.dlp_commands.specs.DeviceRuns.{Exchange, exchanged}
use Rattle.dlp_commands.specs.Links.{MayExchange}
use Rattle.dlp_commands.specs.Talks.{HasAnswer, Talk, LacksAnswer, WasAnswered, WasLeft}
use Rattle.padp_end.specs.Ends.{EndValue, first_end}
use Rattle.padp_link.specs.Neighbours.{session_id}
use Rattle.palm_device.specs.Devices.{Device}
use Rattle.port_laws.specs.Palms.{IsFirstTold, IsTold, Palm}
use Rattle.port_line.specs.declared.port_fault.PortFault.{PortFault}
use Rattle.port_link.specs.declared.awaited.Awaited.{Awaited}
use Rattle.port_link.specs.declared.awaited.Awaited.TheVariants.{Message}
use Rattle.port_link.specs.declared.desk.Desk.{Desk}
use Rattle.port_link.specs.declared.port_cause.PortCause.{PortCause}
use Rattle.port_link.specs.declared.turn.Turn.{Turn}
use Rattle.port_link.specs.Behind.{Comes, PalmsGo}
use Rattle.port_link.specs.Calls.{Asks, GoesOnFrom, Greets, Inits, LinkValue, Says, SaysHello}
use Rattle.port_link.specs.Causes.{link_fault, waking_cause}
use Rattle.port_link.specs.Courses.{Course, Happens, Scene}
use Rattle.port_link.specs.Desks.{Awaits, Begins, Came, Event, Read, reacts}
use Rattle.port_link.specs.Greetings.{id_behind}
use Rattle.port_link.specs.Listening.{EndsWith}
use Rattle.port_link.specs.Standing.{IsBegun, IsStanding, IsStill, exchanges_of, talk_at, talk_of}
use Rattle.port_link.specs.Mended.{heard}
use Rattle.dlp_commands.specs.DeviceSteps.{first_byte}
use Rattle.port_link.proofs.GreetLaws.{greets_met}
use Rattle.port_link.proofs.MendedLaws.{heard_own}
use Rattle.port_link.proofs.ReplyLaws.{asked_left, says_asked, says_taken, taken_answered}
use Rattle.port_link.proofs.RoundLaws.{round}
use Rattle.port_laws.proofs.TakeLaws.{some_of}

-- ---- where nothing is told

told_none : (Goes : Palm → Palm → Type 0) {old new : Option Palm} → old ≡ None → IsTold Goes old new → new ≡ None
told_none Goes {old} {new} none told = subst (λ (o : Option Palm). IsTold Goes o new) none told

comes_none : (event : Event) (old new : Option Palm) → old ≡ None → Comes event old new → new ≡ None
comes_none (Awaits id) old new none comes = comes ∙ none
comes_none (Begins id message) old new none comes = comes ∙ none
comes_none (Came packet) old new none comes = comes ∙ none
comes_none (Read bytes) old new none comes = told_none _ none comes

events_none : (fault : Option PortFault) (desk : Desk) (events : List Event) (old new : Option Palm) → old ≡ None → PalmsGo fault desk events old new
    → new ≡ None
events_none None desk [] old new none go = go ∙ none
events_none (Some fault) desk [] old new none go = told_none _ none go
events_none fault desk (event ∷ events) old new none go =
    events_none fault (reacts desk event).desk events go.0 new (told_none _ (comes_none event old go.1.between none go.1.comes) go.1.hears) go.2

course_none : {fault : Option PortFault} {events : List Event} (old new : Scene) → old.palm ≡ None → Course events fault old new → new.palm ≡ None
course_none {fault} {events} old new none course = events_none fault old.desk events old.palm new.palm none course.palms

happens_none : (answer : Result Turn PortFault) (old new : Scene) → old.palm ≡ None → Happens answer old new → new.palm ≡ None
happens_none (Ok turn) old new none happens = course_none old new none happens.3
happens_none (Err fault) old new none happens = course_none old new none happens.2

ends_none : (awaited : Awaited) (count : ℕ) (answer : Result Turn PortFault) (old new : Scene) → old.palm ≡ None → EndsWith awaited count answer old new
    → new.palm ≡ None
ends_none awaited count (Ok turn) old new none (inl ends) = happens_none (Ok turn) old new none ends.0
ends_none awaited count (Ok turn) old new none (inr ends) = ap (λ (s : Scene). s.palm) ends.2 ∙ none
ends_none awaited count (Err fault) old new none ends = happens_none (Err fault) old new none ends

says_none : (awaited : Awaited) (acts : List Event) (old new : Scene) (answer : Result Turn PortFault) → old.palm ≡ None → Says awaited acts old new answer
    → new.palm ≡ None
says_none awaited acts old new answer none (inl says) =
    ends_none awaited (length says.2.events) answer says.2.between new
    (course_none says.0 says.2.between (course_none old says.0 none says.1) says.2.course) says.2.ends
says_none awaited acts old new answer none (inr says) = course_none old new none says.2

inits_none : (wake : Result ℕ PortCause) (old new : Scene) (result : Result ℕ PortCause) → old.palm ≡ None → Inits wake old new result → new.palm ≡ None
inits_none (Err cause) old new result none inits = ap (λ (s : Scene). s.palm) inits.0 ∙ none
inits_none (Ok rate) old new result none inits = says_none _ _ old new inits.0 none inits.1

goes_none : (cause : Option PortCause) (old new : Scene) (result : Result ℕ PortCause) → old.palm ≡ None → GoesOnFrom cause old new result → new.palm ≡ None
goes_none (Some cause) old new result none goes = ap (λ (s : Scene). s.palm) goes.0 ∙ none
goes_none None old new result none goes = inits_none goes.0 old new result none goes.2

greets_none : (old new : Scene) (result : Result ℕ PortCause) → old.palm ≡ None → Greets old new result → new.palm ≡ None
greets_none old new result none greets =
    goes_none (waking_cause greets.answer) greets.between new result (says_none _ _ old greets.between greets.answer none greets.waits) greets.goes_on

-- ---- how a link stands

abbrev pub Standing : LinkValue → Type 0
Standing link = IsStanding link.cause link.begun link.scene.desk.end link.scene.held link.id link.scene.palm

pub standing_first : (end : EndValue) (held : List ℕ) (told : Option Palm) → IsFirstTold told → end ≡ first_end → held ≡ []
    → IsStanding None false end held 255 told
standing_first end held None first end_is held_is = tt
standing_first end held (Some palm) first end_is held_is = record { first = first.0; ours = first.1; end_is = end_is; held_is = held_is; id_is = refl }

standing_none : (cause : Option PortCause) (begun : Bool) (end : EndValue) (held : List ℕ) (id : ℕ) (told : Option Palm) → told ≡ None
    → IsStanding cause begun end held id told
standing_none (Some cause) begun end held id told none = tt
standing_none None begun end held id None none = tt
standing_none None begun end held id (Some palm) none = absurd cc

-- ---- the greeting

-- a talk that left nothing
abbrev settled : Device → List Exchange → Talk
settled device exchanges = record { device = device; exchanges = exchanges; left = None }

same_rest : (was palm : Palm) → DidNothing was.hand palm.hand
    → settled palm.hand.device (exchanges_of palm.hand) ≡ settled was.hand.device (exchanges_of was.hand)
same_rest was palm did =
    ap (λ (d : Device). settled d (exchanges_of palm.hand)) did.device_is
    ∙ ap (λ (ps : List (List ℕ)). settled was.hand.device (exchanged ps palm.hand.replies)) did.performed_is
    ∙ ap (λ (rs : List (List ℕ)). settled was.hand.device (exchanged was.hand.performed rs)) did.replies_are

-- what is told where nothing was performed since
rest_talk : (cause : Option PortCause) (begun : Bool) (id : ℕ) (end : EndValue) (was palm : Palm) → ((cause ≡ None → ⊥) → begun ≡ false)
    → DidNothing was.hand palm.hand
    → talk_at cause begun id end palm ≡ settled was.hand.device (exchanges_of was.hand)
rest_talk None begun id end was palm not_begun did = same_rest was palm did
rest_talk (Some cause) begun id end was palm not_begun did =
    subst (λ (b : Bool). talk_at (Some cause) b id end palm ≡ settled was.hand.device (exchanges_of was.hand))
    (sym (not_begun (λ none. cc))) (same_rest was palm did)

-- a link that answers tells its handheld as it is
told_talk : (cause : Option PortCause) (begun : Bool) (id : ℕ) (end : EndValue) (told : Option Palm) (was : Palm) → cause ≡ None → told ≡ Some was
    → option_map (talk_at cause begun id end) told ≡ Some (settled was.hand.device (exchanges_of was.hand))
told_talk cause begun id end told was none is =
    ap (λ (c : Option PortCause). option_map (talk_at c begun id end) told) none ∙ ap (option_map (talk_at None begun id end)) is

none_talk : (cause : Option PortCause) (begun : Bool) (id : ℕ) (end : EndValue) (told : Option Palm) → told ≡ None
    → option_map (talk_at cause begun id end) told ≡ None
none_talk cause begun id end told none = ap (option_map (talk_at cause begun id end)) none

-- how it stands, as it is told
pub standing_told : {cause : Option PortCause} {begun : Bool} (other : Bool) (end : EndValue) (held : List ℕ) (id : ℕ) {told : Option Palm} (was : Palm) → cause ≡ None
    → begun ≡ other → told ≡ Some was → IsStanding cause begun end held id told → IsBegun other end held id was
standing_told {cause} {begun} other end held id {told} was none is told_is stands =
    subst (λ (b : Bool). IsBegun b end held id was) is
    (subst (λ (o : Option Palm). IsStanding None begun end held id o) told_is
    (subst (λ (c : Option PortCause). IsStanding c begun end held id told) none stands))

standing_still : (cause : Option PortCause) (begun : Bool) (end : EndValue) (held : List ℕ) (id : ℕ) (told : Option Palm) (palm : Palm)
    → (cause ≡ None → begun ≡ true) → told ≡ Some palm → (cause ≡ None → IsStill end held id palm) → IsStanding cause begun end held id told
standing_still (Some cause) begun end held id told palm is told_is still = tt
standing_still None begun end held id told palm is told_is still =
    subst (λ (o : Option Palm). IsStanding None begun end held id o) (sym told_is)
    (subst (λ (b : Bool). IsBegun b end held id palm) (sym (is refl)) (still refl))

pub record HelloTold (old new : LinkValue) : Type 0 where
  pub talk : talk_of new ≡ talk_of old
  pub stands : Standing new

pub hello_told : (result : Result ℕ PortCause) (old new : LinkValue) → old.cause ≡ None → old.begun ≡ false → Standing old → SaysHello result old new
    → HelloTold old new
hello_told result old new none not_begun stands says = go old.scene.palm refl where
  go : (told : Option Palm) → old.scene.palm ≡ told → HelloTold old new
  go None is =
      let after = greets_none old.scene new.scene result is says.greets in
      record {
        talk = none_talk new.cause new.begun new.id new.scene.desk.end new.scene.palm after
            ∙ sym (none_talk old.cause old.begun old.id old.scene.desk.end old.scene.palm is);
        stands = standing_none new.cause new.begun new.scene.desk.end new.scene.held new.id new.scene.palm after;
      }
  go (Some was) is =
      let unsaid = standing_told false old.scene.desk.end old.scene.held old.id was none not_begun is stands in
      let met = greets_met was old.scene new.scene old.id result unsaid is says.greets in
      let still = λ (fine : new.cause ≡ None). subst (λ (id : ℕ). IsStill new.scene.desk.end new.scene.held id met.met.palm)
      (sym (says.id ∙ unsaid.id_is)) (met.still (sym fine ∙ says.cause)) in
      record {
        talk = ap (option_map (talk_at new.cause new.begun new.id new.scene.desk.end)) met.met.told_is
            ∙ ap Some (rest_talk new.cause new.begun new.id new.scene.desk.end was met.met.palm (λ failed. says.not_begun failed ∙ not_begun) met.met.did)
            ∙ sym (told_talk old.cause old.begun old.id old.scene.desk.end old.scene.palm was none is);
        stands = standing_still new.cause new.begun new.scene.desk.end new.scene.held new.id new.scene.palm met.met.palm says.begun met.met.told_is still;
      }

-- ---- a request

pub record AsksTold (request reply : List ℕ) (old new : LinkValue) : Type 0 where
  pub answered : new.cause ≡ None → HasAnswer (talk_of old) request reply (talk_of new)
  pub unanswered : (new.cause ≡ None → ⊥) → LacksAnswer (talk_of old) request (talk_of new)
  pub stands : Standing new

answered_from : (request reply : List ℕ) (old new : Option Talk) (was : Talk) → old ≡ Some was → WasAnswered was request reply new → HasAnswer old request reply new
answered_from request reply old new was is answered = subst (λ (o : Option Talk). HasAnswer o request reply new) (sym is) answered

unanswered_from : (request : List ℕ) (old new : Option Talk) (was : Talk) → old ≡ Some was → WasLeft was request new → LacksAnswer old request new
unanswered_from request old new was is left = subst (λ (o : Option Talk). LacksAnswer o request new) (sym is) (inr left)

some_cause : (cause : Option PortCause) → (cause ≡ None → ⊥) → (some : PortCause) × (cause ≡ Some some)
some_cause None failed = absurd (failed refl)
some_cause (Some cause) failed = (cause, refl)

pub asks_told : (request reply : List ℕ) (old new : LinkValue) → length request ≤ 65535 → ((i : ℕ) → get_or request i 0 < 2 ^ 8) → old.cause ≡ None → old.begun ≡ true → Standing old
    → Asks request reply old new → AsksTold request reply old new
asks_told request reply old new short bytes none begun stands asks = go old.scene.palm refl where
  says : Says Message (Awaits new.id ∷ Begins new.id request ∷ []) old.scene new.scene asks.converses.answer
  says = asks.converses.says

  begun_is : new.begun ≡ true
  begun_is = asks.begun ∙ begun

  go : (told : Option Palm) → old.scene.palm ≡ told → AsksTold request reply old new
  go None is =
      let after = says_none Message (Awaits new.id ∷ Begins new.id request ∷ []) old.scene new.scene asks.converses.answer is asks.converses.says in
      let was = none_talk old.cause old.begun old.id old.scene.desk.end old.scene.palm is in
      let now = none_talk new.cause new.begun new.id new.scene.desk.end new.scene.palm after in
      record {
        answered = λ fine. subst (λ (o : Option Talk). HasAnswer o request reply (talk_of new)) (sym was) now;
        unanswered = λ failed. subst (λ (o : Option Talk). LacksAnswer o request (talk_of new)) (sym was) now;
        stands = standing_none new.cause new.begun new.scene.desk.end new.scene.held new.id new.scene.palm after;
      }
  go (Some was) is =
      let still = standing_told true old.scene.desk.end old.scene.held old.id was none begun is stands in
      let next : new.id ≡ session_id (length was.hand.performed + 1) = asks.id ∙ ap id_behind still.id_is ∙ sym (round (length was.hand.performed)) in
      let talk = told_talk old.cause old.begun old.id old.scene.desk.end old.scene.palm was none is in
      let asked = says_asked was request new.id old.id asks.converses.answer old.scene new.scene short still is asks.id asks.converses.says in
      let taken = λ (fine : new.cause ≡ None). says_taken was request new.id old.id asks.converses.answer old.scene new.scene short still is asks.id
      (sym fine ∙ asks.converses.cause_is) asks.converses.says in
      let done = λ (fine : new.cause ≡ None). taken_answered was request old.id new.id old.scene.desk.end new.scene.desk.end old.scene.held new.scene.held
      new.scene.palm bytes still next asked.id_is (taken fine) in
      record {
        answered = λ fine.
            let came : (taken fine).reply ≡ asks.came = some_of (sym (taken fine).whole ∙ asks.converses.reply_is fine) in
            let reply_is : (taken fine).reply ≡ reply = sym (heard_own was.hand.device (taken fine).hand.device request (taken fine).reply still.ours.0 still.ours.1
            (taken fine).step) ∙ ap (heard (first_byte request)) came ∙ sym (asks.reply_is fine) in
            let now : option_map (talk_at None true new.id new.scene.desk.end) new.scene.palm ≡ talk_of new
            = ap (λ (c : Option PortCause). option_map (talk_at c true new.id new.scene.desk.end) new.scene.palm) (sym fine)
            ∙ ap (λ (b : Bool). option_map (talk_at new.cause b new.id new.scene.desk.end) new.scene.palm) (sym begun_is) in
            answered_from request reply (talk_of old) (talk_of new) (talk_at None true old.id old.scene.desk.end was) talk
            (subst (λ (r : List ℕ). WasAnswered (talk_at None true old.id old.scene.desk.end was) request r (talk_of new)) reply_is
            (subst (λ (o : Option Talk). WasAnswered (talk_at None true old.id old.scene.desk.end was) request (taken fine).reply o) now (done fine).0));
        unanswered = λ failed.
            let cause = some_cause new.cause failed in
            let now : option_map (talk_at (Some cause.0) true new.id new.scene.desk.end) new.scene.palm ≡ talk_of new
            = ap (λ (c : Option PortCause). option_map (talk_at c true new.id new.scene.desk.end) new.scene.palm) (sym cause.1)
            ∙ ap (λ (b : Bool). option_map (talk_at new.cause b new.id new.scene.desk.end) new.scene.palm) (sym begun_is) in
            unanswered_from request (talk_of old) (talk_of new) (talk_at None true old.id old.scene.desk.end was) talk
            (subst (λ (o : Option Talk). WasLeft (talk_at None true old.id old.scene.desk.end was) request o) now
            (asked_left cause.0 was request old.id new.id old.scene.desk.end new.scene.desk.end old.scene.held new.scene.held new.scene.palm still next asked));
        stands = standing_still new.cause new.begun new.scene.desk.end new.scene.held new.id new.scene.palm asked.stood.palm (λ fine. begun_is)
            asked.stood.told_is
            (λ fine. subst (λ (p : Palm). IsStill new.scene.desk.end new.scene.held new.id p)
            (some_of (sym (taken fine).stood.told_is ∙ asked.stood.told_is)) (done fine).1);
      }

-- a link that answers may be asked where it has begun
pub begun_is : (begun : Bool) (cause : Option PortCause) → cause ≡ None → MayExchange begun (option_map link_fault cause) → begun ≡ true
begun_is begun cause none (inl yes_begun) = yes_begun
begun_is begun cause none (inr some) =
    let e : IsSome (option_map link_fault None) = subst (λ (c : Option PortCause). IsSome (option_map link_fault c)) none some in
    let f : false ≡ true = e in absurd cc

-- it didn't go out
pub unanswered_same : (told : Option Talk) (request : List ℕ) → LacksAnswer told request told
unanswered_same None request = refl
unanswered_same (Some talk) request = inl refl
