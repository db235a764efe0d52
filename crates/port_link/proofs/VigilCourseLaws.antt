-- How a handheld's end at a port goes on.
use Rattle.std.proofs.Common.{◌≡◌, ℕ, ◌-◌, ◌&&◌, true, nat_eq, List, [], ◌∷◌, ◌++◌, length, refl, sym, ap, subst, ◌∙◌}
use Rattle.std.specs.Prelude.{Option, Some, None, is_some}
use Rattle.std.specs.Option.{option_map}
use Rattle.std.proofs.lemmas.Grind.{flat_map-append}
use Rattle.std.proofs.lemmas.List.{append-nil, append_assoc}
use Rattle.slp_frames.proofs.ScanLaws.{continues_start}
use Rattle.slp_frames.specs.Histories.{Continues}
use Rattle.hs_folders.specs.FileMaps.{FileMap}
use Rattle.hs_folders.specs.Moments.{Moments}
use Rattle.line_world.specs.SinceLaws.{served-itself}
use Rattle.palm_device.specs.Devices.{Device}
use Rattle.handheld_server.specs.declared.fault.ServeFault.{ServeFault}
use Rattle.handheld_server.specs.declared.fault.ServeFault.TheVariants as serve
use Rattle.device_stream.specs.Courses.{PerformsAny}
use Rattle.device_stream.specs.Hands.{waited_by, wake_said, with_end}
use Rattle.device_stream.specs.Talks.{TalkValue, talk_server}
use Rattle.device_stream.specs.Laws.{DidNothing}
use Rattle.device_stream.specs.declared.talk_end.TalkEnd.{TalkEnd}
use Rattle.device_stream.specs.declared.talk_end.TalkEnd.TheVariants as talk
use Rattle.padp_end.specs.Ends.{EndValue, end_waits, is_spent, tried_again}
use Rattle.padp_end.specs.Outgoings.{OutgoingFragment, said_text}
use Rattle.padp_link.specs.Senders.{waiting}
use Rattle.padp_link.specs.declared.piece.Piece.{Piece}
use Rattle.port_line.specs.declared.port_fault.PortFault.{PortFault}
use Rattle.port_line.specs.declared.port_fault.PortFault.TheVariants as port
use Rattle.port_link.specs.Courses.{Holds, HoldsNext, Tells, reads_at, reads_of}
use Rattle.port_link.specs.Desks.{Event}
use Rattle.port_link.specs.Logs.{EntryValue, heard_entries, said_entries, speech}
use Rattle.port_link.proofs.CourseLaws.{holds-from, holds-then}
use Rattle.port_link.proofs.TellLaws.{tells-failed, tells-nothing, tells-then, tells-unkept, written-none, written-then}
use Rattle.port_link.specs.declared.port_end.PortEnd.{PortEnd}
use Rattle.port_link.specs.declared.port_end.PortEnd.TheVariants.{Ended, PortFailed, Keeper, LineDown, LineSilent, Aborted, BadHello, TooLong, NoMemory}
use Rattle.port_link.specs.VigilCourses.{GoesOn, GoesOut, HasStepped, Scene, Stops}
use Rattle.port_link.specs.Ends.{IsDown, IsLong, IsOut, IsOver, IsSudden, end_of_fault, end_of_port, end_of_talk, fault_of, most_events}
use Rattle.port_link.specs.Runs.{IsPortRun}
use Rattle.port_link.specs.Vigils.{GoesOnBehind, Step, Steps, StepsOn, StepsTo, Vigil, behind_tick, vigil, waking}
use Rattle.device_stream.proofs.CourseLaws.{begins-behind, same-hand}

gave-then : (a : Option (List (List ℕ))) {b c : Option (List (List ℕ))} (es fs : List Event) → b ≡ option_map (λ given. given ++ reads_of es) a
    → c ≡ option_map (λ given. given ++ reads_of fs) b → c ≡ option_map (λ given. given ++ reads_of (es ++ fs)) a
gave-then a es fs first next =
    written-then a (reads_of es) (reads_of fs) first next
    ∙ ap (λ (r : List (List ℕ)). option_map (λ given. given ++ r) a) (sym (flat_map-append reads_at es fs))

on-then : (a : Vigil) (es : List Event) (kept : List EntryValue) (b : Vigil) (fs : List Event) (more : List EntryValue) (c : Vigil)
    → StepsOn a es kept b → StepsOn b fs more c → StepsOn a (es ++ fs) (kept ++ more) c
on-then a [] kept b fs more c first next =
    subst (λ (v : Vigil). StepsOn v fs (kept ++ more) c) first.1 (subst (λ (k : List EntryValue). StepsOn b fs (k ++ more) c) (sym first.0) next)
on-then a (event ∷ es) kept b fs more c (said, later, between, step, is, steps, on) next = (
  said,
  later ++ more,
  between,
  step,
  ap (λ (k : List EntryValue). k ++ more) is ∙ append_assoc (heard_entries event ++ said_entries said) later more,
  on-then between es later b fs more c steps next,
  on,
)

steps-then : (a : Vigil) (es : List Event) (kept : List EntryValue) (b : Vigil) (fs : List Event) (more : List EntryValue) (c : Vigil)
    → StepsOn a es kept b → StepsTo b fs more c → StepsTo a (es ++ fs) (kept ++ more) c
steps-then a [] kept b fs more c first next =
    subst (λ (v : Vigil). StepsTo v fs (kept ++ more) c) first.1 (subst (λ (k : List EntryValue). StepsTo b fs (k ++ more) c) (sym first.0) next)
steps-then a (event ∷ es) kept b fs more c (said, later, between, step, is, steps, on) next = (
  said,
  later ++ more,
  between,
  step,
  ap (λ (k : List EntryValue). k ++ more) is ∙ append_assoc (heard_entries event ++ said_entries said) later more,
  steps-then between es later b fs more c steps next,
  λ follow. on,
)

-- where it goes on it went on behind each but the last
to-last : (a : Vigil) (es : List Event) (kept : List EntryValue) (b : Vigil) → StepsOn a es kept b → StepsTo a es kept b
to-last a [] kept b steps = steps
to-last a (event ∷ es) kept b (said, later, between, step, is, steps, on) =
    (said, later, between, step, is, to-last between es later b steps, λ follow. on)

-- these are steps
pub steps-of : (a : Vigil) (es : List Event) (kept : List EntryValue) (b : Vigil) → StepsTo a es kept b → Steps a es kept b
steps-of a [] kept b steps = steps
steps-of a (event ∷ es) kept b (said, later, between, step, is, steps, on) = (said, later, between, step, is, steps-of between es later b steps)

on-one : (a : Vigil) (said : List OutgoingFragment) {b : Vigil} (event : Event) → Step a event said b → GoesOnBehind a event b
    → StepsOn a (event ∷ []) (heard_entries event ++ said_entries said) b
on-one a said {b} event step on =
    (said, [], b, step, sym (append-nil (heard_entries event ++ said_entries said)), (refl, refl), on)

steps-one : (a : Vigil) (said : List OutgoingFragment) {b : Vigil} (event : Event) → Step a event said b
    → StepsTo a (event ∷ []) (heard_entries event ++ said_entries said) b
steps-one a said {b} event step =
    (said, [], b, step, sym (append-nil (heard_entries event ++ said_entries said)), (refl, refl), λ follow. absurd follow)

-- ---- events

pub goes-itself : (a : Scene) → GoesOn [] a a
goes-itself a = record {
  holds = continues_start a.held;
  given = written-none a.given;
  kept = [];
  steps = (refl, refl);
  tells = tells-nothing a.taken a.log;
}

pub goes-then : {a b c : Scene} {es fs : List Event} → GoesOn es a b → GoesOn fs b c → GoesOn (es ++ fs) a c
goes-then {a} {b} {c} {es} {fs} first next = record {
  holds = holds-then es fs a.held b.held c.held first.holds next.holds;
  given = gave-then a.given es fs first.given next.given;
  kept = first.kept ++ next.kept;
  steps = on-then a.vigil es first.kept b.vigil fs next.kept c.vigil first.steps next.steps;
  tells = tells-then first.tells next.tells;
}

-- one event was taken
pub goes-one : (event : Event) {old new : Scene} → HoldsNext old.held event new.held
    → new.given ≡ option_map (λ given. given ++ reads_at event) old.given
    → HasStepped event old.vigil new.vigil old.taken new.taken old.log new.log → GoesOn (event ∷ []) old new
goes-one event {old} {new} holds given stepped = record {
  holds = (new.held, holds, continues_start new.held);
  given = given ∙ ap (λ (r : List (List ℕ)). option_map (λ given. given ++ r) old.given) (sym (append-nil (reads_at event)));
  kept = heard_entries event ++ said_entries stepped.said;
  steps = on-one old.vigil stepped.said event stepped.step stepped.on;
  tells = stepped.tells;
}

-- the reader had dropped what can't be in a packet
pub goes-from : {events : List Event} (old : Scene) {new : Scene} (held : List ℕ) → Continues old.held [] held
    → GoesOn events (record { given = old.given; taken = old.taken; held = held; vigil = old.vigil; log = old.log }) new → GoesOn events old new
goes-from {events} old {new} held first goes = record {
  holds = holds-from events new.held first goes.holds;
  given = goes.given;
  kept = goes.kept;
  steps = goes.steps;
  tells = goes.tells;
}

-- ---- an end

sudden-long : (end : PortEnd) (came : List Event) → IsSudden end → IsLong end came
sudden-long Ended came sudden = tt
sudden-long PortFailed came sudden = tt
sudden-long Keeper came sudden = tt
sudden-long LineDown came sudden = tt
sudden-long LineSilent came sudden = tt
sudden-long Aborted came sudden = tt
sudden-long BadHello came sudden = tt
sudden-long TooLong came sudden = absurd sudden
sudden-long NoMemory came sudden = tt

-- it ended at one event
pub out-one : {end : PortEnd} (event : Event) {old new : Scene} → HoldsNext old.held event new.held
    → new.given ≡ option_map (λ given. given ++ reads_at event) old.given
    → Stops end (event ∷ []) old.vigil new.vigil old.taken new.taken old.log new.log → GoesOut [] end old new
out-one {end} event {old} {new} holds given stops = record {
  course = record { came = event ∷ []; events = stops.events; kept = stops.kept; vigil = stops.vigil };
  holds = (new.held, holds, continues_start new.held);
  gave = given ∙ ap (λ (r : List (List ℕ)). option_map (λ given. given ++ r) old.given) (sym (append-nil (reads_at event)));
  first = stops.first;
  steps = stops.steps;
  tells = stops.tells;
  same = stops.same;
  over = stops.over;
  long = sudden-long end (event ∷ []) stops.sudden;
}

pub out-from : {end : PortEnd} (old : Scene) {new : Scene} (held : List ℕ) → Continues old.held [] held
    → GoesOut [] end (record { given = old.given; taken = old.taken; held = held; vigil = old.vigil; log = old.log }) new → GoesOut [] end old new
out-from {end} old {new} held first out = record {
  course = out.course;
  holds = holds-from out.course.came new.held first out.holds;
  gave = out.gave;
  first = out.first;
  steps = out.steps;
  tells = out.tells;
  same = out.same;
  over = out.over;
  long = out.long;
}

-- it had gone on over events before
pub out-behind : {end : PortEnd} {a b c : Scene} {es : List Event} → IsSudden end → GoesOn es a b → GoesOut [] end b c → GoesOut [] end a c
out-behind {end} {a} {b} {c} {es} sudden before out = record {
  course = record {
    came = es ++ out.course.came;
    events = es ++ out.course.events;
    kept = before.kept ++ out.course.kept;
    vigil = out.course.vigil;
  };
  holds = holds-then es out.course.came a.held b.held c.held before.holds out.holds;
  gave = gave-then a.given es out.course.came before.given out.gave;
  first = begins-behind es out.course.came out.course.events out.first;
  steps = steps-then a.vigil es before.kept b.vigil out.course.events out.course.kept out.course.vigil before.steps out.steps;
  tells = tells-then before.tells out.tells;
  same = out.same;
  over = out.over;
  long = sudden-long end (es ++ out.course.came) sudden;
}

-- it waited too long
pub out-long : {a b : Scene} {es : List Event} → GoesOn es a b → length es ≡ most_events → b.vigil.hand.over ≡ None → GoesOut [] TooLong a b
out-long {a} {b} {es} before count going = record {
  course = record { came = es; events = es; kept = before.kept; vigil = b.vigil };
  holds = before.holds;
  gave = before.given;
  first = ([], sym (append-nil es));
  steps = to-last a.vigil es before.kept b.vigil before.steps;
  tells = before.tells;
  same = same-hand b.vigil.hand;
  over = going;
  long = count;
}

-- it said this text first
pub out-said : {end : PortEnd} {a b c : Scene} {text : List ℕ} → b.given ≡ a.given → b.held ≡ a.held → b.vigil ≡ a.vigil
    → Tells None a.taken b.taken a.log b.log (speech text) → GoesOut [] end b c → GoesOut text end a c
out-said {end} {a} {b} {c} {text} given held vigil_is tells out = record {
  course = out.course;
  holds = subst (λ (h : List ℕ). Holds h out.course.came c.held) held out.holds;
  gave = out.gave ∙ ap (λ (g : Option (List (List ℕ))). option_map (λ given. given ++ reads_of out.course.came) g) given;
  first = out.first;
  steps = subst (λ (v : Vigil). StepsTo v out.course.events out.course.kept out.course.vigil) vigil_is out.steps;
  tells = tells-then tells out.tells;
  same = out.same;
  over = out.over;
  long = out.long;
}

-- the port refused
refused-over : (fault : PortFault) (vigil : Vigil) → IsOver (end_of_port fault) vigil
refused-over port.Failed vigil = tt
refused-over port.NoMemory vigil = tt

refused-long : (fault : PortFault) (came : List Event) → IsLong (end_of_port fault) came
refused-long port.Failed came = tt
refused-long port.NoMemory came = tt

refused-is : (fault : PortFault) → Some fault ≡ fault_of (end_of_port fault)
refused-is port.Failed = refl
refused-is port.NoMemory = refl

-- before the text was written
pub out-unsaid : (fault : PortFault) {a b : Scene} {text : List ℕ} → b.given ≡ a.given → b.held ≡ a.held → b.vigil ≡ a.vigil
    → Tells (Some fault) a.taken b.taken a.log b.log (speech text) → GoesOut text (end_of_port fault) a b
out-unsaid fault {a} {b} {text} given held vigil_is tells = record {
  course = record { came = []; events = []; kept = []; vigil = a.vigil };
  holds = subst (λ (h : List ℕ). Continues a.held [] h) (sym held) (continues_start a.held);
  gave = given ∙ written-none a.given;
  first = ([], refl);
  steps = (refl, refl);
  tells = subst (λ (k : List EntryValue). Tells (fault_of (end_of_port fault)) a.taken b.taken a.log b.log k) (sym (append-nil (speech text)))
      (subst (λ (f : Option PortFault). Tells f a.taken b.taken a.log b.log (speech text)) (refused-is fault) tells);
  same = subst (λ (v : Vigil). DidNothing a.vigil.hand v.hand) (sym vigil_is) (same-hand a.vigil.hand);
  over = refused-over fault a.vigil;
  long = refused-long fault [];
}

-- at a read
pub out-unread : (fault : PortFault) {a b : Scene} → b.given ≡ a.given → b.taken ≡ a.taken → b.held ≡ a.held → b.vigil ≡ a.vigil
    → b.log ≡ a.log → GoesOut [] (end_of_port fault) a b
out-unread fault {a} {b} given taken held vigil_is log =
    out-unsaid fault given held vigil_is
    (subst (λ (l : List EntryValue). Tells (Some fault) a.taken b.taken a.log l []) (sym log) (tells-failed fault a.taken a.log taken))

-- ---- one event

pub refused-sudden : (fault : PortFault) → IsSudden (end_of_port fault)
refused-sudden port.Failed = tt
refused-sudden port.NoMemory = tt

pub unserved-sudden : (fault : ServeFault) → IsSudden (end_of_fault fault)
unserved-sudden serve.Keeper = tt
unserved-sudden serve.NoMemory = tt

-- a request that wasn't served
pub stops-unserved : (fault : ServeFault) {old new : Vigil} {end : EndValue} (event : Event) (t : Option (List ℕ)) (l : List EntryValue)
    → old.hand.over ≡ None → new.hand ≡ with_end old.hand end → Stops (end_of_fault fault) (event ∷ []) old new t t l l
stops-unserved fault {old} {new} event t l going is = record {
  events = [];
  first = (event ∷ [], refl);
  kept = [];
  vigil = old;
  steps = (refl, refl);
  tells = tells fault;
  same = record { device_is = ap (λ h. h.device) is; performed_is = ap (λ h. h.performed) is; replies_are = ap (λ h. h.replies) is };
  over = over fault;
  sudden = unserved-sudden fault;
} where
  tells : (fault : ServeFault) → Tells (fault_of (end_of_fault fault)) t t l l []
  tells serve.Keeper = tells-nothing t l
  tells serve.NoMemory = tells-failed port.NoMemory t l refl

  over : (fault : ServeFault) → IsOver (end_of_fault fault) old
  over serve.Keeper = going
  over serve.NoMemory = tt

-- an event was taken, and it ended so behind it
pub stops-behind : {end : PortEnd} {old new : Vigil} (said : List OutgoingFragment) {t u : Option (List ℕ)} {l m : List EntryValue} (event : Event)
    → Step old event said new → Tells (fault_of end) t u l m (heard_entries event ++ said_entries said) → IsOver end new
    → IsSudden end → Stops end (event ∷ []) old new t u l m
stops-behind {end} {old} {new} said event step tells over sudden = record {
  events = event ∷ [];
  first = ([], refl);
  kept = heard_entries event ++ said_entries said;
  vigil = new;
  steps = steps-one old said event step;
  tells = tells;
  same = same-hand new.hand;
  over = over;
  sudden = sudden;
}

pub stops-refused : (fault : PortFault) {old new : Vigil} (said : List OutgoingFragment) {t u : Option (List ℕ)} {l m : List EntryValue} (event : Event)
    → Step old event said new → Tells (Some fault) t u l m (heard_entries event ++ said_entries said)
    → Stops (end_of_port fault) (event ∷ []) old new t u l m
stops-refused fault {old} {new} said {t} {u} {l} {m} event step tells =
    stops-behind said event step
    (subst (λ (f : Option PortFault). Tells f t u l m (heard_entries event ++ said_entries said)) (refused-is fault) tells) (refused-over fault new) (refused-sudden fault)

pub stops-over : (over : TalkEnd) {old new : Vigil} (said : List OutgoingFragment) {t u : Option (List ℕ)} {l m : List EntryValue} (event : Event)
    → Step old event said new → Tells None t u l m (heard_entries event ++ said_entries said) → new.hand.over ≡ Some over
    → Stops (end_of_talk over) (event ∷ []) old new t u l m
stops-over talk.Ended said event step tells is = stops-behind said event step tells is tt
stops-over talk.Aborted said event step tells is = stops-behind said event step tells is tt
stops-over talk.BadHello said event step tells is = stops-behind said event step tells is tt

-- ---- a tick

-- a piece that had its ten tries isn't said again
tried-same : (end : EndValue) (o : Option Piece) → (is_some o && nat_eq end.sender.tries 10) ≡ true → (tried_again end o).1 ≡ end
tried-same end None is = absurd cc
tried-same end (Some piece) is = rw is refl

pub spent-stays : (end : EndValue) → is_spent end ≡ true → is_spent (end_waits end).1 ≡ true
spent-stays end is = ap is_spent (tried-same end (waiting end.sender) is) ∙ is

pub behind-is : {F : Type 0} (old mid new : TalkValue F) (before less after : ℕ) → mid ≡ record old { hand = (waited_by old.hand).1 } → new ≡ mid
    → less ≡ before - 1 → after ≡ less → vigil new.hand after ≡ behind_tick (vigil old.hand before)
behind-is old mid new before less after waits same one is =
    ap (λ t. vigil t.hand after) (same ∙ waits) ∙ ap (λ n. vigil (waited_by old.hand).1 n) (is ∙ one)

pub down-is : (old new : Vigil) → new ≡ behind_tick old → old.hand.over ≡ None → is_spent old.hand.end ≡ true → IsDown new
down-is old new is going spent =
    subst IsDown (sym is) (record { going = going; spent = spent-stays old.hand.end spent })

pub out-is : (old new : Vigil) → new ≡ behind_tick old → old.hand.over ≡ None → new.patience ≡ 0 → IsOut new
out-is old new is going none = record { going = ap (λ v. v.hand.over) is ∙ going; patience = none }

-- nothing is performed by it
pub waits-perform : {F : Type 0} (contents : F → Option FileMap) (moments : F → Moments) (paths : F → Option (List (List ℕ))) (faults : F → ℕ)
    (old mid new : TalkValue F) → mid ≡ record old { hand = (waited_by old.hand).1 } → new ≡ mid → PerformsAny contents moments paths faults old new
waits-perform contents moments paths faults old mid new waits same =
    subst (λ t. PerformsAny contents moments paths faults old t) (sym (same ∙ waits)) (record {
      exchanges = [];
      performed_is = sym (append-nil old.hand.performed);
      replies_are = sym (append-nil old.hand.replies);
      since = served-itself contents moments paths faults (talk_server old);
    })

-- ---- the whole run

pub run-of : {device : Device} {given given' : Option (List (List ℕ))} {taken taken' : Option (List ℕ)} {held : List ℕ} {after : Vigil}
    {log : List EntryValue} {end : PortEnd}
    (out : GoesOut (said_text wake_said) end (record { given = given; taken = taken; held = []; vigil = waking device; log = [] })
    (record { given = given'; taken = taken'; held = held; vigil = after; log = log }))
    → IsPortRun device given given' taken taken' log end out.course
run-of {device} {held = held} out = record {
  held = held;
  holds = out.holds;
  gave = out.gave;
  first = out.first;
  steps = steps-of (waking device) out.course.events out.course.kept out.course.vigil out.steps;
  through = out.steps;
  tells = out.tells;
  over = out.over;
  long = out.long;
}

pub run-unbegun : (device : Device) (given : Option (List (List ℕ))) (taken : Option (List ℕ))
    → IsPortRun device given given taken taken [] NoMemory (record { came = []; events = []; kept = []; vigil = waking device })
run-unbegun device given taken = record {
  held = [];
  holds = continues_start [];
  gave = written-none given;
  first = ([], refl);
  steps = (refl, refl);
  through = (refl, refl);
  tells = tells-unkept taken (said_entries wake_said ++ []) refl;
  over = tt;
  long = tt;
}
