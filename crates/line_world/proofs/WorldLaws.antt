-- What holds of each world, behind a greeting and behind a request.
use Rattle.line_world.proofs.Names.{common_steps, rules, ◌≡◌, ◌⊎◌, ℕ, ◌+◌, ◌<◌, ◌≤◌, Bool, true, false, List, [], ◌∷◌, length, take, Option, Some, None, refl}
use Rattle.line_world.proofs.Names.{sym, ap, subst, arith, inl, inr, both_ways, length-take, FileMap, Moments, LinkFault, MayExchange, ServerValue, RuleValue}
use Rattle.line_world.proofs.Names.{fate_by, IsProper, frame_value, End, Handheld, Desktop, IsStory, halted_is_proper, recorded_turned, talks_turned}
use Rattle.line_world.proofs.Names.{halted_story, halted_tells, turn_tells_all, apart_turned, Halt, NoMemory, EndsAcknowledging, last_key, TellsOf, told_from}
use Rattle.line_world.proofs.Names.{CameByCursor, AllBy, session_id, IsNew, Turn, cursor_of, no_talk, Line, messages_of, asks-ends, greets-ends, cursor-inside}
use Rattle.line_world.proofs.Names.{told-asks, LineEnds, MayGreet, MayAsk, LineCounts, LineRecords, LineTells, LineTold, bytes_of, greeted, init, wake, Down}
use Rattle.line_world.proofs.Names.{Break, IsCause, IsCauseOf, KeeperOnly, NamesLast, halt_of, link_fault, Answers, Breaks, RequestReach, Unsent, Sent, Served, WentTo}
use Rattle.line_world.proofs.Names.{LogValue, no_log, said_in, EndsAcknowledged, IsHeard, IsLog, IsAtRest, IsTold, IsWorld, LeavesOff, TellAll, TellBoth}
use Rattle.line_world.proofs.Names.{TellDone}
use Rattle.std.specs.Prelude.{map}
use Rattle.dlp_commands.specs.declared.link.LinkFault.TheVariants as link
use Rattle.line_world.specs.declared.stop.Break.TheVariants.{Line as OfLine, NoMemory as OutOfMemory, Keeper as KeeperBroke}
use Rattle.line_world.proofs.CauseLaws.{halt-by, no-halt, no-names, up-cause}
use Rattle.line_world.proofs.HeardLaws.{heard-rest}
use Rattle.line_world.proofs.LogLaws.{length-later, replies-all, log-answered}
use Rattle.line_world.proofs.WentLaws.{log-went}

-- ---- whose turn it is

pub begun-of : {begun : Bool} (fault : Option LinkFault) → fault ≡ None → MayExchange begun fault → begun ≡ true
begun-of None none (inl is) = is
begun-of None none (inr some) = absurd cc
begun-of (Some fault) none may = absurd cc

pub asks-of : (begun : Bool) {line : Line} (log : LogValue) {n answered : ℕ} → begun ≡ true → n ≡ answered → IsAtRest begun line log answered → MayAsk line n
asks-of true {line} log is same rest = subst (λ k. MayAsk line k) (sym same) rest.0
asks-of false log is same rest = absurd cc

pub tells-of : (begun : Bool) (line : Line) (log : LogValue) (answered : ℕ) → begun ≡ true → IsAtRest begun line log answered → LineTells (said_in log) line
tells-of true line log answered is rest = rest.1
tells-of false line log answered is rest = absurd cc

-- before the greeting
pub record Greets (line : Line) (answered : ℕ) : Type 0 where
  pub may : MayGreet line
  pub none : answered ≡ 0
  pub tells : LineTells no_talk line

pub greets-of : (begun : Bool) {line : Line} (log : LogValue) {answered : ℕ} → begun ≡ false → IsAtRest begun line log answered → Greets line answered
greets-of false log is rest = record { may = rest.0; none = rest.1; tells = rest.2 }
greets-of true log is rest = absurd cc

nothing : (xs : List (List ℕ)) → length xs ≡ 0 → xs ≡ []
nothing [] none = refl
nothing (x ∷ xs) none = absurd (omega (arith, none))

-- nothing but the greetings was said
said-greeted : {log : LogValue} {answered : ℕ} → IsLog log answered → length log.issued ≡ answered → answered ≡ 0 → said_in log ≡ greeted
said-greeted is all none = grind (arith, common_steps)

-- ---- what a request leaves off

performed-few : {log : LogValue} {answered : ℕ} → IsLog log answered → length log.performed ≤ length log.issued
performed-few is = search rules

memory-up : (cause : Option Down) → cause ≡ None → Some (link_fault cause) ≡ Some link.Down → ⊥
memory-up None none is = cc
memory-up (Some cause) none is = cc

left-went : {F : Type 0} (contents : F → Option FileMap) (moments : F → Moments) (paths : F → Option (List (List ℕ))) (faults : F → ℕ) (went : RequestReach)
    (old new : ServerValue F) {log later : LogValue} {answered : ℕ} (count : ℕ) (request : List ℕ) {ended : Break} {now : Option Down}
    → IsLog log answered → length log.issued ≡ answered → WentTo contents moments paths faults went old new log later request
    → (went ≡ Unsent → ended ≡ OutOfMemory) → (ended ≡ KeeperBroke → went ≡ Sent) → IsCauseOf ended count now → KeeperOnly ended now
    → LeavesOff later answered (Some (link_fault now)) now
left-went contents moments paths faults Unsent old new count request {now} is all to unsent unserved is_cause only = record {
  down = λ down. absurd (memory-up now (subst (λ b. IsCauseOf b count now) (unsent refl) is_cause) down);
  keeper = λ keeper. absurd (let e : Unsent ≡ Sent = unserved (only keeper) in cc);
}
left-went contents moments paths faults Sent old new {log} {later} count request is all to unsent unserved is_cause only =
    let more = length-later log.issued request (ap (λ l. l.issued) to.1) in
    let same : length later.performed ≡ length log.performed = ap (λ l. length l.performed) to.1 in
    let few = performed-few is in
    record { down = λ down. inr (omega (arith, more, all)); keeper = λ keeper. omega (arith, more, same, few) }
left-went contents moments paths faults (Served reply) old new {log} count request is all to unsent unserved is_cause only =
    let more = length-later log.issued request (ap (λ l. l.issued) to.1) in
    record { down = λ down. inr (omega (arith, more, all)); keeper = λ keeper. absurd (let e : Served reply ≡ Sent = unserved (only keeper) in cc) }

-- the last frame stays where nothing was sent
acked-went : {F : Type 0} (contents : F → Option FileMap) (moments : F → Moments) (paths : F → Option (List (List ℕ))) (faults : F → ℕ) (went : RequestReach)
    (old new : ServerValue F) {line later_line : Line} {log later : LogValue} {answered : ℕ} (request : List ℕ)
    → WentTo contents moments paths faults went old new log later request → length log.issued ≡ answered → (later ≡ log → later_line ≡ line)
    → EndsAcknowledged log (map frame_value line.wire.frames.items) → length later.issued ≡ answered
    → EndsAcknowledged later (map frame_value later_line.wire.frames.items)
acked-went contents moments paths faults Unsent old new {later_line} {log} request to all stays acked same =
    subst (λ l. EndsAcknowledged l (map frame_value later_line.wire.frames.items)) (sym to.1)
    (subst (λ l. EndsAcknowledged log (map frame_value l.wire.frames.items)) (sym (stays to.1)) acked)
acked-went contents moments paths faults Sent old new {log} request to all stays acked same =
    absurd (omega (arith, all, same, length-later log.issued request (ap (λ l. l.issued) to.1)))
acked-went contents moments paths faults (Served reply) old new {log} request to all stays acked same =
    absurd (omega (arith, all, same, length-later log.issued request (ap (λ l. l.issued) to.1)))

-- ---- the invariant

pub world-new : {line : Line} {script : List RuleValue} {log : LogValue} {sound : Bool} → sound ≡ true → log ≡ no_log
    → Turn line.wire line.handheld line.desktop → IsNew line.handheld Handheld → IsNew line.desktop Desktop → LineTells no_talk line → LineCounts line
    → line.wire.frames.items ≡ []
    → IsWorld line script log sound 0 false None None
world-new {line} {script} is_sound quiet turn handheld desktop tells counted frames =
    let greets : MayGreet line = record {
      ends = record { handheld_is = handheld.end_is; desktop_is = desktop.end_is };
      turn = turn;
      handheld_id = ap (λ s. s.id) handheld.sender_is;
      desktop_id = ap (λ s. s.id) desktop.sender_is;
    } in
    record {
      recorded = record {
        by = subst (λ fs. AllBy script 1 fs) (sym frames) tt;
        came = subst (λ fs. CameByCursor 1 (cursor_of line.handheld line.desktop) (map frame_value fs)) (sym frames) tt;
      };
      counted = counted;
      told = record {
        halt = NoMemory;
        ends = subst (λ l. LineEnds NoMemory (said_in l) line) (sym quiet)
            (greets-ends greets tells);
        halt_is = refl;
        names = tt;
      };
      heard = λ first. absurd cc;
      is_log = subst (λ l. IsLog l 0) (sym quiet)
          (record { performed_is = refl; replied = omega arith; performed_few = omega arith; few = omega arith });
      silent = λ first. ap (λ l. l.issued) quiet;
      left_off = record { down = λ is. absurd cc; keeper = λ is. absurd cc };
      running = λ none. record { is_sound = is_sound; all = ap (λ l. length l.issued) quiet; at_rest = (greets, refl, tells) };
      acked = λ some all. absurd (omega (arith, some));
      caused = refl;
    }

pub caused-by : (cause : Option Down) → IsCause (Some (link_fault cause)) cause
caused-by None = refl
caused-by (Some cause) = search

pub world-greeted : {line new : Line} {script : List RuleValue} {log : LogValue} {sound : Bool} {answered : ℕ} {begun : Bool} {fault : Option LinkFault}
    {cause : Option Down} → IsWorld line script log sound answered begun fault cause → fault ≡ None → begun ≡ false
    → LineRecords script new → LineCounts new → MayAsk new 0 → LineTells greeted new → IsWorld new script log sound answered true fault cause
world-greeted {new} {log} {begun} {fault} {cause} world none first by counted asks tells =
    let running = world.running none in
    let greets = greets-of begun log first running.at_rest in
    let says = subst (λ t. LineTells t new) (sym (said-greeted world.is_log running.all greets.none)) tells in
    record {
      recorded = by;
      counted = counted;
      told = record {
        halt = NoMemory;
        ends = asks-ends asks says;
        halt_is = no-halt fault cause (length new.wire.frames.items) world.caused none;
        names = no-names fault cause (map frame_value new.wire.frames.items) world.caused none;
      };
      heard = λ is. heard-rest (replies-all world.is_log running.all) (omega (arith, running.all, replies-all world.is_log running.all)) (told-asks asks says);
      is_log = world.is_log;
      silent = λ before. absurd cc;
      left_off = world.left_off;
      acked = λ some all. absurd (omega (arith, some, greets.none));
      running = λ is. record { is_sound = running.is_sound; all = running.all; at_rest = (subst (λ n. MayAsk new n) (sym greets.none) asks, says) };
      caused = world.caused;
    }

none-cause : (fault : Option LinkFault) {cause : Option Down} → IsCause fault cause → fault ≡ None → cause ≡ None
none-cause None caused none = caused
none-cause (Some fault) caused none = absurd cc

module _ {line new : Line} {script : List RuleValue} {log : LogValue} {answered : ℕ} {begun : Bool} {fault : Option LinkFault} {cause : Option Down} where
  pub world-answered : {F : Type 0} {contents : F → Option FileMap} {moments : F → Moments} {paths : F → Option (List (List ℕ))} {faults : F → ℕ}
      {old later_server : ServerValue F} {later : LogValue} {n : ℕ} {request reply : List ℕ} → IsWorld line script log old.sound answered begun fault cause
      → fault ≡ None → begun ≡ true → LineRecords script new → LineCounts new
      → Answers contents moments paths faults old later_server log later new request reply → LineTells (said_in later) new
      → n ≡ length later.replies → IsWorld new script later later_server.sound n begun fault cause
  world-answered {later} {n} {request} {reply} world none first by counted answers tells count =
      let running = world.running none in
      let replied = replies-all world.is_log running.all in
      let performs = answers.performs in
      let more : n ≡ answered + 1 = omega (arith, count, length-later log.replies reply (ap (λ l. l.replies) performs.log_is), replied) in
      let asked : length later.issued ≡ length log.issued + 1 = length-later log.issued request (ap (λ l. l.issued) performs.log_is) in
      record {
        recorded = by;
        counted = counted;
        told = record {
          halt = NoMemory;
          ends = asks-ends answers.asks tells;
          halt_is = no-halt fault cause (length new.wire.frames.items) world.caused
              none;
          names = no-names fault cause (map frame_value new.wire.frames.items) world.caused none;
        };
        heard = λ is. heard-rest (sym count) (omega (arith, count, asked, more, running.all)) (told-asks answers.asks tells);
        is_log = subst (λ k. IsLog later k) (sym more)
            (subst (λ l. IsLog l (answered + 1)) (sym performs.log_is) (log-answered request reply world.is_log running.all));
        silent = λ before. absurd (both_ways begun before first);
        left_off = record { down = λ is. absurd cc; keeper = λ is. absurd (let e = none-cause fault world.caused none in cc) };
        acked = λ some all. record {
          earlier = log.replies;
          reply = reply;
          is = ap (λ l. l.replies) performs.log_is;
          acked = (let same : length log.issued + 1 ≡ length later.replies = omega (arith, count, more, running.all) in
              subst (λ k. EndsAcknowledging Desktop (last_key (session_id k) reply) (map frame_value new.wire.frames.items)) same answers.acked);
        };
        running = λ is. record {
          is_sound = performs.sound;
          all = omega (arith, asked, more, running.all);
          at_rest = subst (λ b. IsAtRest b new later n) (sym first) (let same : length log.issued + 1 ≡ n = omega (arith, more, running.all) in
              (subst (λ k. MayAsk new k) same answers.asks, tells));
        };
        caused = world.caused;
      }

  pub world-broke : {F : Type 0} {contents : F → Option FileMap} {moments : F → Moments} {paths : F → Option (List (List ℕ))} {faults : F → ℕ}
      {old later_server : ServerValue F} {later : LogValue} {now : Option Down} {request : List ℕ} {ended : Break} → IsWorld line script log old.sound answered
      begun fault cause → fault ≡ None → begun ≡ true → LineRecords script new → LineCounts new → LineEnds (halt_of ended) (said_in later) new
      → IsCauseOf ended (length new.wire.frames.items) now → KeeperOnly ended now → NamesLast now (map frame_value new.wire.frames.items)
      → Breaks contents moments paths faults old later_server log later request ended
      → IsHeard (halt_of ended) later (length log.replies) new → (later ≡ log → new ≡ line)
      → IsWorld new script later later_server.sound answered begun (Some (link_fault now)) now
  world-broke {contents} {moments} {paths} {faults} {old} {later_server} {later} {now} {request} {ended} world none first by counted over is_cause only
      names breaks heard stays = record {
        recorded = by;
        counted = counted;
        told = record { halt = halt_of ended; ends = over; halt_is = halt-by ended (length new.wire.frames.items) now is_cause; names = names };
        heard = λ is. subst (λ n. IsHeard (halt_of ended) later n new) (replies-all world.is_log (world.running none).all) heard;
        is_log = log-went contents moments paths faults breaks.went old later_server request world.is_log (world.running none).all breaks.is;
        silent = λ before. absurd (both_ways begun before first);
        left_off = left-went contents moments paths faults breaks.went old later_server (length new.wire.frames.items) request world.is_log
            (world.running none).all breaks.is breaks.unsent breaks.unserved is_cause only;
        acked = λ some all. acked-went contents moments paths faults breaks.went old later_server request breaks.is (world.running none).all stays
            (world.acked some (world.running none).all) all;
        running = λ is. absurd cc;
        caused = caused-by now;
      }

  pub world-halted : {sound : Bool} {now : Option Down} {halt : Halt} → IsWorld line script log sound answered begun fault cause → fault ≡ None → begun ≡ false
      → LineRecords script new → LineCounts new → LineEnds halt greeted new → IsCauseOf (OfLine halt) (length new.wire.frames.items) now
      → KeeperOnly (OfLine halt) now → NamesLast now (map frame_value new.wire.frames.items)
      → IsWorld new script log sound answered begun (Some (link_fault now)) now
  world-halted {now} {halt} world none first by counted over is_cause only names =
      let running = world.running none in
      let greets = greets-of begun log first running.at_rest in
      let quiet = nothing log.issued (omega (arith, running.all, greets.none)) in
      record {
        recorded = by;
        counted = counted;
        told = record {
          halt = halt;
          ends = subst (λ t. LineEnds halt t new) (sym (said-greeted world.is_log running.all greets.none)) over;
          halt_is = halt-by (OfLine halt) (length new.wire.frames.items) now is_cause;
          names = names;
        };
        heard = λ is. absurd (both_ways begun first is);
        is_log = world.is_log;
        silent = λ before. quiet;
        left_off = record { down = λ is. inl quiet; keeper = λ is. absurd (let e : OfLine halt ≡ KeeperBroke = only is in cc) };
        acked = λ some all. absurd (omega (arith, some, greets.none));
        running = λ is. absurd cc;
        caused = caused-by now;
      }

-- ---- what the link answers

-- ---- the trace

module _ {line : Line} {script : List RuleValue} {log : LogValue} {cause : Option Down} where
  pub world-proper : LineRecords script line → IsTold line log cause → IsProper (fate_by script) (said_in log) (map frame_value line.wire.frames.items)
  world-proper recorded told = halted_is_proper told.halt script (said_in log) line.wire line.handheld line.desktop told.ends.ends.handheld_is
      told.ends.ends.desktop_is told.ends.by told.ends.spoke recorded

  pub world-told : LineRecords script line → IsTold line log cause → TellBoth (said_in log) (map frame_value line.wire.frames.items)
  world-told recorded told =
      let frames = map frame_value line.wire.frames.items in
      let both = halted_tells told.halt script (said_in log) line.wire line.handheld line.desktop told.ends.by told.ends.spoke recorded in
      record {
        handheld_said = subst (λ E. TellsOf E (messages_of E (said_in log)) frames) told.ends.ends.handheld_is both.0;
        desktop_said = subst (λ E. TellsOf E (messages_of E (said_in log)) frames) told.ends.ends.desktop_is both.1;
      }

  pub world-all_told : {sound : Bool} {answered : ℕ} {begun : Bool} {fault : Option LinkFault} → IsWorld line script log sound answered begun fault cause
      → fault ≡ None → begun ≡ true
      → TellAll (said_in log) (map frame_value line.wire.frames.items)
  world-all_told {answered} {begun} world none first =
      let rest = world.running none in
      let asks = asks-of begun log first refl rest.at_rest in
      let tells = tells-of begun line log answered first rest.at_rest in
      let ends = asks.ends in
      let apart = apart_turned asks.turn.settled.apart in
      let frames = map frame_value line.wire.frames.items in
      let both = turn_tells_all script (said_in log) line.wire line.desktop line.handheld asks.turn
      (talks_turned line.wire line.handheld line.desktop apart tells) (recorded_turned apart world.recorded) in
      record {
        handheld_said = subst (λ E. IsStory E frames (told_from 0 (messages_of E (said_in log)))) ends.handheld_is both.1;
        desktop_said = subst (λ E. IsStory E frames (told_from 0 (messages_of E (said_in log)))) ends.desktop_is both.0;
      }

  -- ---- what was dealt with

  -- what an end took whole the frames told it
  story-of : (X : End) (messages : List (List ℕ)) → LineRecords script line → IsTold line log cause → LineTold X messages line
      → IsStory X (map frame_value line.wire.frames.items) (told_from 0 messages)
  story-of X messages recorded told took =
      halted_story told.halt X told.ends.by recorded (cursor-inside told.ends X) took

-- the run stopped where something was not dealt with
module _ {line : Line} {script : List RuleValue} {log : LogValue} {sound : Bool} {answered : ℕ} {begun : Bool}
    {fault : Option LinkFault} {cause : Option Down} where
  stopped-few : IsWorld line script log sound answered begun fault cause
      → (length log.replies < length log.issued) ⊎ (answered < length log.replies) → fault ≡ None → ⊥
  stopped-few world (inl few) none = omega (arith, few, (world.running none).all, world.is_log.replied)
  stopped-few world (inr few) none = omega (arith, few, (world.running none).all, world.is_log.performed_few)

  pub world-done : IsWorld line script log sound answered begun fault cause → begun ≡ true
      → TellDone log answered fault cause (map frame_value line.wire.frames.items)
  world-done world first =
      let heard = world.heard first in
      let told = world.told in
      let frames = map frame_value line.wire.frames.items in
      let count = length-take (length log.replies) log.issued in
      record {
        requests = elim heard.requests [
          | inl took ↦ inl (subst (λ (l : List (List ℕ)). IsStory Desktop frames (told_from 0 (bytes_of init ∷ l))) (sym world.is_log.performed_is)
              (story-of Desktop (bytes_of init ∷ take (length log.replies) log.issued) world.recorded told took))
          | inr more ↦ inr (
            (stopped-few world (inl more.0), up-cause cause (length line.wire.frames.items) told.halt told.halt_is more.1),
            omega (arith, more.0, count, ap (λ (l : List (List ℕ)). length l) world.is_log.performed_is),
            story-of Desktop (bytes_of init ∷ log.issued) world.recorded told more.2,
          )
        ];
        replies = elim heard.replies [
          | inl took ↦ inl (story-of Handheld (bytes_of wake ∷ take answered log.replies) world.recorded told took)
          | inr more ↦ inr (
            (stopped-few world (inr more.0), up-cause cause (length line.wire.frames.items) told.halt told.halt_is more.1),
            more.0,
            story-of Handheld (bytes_of wake ∷ log.replies) world.recorded told more.2,
          )
        ];
      }
