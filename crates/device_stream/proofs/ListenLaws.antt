-- How a talk over a source ends.
use Rattle.std.proofs.Common.{◌≡◌, ℕ, List, [], ◌∷◌, ◌++◌, length, map, take, drop, Option, None, Some, refl, sym, ap, subst, ◌∙◌}
use Rattle.std.specs.Prelude.{IfSome, ◌↔◌}
use Rattle.std.specs.Option.{option_map}
use Rattle.std.proofs.lemmas.List.{append-nil, append_assoc, take-append-drop}
use Rattle.hs_folders.proofs.Prefixes.{all_taken, none_taken}
use Rattle.hs_folders.specs.Appends.{AppendsPrefix}
use Rattle.hs_folders.specs.FileMaps.{FileMap}
use Rattle.hs_folders.specs.Moments.{Moments}
use Rattle.dlp_commands.specs.DeviceRuns.{Exchange, exchanged}
use Rattle.handheld_server.specs.Servers.{ServerValue}
use Rattle.line_world.specs.Folders.{ServedSince}
use Rattle.padp_end.specs.Outgoings.{said_text}
use Rattle.palm_device.specs.Devices.{Device}
use Rattle.slp_frames.proofs.ScanLaws.{continues_now}
use Rattle.slp_frames.specs.PacketScan.{scan}
use Rattle.slp_frames.specs.PacketText.{PacketValue}
use Rattle.device_stream.specs.declared.device_end.DeviceEnd.{DeviceEnd}
use Rattle.device_stream.specs.declared.device_end.DeviceEnd.TheVariants.{Ended, SourceRead, SinkWrite, Keeper, StreamEnded, StreamAborted, BadHello, TooLong, NoMemory}
use Rattle.device_stream.proofs.CourseLaws.{wrote-then, same-hand}
use Rattle.device_stream.proofs.TakingLaws.{said_text-append}
use Rattle.device_stream.specs.Courses.{BeginsWith, Breaks, Hears, IsOver, IsWithin, PerformsAny, Wrote}
use Rattle.device_stream.specs.Ends.{IsSinkEnd}
use Rattle.device_stream.specs.Hands.{Hand, wake_said, woken}
use Rattle.device_stream.specs.Laws.{DidNothing}
use Rattle.device_stream.specs.Runs.{Course, HasHeardAll, IsDeviceRun, KeptFor, Listens, stream_limit}
use Rattle.device_stream.specs.Talks.{TalkValue, talk_server}

-- ---- what was read

-- a piece more was read
pub read-piece : (old now : Option (List ℕ)) (count : ℕ) (piece : List ℕ) → IfSome old (λ left. piece ≡ take count left)
    → now ≡ option_map (λ left. drop count left) old → old ≡ option_map (λ rest. piece ++ rest) now
read-piece None now count piece bytes rest = ap (option_map (λ rest. piece ++ rest)) (sym rest)
read-piece (Some left) now count piece bytes rest =
    sym
    (ap (option_map (λ rest. piece ++ rest)) rest ∙ ap Some (ap (λ (s : List ℕ). s ++ drop count left) bytes ∙ take-append-drop count left))

pub read-then : (left old now : Option (List ℕ)) (bytes piece : List ℕ) → left ≡ option_map (λ rest. bytes ++ rest) old
    → old ≡ option_map (λ rest. piece ++ rest) now → left ≡ option_map (λ rest. (bytes ++ piece) ++ rest) now
read-then left old None bytes piece first next = first ∙ ap (option_map (λ rest. bytes ++ rest)) next
read-then left old (Some rest) bytes piece first next =
    first ∙ ap (option_map (λ rest. bytes ++ rest)) next ∙ ap Some (sym (append_assoc bytes piece rest))

-- nothing more was read
pub read-still : (left old now : Option (List ℕ)) (bytes : List ℕ) → left ≡ option_map (λ rest. bytes ++ rest) old → now ≡ old
    → left ≡ option_map (λ rest. bytes ++ rest) now
read-still left old now bytes first same = first ∙ ap (option_map (λ rest. bytes ++ rest)) (sym same)

pub read-nothing : (old now : Option (List ℕ)) (count : ℕ) → count ≡ 0 → now ≡ option_map (λ left. drop count left) old → now ≡ old
read-nothing None now count none rest = rest
read-nothing (Some left) now count none rest = rest ∙ ap (λ (n : ℕ). Some (drop n left)) none

pub start-read : (left : Option (List ℕ)) → left ≡ option_map (λ rest. [] ++ rest) left
start-read None = refl
start-read (Some left) = refl

-- the source is at its end
at-end : (left now : Option (List ℕ)) (bytes : List ℕ) → left ≡ option_map (λ rest. bytes ++ rest) now → IfSome now (λ l. l ≡ [])
    → IfSome left (λ l. l ≡ bytes)
at-end left None bytes is none = subst (λ o. IfSome o (λ l. l ≡ bytes)) (sym is) tt
at-end left (Some rest) bytes is none =
    subst (λ o. IfSome o (λ l. l ≡ bytes)) (sym is) (ap (λ (s : List ℕ). bytes ++ s) none ∙ append-nil bytes)

pub no-more : (now : Option (List ℕ)) (count : ℕ) → count ≡ 0 → IfSome now (λ left. (count ≡ 0) ↔ (left ≡ [])) → IfSome now (λ left. left ≡ [])
no-more None count none both = tt
no-more (Some left) count none both = both.0 none

-- ---- between packets

module _ (left now : Option (List ℕ)) {told later : Option (List ℕ)} {bytes held : List ℕ} {old new : Hand} (hears : Hears bytes held old new told later)
    (read : left ≡ option_map (λ rest. bytes ++ rest) now) where
  listens-by : (end : DeviceEnd) → Wrote end told later (said_text hears.talked.said) → IsOver end new.over
      → HasHeardAll end left (record { bytes = bytes; packets = hears.packets; said = hears.talked.said; hand = new })
      → Listens left now old new told later [] end
  listens-by end wrote over heard = record {
    course = record { bytes = bytes; packets = hears.packets; said = hears.talked.said; hand = new };
    read = read;
    first = (scan held, continues_now bytes held hears.packets hears.continues);
    talks = hears.talked.talks;
    same = same-hand new;
    wrote = wrote;
    over = over;
    heard = heard;
  }

  heard-all : scan held ≡ [] → hears.packets ≡ scan bytes
  heard-all none =
      sym
      (continues_now bytes held hears.packets hears.continues ∙ ap (λ (ps : List PacketValue). hears.packets ++ ps) none ∙ append-nil hears.packets)

  pub listens-unread : scan held ≡ [] → new.over ≡ None → Listens left now old new told later [] SourceRead
  listens-unread none going = listens-by SourceRead hears.talked.wrote going (heard-all none)

  pub listens-unkept : Listens left now old new told later [] NoMemory
  listens-unkept = listens-by NoMemory (all_taken told later (said_text hears.talked.said) hears.talked.wrote) tt tt

  pub listens-ended : scan held ≡ [] → new.over ≡ None → IfSome now (λ l. l ≡ []) → Listens left now old new told later [] StreamEnded
  listens-ended none going end = listens-by StreamEnded hears.talked.wrote going (heard-all none, at-end left now bytes read end)

  pub listens-long : scan held ≡ [] → new.over ≡ None → length bytes ≡ stream_limit → Listens left now old new told later [] TooLong
  listens-long none going long = listens-by TooLong hears.talked.wrote going (heard-all none, long)

-- ---- within packets

heard-within : (end : DeviceEnd) (left : Option (List ℕ)) (course : Course) → IsWithin end → HasHeardAll end left course
heard-within Ended left course within = tt
heard-within SourceRead left course within = absurd within
heard-within SinkWrite left course within = tt
heard-within Keeper left course within = tt
heard-within StreamEnded left course within = absurd within
heard-within StreamAborted left course within = tt
heard-within BadHello left course within = tt
heard-within TooLong left course within = absurd within
heard-within NoMemory left course within = tt

begins-first : (all part first : List PacketValue) → BeginsWith all part → BeginsWith part first → BeginsWith all first
begins-first all part first (later, is) (rest, more) =
    (rest ++ later, is ∙ ap (λ (ps : List PacketValue). ps ++ later) more ∙ append_assoc first rest later)

pub listens-breaks : (end : DeviceEnd) (left now : Option (List ℕ)) {told later : Option (List ℕ)} {bytes : List ℕ} {old new : Hand} → IsWithin end
    → left ≡ option_map (λ rest. bytes ++ rest) now → Breaks end bytes old new told later → Listens left now old new told later [] end
listens-breaks end left now {told} {later} {bytes} within read breaks =
    let stops = breaks.stops in
    record {
      course = record { bytes = bytes; packets = stops.taken; said = stops.said; hand = stops.hand };
      read = read;
      first = begins-first (scan bytes) breaks.packets stops.taken
          (subst (λ (s : List ℕ). BeginsWith (scan s) breaks.packets) (append-nil bytes) (breaks.front [])) stops.first;
      talks = stops.talks;
      same = stops.same;
      wrote = stops.wrote;
      over = stops.over;
      heard = heard-within end left _ within;
    }

-- ---- behind the wake

pub listens-behind : {end : DeviceEnd} {left now told mid later : Option (List ℕ)} {before : List ℕ} {old new : Hand}
    → mid ≡ option_map (λ taken. taken ++ before) told → Listens left now old new mid later [] end → Listens left now old new told later before end
listens-behind {end} {left} {now} {told} {mid} {later} {before} written listens = record {
  course = listens.course;
  read = listens.read;
  first = listens.first;
  talks = listens.talks;
  same = listens.same;
  wrote = wrote-then end told later before (said_text listens.course.said) written listens.wrote;
  over = listens.over;
  heard = listens.heard;
}

-- the wake wasn't written
pub listens-unwritten : (end : DeviceEnd) {left told later : Option (List ℕ)} {before : List ℕ} (hand : Hand) → IsSinkEnd end → AppendsPrefix told later before
    → Listens left left hand hand told later before end
listens-unwritten SinkWrite {left} {told} {later} {before} hand sink part = record {
  course = record { bytes = []; packets = []; said = []; hand = hand };
  read = start-read left;
  first = (scan [], refl);
  talks = (refl, refl);
  same = same-hand hand;
  wrote = subst (λ (s : List ℕ). AppendsPrefix told later s) (sym (append-nil before)) part;
  over = tt;
  heard = tt;
}
listens-unwritten NoMemory {left} {told} {later} {before} hand sink part = record {
  course = record { bytes = []; packets = []; said = []; hand = hand };
  read = start-read left;
  first = (scan [], refl);
  talks = (refl, refl);
  same = same-hand hand;
  wrote = subst (λ (s : List ℕ). AppendsPrefix told later s) (sym (append-nil before)) part;
  over = tt;
  heard = tt;
}
listens-unwritten Ended hand sink part = absurd sink
listens-unwritten SourceRead hand sink part = absurd sink
listens-unwritten Keeper hand sink part = absurd sink
listens-unwritten StreamEnded hand sink part = absurd sink
listens-unwritten StreamAborted hand sink part = absurd sink
listens-unwritten BadHello hand sink part = absurd sink
listens-unwritten TooLong hand sink part = absurd sink

-- ---- the whole run

pub run-listens : {end : DeviceEnd} {left now told later : Option (List ℕ)} {before : List ℕ} (device : Device) {new : Hand} → before ≡ said_text wake_said
    → (listens : Listens left now (woken device) new told later before end) → IsDeviceRun device left now told later end listens.course
run-listens {end} {left} {now} {told} {later} {before} device wakes listens = record {
  read = listens.read;
  first = listens.first;
  talks = listens.talks;
  wrote = subst (λ (s : List ℕ). Wrote end told later s)
      (ap (λ (s : List ℕ). s ++ said_text listens.course.said) wakes ∙ sym (said_text-append wake_said listens.course.said)) listens.wrote;
  over = listens.over;
  heard = listens.heard;
}

-- there was no memory to begin
pub run-unbegun : (device : Device) (left told : Option (List ℕ))
    → IsDeviceRun device left left told told NoMemory (record { bytes = []; packets = []; said = []; hand = woken device })
run-unbegun device left told = record {
  read = start-read left;
  first = (scan [], refl);
  talks = (refl, refl);
  wrote = none_taken told (said_text (wake_said ++ []));
  over = tt;
  heard = tt;
}

exchanged-map : (exchanges : List Exchange)
    → exchanged (map (λ (e : Exchange). e.request) exchanges) (map (λ (e : Exchange). e.reply) exchanges) ≡ exchanges
exchanged-map [] = refl
exchanged-map (exchange ∷ exchanges) = ap (λ (es : List Exchange). exchange ∷ es) (exchanged-map exchanges)

-- the folder went with the hand
pub kept-for : {F : Type 0} (contents : F → Option FileMap) (moments : F → Moments) (paths : F → Option (List (List ℕ))) (faults : F → ℕ)
    (server : ServerValue F) (new : TalkValue F) (hand : Hand)
    → PerformsAny contents moments paths faults (record { folder = server.folder; hand = woken server.device; sound = server.sound }) new
    → DidNothing hand new.hand → KeptFor contents moments paths faults server new.folder hand
kept-for contents moments paths faults server new hand performs same =
    let performed = sym same.performed_is ∙ performs.performed_is in
    let replies = sym same.replies_are ∙ performs.replies_are in (
      new.sound,
      subst (λ (d : Device). ServedSince contents moments paths faults server (record { folder = new.folder; device = d; sound = new.sound })
          (exchanged hand.performed hand.replies)) same.device_is
          (subst (λ (es : List Exchange). ServedSince contents moments paths faults server (talk_server new) es)
          (sym (ap (λ (ps : List (List ℕ)). exchanged ps hand.replies) performed
          ∙ ap (λ (rs : List (List ℕ)). exchanged (map (λ (e : Exchange). e.request) performs.exchanges) rs) replies ∙ exchanged-map performs.exchanges))
          performs.since),
    )
