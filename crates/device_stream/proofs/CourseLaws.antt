-- How a talk over packets goes on.
use Rattle.std.proofs.Common.{◌≡◌, ℕ, ◌+◌, List, [], ◌∷◌, ◌++◌, length, map, take, Option, None, Some, refl, sym, ap, subst, ◌∙◌}
use Rattle.std.specs.Option.{option_map}
use Rattle.std.proofs.Math.Seq.{take-append-add}
use Rattle.std.proofs.lemmas.List.{append-nil, append_assoc, map-append}
use Rattle.hs_folders.proofs.Prefixes.{none_taken}
use Rattle.hs_folders.specs.Appends.{AppendsPrefix}
use Rattle.hs_folders.specs.FileMaps.{FileMap}
use Rattle.hs_folders.specs.Moments.{Moments}
use Rattle.handheld_server.specs.declared.fault.ServeFault.{ServeFault}
use Rattle.handheld_server.specs.declared.fault.ServeFault.TheVariants as serve
use Rattle.dlp_commands.specs.DeviceRuns.{Exchange}
use Rattle.line_world.specs.SinceLaws.{served-itself, served-more}
use Rattle.padp_end.specs.Ends.{EndValue}
use Rattle.padp_end.specs.Outgoings.{OutgoingFragment, said_text}
use Rattle.slp_frames.proofs.ScanLaws.{continues_append, continues_start}
use Rattle.slp_frames.specs.Histories.{Continues}
use Rattle.slp_frames.specs.PacketScan.{scan}
use Rattle.slp_frames.specs.PacketText.{PacketValue}
use Rattle.device_stream.specs.declared.device_end.DeviceEnd.{DeviceEnd}
use Rattle.device_stream.specs.declared.device_end.DeviceEnd.TheVariants.{Ended, SourceRead, SinkWrite, Keeper, StreamEnded, StreamAborted, BadHello, TooLong, NoMemory}
use Rattle.device_stream.specs.declared.talk_end.TalkEnd.{TalkEnd}
use Rattle.device_stream.specs.declared.talk_end.TalkEnd.TheVariants as talk
use Rattle.device_stream.proofs.TakingLaws.{said_text-append}
use Rattle.device_stream.specs.Courses.{BeginsWith, Breaks, Hears, IsOver, PerformsAny, Stops, HasTalked, Wrote}
use Rattle.device_stream.specs.Ends.{IsSinkEnd, end_of_fault, end_of_talk}
use Rattle.device_stream.specs.Hands.{Hand, with_end}
use Rattle.device_stream.specs.Laws.{DidNothing}
use Rattle.device_stream.specs.Takings.{HasTaken}
use Rattle.device_stream.specs.Talks.{TalkValue, Takes, Talks, talk_server}

-- ---- what a sink took

written-none : (told : Option (List ℕ)) → told ≡ option_map (λ taken. taken ++ []) told
written-none None = refl
written-none (Some taken) = ap Some (sym (append-nil taken))

written-then : (told : Option (List ℕ)) {mid later : Option (List ℕ)} (a b : List ℕ) → mid ≡ option_map (λ taken. taken ++ a) told
    → later ≡ option_map (λ taken. taken ++ b) mid → later ≡ option_map (λ taken. taken ++ (a ++ b)) told
written-then None a b first next = next ∙ ap (option_map (λ taken. taken ++ b)) first
written-then (Some taken) a b first next =
    next ∙ ap (option_map (λ taken. taken ++ b)) first ∙ ap Some (append_assoc taken a b)

pub prefix-behind : (told : Option (List ℕ)) {mid later : Option (List ℕ)} (a b : List ℕ) → mid ≡ option_map (λ taken. taken ++ a) told
    → AppendsPrefix mid later b → AppendsPrefix told later (a ++ b)
prefix-behind told a b first part = record {
  count = length a + part.count;
  is = written-then told a (take part.count b) first part.is
      ∙ ap (λ (s : List ℕ). option_map (λ taken. taken ++ s) told) (sym (take-append-add a b part.count));
}

pub wrote-then : (end : DeviceEnd) (told : Option (List ℕ)) {mid : Option (List ℕ)} (later : Option (List ℕ)) (a b : List ℕ) → mid ≡ option_map (λ taken. taken ++ a) told
    → Wrote end mid later b → Wrote end told later (a ++ b)
wrote-then SinkWrite told later a b first part = prefix-behind told a b first part
wrote-then NoMemory told later a b first part = prefix-behind told a b first part
wrote-then Ended told later a b first part = written-then told a b first part
wrote-then SourceRead told later a b first part = written-then told a b first part
wrote-then Keeper told later a b first part = written-then told a b first part
wrote-then StreamEnded told later a b first part = written-then told a b first part
wrote-then StreamAborted told later a b first part = written-then told a b first part
wrote-then BadHello told later a b first part = written-then told a b first part
wrote-then TooLong told later a b first part = written-then told a b first part

-- ---- packets

pub talks-then : (a : Hand) (ps : List PacketValue) (said : List OutgoingFragment) (b : Hand) (qs : List PacketValue) (later : List OutgoingFragment) (c : Hand)
    → Talks a ps said b → Talks b qs later c → Talks a (ps ++ qs) (said ++ later) c
talks-then a [] said b qs later c first next =
    subst (λ (h : Hand). Talks h qs (said ++ later) c) first.1 (subst (λ (s : List OutgoingFragment). Talks b qs (s ++ later) c) (sym first.0) next)
talks-then a (p ∷ ps) said b qs later c (one, rest, between, is, takes, talks) next = (
  one,
  rest ++ later,
  between,
  ap (λ (s : List OutgoingFragment). s ++ later) is ∙ append_assoc one rest later,
  takes,
  talks-then between ps rest b qs later c talks next,
)

talks-one : {a b : Hand} {p : PacketValue} {said : List OutgoingFragment} → Takes a p said b → Talks a (p ∷ []) said b
talks-one {a} {b} {p} {said} takes = (said, [], b, sym (append-nil said), takes, (refl, refl))

pub talked-itself : (hand : Hand) (told : Option (List ℕ)) → HasTalked hand hand told told []
talked-itself hand told = record { said = []; talks = (refl, refl); wrote = written-none told }

pub talked-then : {a b c : Hand} {t u v : Option (List ℕ)} {ps qs : List PacketValue} → HasTalked a b t u ps → HasTalked b c u v qs → HasTalked a c t v (ps ++ qs)
talked-then {a} {b} {c} {t} {u} {v} {ps} {qs} first next = record {
  said = first.said ++ next.said;
  talks = talks-then a ps first.said b qs next.said c first.talks next.talks;
  wrote = written-then t (said_text first.said) (said_text next.said) first.wrote next.wrote
      ∙ ap (λ (s : List ℕ). option_map (λ taken. taken ++ s) t) (sym (said_text-append first.said next.said));
}

pub begins-behind : {X : Type 0} (first all part : List X) → BeginsWith all part → BeginsWith (first ++ all) (first ++ part)
begins-behind first all part begins = (begins.0, ap (λ (xs : List _). first ++ xs) begins.1 ∙ sym (append_assoc first part begins.0))

pub talked-stops : {end : DeviceEnd} {a b c : Hand} {t u v : Option (List ℕ)} {ps qs : List PacketValue} → HasTalked a b t u ps → Stops end b c u v qs
    → Stops end a c t v (ps ++ qs)
talked-stops {end} {a} {b} {c} {t} {u} {v} {ps} {qs} first next = record {
  taken = ps ++ next.taken;
  first = begins-behind ps qs next.taken next.first;
  said = first.said ++ next.said;
  hand = next.hand;
  talks = talks-then a ps first.said b next.taken next.said next.hand first.talks next.talks;
  same = next.same;
  wrote = subst (λ (s : List ℕ). Wrote end t v s) (sym (said_text-append first.said next.said))
      (wrote-then end t v (said_text first.said) (said_text next.said) first.wrote next.wrote);
  over = next.over;
}

-- ---- one packet

-- a hand that stays did nothing
pub same-hand : (hand : Hand) → DidNothing hand hand
same-hand hand = record { device_is = refl; performed_is = refl; replies_are = refl }

-- a request that wasn't served
pub stops-unserved : (fault : ServeFault) {old new : Hand} {end : EndValue} (told : Option (List ℕ)) (packet : PacketValue) → old.over ≡ None
    → new ≡ with_end old end → Stops (end_of_fault fault) old new told told (packet ∷ [])
stops-unserved serve.Keeper {old} {new} told packet going is = record {
  taken = [];
  first = (packet ∷ [], refl);
  said = [];
  hand = old;
  talks = (refl, refl);
  same = record { device_is = ap (λ h. h.device) is; performed_is = ap (λ h. h.performed) is; replies_are = ap (λ h. h.replies) is };
  wrote = written-none told;
  over = going;
}
stops-unserved serve.NoMemory {old} {new} told packet going is = record {
  taken = [];
  first = (packet ∷ [], refl);
  said = [];
  hand = old;
  talks = (refl, refl);
  same = record { device_is = ap (λ h. h.device) is; performed_is = ap (λ h. h.performed) is; replies_are = ap (λ h. h.replies) is };
  wrote = none_taken told [];
  over = tt;
}

-- what was said wasn't written
pub stops-unwritten : (end : DeviceEnd) {old new : Hand} {told later : Option (List ℕ)} {packet : PacketValue} {text : List ℕ} → IsSinkEnd end
    → HasTaken old packet text new → AppendsPrefix told later text → Stops end old new told later (packet ∷ [])
stops-unwritten end {old} {new} {told} {later} {packet} sink taken part = record {
  taken = packet ∷ [];
  first = ([], refl);
  said = taken.said;
  hand = new;
  talks = talks-one taken.takes;
  same = same-hand new;
  wrote = wrote end sink (subst (λ (s : List ℕ). AppendsPrefix told later s) taken.text_is part);
  over = over end sink;
} where
  wrote : (end : DeviceEnd) → IsSinkEnd end → AppendsPrefix told later (said_text taken.said) → Wrote end told later (said_text taken.said)
  wrote SinkWrite sink it = it
  wrote NoMemory sink it = it
  wrote Ended sink it = absurd sink
  wrote SourceRead sink it = absurd sink
  wrote Keeper sink it = absurd sink
  wrote StreamEnded sink it = absurd sink
  wrote StreamAborted sink it = absurd sink
  wrote BadHello sink it = absurd sink
  wrote TooLong sink it = absurd sink

  over : (end : DeviceEnd) → IsSinkEnd end → IsOver end new.over
  over SinkWrite sink = tt
  over NoMemory sink = tt
  over Ended sink = absurd sink
  over SourceRead sink = absurd sink
  over Keeper sink = absurd sink
  over StreamEnded sink = absurd sink
  over StreamAborted sink = absurd sink
  over BadHello sink = absurd sink
  over TooLong sink = absurd sink

-- the talk is over
pub stops-over : (over : TalkEnd) {old new : Hand} {told later : Option (List ℕ)} {packet : PacketValue} {text : List ℕ} → HasTaken old packet text new
    → later ≡ option_map (λ taken. taken ++ text) told → new.over ≡ Some over → Stops (end_of_talk over) old new told later (packet ∷ [])
stops-over over {old} {new} {told} {later} {packet} taken written is = record {
  taken = packet ∷ [];
  first = ([], refl);
  said = taken.said;
  hand = new;
  talks = talks-one taken.takes;
  same = same-hand new;
  wrote = wrote over (written ∙ ap (λ (s : List ℕ). option_map (λ taken. taken ++ s) told) taken.text_is);
  over = ends over is;
} where
  wrote : (over : TalkEnd) → later ≡ option_map (λ t. t ++ said_text taken.said) told → Wrote (end_of_talk over) told later (said_text taken.said)
  wrote talk.Ended it = it
  wrote talk.Aborted it = it
  wrote talk.BadHello it = it

  ends : (over : TalkEnd) → new.over ≡ Some over → IsOver (end_of_talk over) new.over
  ends talk.Ended it = it
  ends talk.Aborted it = it
  ends talk.BadHello it = it

-- ---- bytes

pub hears-itself : (bytes : List ℕ) (hand : Hand) (told : Option (List ℕ)) → Hears bytes bytes hand hand told told
hears-itself bytes hand told = record { packets = []; continues = continues_start bytes; talked = talked-itself hand told }

pub hears-packet : {bytes held next : List ℕ} {a b c : Hand} {t u v : Option (List ℕ)} {packet : PacketValue} (before : Hears bytes held a b t u)
    → Continues bytes (before.packets ++ packet ∷ []) next → HasTalked b c u v (packet ∷ []) → Hears bytes next a c t v
hears-packet {packet = packet} before step talked = record {
  packets = before.packets ++ packet ∷ [];
  continues = step;
  talked = talked-then before.talked talked;
}

pub hears-breaks : {end : DeviceEnd} {bytes held next : List ℕ} {a b c : Hand} {t u v : Option (List ℕ)} {packet : PacketValue}
    (before : Hears bytes held a b t u) → Continues bytes (before.packets ++ packet ∷ []) next → Stops end b c u v (packet ∷ []) → Breaks end bytes a c t v
hears-breaks {next = next} {packet = packet} before step stops = record {
  packets = before.packets ++ packet ∷ [];
  front = λ more. (scan (next ++ more), step.scans more);
  stops = talked-stops before.talked stops;
}

pub hears-more : {bytes held next : List ℕ} (more : List ℕ) {a b c : Hand} {t u v : Option (List ℕ)} → Hears bytes held a b t u
    → Hears (held ++ more) next b c u v → Hears (bytes ++ more) next a c t v
hears-more {bytes} {held} {next} more before after = record {
  packets = before.packets ++ after.packets;
  continues = record {
    scans = λ later.
        (continues_append bytes more held before.packets before.continues).scans later
        ∙ ap (λ (ps : List PacketValue). before.packets ++ ps) (after.continues.scans later)
        ∙ sym (append_assoc before.packets after.packets (scan (next ++ later)));
  };
  talked = talked-then before.talked after.talked;
}

pub hears-then-breaks : {end : DeviceEnd} {bytes held : List ℕ} (more : List ℕ) {a b c : Hand} {t u v : Option (List ℕ)} → Hears bytes held a b t u
    → Breaks end (held ++ more) b c u v → Breaks end (bytes ++ more) a c t v
hears-then-breaks {end} {bytes} {held} more before after = record {
  packets = before.packets ++ after.packets;
  front = λ later.
      let step = after.front later in (
        step.0,
        (continues_append bytes more held before.packets before.continues).scans later ∙ ap (λ (ps : List PacketValue). before.packets ++ ps) step.1
            ∙ sym (append_assoc before.packets after.packets step.0),
      );
  stops = talked-stops before.talked after.stops;
}

pub breaks-append : {end : DeviceEnd} {all bytes : List ℕ} (more : List ℕ) {a b : Hand} {t u : Option (List ℕ)} → all ≡ bytes ++ more
    → Breaks end bytes a b t u → Breaks end all a b t u
breaks-append {end} {all} {bytes} more is before = record {
  packets = before.packets;
  front = λ later.
      let step = before.front (more ++ later) in
      (step.0, ap (λ (s : List ℕ). scan (s ++ later)) is ∙ ap scan (append_assoc bytes more later) ∙ step.1);
  stops = before.stops;
}

-- ---- the folder

pub any-itself : {F : Type 0} (contents : F → Option FileMap) (moments : F → Moments) (paths : F → Option (List (List ℕ))) (faults : F → ℕ)
    (value : TalkValue F) → PerformsAny contents moments paths faults value value
any-itself contents moments paths faults value = record {
  exchanges = [];
  performed_is = sym (append-nil value.hand.performed);
  replies_are = sym (append-nil value.hand.replies);
  since = served-itself contents moments paths faults (talk_server value);
}

joined : {A : Type 0} (f : A → List ℕ) (a b c : List (List ℕ)) (xs ys : List A) → b ≡ a ++ map f xs → c ≡ b ++ map f ys → c ≡ a ++ map f (xs ++ ys)
joined f a b c xs ys first second =
    second ∙ ap (λ (l : List (List ℕ)). l ++ map f ys) first ∙ append_assoc a (map f xs) (map f ys)
    ∙ ap (λ (l : List (List ℕ)). a ++ l) (sym (map-append f xs ys))

pub any-then : {F : Type 0} (contents : F → Option FileMap) (moments : F → Moments) (paths : F → Option (List (List ℕ))) (faults : F → ℕ)
    {a b c : TalkValue F} → PerformsAny contents moments paths faults a b → PerformsAny contents moments paths faults b c
    → PerformsAny contents moments paths faults a c
any-then contents moments paths faults {a} {b} {c} first next = record {
  exchanges = first.exchanges ++ next.exchanges;
  performed_is = joined (λ (e : Exchange). e.request) a.hand.performed b.hand.performed c.hand.performed first.exchanges next.exchanges first.performed_is next.performed_is;
  replies_are = joined (λ (e : Exchange). e.reply) a.hand.replies b.hand.replies c.hand.replies first.exchanges next.exchanges first.replies_are next.replies_are;
  since = served-more contents moments paths faults (talk_server a) (talk_server b) (talk_server c) first.exchanges next.exchanges first.since next.since;
}
