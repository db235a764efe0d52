-- What a handheld in memory does is what may happen behind a port.
use Rattle.std.proofs.Common.{◌≡◌, ◌≤◌, ℕ, List, [], ◌∷◌, ◌++◌, length, refl, sym, ap, subst, ◌∙◌}
use Rattle.std.specs.Prelude.{Some, Result, Ok, Err, OnErr}
use Rattle.std.proofs.lemmas.List.{append-nil, append_assoc}
use Rattle.port_laws.specs.Cables.{packets_of}
use Rattle.device_stream.specs.Hands.{Hand, taken_by, waited_by, with_end}
use Rattle.device_stream.specs.Takings.{HasTaken}
use Rattle.padp_end.specs.Ends.{end_takes}
use Rattle.padp_end.specs.Outgoings.{OutgoingFragment, said_text}
use Rattle.port_laws.proofs.LossLaws.{lost_back, lost_toward, moves-itself, moves-once, moves-then}
use Rattle.port_laws.proofs.SaidLaws.{HaveTexts, scanned, taken_texts, waits_scanned}
use Rattle.port_laws.specs.Palms.{Gives, HearsOf, IsTold, LosesToward, MovesOn, Palm, Repeats, Stops, TakesNext}
use Rattle.port_line.proofs.GivingLaws.{lost_front}
use Rattle.port_line.specs.Comings.{ComingValue, GivesBytes}
use Rattle.port_line.specs.Cradles.{CradleValue, Hears, Ticks, palm_of, palm_with, with_packets}
use Rattle.port_line.specs.Ways.{LosesFront, PutsFront}
use Rattle.slp_frames.specs.PacketScan.{scan}
use Rattle.slp_frames.specs.PacketText.{PacketValue}

-- ---- the handheld

-- none come behind the others
with-none : (coming : ComingValue) (text : List ℕ) → text ≡ [] → with_packets coming (scan text) ≡ coming
with-none coming text none =
    ap (λ (s : List ℕ). with_packets coming (scan s)) none
    ∙ ap (λ (ps : List PacketValue). (let c : ComingValue = record { packets = ps; part = coming.part } in c)) (append-nil coming.packets)

-- a packet is lost
pub lost_oldest : (hand : Hand) (packet : PacketValue) (toward : List PacketValue) (coming : ComingValue)
    → MovesOn (palm_with hand (packet ∷ toward) coming) (palm_with hand toward coming)
lost_oldest hand packet toward coming =
    moves-once (LosesToward toward (record { before = []; packet = packet; after = toward; old_is = refl; new_is = refl }) refl)

-- where a handheld hears nothing any more
pub hears-nothing : {old new : Hand} (packet : PacketValue) (text : List ℕ) → new ≡ old → text ≡ [] → Hears old packet (scan text) new
hears-nothing {old} {new} packet text same none toward coming =
    subst (λ (h : Hand). MovesOn (palm_with old (packet ∷ toward) coming) (palm_with h toward (with_packets coming (scan text)))) (sym same)
    (subst (λ (c : ComingValue). MovesOn (palm_with old (packet ∷ toward) coming) (palm_with old toward c)) (sym (with-none coming text none))
    (lost_oldest old packet toward coming))

-- it takes a packet
pub hears-taken : {old new : Hand} (packet : PacketValue) (text : List ℕ) → HasTaken old packet text new → length new.end.message ≤ 65535
    → Hears old packet (scan text) new
hears-taken {old} {new} packet text taken short toward coming =
    let said_is : (taken_by old taken.takes.free packet).0 ≡ taken.said = ap (λ (d : List OutgoingFragment × Hand). d.0) taken.takes.is in
    let has : HaveTexts taken.said = subst HaveTexts said_is (taken_texts old taken.takes.free packet) in
    let scanned_is : scan text ≡ packets_of taken.said = ap scan taken.text_is ∙ scanned taken.said has in
    moves-once (TakesNext (record {
      packet = packet;
      later = toward;
      said = taken.said;
      hand = new;
      toward_is = refl;
      takes = taken.takes;
      short = short;
      new_is = ap (λ (ps : List PacketValue). palm_with new toward (with_packets coming ps)) scanned_is;
    }))

-- it breaks down
pub hears-stopped : {old new : Hand} (packet : PacketValue) (text : List ℕ) → new ≡ with_end old (end_takes old.end packet).end → text ≡ []
    → Hears old packet (scan text) new
hears-stopped {old} {new} packet text is none toward coming =
    let hand = with_end old (end_takes old.end packet).end in
    let stops = moves-once (Stops (record { packet = packet; later = toward; toward_is = refl; new_is = refl })) in
    let lost = lost_back (palm_with hand toward coming) (packets_of (end_takes old.end packet).said) in
    subst (λ (h : Hand). MovesOn (palm_with old (packet ∷ toward) coming) (palm_with h toward (with_packets coming (scan text)))) (sym is)
    (subst (λ (c : ComingValue). MovesOn (palm_with old (packet ∷ toward) coming) (palm_with hand toward c)) (sym (with-none coming text none))
    (moves-then stops lost))

-- its clock ticks
pub ticks-waited : {old new : Hand} (text : List ℕ) → new ≡ (waited_by old).1 → text ≡ said_text (waited_by old).0 → Ticks old (scan text) new
ticks-waited {old} {new} text is text_is toward coming =
    let scanned_is : scan text ≡ packets_of (waited_by old).0 = ap scan text_is ∙ waits_scanned old.end in
    moves-once (Repeats (ap (λ (h : Hand). palm_with h toward (with_packets coming (scan text))) is
    ∙ ap (λ (ps : List PacketValue). palm_with (waited_by old).1 toward (with_packets coming ps)) scanned_is))

-- ---- the cradle

-- of what is said the first packets come, and the others are lost
put_back : (hand : Hand) (toward said : List PacketValue) (old new : ComingValue) → PutsFront said old.packets new.packets → new.part ≡ old.part
    → MovesOn (palm_with hand toward (with_packets old said)) (palm_with hand toward new)
put_back hand toward said old new puts part =
    let first = with_packets old puts.front in
    let same : first ≡ new = ap (λ (ps : List PacketValue). (let c : ComingValue = record { packets = ps; part = old.part } in c)) (sym puts.new_is)
    ∙ ap (λ (p : List ℕ). (let c : ComingValue = record { packets = new.packets; part = p } in c)) (sym part) in
    let all : with_packets old said ≡ with_packets first puts.later = ap (with_packets old) puts.packets_are
    ∙ ap (λ (ps : List PacketValue). (let c : ComingValue = record { packets = ps; part = old.part } in c))
    (sym (append_assoc old.packets puts.front puts.later)) in
    subst (λ (c : ComingValue). MovesOn (palm_with hand toward c) (palm_with hand toward new)) (sym all)
    (subst (λ (c : ComingValue). MovesOn (palm_with hand toward (with_packets first puts.later)) (palm_with hand toward c)) same
    (lost_back (palm_with hand toward first) puts.later))

pub heard_put : {was now : Hand} {packet seen : PacketValue} {said all toward : List PacketValue} {old new : ComingValue} → all ≡ packet ∷ toward
    → seen ≡ packet → Hears was seen said now → PutsFront said old.packets new.packets → new.part ≡ old.part
    → MovesOn (palm_with was all old) (palm_with now toward new)
heard_put {was} {now} {packet} {seen} {said} {all} {toward} {old} {new} all_is same hears puts part =
    subst (λ (ps : List PacketValue). MovesOn (palm_with was ps old) (palm_with now toward new)) (sym all_is)
    (moves-then (subst (λ (p : PacketValue). Hears was p said now) same hears toward old) (put_back now toward said old new puts part))

pub ticked_put : {was now : Hand} {said toward : List PacketValue} {old new : ComingValue} → Ticks was said now
    → PutsFront said old.packets new.packets → new.part ≡ old.part → MovesOn (palm_with was toward old) (palm_with now toward new)
ticked_put {was} {now} {said} {toward} {old} {new} ticks puts part = moves-then (ticks toward old) (put_back now toward said old new puts part)

pub lost_first : {hand : Hand} {packet : PacketValue} {all toward : List PacketValue} {coming : ComingValue} → all ≡ packet ∷ toward
    → MovesOn (palm_with hand all coming) (palm_with hand toward coming)
lost_first {hand} {packet} {all} {toward} {coming} all_is =
    subst (λ (ps : List PacketValue). MovesOn (palm_with hand ps coming) (palm_with hand toward coming)) (sym all_is) (lost_oldest hand packet toward coming)

pub none_first : {hand : Hand} {all toward : List PacketValue} {coming : ComingValue} → all ≡ [] → toward ≡ []
    → MovesOn (palm_with hand all coming) (palm_with hand toward coming)
none_first {hand} {all} {toward} {coming} all_none none =
    subst (λ (ps : List PacketValue). MovesOn (palm_with hand all coming) (palm_with hand ps coming)) (all_none ∙ sym none)
    (moves-itself (palm_with hand all coming))

-- of what is said toward the handheld the first packets are under way, and the others are lost
pub put_toward : {hand : Hand} {packets old new : List PacketValue} {coming : ComingValue} → PutsFront packets old new
    → HearsOf packets (palm_with hand old coming) (palm_with hand new coming)
put_toward {hand} {packets} {old} {new} {coming} puts =
    let all : old ++ packets ≡ (old ++ puts.front) ++ puts.later = ap (λ (ps : List PacketValue). old ++ ps) puts.packets_are
    ∙ sym (append_assoc old puts.front puts.later) in
    subst (λ (ps : List PacketValue). MovesOn (palm_with hand ps coming) (palm_with hand new coming)) (sym all)
    (subst (λ (ps : List PacketValue). MovesOn (palm_with hand ((old ++ puts.front) ++ puts.later) coming) (palm_with hand ps coming)) (sym puts.new_is)
    (lost_toward (palm_with hand (old ++ puts.front) coming) puts.later))

-- ---- bytes come

pub gives_behind : {hand : Hand} {toward : List PacketValue} {bytes : List ℕ} {first : Palm} {was old new : ComingValue}
    → MovesOn first (palm_with hand toward was) → LosesFront was.packets old.packets → old.part ≡ was.part → GivesBytes bytes old new
    → Gives bytes first (palm_with hand toward new)
gives_behind {hand} {toward} {bytes} {first} {was} {old} {new} moves loses part gives = record {
  between = palm_with hand toward old;
  moves = moves-then moves (lost_front hand toward was old loses part);
  packets = gives.packets;
  back_is = gives.old_is;
  continues = gives.continues;
  part_open = gives.part_open;
  hand_is = refl;
  toward_is = refl;
}

-- nothing comes
pub gives_nothing : {first last : Palm} {bytes : List ℕ} → bytes ≡ [] → MovesOn first last → scan last.part ≡ [] → Gives bytes first last
gives_nothing {first} {last} {bytes} none moves part_open = record {
  between = last;
  moves = moves;
  packets = [];
  back_is = refl;
  continues = record {
    scans = λ more. ap (λ (s : List ℕ). scan (s ++ more))
        (ap (λ (s : List ℕ). last.part ++ s) none ∙ append-nil last.part);
  };
  part_open = part_open;
  hand_is = refl;
  toward_is = refl;
}

pub moves_to_lost : {hand : Hand} {toward : List PacketValue} {first : Palm} {was old : ComingValue} → MovesOn first (palm_with hand toward was)
    → LosesFront was.packets old.packets → old.part ≡ was.part → MovesOn first (palm_with hand toward old)
moves_to_lost {hand} {toward} {first} {was} {old} moves loses part = moves-then moves (lost_front hand toward was old loses part)

-- ---- what is told

-- the hand that a handheld shows
pub hears-from : {seen old : Hand} (packet : PacketValue) (said : List PacketValue) (new : Hand) → seen ≡ old → Hears seen packet said new
    → Hears old packet said new
hears-from packet said new same hears = subst (λ (h : Hand). Hears h packet said new) same hears

pub ticks-from : {seen old : Hand} (said : List PacketValue) (new : Hand) → seen ≡ old → Ticks seen said new → Ticks old said new
ticks-from said new same ticks = subst (λ (h : Hand). Ticks h said new) same ticks

-- and what a cradle shows
pub moves-from : {F : Type 0} {seen old : CradleValue F} {new : Palm} → seen ≡ old → MovesOn (palm_of seen) new → MovesOn (palm_of old) new
moves-from {F} {new} same moves = subst (λ (c : CradleValue F). MovesOn (palm_of c) new) same moves

pub moves-to : {F : Type 0} {seen now : CradleValue F} {first : Palm} → seen ≡ now → MovesOn first (palm_of now) → MovesOn first (palm_of seen)
moves-to {F} {first} same moves = subst (λ (c : CradleValue F). MovesOn first (palm_of c)) (sym same) moves

pub says-from : {F : Type 0} {seen old : CradleValue F} (packets : List PacketValue) {new : Palm} → seen ≡ old → HearsOf packets (palm_of seen) new
    → HearsOf packets (palm_of old) new
says-from {F} packets {new} same hears = subst (λ (c : CradleValue F). HearsOf packets (palm_of c) new) same hears

-- where a port did nothing, all that was said to it is lost
pub told_unheard : {F : Type 0} (packets : List PacketValue) (old new : CradleValue F) → new ≡ old
    → IsTold (HearsOf packets) (Some (palm_of old)) (Some (palm_of new))
told_unheard {F} packets old new same =
    (palm_of old, lost_toward (palm_of old) packets, ap (λ (c : CradleValue F). Some (palm_of c)) same)

pub told_gives : {bytes : List ℕ} {old new : Palm} → Gives bytes old new → IsTold (Gives bytes) (Some old) (Some new)
told_gives {new} gives = (new, gives, refl)

pub told_moved : {T E : Type 0} (answer : Result T E) {old new : Palm} → MovesOn old new → OnErr answer (IsTold MovesOn (Some old) (Some new))
told_moved (Ok count) moves = tt
told_moved (Err fault) {new} moves = (new, moves, refl)
