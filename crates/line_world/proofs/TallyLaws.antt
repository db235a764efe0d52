-- What the readers counted, in sums.
use Rattle.line_world.proofs.Names.{rules, if◌then◌else◌, ◌≡◌, ℕ, zero, suc, ◌+◌, ◌<◌, ◌≤◌, Bool, true, false, ◌&&◌, leb, nat_eq, List, [], ◌∷◌, length, map}
use Rattle.line_world.proofs.Names.{refl, ap, ◌∙◌, arith, raised, TallyValue, End, Frame, arrives, landing, is_end, all_land, count_came, FrameValue}
use Rattle.line_world.proofs.Names.{frame_value, CameByCursor, same_end, counts, landed, AgreesWith, capped, land_to_last}

-- a frame behind its end's cursor doesn't come
away : {X : End} (cursor : End → ℕ) (frame : FrameValue) {number : ℕ} → frame.from ≡ X → cursor X < number
    → (arrives frame.fate && leb number (cursor frame.from)) ≡ false
away cursor frame mine above = search rules

-- one before it comes where it arrives
there : {X : End} (cursor : End → ℕ) (frame : FrameValue) {number : ℕ} → frame.from ≡ X → number ≤ cursor X
    → (arrives frame.fate && leb number (cursor frame.from)) ≡ arrives frame.fate
there cursor frame mine within = search rules

none-came : {X : End} (cursor : End → ℕ) {number : ℕ} (frames : List FrameValue) → cursor X < number → CameByCursor number cursor frames
    → count_came X frames ≡ 0
none-came cursor [] less came = refl
none-came {X} cursor {number} (frame ∷ later) less came =
    go (is_end X frame.from) refl came.0 (none-came {X = X} cursor {number = number + 1} later (omega (arith, less)) came.1) where
      go : (b : Bool) → is_end X frame.from ≡ b → frame.came ≡ (arrives frame.fate && leb number (cursor frame.from)) → count_came X later ≡ 0
          → (if b && frame.came then 1 else 0) + count_came X later ≡ 0
      go false other here rest = omega (arith, rest)
      go true mine here rest =
          let off : frame.came ≡ false = here ∙ away cursor frame (same_end X frame.from mine) less in
          let none : (if frame.came then 1 else 0) ≡ 0 = ap {B = ℕ} (λ c. if c then 1 else 0) off in
          omega (arith, none, rest)

none-lands : (X : End) (frames : List FrameValue) → count_came X frames ≡ 0 → land_to_last X frames ≡ 0
none-lands X [] none = refl
none-lands X (frame ∷ later) none =
    ap (λ k. if nat_eq k 0 then 0 else (if is_end X frame.from then landing frame.fate (length frame.bytes) else 0) + land_to_last X later) none

-- up to the last that came there are no more than all
lands-few : (X : End) (frame : FrameValue) (later : List FrameValue)
    → land_to_last X (frame ∷ later) ≤ (if is_end X frame.from then landing frame.fate (length frame.bytes) else 0) + land_to_last X later
lands-few X frame later = search rules

-- what was counted before, and of these frames
record Within (tally : TallyValue) (least most packets : ℕ) : Type 0 where
  packets_are : tally.packets ≡ capped packets
  least_is : capped least ≤ tally.bytes
  most_is : tally.bytes ≤ capped most

sums : (X : End) (cursor : End → ℕ) (number n : ℕ) (frames : List Frame) {tally : TallyValue} {least most packets : ℕ} → cursor X + 1 ≡ number + n
    → CameByCursor number cursor (map frame_value frames) → Within tally least most packets
    → Within (counts X n frames tally) (least + land_to_last X (map frame_value frames)) (most + all_land X (map frame_value frames))
    (packets + count_came X (map frame_value frames))
sums X cursor number zero frames at came was =
    let none = none-came cursor (map frame_value frames) (omega (arith, at)) came in
    record {
      packets_are = was.packets_are ∙ ap capped (omega (arith, none));
      least_is = omega (arith, was.least_is, none-lands X (map frame_value frames) none);
      most_is = omega (arith, was.most_is);
    }
sums X cursor number (suc n) [] at came was = record {
  packets_are = was.packets_are ∙ ap capped (omega arith);
  least_is = omega (arith, was.least_is);
  most_is = omega (arith, was.most_is);
}
sums X cursor number (suc n) (frame ∷ later) {tally} {least} {most} {packets} at came was =
    step (is_end X frame.from) refl (lands-few X (frame_value frame) (map frame_value later))
    (λ t l m p w. sums X cursor (number + 1) n later (omega (arith, at)) came.1 w)
  where
    value : FrameValue
    value = frame_value frame

    lands : ℕ
    lands = landing value.fate (length value.bytes)

    step : (b : Bool) → is_end X frame.from ≡ b
        → land_to_last X (value ∷ map frame_value later) ≤ (if b then lands else 0) + land_to_last X (map frame_value later)
        → ((t : TallyValue) (l m p : ℕ) → Within t l m p → Within (counts X n later t) (l + land_to_last X (map frame_value later))
        (m + all_land X (map frame_value later)) (p + count_came X (map frame_value later)))
        → Within (counts X n later (if b then landed value tally else tally)) (least + land_to_last X (value ∷ map frame_value later))
        (most + ((if b then lands else 0) + all_land X (map frame_value later)))
        (packets + ((if b && value.came then 1 else 0) + count_came X (map frame_value later)))
    step false other few rest =
        let it = rest tally least most packets was in
        record { packets_are = it.packets_are ∙ ap capped (omega arith); least_is = omega (arith, it.least_is, few); most_is = omega (arith, it.most_is) }
    step true mine few rest =
        let came_is : value.came ≡ arrives value.fate = came.0 ∙ there cursor value (same_end X frame.from mine) (omega (arith, at)) in
        let it = rest (landed value tally) (least + lands) (most + lands) (packets + (if arrives value.fate then 1 else 0)) (record {
          packets_are = one (arrives value.fate);
          least_is = omega (arith, was.least_is);
          most_is = omega (arith, was.most_is);
        }) in
        record {
          packets_are = it.packets_are ∙ ap capped (omega (arith, ap {B = ℕ} (λ c. if c then 1 else 0) came_is));
          least_is = omega (arith, it.least_is, few);
          most_is = omega (arith, it.most_is);
        }
      where
        one : (b : Bool) → (if b then raised tally.packets 1 else tally.packets) ≡ capped (packets + (if b then 1 else 0))
        one true = omega (arith, was.packets_are)
        one false = was.packets_are ∙ ap capped (omega arith)

pub agrees : {X : End} (cursor : End → ℕ) (frames : List Frame) → CameByCursor 1 cursor (map frame_value frames)
    → AgreesWith X (map frame_value frames) (counts X (cursor X) frames (record { bytes = 0; packets = 0 }))
agrees {X} cursor frames came =
    let it = sums X cursor 1 (cursor X) frames {least = 0} {most = 0} {packets = 0} (omega arith) came
    (record { packets_are = omega arith; least_is = omega arith; most_is = omega arith }) in
    record { packets_are = it.packets_are ∙ ap capped (omega arith); least = omega (arith, it.least_is); most = omega (arith, it.most_is) }
