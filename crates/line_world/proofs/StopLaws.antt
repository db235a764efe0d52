-- The last frame of a run that ends with it.
use Rattle.line_world.proofs.Names.{arith, common_steps, ◌≡◌, ℕ, ◌+◌, ◌++◌, Bool, true, false, List, [], ◌∷◌, drop, length, map, Option, Some, refl, sym, ap}
use Rattle.line_world.proofs.Names.{subst, ◌∙◌, length-append, map-append, FateValue, FrameValue, Frame, frame_value, ends_run, RunsOn, AllGo}
use Rattle.line_world.proofs.Names.{Stop, StopsBy, EndsWith, AllRunOn, EndsBy, EndsInAbort, Down, stop_cause}
use Rattle.line_steps.specs.declared.harm.Stop.TheVariants as stop

-- frames with which the run goes on
pub run-on : (number : ℕ) (frames : List Frame) → AllGo number frames → AllRunOn (map frame_value frames)
run-on number [] go = tt
run-on number (frame ∷ later) go = (go.0.goes_on, run-on (number + 1) later go.1)

last-on : (before : List FrameValue) (last : FrameValue) → AllRunOn (before ++ last ∷ []) → RunsOn last
last-on [] last on = on.0
last-on (frame ∷ before) last on = last-on before last on.1

stop-ends : (why : Stop) (given : FateValue) (bytes : List ℕ) → StopsBy given bytes (Some why) → ends_run given bytes ≡ true
stop-ends why given bytes is = grind (arith, common_steps)

pub both : {b : Bool} → b ≡ true → b ≡ false → ⊥
both is not = cc

-- the last of them ends no run
pub goes-on : {why : Stop} {frames : List FrameValue} → EndsBy why frames → AllRunOn frames → ⊥
goes-on {why} ends on =
    both (stop-ends why ends.last.fate ends.last.bytes ends.stops) (last-on ends.before ends.last (subst AllRunOn ends.is on))

-- ---- the reason

last-same : (xs ys : List FrameValue) (x y : FrameValue) → xs ++ x ∷ [] ≡ ys ++ y ∷ [] → x ≡ y
last-same [] [] x y same = cc
last-same [] (b ∷ ys) x y same = absurd (omega (arith, ap length same, length-append ys (y ∷ [])))
last-same (a ∷ xs) [] x y same = absurd (omega (arith, ap length same, length-append xs (x ∷ [])))
last-same (a ∷ xs) (b ∷ ys) x y same = last-same xs ys x y (ap (drop 1) same)

-- a frame ends the run for one reason
one-reason : (one other : Stop) (given : FateValue) (bytes : List ℕ) → StopsBy given bytes (Some one) → StopsBy given bytes (Some other) → one ≡ other
one-reason one other given bytes is it = grind (arith, common_steps)

one-stop : {one other : Stop} {frames : List FrameValue} → EndsBy one frames → EndsBy other frames → one ≡ other
one-stop {one} {other} is it =
    let same = last-same is.before it.before is.last it.last (sym is.is ∙ it.is) in
    one-reason one other it.last.fate it.last.bytes (subst (λ f. StopsBy f.fate f.bytes (Some one)) same is.stops) it.stops

-- so its cause is that of the reason for which it ends
pub stops-so : {one other : Stop} {frames : List FrameValue} {number : ℕ} {cause : Option Down} → number ≡ length frames → EndsBy one frames
    → EndsBy other frames → cause ≡ Some (stop_cause one number) → cause ≡ Some (stop_cause other (length frames))
stops-so {one} {other} {frames} count is it caused =
    caused ∙ ap (λ n. Some (stop_cause one n)) count ∙ ap (λ s. Some (stop_cause s (length frames))) (one-stop is it)

-- ---- an abort

pub in-abort : (frames : List Frame) → EndsWith stop.Aborted frames → EndsInAbort (map frame_value frames)
in-abort frames it = record {
  before = map frame_value it.before;
  last = frame_value it.last;
  is = ap (map frame_value) it.is ∙ map-append frame_value it.before (it.last ∷ []);
  fragment_is = it.abort_is refl;
}
