-- The frames are numbered and bear their own fates; what is left of the first rule is that nothing stands behind one that ends the run.
use Rattle.std.proofs.Common.{◌≡◌, ℕ, suc, ◌+◌, Bool, true, false, List, [], ◌∷◌, sym, ap, ◌∙◌, arith}
use Rattle.std.specs.Prelude.{◌↔◌}
use Rattle.trace_text.specs.Fates.{FateValue, ends_run}
use Rattle.trace_text.specs.Proper.{AreNumbered}
use Rattle.trace_text.specs.TraceLines.{FrameValue}
use Rattle.trace_check.specs.Messages.{fates_in}
use Rattle.trace_check.specs.Readings.{AreTraced}

-- only the last frame ends the run
abbrev pub EndAtLast : List FrameValue → Type 0
EndAtLast [] = Unit {0}
EndAtLast (frame ∷ later) = (ends_run frame.fate frame.bytes ≡ true → later ≡ []) × EndAtLast later

-- frames behind one that ended the run, or not
abbrev pub EndBehind : Bool → List FrameValue → Type 0
EndBehind ended frames = (ended ≡ true → frames ≡ []) × EndAtLast frames

end_by : (number : ℕ) (given : ℕ → FateValue) (frames : List FrameValue) → AreTraced number frames → EndAtLast frames
    → ((k : ℕ) → given (number + k) ≡ fates_in frames (suc k)) → AreNumbered number given frames
end_by number given [] traced last same = tt
end_by number given (frame ∷ later) traced last same = (
  traced.0.numbered,
  sym (ap given (let e : number ≡ number + 0 = omega arith in e) ∙ same 0),
  last.0,
  end_by (number + 1) given later traced.1 last.1
      (λ k. ap given (let e : number + 1 + k ≡ number + suc k = omega arith in e) ∙ same (suc k)),
)

pub numbered-end : (number : ℕ) (given : ℕ → FateValue) (frames : List FrameValue) → AreNumbered number given frames → EndAtLast frames
numbered-end number given [] all = tt
numbered-end number given (frame ∷ later) all = (all.2, numbered-end (number + 1) given later all.3)

-- the first rule of frames that were read
pub end-first : (frames : List FrameValue) → AreTraced 1 frames → AreNumbered 1 (fates_in frames) frames ↔ EndBehind false frames
end-first frames traced = (
  λ all. (λ none. absurd cc, numbered-end 1 (fates_in frames) frames all),
  λ last. end_by 1 (fates_in frames) frames traced last.1 (λ k. ap (fates_in frames) (let e : 1 + k ≡ suc k = omega arith in e)),
)
