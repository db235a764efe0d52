-- What a run's trace says by itself: its fates are the script's as far as there are frames.
use Rattle.std.proofs.Common.{◌≡◌, ℕ, suc, ◌+◌, List, [], ◌∷◌, sym, ap, ◌∙◌, arith}
use Rattle.trace_text.specs.Fates.{FateValue}
use Rattle.trace_text.specs.Proper.{IsProper, AreNumbered}
use Rattle.trace_text.specs.Talks.{Talk}
use Rattle.trace_text.specs.TraceLines.{FrameValue}
use Rattle.trace_check.specs.Messages.{fates_in}

numbered_by : (number : ℕ) (script given : ℕ → FateValue) (frames : List FrameValue) → AreNumbered number script frames
    → ((k : ℕ) → given (number + k) ≡ fates_in frames (suc k)) → AreNumbered number given frames
numbered_by number script given [] all same = tt
numbered_by number script given (frame ∷ later) all same = (
  all.0,
  sym (ap given (let e : number ≡ number + 0 = omega arith in e) ∙ same 0),
  all.2,
  numbered_by (number + 1) script given later all.3
      (λ k. ap given (let e : number + 1 + k ≡ number + suc k = omega arith in e) ∙ same (suc k)),
)

pub numbered-fates : (script : ℕ → FateValue) (frames : List FrameValue) → AreNumbered 1 script frames → AreNumbered 1 (fates_in frames) frames
numbered-fates script frames all =
    numbered_by 1 script (fates_in frames) frames all (λ k. ap (fates_in frames) (let e : 1 + k ≡ suc k = omega arith in e))

pub proper-fates : (script : ℕ → FateValue) (talk : Talk) (frames : List FrameValue) → IsProper script talk frames → IsProper (fates_in frames) talk frames
proper-fates script talk frames proper = record {
  numbered = numbered-fates script frames proper.numbered;
  bear = proper.bear;
  come = proper.come;
  faults = proper.faults;
  handheld = proper.handheld;
  desktop = proper.desktop;
}
