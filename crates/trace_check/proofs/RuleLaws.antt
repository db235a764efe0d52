-- The seven rules are the definition of a proper trace, and the first broken one is one.
use Rattle.std.proofs.Common.{◌≡◌, ℕ, zero, suc, Bool, List, [], ◌∷◌, refl, sym, ap, ◌∙◌, arith, inl, inr}
use Rattle.std.proofs.lemmas.Bool.{cases_lt}
use Rattle.std.specs.Prelude.{◌↔◌}
use Rattle.trace_text.specs.declared.frame.End.{End}
use Rattle.trace_text.specs.declared.frame.End.TheVariants.{Handheld, Desktop}
use Rattle.trace_text.specs.Past.{PastFrame}
use Rattle.trace_text.specs.Frames.{past_of, came_in}
use Rattle.trace_text.specs.Proper.{BeginInTurn}
use Rattle.trace_text.specs.Talks.{Talk}
use Rattle.trace_text.specs.TraceLines.{FrameValue}
use Rattle.trace_check.specs.Messages.{talk_in}
use Rattle.trace_check.specs.Judging.{IsProperTrace, KnowsBefore, AnswersInTurn, SayMessages, Keeps, IsFirstBroken, IsVerdict, place_of}
use Rattle.trace_check.specs.declared.rule.Rule.{Rule}
use Rattle.trace_check.specs.declared.rule.Rule.TheVariants.{A, B, C, D, E, F, G}
use Rattle.trace_check.specs.declared.rule.Verdict.{Verdict}
use Rattle.trace_check.specs.declared.rule.Verdict.TheVariants.{Proper, Not}

-- both halves of beginning in turn
pub begin-knows : (X Y : End) (talk : Talk) (came : ℕ → Bool) (past : List PastFrame) → BeginInTurn X Y talk came past → KnowsBefore X Y talk came past
begin-knows X Y talk came [] all = tt
begin-knows X Y talk came (frame ∷ past) all = (λ is new some. (all.0 is new).0 some, begin-knows X Y talk came past all.1)

pub begin-answers : (X Y : End) (talk : Talk) (came : ℕ → Bool) (past : List PastFrame) → BeginInTurn X Y talk came past → AnswersInTurn X talk came past
begin-answers X Y talk came [] all = tt
begin-answers X Y talk came (frame ∷ past) all = (λ is new. (all.0 is new).1, begin-answers X Y talk came past all.1)

pub begin-both : (X Y : End) (talk : Talk) (came : ℕ → Bool) (past : List PastFrame) → KnowsBefore X Y talk came past → AnswersInTurn X talk came past
    → BeginInTurn X Y talk came past
begin-both X Y talk came [] knows answers = tt
begin-both X Y talk came (frame ∷ past) knows answers =
    (λ is new. (knows.0 is new, answers.0 is new), begin-both X Y talk came past knows.1 answers.1)

keeps : (frames : List FrameValue) → IsProperTrace frames → (rule : Rule) → Keeps rule frames
keeps frames trace A = trace.proper.numbered
keeps frames trace B = trace.proper.bear
keeps frames trace C = trace.proper.come
keeps frames trace D = record {
  handheld = trace.proper.handheld.says;
  desktop = trace.proper.desktop.says;
  handheld_ten = trace.proper.handheld.ten;
  desktop_ten = trace.proper.desktop.ten;
  faults = trace.proper.faults;
  wake = trace.wake;
  init = trace.init;
}
keeps frames trace E =
    (begin-knows Handheld Desktop _ _ _ trace.proper.handheld.begins, begin-knows Desktop Handheld _ _ _ trace.proper.desktop.begins)
keeps frames trace F =
    (begin-answers Handheld Desktop _ _ _ trace.proper.handheld.begins, begin-answers Desktop Handheld _ _ _ trace.proper.desktop.begins)
keeps frames trace G = (trace.proper.handheld.acked, trace.proper.desktop.acked)

is_proper : (frames : List FrameValue) → ((rule : Rule) → Keeps rule frames) → IsProperTrace frames
is_proper frames all =
    let says : SayMessages frames = all D in
    record {
      proper = record {
        numbered = all A;
        bear = all B;
        come = all C;
        faults = says.faults;
        handheld = record {
          says = says.handheld;
          ten = says.handheld_ten;
          begins = begin-both Handheld Desktop (talk_in frames) (came_in frames) (past_of frames) (all E).0 (all F).0;
          acked = (all G).0;
        };
        desktop = record {
          says = says.desktop;
          ten = says.desktop_ten;
          begins = begin-both Desktop Handheld (talk_in frames) (came_in frames) (past_of frames) (all E).1 (all F).1;
          acked = (all G).1;
        };
      };
      wake = says.wake;
      init = says.init;
    }

pub seven-rules : (frames : List FrameValue) → IsProperTrace frames ↔ ((rule : Rule) → Keeps rule frames)
seven-rules frames = (keeps frames, is_proper frames)

-- ---- one verdict

rule_at : ℕ → Rule
rule_at zero = A
rule_at (suc zero) = B
rule_at (suc (suc zero)) = C
rule_at (suc (suc (suc zero))) = D
rule_at (suc (suc (suc (suc zero)))) = E
rule_at (suc (suc (suc (suc (suc zero))))) = F
rule_at _ = G

rule_at-place : (rule : Rule) → rule_at (place_of rule) ≡ rule
unfolding rule_at
rule_at-place A = refl
rule_at-place B = refl
rule_at-place C = refl
rule_at-place D = refl
rule_at-place E = refl
rule_at-place F = refl
rule_at-place G = refl

one_rule : (frames : List FrameValue) (x y : Rule) → IsFirstBroken x frames → IsFirstBroken y frames → x ≡ y
one_rule frames x y a b = elim (cases_lt (place_of x) (place_of y)) [
  | inl before ↦ absurd (a.broken (b.kept x before))
  | inr not_before ↦ elim (cases_lt (place_of y) (place_of x)) [
    | inl behind ↦ absurd (b.broken (a.kept y behind))
    | inr not_behind ↦
        let same : place_of x ≡ place_of y = omega (arith, not_before, not_behind) in
        sym (rule_at-place x) ∙ (ap rule_at same ∙ rule_at-place y)
  ]
]

pub one-verdict : (frames : List FrameValue) (x y : Verdict) → IsVerdict frames x → IsVerdict frames y → x ≡ y
one-verdict frames (Proper requests replies) (Proper asked answered) a b =
    ap (λ n. Proper n replies) (a.1 ∙ sym b.1) ∙ ap (λ n. Proper asked n) (a.2 ∙ sym b.2)
one-verdict frames (Proper requests replies) (Not rule) a b = absurd (b.broken (keeps frames a.0 rule))
one-verdict frames (Not rule) (Proper requests replies) a b = absurd (a.broken (keeps frames b.0 rule))
one-verdict frames (Not x) (Not y) a b = ap Not (one_rule frames x y a b)
