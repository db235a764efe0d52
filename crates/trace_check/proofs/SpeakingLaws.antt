-- What an end may say next is what the rule of messages asks of its next frame.
use Rattle.std.proofs.Common.{◌≡◌, ◌+◌, ◌<◌, Bool, true, false, ◌&&◌, List, [], ◌∷◌, ◌++◌, length, map, Some, refl, sym, ap, subst, ◌∙◌, arith, inl, inr}
use Rattle.std.specs.Bool.{MatchBool}
use Rattle.std.specs.Prelude.{reverse, if◌then◌else◌}
use Rattle.std.proofs.lemmas.Bool.{cond-true, cond-false, cases_Bool, both_ways, and_parts}
use Rattle.std.proofs.lemmas.Bool.Decides.{when_true, when_false}
use Rattle.std.proofs.lemmas.List.{reverse-append}
use Rattle.cmp_hello.specs.declared.hello.HelloKind.{HelloKind}
use Rattle.padp_link.specs.declared.piece.Key.{Key}
use Rattle.trace_text.specs.declared.frame.End.{End}
use Rattle.trace_text.specs.Faults.{faulted, newest}
use Rattle.trace_text.specs.Parts.{Part, part_of, spoken, key_of_part}
use Rattle.trace_text.specs.Past.{PastFrame, same_key, first, said, is_data_of, is_newest_key, is_repeat, run}
use Rattle.line_laws.proofs.CameLaws.{ten-run}
use Rattle.line_laws.proofs.PartLaws.{spoken_keys, add_part-new, add_part-again}
use Rattle.line_laws.proofs.PastLaws.{same_key-true, same_key-same}
use Rattle.trace_check.specs.Standings.{start, MaySay, next, standing_behind, MaySayAll}
use Rattle.trace_check.specs.Speaking.{is_again, repeated_at, begun_with, SaysNext, IsSpeaker, SpeaksSo, HasFault}
use Rattle.trace_check.specs.declared.speaker.Speaker.{Speaker}
use Rattle.trace_check.proofs.StandingLaws.{standing_behind-push, MaySayAll-push, MaySayAll-front, MaySayAll-last}
use Rattle.line_laws.proofs.TraceLaws.{other_no_repeat}
use Rattle.line_laws.proofs.JoinLaws.{run_other}
use Rattle.trace_check.proofs.SideLaws.{said-same}

-- ---- a frame that isn't the end's data

spoken-other : (X : End) (frame : PastFrame) (past : List PastFrame) → is_data_of X frame ≡ false → spoken X (frame ∷ past) ≡ spoken X past
spoken-other X frame past other = cond-false _ _ _ other

pub other-speaker : (X : End) (frame : PastFrame) (past : List PastFrame) (speaker : Speaker) → is_data_of X frame ≡ false → IsSpeaker X past speaker
    → IsSpeaker X (frame ∷ past) speaker
other-speaker X frame past speaker other is = record {
  newest_is = is.newest_is ∙ ap first (sym (said-same X frame past other));
  run_is = is.run_is ∙ sym (run_other X frame past other);
  repeat_is = is.repeat_is ∙ sym (cond-false _ _ _ (other_no_repeat X frame past other));
  standing_is = is.standing_is ∙ ap (λ ps. standing_behind start (reverse ps)) (sym (spoken-other X frame past other));
}

pub other-so : (greeting : HelloKind) (X : End) (frame : PastFrame) (past : List PastFrame) → is_data_of X frame ≡ false → SpeaksSo greeting X past
    → SpeaksSo greeting X (frame ∷ past)
other-so greeting X frame past other so = record {
  says = subst (λ ps. MaySayAll greeting start (reverse ps)) (sym (spoken-other X frame past other)) so.says;
  ten = (omega (arith, ten-run X past so.ten, run_other X frame past other), so.ten);
}

pub other-fault : (X : End) (frame : PastFrame) (past : List PastFrame) → is_data_of X frame ≡ false → HasFault X frame past
other-fault X frame past other repeats = absurd (both_ways _ (other_no_repeat X frame past other) repeats)

-- ---- the end's data

pub is_again-first : (key : Key) (keys : List Key) → is_again (first keys) key ≡ is_newest_key key keys
is_again-first key [] = refl
is_again-first key (newest ∷ older) = refl

again-is : (X : End) (frame : PastFrame) (past : List PastFrame) (speaker : Speaker) → is_data_of X frame ≡ true → IsSpeaker X past speaker
    → is_again speaker.newest frame.key ≡ is_repeat X frame past
again-is X frame past speaker mine is =
    ap (λ k. is_again k frame.key) is.newest_is
    ∙ (is_again-first frame.key (said X past) ∙ sym (ap (λ b. b && is_newest_key frame.key (said X past)) mine))

-- a repeat leaves what was said
repeat-key : (X : End) (frame : PastFrame) (past : List PastFrame) → is_repeat X frame past ≡ true → first (said X past) ≡ Some frame.key
repeat-key X frame past repeats = key-of (said X past) (and_parts (is_data_of X frame) (is_newest_key frame.key (said X past)) repeats).1
  where
    key-of : (keys : List Key) → is_newest_key frame.key keys ≡ true → first keys ≡ Some frame.key
    key-of [] none = absurd cc
    key-of (newest ∷ older) same = ap (λ (k : Key). Some k) (sym (same_key-true same))

spoken-repeat : (X : End) (frame : PastFrame) (past : List PastFrame) → is_repeat X frame past ≡ true → spoken X (frame ∷ past) ≡ spoken X past
spoken-repeat X frame past repeats =
    cond-true _ _ _ (and_parts (is_data_of X frame) (is_newest_key frame.key (said X past)) repeats).0
    ∙ add_part-again (part_of frame) (spoken X past) (ap first (spoken_keys X past) ∙ repeat-key X frame past repeats)

spoken-new : (X : End) (frame : PastFrame) (past : List PastFrame) → is_data_of X frame ≡ true → is_repeat X frame past ≡ false
    → spoken X (frame ∷ past) ≡ part_of frame ∷ spoken X past
spoken-new X frame past mine new =
    cond-true _ _ _ mine ∙ add_part-new {part = part_of frame} (spoken X past)
    (λ same. both_ways _ (sym (ap (λ b. b && is_newest_key frame.key (said X past)) mine) ∙ new)
    (repeats (said X past) (sym (ap first (spoken_keys X past)) ∙ same)))
  where
    repeats : (keys : List Key) → first keys ≡ Some frame.key → is_newest_key frame.key keys ≡ true
    repeats [] same = absurd cc
    repeats (newest ∷ older) same = let e : newest ≡ frame.key = cc in ap (same_key frame.key) e ∙ same_key-same frame.key

said-first : (X : End) (frame : PastFrame) (past : List PastFrame) (parts : List Part) → spoken X (frame ∷ past) ≡ parts → first (said X (frame ∷ past)) ≡ first (map key_of_part parts)
said-first X frame past parts is = ap first (sym (spoken_keys X (frame ∷ past)) ∙ ap (λ ps. map key_of_part ps) is)

repeat-speaker : (X : End) (frame : PastFrame) (past : List PastFrame) (old : Speaker) → is_repeat X frame past ≡ true → IsSpeaker X past old
    → IsSpeaker X (frame ∷ past) (repeated_at (length past + 1) old)
repeat-speaker X frame past old repeats is = record {
  newest_is = is.newest_is ∙ sym (said-first X frame past (spoken X past) (spoken-repeat X frame past repeats) ∙ ap first (spoken_keys X past));
  run_is = ap (λ n. n + 1) is.run_is ∙ sym (cond-true _ _ _ repeats);
  repeat_is = sym (cond-true _ _ _ repeats);
  standing_is = is.standing_is ∙ ap (λ ps. standing_behind start (reverse ps)) (sym (spoken-repeat X frame past repeats));
}

repeat-so : (greeting : HelloKind) (X : End) (frame : PastFrame) (past : List PastFrame) → is_repeat X frame past ≡ true → run X past < 10 → SpeaksSo greeting X past
    → SpeaksSo greeting X (frame ∷ past)
repeat-so greeting X frame past repeats few so = record {
  says = subst (λ ps. MaySayAll greeting start (reverse ps)) (sym (spoken-repeat X frame past repeats)) so.says;
  ten = (omega (arith, few, cond-true _ (run X past + 1) (if is_data_of X frame then 1 else run X past) repeats), so.ten);
}

reverse-new : (X : End) (frame : PastFrame) (past : List PastFrame) → is_data_of X frame ≡ true → is_repeat X frame past ≡ false
    → reverse (spoken X (frame ∷ past)) ≡ reverse (spoken X past) ++ part_of frame ∷ []
reverse-new X frame past mine new = ap reverse (spoken-new X frame past mine new) ∙ reverse-append (part_of frame ∷ []) (spoken X past)

new-speaker : (X : End) (frame : PastFrame) (past : List PastFrame) (old : Speaker) → is_data_of X frame ≡ true → is_repeat X frame past ≡ false → IsSpeaker X past old
    → IsSpeaker X (frame ∷ past) (begun_with (part_of frame) old)
new-speaker X frame past old mine new is = record {
  newest_is = sym (said-first X frame past (part_of frame ∷ spoken X past) (spoken-new X frame past mine new));
  run_is = sym (cond-false _ _ _ new ∙ cond-true _ _ _ mine);
  repeat_is = is.repeat_is ∙ sym (cond-false _ _ _ new);
  standing_is = ap (λ s. next s (part_of frame)) is.standing_is
      ∙ (sym (standing_behind-push start (reverse (spoken X past)) (part_of frame)) ∙ ap (standing_behind start) (sym (reverse-new X frame past mine new)));
}

new-so : (greeting : HelloKind) (X : End) (frame : PastFrame) (past : List PastFrame) → is_data_of X frame ≡ true → is_repeat X frame past ≡ false
    → MaySay greeting (standing_behind start (reverse (spoken X past))) (part_of frame) → SpeaksSo greeting X past → SpeaksSo greeting X (frame ∷ past)
new-so greeting X frame past mine new may so = record {
  says = subst (MaySayAll greeting start) (sym (reverse-new X frame past mine new)) (MaySayAll-push greeting start (reverse (spoken X past)) (part_of frame) so.says may);
  ten = (omega (arith, cond-false _ (run X past + 1) (if is_data_of X frame then 1 else run X past) new, cond-true _ 1 (run X past) mine), so.ten);
}

-- ---- both

-- what it may say keeps the rule
pub next-says : (greeting : HelloKind) (X : End) (frame : PastFrame) (past : List PastFrame) (old new : Speaker) → is_data_of X frame ≡ true → IsSpeaker X past old
    → SpeaksSo greeting X past → SaysNext greeting old (part_of frame) (length past + 1) (newest faulted past) new
    → IsSpeaker X (frame ∷ past) new × SpeaksSo greeting X (frame ∷ past) × HasFault X frame past
next-says greeting X frame past old new mine is so says = elim (cases_Bool (is_repeat X frame past)) [
  | inl repeats ↦
      let it = when_true _ _ (again-is X frame past old mine is ∙ repeats) says in (
        subst (IsSpeaker X (frame ∷ past)) (sym it.1) (repeat-speaker X frame past old repeats is),
        repeat-so greeting X frame past repeats (omega (arith, it.0.few, is.run_is)) so,
        λ _. (it.0.some, omega (arith, it.0.near, is.repeat_is)),
      )
  | inr fresh ↦
      let it = when_false _ _ (again-is X frame past old mine is ∙ fresh) says in (
        subst (IsSpeaker X (frame ∷ past)) (sym it.1) (new-speaker X frame past old mine fresh is),
        new-so greeting X frame past mine fresh (subst (λ s. MaySay greeting s (part_of frame)) is.standing_is it.0) so,
        λ repeats. absurd (both_ways _ fresh repeats),
      )
]

-- what keeps the rule it may say
pub says-next : (greeting : HelloKind) (X : End) (frame : PastFrame) (past : List PastFrame) (old : Speaker) → is_data_of X frame ≡ true → IsSpeaker X past old
    → SpeaksSo greeting X (frame ∷ past) → HasFault X frame past
    → (new : Speaker) × SaysNext greeting old (part_of frame) (length past + 1) (newest faulted past) new
says-next greeting X frame past old mine is so fault = elim (cases_Bool (is_repeat X frame past)) [
  | inl repeats ↦ (
    repeated_at (length past + 1) old,
    from_true _ _ (again-is X frame past old mine is ∙ repeats) (
      record {
        few = omega (arith, so.ten.0, is.run_is, cond-true _ (run X past + 1) (if is_data_of X frame then 1 else run X past) repeats);
        some = (fault repeats).0;
        near = omega (arith, (fault repeats).1, is.repeat_is);
      },
      refl,
    ),
  )
  | inr fresh ↦ (
    begun_with (part_of frame) old,
    from_false _ _ (again-is X frame past old mine is ∙ fresh) (
      subst (λ s. MaySay greeting s (part_of frame)) (sym is.standing_is)
          (MaySayAll-last greeting start (reverse (spoken X past)) (part_of frame) (subst (MaySayAll greeting start) (reverse-new X frame past mine fresh) so.says)),
      refl,
    ),
  )
] where
  from_true : {b : Bool} (P Q : Type 0) → b ≡ true → P → MatchBool b P Q
  from_true P Q is p = subst (λ b. MatchBool b P Q) (sym is) p

  from_false : {b : Bool} (P Q : Type 0) → b ≡ false → Q → MatchBool b P Q
  from_false P Q is q = subst (λ b. MatchBool b P Q) (sym is) q

-- what was said before keeps the rule too
pub so-before : (greeting : HelloKind) (X : End) (frame : PastFrame) (past : List PastFrame) → SpeaksSo greeting X (frame ∷ past) → SpeaksSo greeting X past
so-before greeting X frame past so = elim (cases_Bool (is_data_of X frame)) [
  | inl mine ↦ elim (cases_Bool (is_repeat X frame past)) [
    | inl repeats ↦ record { says = subst (λ ps. MaySayAll greeting start (reverse ps)) (spoken-repeat X frame past repeats) so.says; ten = so.ten.1 }
    | inr fresh ↦ record {
      says = MaySayAll-front greeting start (reverse (spoken X past)) (part_of frame ∷ [])
          (subst (MaySayAll greeting start) (reverse-new X frame past mine fresh) so.says);
      ten = so.ten.1;
    }
  ]
  | inr other ↦ record { says = subst (λ ps. MaySayAll greeting start (reverse ps)) (spoken-other X frame past other) so.says; ten = so.ten.1 }
]
