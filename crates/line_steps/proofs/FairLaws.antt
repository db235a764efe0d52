-- Over a fair script no line goes down.
use Rattle.line_steps.proofs.Names.{◌≡◌, ℕ, suc, ◌+◌, ◌-◌, ◌≤◌, Bool, true, false, List, [], ◌∷◌, ◌++◌, length, map, take, drop, refl, sym, ap, subst, ◌∙◌}
use Rattle.line_steps.proofs.Names.{arith, inl, inr, if◌then◌else◌, cases_lt, take-append-drop, length-take, length-drop, RuleValue, fate_by, Frame, FateValue}
use Rattle.line_steps.proofs.Names.{Untouched, Lost, Late, Cut, Hit, Noise, Unplug, fate_value, is_fault, ends_run, faulted, is_faulty, count, course_of}
use Rattle.line_steps.proofs.Names.{past_behind, add_frame, PastFrame, at, faults_from, frame_value, at_all, at_push, AllBy, FairIsNeverDown, sent_of, past_now}
use Rattle.line_steps.proofs.Names.{AllGo}
use Rattle.trace_text.specs.Fates.{Abort}
use Rattle.line_steps.proofs.FrameLaws.{added, length-past}

-- what the line did harm to, by the fate, where the run goes on
fault_is : (given : FateValue) (bytes : List ℕ) → ends_run given bytes ≡ false → is_faulty (course_of given) ≡ is_fault given
fault_is Untouched bytes on = refl
fault_is Lost bytes on = refl
fault_is Late bytes on = refl
fault_is (Cut kept) bytes on = refl
fault_is (Hit place xs) bytes on = refl
fault_is (Noise noise) bytes on = refl
fault_is Unplug bytes on = absurd cc
fault_is Abort bytes on = absurd cc

one_more : (b : Bool) (n m : ℕ) → (if b then n + 1 else n) + m ≡ n + ((if b then 1 else 0) + m)
one_more true n m = omega arith
one_more false n m = omega arith

-- the faults behind a past
count_behind : (script : List RuleValue) (number : ℕ) (past : List PastFrame) (frames : List Frame) → AllBy script number frames → AllGo number frames
    → count faulted (past_behind past (map frame_value frames)) ≡ count faulted past + faults_from (fate_by script) number (length frames)
count_behind script number past [] all go = omega arith
count_behind script number past (frame ∷ later) all go =
    let here : faulted (sent_of frame) ≡ is_fault (fate_by script number) =
    fault_is (fate_value frame.fate) frame.bytes.items go.0.goes_on ∙ ap is_fault all.1 in
    ap (λ p. count faulted (past_behind p (map frame_value later))) (added go.0)
    ∙ (count_behind script (number + 1) (sent_of frame ∷ past) later all.2 go.1
    ∙ (ap (λ b. (if b then count faulted past + 1 else count faulted past) + faults_from (fate_by script) (number + 1) (length later)) here
    ∙ one_more (is_fault (fate_by script number)) (count faulted past) (faults_from (fate_by script) (number + 1) (length later))))

-- ---- the frames up to a number, and those behind

behind_both : (past : List PastFrame) (front back : List Frame)
    → past_behind past (map frame_value (front ++ back)) ≡ past_behind (past_behind past (map frame_value front)) (map frame_value back)
behind_both past [] back = refl
behind_both past (frame ∷ front) back = behind_both (add_frame (frame_value frame) past) front back

by_back : (script : List RuleValue) (number : ℕ) (front back : List Frame) → AllBy script number (front ++ back) → AllBy script (number + length front) back
by_back script number [] back all = (let e : number ≡ number + 0 = omega arith in subst (λ k. AllBy script k back) e all)
by_back script number (frame ∷ front) back all = (let e : number + 1 + length front ≡ number + suc (length front) = omega arith in
    subst (λ k. AllBy script k back) e (by_back script (number + 1) front back all.2))

go_back : (number : ℕ) (front back : List Frame) → AllGo number (front ++ back) → AllGo (number + length front) back
go_back number [] back go = (let e : number ≡ number + 0 = omega arith in subst (λ k. AllGo k back) e go)
go_back number (frame ∷ front) back go =
    (let e : number + 1 + length front ≡ number + suc (length front) = omega arith in subst (λ k. AllGo k back) e (go_back (number + 1) front back go.1))

go_front : (number : ℕ) (front back : List Frame) → AllGo number (front ++ back) → AllGo number front
go_front number [] back go = tt
go_front number (frame ∷ front) back go = (go.0, go_front (number + 1) front back go.1)

whole_front : (front back : List Frame) → AllGo 1 (front ++ back) → at (length front) (past_now (front ++ back)) ≡ past_now front
whole_front front back go =
    let first_part = go_front 1 front back go in
    ap (λ p. at (length front) p) (behind_both [] front back)
    ∙ (at_behind (1 + length front) (past_now front) back (length front) (go_back 1 front back go) (omega (arith, length-past front first_part))
    ∙ (ap (λ k. at k (past_now front)) (sym (length-past front first_part)) ∙ at_all (past_now front)))
  where
    at_behind : (number : ℕ) (past : List PastFrame) (frames : List Frame) (n : ℕ) → AllGo number frames → n ≤ length past
        → at n (past_behind past (map frame_value frames)) ≡ at n past
    at_behind number past [] n go inside = refl
    at_behind number past (frame ∷ later) n go inside =
        ap (λ p. at n (past_behind p (map frame_value later))) (added go.0)
        ∙ (at_behind (number + 1) (sent_of frame ∷ past) later n go.1 (omega (arith, inside)) ∙ at_push (sent_of frame) past inside)

count_split : (script : List RuleValue) (front back : List Frame) → AllBy script 1 (front ++ back) → AllGo 1 (front ++ back)
    → count faulted (past_now (front ++ back)) ≡ count faulted (at (length front) (past_now (front ++ back))) + faults_from (fate_by script)
    (1 + length front) (length back)
count_split script front back all go =
    ap (λ p. count faulted p) (behind_both [] front back)
    ∙ (count_behind script (1 + length front) (past_now front) back (by_back script 1 front back all) (go_back 1 front back go)
    ∙ ap (λ p. count faulted p + faults_from (fate_by script) (1 + length front) (length back)) (sym (whole_front front back go)))

pub count_at : (script : List RuleValue) (frames : List Frame) {n : ℕ} → n ≤ length frames → AllBy script 1 frames → AllGo 1 frames
    → count faulted (past_now frames) ≡ count faulted (at n (past_now frames)) + faults_from (fate_by script) (1 + n) (length frames - n)
count_at script frames {n} inside all go =
    let whole : take n frames ++ drop n frames ≡ frames = take-append-drop n frames in
    let front : length (take n frames) ≡ n = omega (arith, length-take n frames, inside) in
    let split = count_split script (take n frames) (drop n frames) (subst (AllBy script 1) (sym whole) all) (subst (AllGo 1) (sym whole) go) in
    let at_front = ap (λ fs. count faulted (at (length (take n frames)) (past_now fs))) whole ∙ ap (λ k. count faulted (at k (past_now frames))) front in
    let rest = ap (λ k. faults_from (fate_by script) (1 + length (take n frames)) k) (length-drop n frames)
    ∙ ap (λ k. faults_from (fate_by script) (1 + k) (length frames - n)) front in
    omega (arith, split, at_front, rest, ap (λ fs. count faulted (past_now fs)) whole)

-- ---- ten faults are too many

pub fair_is_never_down : FairIsNeverDown
fair_is_never_down script frames cursor end all go fair spent =
    let ten = spent.faults in
    let past = past_now frames in
    let size = length-past frames go in
    elim (cases_lt (length frames) (ten.0 - 1)) [
      | inl over ↦ (let none : length (past_now frames) - (ten.0 - 1) ≡ 0 = omega (arith, over, size) in
          let same : at (ten.0 - 1) (past_now frames) ≡ past_now frames = ap (λ k. drop k (past_now frames)) none in
          omega (arith, ten.3, ap (λ p. count faulted p) same))
      | inr inside ↦ (let split = count_at script frames {n = ten.0 - 1} (omega (arith, inside)) all go in
          let few = fair (1 + (ten.0 - 1)) (length frames - (ten.0 - 1)) (omega arith) (omega (arith, ten.2, ten.1, size)) (omega (arith, inside)) in
          omega (arith, ten.3, split, few))
    ]
