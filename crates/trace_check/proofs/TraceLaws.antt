-- Traces: reading goes on line by line, and a text has one reading.
use Rattle.std.proofs.Common.{◌≡◌, ℕ, suc, ◌+◌, ◌^◌, ◌<◌, ◌≤◌, List, [], ◌∷◌, ◌++◌, length, Result, Ok, Err, refl, sym, ap, subst, ◌∙◌, append_assoc, arith}
use Rattle.std.specs.Prelude.{codes}
use Rattle.std.proofs.lemmas.Grind.{flat_map-append}
use Rattle.std.proofs.lemmas.List.{append-nil, length-append}
use Rattle.trace_text.specs.TraceLines.{FrameValue, frame_line, trace_text}
use Rattle.trace_check.specs.Words.{is_feed}
use Rattle.trace_check.specs.Readings.{IsTraced, IsTraceLine, AreTraced, IsBadLine, IsTraceReading}
use Rattle.trace_check.specs.declared.fault.TraceFault.{TraceFault}
use Rattle.trace_check.specs.declared.fault.TraceFault.TheVariants.{BadLine, NoMemory}
use Rattle.trace_check.proofs.PlainLaws.{Without, without-parts, parts-once}
use Rattle.trace_check.proofs.LineLaws.{frame_line-words, line_words, line_words-without, line-says, one_line}

-- ---- one more line

-- these frames are read, and this is left
pub record Goes (bytes : List ℕ) (frames : List FrameValue) (rest : List ℕ) : Type 0 where
  pub traced : AreTraced 1 frames
  pub is : bytes ≡ trace_text frames ++ rest
  pub few : length frames + length rest ≤ length bytes

traced-append : (number : ℕ) (frames : List FrameValue) (frame : FrameValue) → AreTraced number frames → IsTraced (number + length frames) frame
    → AreTraced number (frames ++ frame ∷ [])
traced-append number [] frame all one = (subst (λ n. IsTraced n frame) (let e : number + 0 ≡ number = omega arith in e) one, tt)
traced-append number (first ∷ frames) frame all one = (
  all.0,
  traced-append (number + 1) frames frame all.1
      (subst (λ n. IsTraced n frame) (let e : number + suc (length frames) ≡ number + 1 + length frames = omega arith in e) one),
)

pub goes-on : (bytes : List ℕ) (frames : List FrameValue) (rest line behind : List ℕ) (frame : FrameValue) (number : ℕ) → Goes bytes frames rest
    → number ≡ length frames + 1 → rest ≡ line ++ codes "\n" ++ behind → IsTraceLine number frame line → Goes bytes (frames ++ frame ∷ []) behind
goes-on bytes frames rest line behind frame number goes counted split says =
    let place : number ≡ 1 + length frames = omega (arith, counted) in
    let len : length rest ≡ length line + 1 + length behind = ap length split ∙ (length-append (line ++ codes "\n") behind ∙ ap (λ n. n + length behind) (length-append line (codes "\n"))) in
    let more : length (frames ++ frame ∷ []) ≡ length frames + 1 = length-append frames (frame ∷ []) in
    record {
      traced = traced-append 1 frames frame goes.traced (subst (λ n. IsTraced n frame) place says.traced);
      is = goes.is ∙ (ap (λ xs. trace_text frames ++ xs) (split ∙ ap (λ xs. xs ++ behind) says.is)
          ∙ (sym (append_assoc (trace_text frames) (frame_line frame) behind) ∙ ap (λ xs. xs ++ behind)
          (ap (λ xs. trace_text frames ++ xs) (sym (append-nil (frame_line frame))) ∙ sym (flat_map-append frame_line frames (frame ∷ [])))));
      few = omega (arith, goes.few, len, more);
    }

bad-by : (bytes : List ℕ) (frames : List FrameValue) (rest : List ℕ) (number : ℕ) → Goes bytes frames rest → number ≡ length frames + 1 → 0 < length rest
    → ((frame : FrameValue) (later : List ℕ) → IsTraced number frame → rest ≡ frame_line frame ++ later → ⊥) → IsTraceReading bytes (Err (BadLine number))
bad-by bytes frames rest number goes counted some bad =
    record { frames = frames; rest = rest; traced = goes.traced; counted = sym counted; is = goes.is; some = some; bad = bad }

-- no line ends
pub goes-open : (bytes : List ℕ) (frames : List FrameValue) (rest : List ℕ) (number : ℕ) → Goes bytes frames rest → number ≡ length frames + 1 → 0 < length rest
    → Without is_feed rest → IsTraceReading bytes (Err (BadLine number))
goes-open bytes frames rest number goes counted some all =
    bad-by bytes frames rest number goes counted some
    (λ frame later traced is. feed_inside (line_words frame) later
    (let e : rest ≡ line_words frame ++ 10 ∷ later = is ∙ frame_line-words frame later in rw (← e) all))
  where
    feed_inside : (words later : List ℕ) → Without is_feed (words ++ 10 ∷ later) → ⊥
    feed_inside words later all = let e = (without-parts is_feed words (10 ∷ later) all).1.0 in absurd cc

-- the next line is no frame's
pub goes-bad : (bytes : List ℕ) (frames : List FrameValue) (rest line behind : List ℕ) (number : ℕ) → Goes bytes frames rest → number ≡ length frames + 1
    → number < 2 ^ 64 → Without is_feed line → rest ≡ line ++ codes "\n" ++ behind → ((frame : FrameValue) → IsTraceLine number frame line → ⊥)
    → IsTraceReading bytes (Err (BadLine number))
goes-bad bytes frames rest line behind number goes counted small all split none =
    let len : length rest ≡ length line + 1 + length behind = ap length split ∙ (length-append (line ++ codes "\n") behind ∙ ap (λ n. n + length behind) (length-append line (codes "\n"))) in
    bad-by bytes frames rest number goes counted (omega (arith, len))
    (λ frame later traced is.
    let parts = parts-once is_feed line (line_words frame) 10 10 behind later all (line_words-without number frame small traced) refl refl
    (sym (append_assoc line (codes "\n") behind) ∙ (sym split ∙ (is ∙ frame_line-words frame later))) in
    none frame (line-says number frame line traced parts.0))

-- ---- one reading

some_text : (frame : FrameValue) (later : List ℕ) → frame_line frame ++ later ≡ [] → ⊥
some_text frame later none =
    let len : length (line_words frame ++ 10 ∷ later) ≡ 0 = ap length (sym (frame_line-words frame later) ∙ none) in
    let more = length-append (line_words frame) (10 ∷ later) in
    omega (arith, len, more)

joined : (frame : FrameValue) (frames : List FrameValue) (rest : List ℕ) → trace_text (frame ∷ frames) ++ rest ≡ frame_line frame ++ (trace_text frames ++ rest)
joined frame frames rest = append_assoc (frame_line frame) (trace_text frames) rest

-- frames that go on differently begin with the same ones, and what is left of one of them is no line's
same_text : (number : ℕ) (xs ys : List FrameValue) → AreTraced number xs → AreTraced number ys → trace_text xs ≡ trace_text ys → xs ≡ ys
same_text number [] [] a b is = refl
same_text number [] (y ∷ ys) a b is = absurd (some_text y (trace_text ys) (sym is))
same_text number (x ∷ xs) [] a b is = absurd (some_text x (trace_text xs) is)
same_text number (x ∷ xs) (y ∷ ys) a b is =
    let first = one_line number x y (trace_text xs) (trace_text ys) a.0 b.0 is in
    let rest = same_text (number + 1) xs ys a.1 b.1 first.1 in
    cc (first.0, rest)

abbrev IsNone : ℕ → List ℕ → Type 0
IsNone number rest = (0 < length rest) × ((frame : FrameValue) (later : List ℕ) → IsTraced number frame → rest ≡ frame_line frame ++ later → ⊥)

none_left : (number : ℕ) (xs ys : List FrameValue) (rest : List ℕ) → AreTraced number xs → AreTraced number ys → trace_text xs ≡ trace_text ys ++ rest
    → IsNone (number + length ys) rest → ⊥
none_left number [] [] rest a b is none = let e : rest ≡ [] = sym is in let len : length rest ≡ 0 = ap length e in omega (arith, none.0, len)
none_left number (x ∷ xs) [] rest a b is none =
    none.1 x (trace_text xs) (subst (λ n. IsTraced n x) (let e : number ≡ number + 0 = omega arith in e) a.0) (sym is)
none_left number [] (y ∷ ys) rest a b is none = some_text y (trace_text ys ++ rest) (sym (joined y ys rest) ∙ sym is)
none_left number (x ∷ xs) (y ∷ ys) rest a b is none =
    let first = one_line number x y (trace_text xs) (trace_text ys ++ rest) a.0 b.0 (is ∙ joined y ys rest) in
    none_left (number + 1) xs ys rest a.1 b.1 first.1
    (subst (λ n. IsNone n rest) (let e : number + suc (length ys) ≡ number + 1 + length ys = omega arith in e) none)

same_bad : (number : ℕ) (xs ys : List FrameValue) (rest left : List ℕ) → AreTraced number xs → AreTraced number ys → trace_text xs ++ rest ≡ trace_text ys ++ left
    → IsNone (number + length xs) rest → IsNone (number + length ys) left → length xs ≡ length ys
same_bad number [] [] rest left a b is n m = refl
same_bad number [] (y ∷ ys) rest left a b is n m =
    absurd (n.1 y (trace_text ys ++ left) (subst (λ k. IsTraced k y) (let e : number ≡ number + 0 = omega arith in e) b.0) (is ∙ joined y ys left))
same_bad number (x ∷ xs) [] rest left a b is n m =
    absurd (m.1 x (trace_text xs ++ rest) (subst (λ k. IsTraced k x) (let e : number ≡ number + 0 = omega arith in e) a.0) (sym is ∙ joined x xs rest))
same_bad number (x ∷ xs) (y ∷ ys) rest left a b is n m =
    let first = one_line number x y (trace_text xs ++ rest) (trace_text ys ++ left) a.0 b.0 (sym (joined x xs rest) ∙ (is ∙ joined y ys left)) in
    ap suc (same_bad (number + 1) xs ys rest left a.1 b.1 first.1
    (subst (λ k. IsNone k rest) (let e : number + suc (length xs) ≡ number + 1 + length xs = omega arith in e) n)
    (subst (λ k. IsNone k left) (let e : number + suc (length ys) ≡ number + 1 + length ys = omega arith in e) m))

none_of : (bytes : List ℕ) (number : ℕ) → (bad : IsBadLine bytes number) → IsNone (1 + length bad.frames) bad.rest
none_of bytes number bad =
    let place : number ≡ 1 + length bad.frames = omega (arith, bad.counted) in
    subst (λ n. IsNone n bad.rest) place (bad.some, bad.bad)

pub one_reading : (bytes : List ℕ) (x y : Result (List FrameValue) TraceFault) → IsTraceReading bytes x → IsTraceReading bytes y
    → (x ≡ Err NoMemory → ⊥) → (y ≡ Err NoMemory → ⊥) → x ≡ y
one_reading bytes (Err NoMemory) y a b kx ky = absurd (kx refl)
one_reading bytes x (Err NoMemory) a b kx ky = absurd (ky refl)
one_reading bytes (Ok xs) (Ok ys) a b kx ky =
    ap (λ fs. let r : Result (List FrameValue) TraceFault = Ok fs in r) (same_text 1 xs ys a.0 b.0 (sym a.1 ∙ b.1))
one_reading bytes (Ok xs) (Err (BadLine n)) a b kx ky = absurd (none_left 1 xs b.frames b.rest a.0 b.traced (sym a.1 ∙ b.is) (none_of bytes n b))
one_reading bytes (Err (BadLine n)) (Ok ys) a b kx ky = absurd (none_left 1 ys a.frames a.rest b.0 a.traced (sym b.1 ∙ a.is) (none_of bytes n a))
one_reading bytes (Err (BadLine n)) (Err (BadLine m)) a b kx ky =
    let same = same_bad 1 a.frames b.frames a.rest b.rest a.traced b.traced (sym a.is ∙ b.is) (none_of bytes n a) (none_of bytes m b) in
    ap (λ k. let r : Result (List FrameValue) TraceFault = Err (BadLine k) in r) (omega (arith, same, a.counted, b.counted))

pub reads-written : (frames : List FrameValue) (read : Result (List FrameValue) TraceFault) → AreTraced 1 frames → IsTraceReading (trace_text frames) read
    → (read ≡ Err NoMemory → ⊥) → read ≡ Ok frames
reads-written frames read traced is known = one_reading (trace_text frames) read (Ok frames) is (traced, refl) known (λ e. absurd cc)
