-- Lines of a trace: where their words part, and that one line says one frame.
use Rattle.std.proofs.Common.{◌≡◌, ℕ, ◌^◌, ◌<◌, ◌≤◌, Bool, true, false, List, [], ◌∷◌, ◌++◌, length, Option, Some, None, refl, sym, ap, subst, ◌∙◌, arith}
use Rattle.std.proofs.Common.{append_assoc}
use Rattle.std.specs.Prelude.{codes, bytes_eq, if◌then◌else◌, slice_index}
use Rattle.std.specs.Fmt.{decimal}
use Rattle.std.proofs.lemmas.List.{append_cancel_left, append_cancel_right}
use Rattle.hex.specs.Hex.{IsBytes, encode_lower}
use Rattle.trace_text.specs.declared.frame.End.{End}
use Rattle.trace_text.specs.declared.frame.End.TheVariants.{Handheld, Desktop}
use Rattle.trace_text.specs.Fates.{FateValue, Untouched, Lost, Late, Cut, Hit, Noise, Unplug, Abort, fate_words}
use Rattle.trace_text.specs.TraceLines.{FrameValue, end_word, mark_word, frame_line}
use Rattle.line_script.specs.Rules.{IsScripted}
use Rattle.line_script.specs.Fates.{fate_in}
use Rattle.line_script.specs.Words.{bytes_in}
use Rattle.line_script.proofs.WordLaws.{some_is, bytes_in-only, bytes_in-found}
use Rattle.line_script.proofs.FateLaws.{fate_in-only}
use Rattle.trace_check.specs.Words.{IsMarked, is_feed, is_mark}
use Rattle.trace_check.specs.Readings.{MayBefall, IsFateOf, IsTraced, IsTraceLine}
use Rattle.trace_check.proofs.PlainLaws.{Without, without-append, without-parts, parts-once, feed-spares, mark-spares, fate_words-without, decimal-without, hex-without}

-- ---- fates

abbrev word_in : List ℕ → Option FateValue
word_in words = if bytes_eq words (codes "ok") then Some Untouched else fate_in words

word_in-only : (fate : FateValue) → MayBefall fate → word_in (fate_words fate) ≡ Some fate
word_in-only Untouched may = refl
word_in-only (Cut count) may = fate_in-only (Cut count) may
word_in-only (Hit place bytes) may = fate_in-only (Hit place bytes) may
word_in-only (Noise bytes) may = fate_in-only (Noise bytes) may
word_in-only Lost may = refl
word_in-only Late may = refl
word_in-only Unplug may = refl
word_in-only Abort may = refl

-- a fate by its words
pub one_fate : (x y : FateValue) → MayBefall x → MayBefall y → fate_words x ≡ fate_words y → x ≡ y
one_fate x y a b is = some_is x y (sym (word_in-only x a) ∙ (ap word_in is ∙ word_in-only y b))

pub scripted-befalls : (fate : FateValue) → IsScripted fate → MayBefall fate
scripted-befalls Untouched scripted = absurd scripted
scripted-befalls (Cut count) scripted = scripted
scripted-befalls (Hit place bytes) scripted = scripted
scripted-befalls (Noise bytes) scripted = scripted
scripted-befalls Lost scripted = tt
scripted-befalls Late scripted = tt
scripted-befalls Unplug scripted = tt
scripted-befalls Abort scripted = tt

pub befalls-scripted : (fate : FateValue) → MayBefall fate → (fate_words fate ≡ codes "ok" → ⊥) → IsScripted fate
befalls-scripted Untouched may other = absurd (other refl)
befalls-scripted (Cut count) may other = may
befalls-scripted (Hit place bytes) may other = may
befalls-scripted (Noise bytes) may other = may
befalls-scripted Lost may other = tt
befalls-scripted Late may other = tt
befalls-scripted Unplug may other = tt
befalls-scripted Abort may other = tt

-- ---- the mark

abbrev pub marked : Bool → List ℕ → List ℕ
marked came back = mark_word came ++ codes " " ++ back

mark_first : (front : List ℕ) (came : Bool) (back : List ℕ) → Without is_mark front → (other : List ℕ) (sign : Bool) (behind : List ℕ) → Without is_mark other
    → front ++ (mark_word came ++ back) ≡ other ++ (mark_word sign ++ behind) → (front ≡ other) × (came ≡ sign) × (back ≡ behind)
mark_first front true back a other true behind b is = let parts = parts-once is_mark front other 43 43 back behind a b refl refl is in (parts.0, refl, parts.2)
mark_first front false back a other false behind b is = let parts = parts-once is_mark front other 45 45 back behind a b refl refl is in (parts.0, refl, parts.2)
mark_first front true back a other false behind b is = let parts = parts-once is_mark front other 43 45 back behind a b refl refl is in absurd (omega (arith, parts.1))
mark_first front false back a other true behind b is = let parts = parts-once is_mark front other 45 43 back behind a b refl refl is in absurd (omega (arith, parts.1))

spaced : (front : List ℕ) → Without is_mark front → Without is_mark (front ++ codes " ")
spaced front all = without-append is_mark front (codes " ") all (refl, tt)

regroup : (front mark back : List ℕ) → front ++ codes " " ++ mark ++ codes " " ++ back ≡ (front ++ codes " ") ++ (mark ++ (codes " " ++ back))
regroup front mark back = simp append_assoc

pub marked-parts : (words before : List ℕ) (sign : Bool) (behind : List ℕ) → Without is_mark before → words ≡ before ++ mark_word sign ++ behind
    → (front : List ℕ) (came : Bool) (back : List ℕ) → IsMarked front came back words → (before ≡ front ++ codes " ") × (sign ≡ came) × (behind ≡ codes " " ++ back)
marked-parts words before sign behind all is front came back marks =
    mark_first before sign behind all (front ++ codes " ") came (codes " " ++ back) (spaced front marks.unmarked)
    (sym (append_assoc before (mark_word sign) behind) ∙ (sym is ∙ (marks.is ∙ regroup front (mark_word came) back)))

-- no space before the mark, or none behind it
pub unspaced-front : (words before : List ℕ) (sign : Bool) (behind : List ℕ) → Without is_mark before → words ≡ before ++ mark_word sign ++ behind
    → ((front : List ℕ) → before ≡ front ++ codes " " → ⊥) → (front : List ℕ) (came : Bool) (back : List ℕ) → IsMarked front came back words → ⊥
unspaced-front words before sign behind all is none front came back marks = none front (marked-parts words before sign behind all is front came back marks).0

pub unspaced-back : (words before : List ℕ) (sign : Bool) (behind : List ℕ) → Without is_mark before → words ≡ before ++ mark_word sign ++ behind
    → ((back : List ℕ) → behind ≡ codes " " ++ back → ⊥) → (front : List ℕ) (came : Bool) (back : List ℕ) → IsMarked front came back words → ⊥
unspaced-back words before sign behind all is none front came back marks = none back (marked-parts words before sign behind all is front came back marks).2

pub marked-some : (words before : List ℕ) (sign : Bool) (behind front back : List ℕ) → Without is_mark before → words ≡ before ++ mark_word sign ++ behind
    → before ≡ front ++ codes " " → behind ≡ codes " " ++ back → IsMarked front sign back words
marked-some words before sign behind front back all is left right = record {
  unmarked = (without-parts is_mark front (codes " ") (subst (Without is_mark) left all)).0;
  is = is ∙ (append_assoc before (mark_word sign) behind ∙ (ap (λ xs. xs ++ (mark_word sign ++ behind)) left
      ∙ (ap (λ xs. (front ++ codes " ") ++ (mark_word sign ++ xs)) right ∙ sym (regroup front (mark_word sign) back))));
}

-- ---- lines

-- what stands behind the number and the sender
abbrev pub mark_words : FrameValue → List ℕ
mark_words frame = fate_words frame.fate ++ codes " " ++ mark_word frame.came ++ codes " " ++ encode_lower frame.bytes

-- behind the number
abbrev pub end_words : FrameValue → List ℕ
end_words frame = end_word frame.from ++ codes " " ++ mark_words frame

abbrev pub line_words : FrameValue → List ℕ
line_words frame = decimal frame.number ++ codes " " ++ end_words frame

pub frame_line-words : (frame : FrameValue) (later : List ℕ) → frame_line frame ++ later ≡ line_words frame ++ 10 ∷ later
frame_line-words frame later = simp append_assoc

pub frame_marks : (number : ℕ) (frame : FrameValue) → IsTraced number frame → IsMarked (fate_words frame.fate) frame.came (encode_lower frame.bytes) (mark_words frame)
frame_marks number frame traced = record { unmarked = fate_words-without is_mark mark-spares frame.fate traced.fate; is = refl }

marks-without : (came : Bool) → Without is_feed (mark_word came)
marks-without true = (refl, tt)
marks-without false = (refl, tt)

ends-without : (from : End) → Without is_feed (end_word from)
ends-without Handheld = (refl, tt)
ends-without Desktop = (refl, tt)

mark_words-without : (number : ℕ) (frame : FrameValue) → IsTraced number frame → Without is_feed (mark_words frame)
mark_words-without number frame traced =
    without-append is_feed (fate_words frame.fate ++ codes " " ++ mark_word frame.came ++ codes " ") (encode_lower frame.bytes)
    (without-append is_feed (fate_words frame.fate ++ codes " " ++ mark_word frame.came) (codes " ")
    (without-append is_feed (fate_words frame.fate ++ codes " ") (mark_word frame.came)
    (without-append is_feed (fate_words frame.fate) (codes " ") (fate_words-without is_feed feed-spares frame.fate traced.fate) (refl, tt))
    (marks-without frame.came)) (refl, tt)) (hex-without is_feed feed-spares frame.bytes traced.bytes)

pub end_words-without : (number : ℕ) (frame : FrameValue) → IsTraced number frame → Without is_feed (end_words frame)
end_words-without number frame traced =
    without-append is_feed (end_word frame.from ++ codes " ") (mark_words frame)
    (without-append is_feed (end_word frame.from) (codes " ") (ends-without frame.from) (refl, tt)) (mark_words-without number frame traced)

pub line_words-without : (number : ℕ) (frame : FrameValue) → number < 2 ^ 64 → IsTraced number frame → Without is_feed (line_words frame)
line_words-without number frame small traced =
    without-append is_feed (decimal frame.number ++ codes " ") (end_words frame)
    (without-append is_feed (decimal frame.number) (codes " ") (decimal-without is_feed feed-spares frame.number (rw traced.numbered small)) (refl, tt))
    (end_words-without number frame traced)

-- a line without a feed is the words of its frame
pub line-is : (number : ℕ) (frame : FrameValue) (line : List ℕ) → number < 2 ^ 64 → Without is_feed line → IsTraceLine number frame line → line ≡ line_words frame
line-is number frame line small all says =
    (parts-once is_feed line (line_words frame) 10 10 [] [] all (line_words-without number frame small says.traced) refl refl
    (says.is ∙ simp append_assoc)).0

pub line-says : (number : ℕ) (frame : FrameValue) (line : List ℕ) → IsTraced number frame → line ≡ line_words frame → IsTraceLine number frame line
line-says number frame line traced is = record { traced = traced; is = ap (λ xs. xs ++ codes "\n") is ∙ simp append_assoc }

pub one_end : (x y : End) (a b : List ℕ) → end_word x ++ codes " " ++ a ≡ end_word y ++ codes " " ++ b → (x ≡ y) × (a ≡ b)
one_end Handheld Handheld a b is = (refl, append_cancel_left (codes "H ") a b is)
one_end Desktop Desktop a b is = (refl, append_cancel_left (codes "D ") a b is)
one_end Handheld Desktop a b is = let e : 72 ≡ 68 = ap (λ xs. slice_index xs 0) is in absurd (omega (arith, e))
one_end Desktop Handheld a b is = let e : 68 ≡ 72 = ap (λ xs. slice_index xs 0) is in absurd (omega (arith, e))

one_bytes : (a b : List ℕ) → IsBytes a → IsBytes b → 0 < length a → 0 < length b → length a ≤ 1040 → length b ≤ 1040 → encode_lower a ≡ encode_lower b → a ≡ b
one_bytes a b fa fb sa sb la lb is = some_is a b (sym (bytes_in-only 1040 a fa sa la) ∙ (ap (bytes_in 1040) is ∙ bytes_in-only 1040 b fb sb lb))

same_frame : (x y : FrameValue) → x.number ≡ y.number → x.from ≡ y.from → x.fate ≡ y.fate → x.came ≡ y.came → x.bytes ≡ y.bytes → x ≡ y
same_frame x y a b c d e =
    ap (λ v. record { number = v; from = x.from; fate = x.fate; came = x.came; bytes = x.bytes }) a
    ∙ (ap (λ v. record { number = y.number; from = v; fate = x.fate; came = x.came; bytes = x.bytes }) b
    ∙ (ap (λ v. record { number = y.number; from = y.from; fate = v; came = x.came; bytes = x.bytes }) c
    ∙ (ap (λ v. record { number = y.number; from = y.from; fate = y.fate; came = v; bytes = x.bytes }) d
    ∙ ap (λ v. record { number = y.number; from = y.from; fate = y.fate; came = y.came; bytes = v }) e)))

pub one_frame : (number : ℕ) (x y : FrameValue) → IsTraced number x → IsTraced number y → end_words x ≡ end_words y → x ≡ y
one_frame number x y tx ty is =
    let ends = one_end x.from y.from (mark_words x) (mark_words y) is in
    let mx = frame_marks number x tx in
    let my = frame_marks number y ty in
    let parts = marked-parts (mark_words x) (fate_words x.fate ++ codes " ") x.came (codes " " ++ encode_lower x.bytes) (spaced (fate_words x.fate) mx.unmarked)
    (regroup (fate_words x.fate) (mark_word x.came) (encode_lower x.bytes) ∙ sym (append_assoc (fate_words x.fate ++ codes " ") (mark_word x.came) (codes " " ++ encode_lower x.bytes))) (fate_words y.fate) y.came (encode_lower y.bytes)
    (record { unmarked = my.unmarked; is = ends.1 }) in
    let words : fate_words x.fate ≡ fate_words y.fate = append_cancel_right _ _ (codes " ") parts.0 in
    let digits : encode_lower x.bytes ≡ encode_lower y.bytes = append_cancel_left (codes " ") _ _ parts.2 in
    same_frame x y (tx.numbered ∙ sym ty.numbered) ends.0 (one_fate x.fate y.fate tx.fate ty.fate words) parts.1
    (one_bytes x.bytes y.bytes tx.bytes ty.bytes tx.some ty.some tx.few ty.few digits)

-- one line says one frame, whatever stands behind it
pub one_line : (number : ℕ) (x y : FrameValue) (a b : List ℕ) → IsTraced number x → IsTraced number y → frame_line x ++ a ≡ frame_line y ++ b → (x ≡ y) × (a ≡ b)
one_line number x y a b tx ty is =
    let front : decimal number ++ codes " " ++ end_words x ++ 10 ∷ a ≡ decimal number ++ codes " " ++ end_words y ++ 10 ∷ b =
    subst (λ n. decimal n ++ codes " " ++ end_words x ++ 10 ∷ a ≡ frame_line y ++ b) tx.numbered (sym (frame_line-words x a) ∙ is)
    ∙ subst (λ n. frame_line y ++ b ≡ decimal n ++ codes " " ++ end_words y ++ 10 ∷ b) ty.numbered (frame_line-words y b) in
    let behind : end_words x ++ 10 ∷ a ≡ end_words y ++ 10 ∷ b = append_cancel_left (decimal number ++ codes " ") _ _
    (sym (append_assoc (decimal number ++ codes " ") (end_words x) (10 ∷ a)) ∙ (front ∙ append_assoc (decimal number ++ codes " ") (end_words y) (10 ∷ b))) in
    let parts = parts-once is_feed (end_words x) (end_words y) 10 10 a b (end_words-without number x tx) (end_words-without number y ty) refl refl behind in
    (one_frame number x y tx ty parts.0, parts.2)

-- ---- what was read of a line, part by part

-- behind the number
pub behind-number : (number : ℕ) (frame : FrameValue) (line rest : List ℕ) → number < 2 ^ 64 → Without is_feed line → line ≡ decimal number ++ codes " " ++ rest
    → IsTraceLine number frame line → rest ≡ end_words frame
behind-number number frame line rest small all split says =
    append_cancel_left (decimal number ++ codes " ") rest (end_words frame)
    (sym split ∙ subst (λ n. line ≡ decimal n ++ codes " " ++ end_words frame) says.traced.numbered (line-is number frame line small all says))

pub number-none : (number : ℕ) (line : List ℕ) → number < 2 ^ 64 → Without is_feed line → ((rest : List ℕ) → line ≡ decimal number ++ codes " " ++ rest → ⊥)
    → (frame : FrameValue) → IsTraceLine number frame line → ⊥
number-none number line small all none frame says =
    none (end_words frame) (subst (λ n. line ≡ decimal n ++ codes " " ++ end_words frame) says.traced.numbered (line-is number frame line small all says))

-- what stands behind the number and the sender, in the line of any frame that it is
pub record Behind (number : ℕ) (line : List ℕ) (from : End) (words : List ℕ) : Type 0 where
  pub small : number < 2 ^ 64
  pub feedless : Without is_feed line
  pub is : line ≡ decimal number ++ codes " " ++ (end_word from ++ codes " " ++ words)

pub behind-is : (number : ℕ) (line : List ℕ) (from : End) (words : List ℕ) → Behind number line from words → (frame : FrameValue) → IsTraceLine number frame line
    → (from ≡ frame.from) × (words ≡ mark_words frame)
behind-is number line from words behind frame says =
    one_end from frame.from words (mark_words frame)
    (behind-number number frame line (end_word from ++ codes " " ++ words) behind.small behind.feedless behind.is says)

pub mark-none : (number : ℕ) (line : List ℕ) (from : End) (words : List ℕ) → Behind number line from words
    → ((front : List ℕ) (came : Bool) (back : List ℕ) → IsMarked front came back words → ⊥) → (frame : FrameValue) → IsTraceLine number frame line → ⊥
mark-none number line from words behind none frame says =
    none (fate_words frame.fate) frame.came (encode_lower frame.bytes)
    (subst (IsMarked (fate_words frame.fate) frame.came (encode_lower frame.bytes)) (sym (behind-is number line from words behind frame says).1)
    (frame_marks number frame says.traced))

pub parts-are : (number : ℕ) (line : List ℕ) (from : End) (words front : List ℕ) (came : Bool) (back : List ℕ) → Behind number line from words
    → IsMarked front came back words → (frame : FrameValue) → IsTraceLine number frame line
    → (front ≡ fate_words frame.fate) × (came ≡ frame.came) × (back ≡ encode_lower frame.bytes)
parts-are number line from words front came back behind marks frame says =
    let parts = marked-parts words (front ++ codes " ") came (codes " " ++ back) (spaced front marks.unmarked)
    (marks.is ∙ (regroup front (mark_word came) back ∙ sym (append_assoc (front ++ codes " ") (mark_word came) (codes " " ++ back))))
    (fate_words frame.fate) frame.came (encode_lower frame.bytes)
    (subst (IsMarked (fate_words frame.fate) frame.came (encode_lower frame.bytes)) (sym (behind-is number line from words behind frame says).1)
    (frame_marks number frame says.traced)) in
    (append_cancel_right _ _ (codes " ") parts.0, parts.1, append_cancel_left (codes " ") _ _ parts.2)

pub fate-none : (number : ℕ) (line : List ℕ) (from : End) (words front : List ℕ) (came : Bool) (back : List ℕ) → Behind number line from words
    → IsMarked front came back words → ((its : FateValue) → IsFateOf front its → ⊥) → (frame : FrameValue) → IsTraceLine number frame line → ⊥
fate-none number line from words front came back behind marks none frame says =
    none frame.fate (record { may = says.traced.fate; is = (parts-are number line from words front came back behind marks frame says).0 })

pub bytes-none : (number : ℕ) (line : List ℕ) (from : End) (words front : List ℕ) (came : Bool) (back : List ℕ) → Behind number line from words
    → IsMarked front came back words → bytes_in 1040 back ≡ None → (frame : FrameValue) → IsTraceLine number frame line → ⊥
bytes-none number line from words front came back behind marks none frame says =
    let back_is = (parts-are number line from words front came back behind marks frame says).2 in
    let t = says.traced in
    some_none frame.bytes (sym (bytes_in-only 1040 frame.bytes t.bytes t.some t.few) ∙ (ap (bytes_in 1040) (sym back_is) ∙ none))
  where
    some_none : (bytes : List ℕ) → (let o : Option (List ℕ) = Some bytes in o) ≡ None → ⊥
    some_none bytes e = absurd cc

pub line-read : (number : ℕ) (line : List ℕ) (from : End) (words front : List ℕ) (came : Bool) (back : List ℕ) (its : FateValue) (bytes : List ℕ)
    → Behind number line from words → IsMarked front came back words → IsFateOf front its → bytes_in 1040 back ≡ Some bytes
    → IsTraceLine number (record { number = number; from = from; fate = its; came = came; bytes = bytes }) line
line-read number line from words front came back its bytes behind marks fate found =
    let got = bytes_in-found 1040 back bytes found in
    line-says number (record { number = number; from = from; fate = its; came = came; bytes = bytes }) line
    (record { numbered = refl; fate = fate.may; bytes = got.1; some = got.2; few = got.3 })
    (behind.is ∙ ap (λ xs. decimal number ++ codes " " ++ (end_word from ++ codes " " ++ xs))
    (marks.is ∙ (ap (λ xs. xs ++ codes " " ++ mark_word came ++ codes " " ++ back) fate.is
    ∙ ap (λ xs. fate_words its ++ codes " " ++ mark_word came ++ codes " " ++ xs) got.0)))

pub front-feedless : (number : ℕ) (line : List ℕ) (from : End) (words front : List ℕ) (came : Bool) (back : List ℕ) → Behind number line from words
    → IsMarked front came back words → Without is_feed front
front-feedless number line from words front came back behind marks =
    let tail = (without-parts is_feed (decimal number ++ codes " ") (end_word from ++ codes " " ++ words) (subst (Without is_feed) behind.is behind.feedless)).1 in
    let inner = (without-parts is_feed (end_word from ++ codes " ") words tail).1 in
    let whole = (without-parts is_feed (front ++ codes " ") (mark_word came ++ (codes " " ++ back))
    (subst (Without is_feed) (marks.is ∙ regroup front (mark_word came) back) inner)).0 in
    (without-parts is_feed front (codes " ") whole).0

pub end-none : (number : ℕ) (line rest : List ℕ) → number < 2 ^ 64 → Without is_feed line → line ≡ decimal number ++ codes " " ++ rest
    → ((from : End) (words : List ℕ) → rest ≡ end_word from ++ codes " " ++ words → ⊥) → (frame : FrameValue) → IsTraceLine number frame line → ⊥
end-none number line rest small all split none frame says =
    none frame.from (mark_words frame) (behind-number number frame line rest small all split says)

pub behind-by : (number : ℕ) (line rest : List ℕ) (from : End) (words : List ℕ) → number < 2 ^ 64 → Without is_feed line
    → line ≡ decimal number ++ codes " " ++ rest → rest ≡ end_word from ++ codes " " ++ words → Behind number line from words
behind-by number line rest from words small all split is =
    record { small = small; feedless = all; is = split ∙ ap (λ xs. decimal number ++ codes " " ++ xs) is }
