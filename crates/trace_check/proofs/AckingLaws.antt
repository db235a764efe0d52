-- The acknowledgements are those of the data frames that came, one after the other.
use Rattle.std.proofs.Common.{◌≡◌, ◌⊎◌, ℕ, suc, ◌+◌, ◌-◌, ◌<◌, ◌≤◌, Bool, true, false, List, [], ◌∷◌, ◌++◌, length, take, map, get_or, Option, Some, None, refl, sym, ap, subst, ◌∙◌, append_assoc, arith, inl, inr}
use Rattle.std.specs.Prelude.{reverse, ◌↔◌}
use Rattle.std.specs.Bool.{MatchBool}
use Rattle.std.specs.Option.{MatchOption}
use Rattle.std.specs.List.{AllByRecursion}
use Rattle.std.proofs.lemmas.Bool.{cond-true, cond-false, cases_Bool}
use Rattle.std.proofs.lemmas.Bool.Decides.{when_true, when_false}
use Rattle.std.proofs.lemmas.List.{length-map, length-reverse, length-take, reverse-append, reverse-reverse, take_more, map-append, get_or-reverse, get_or_at, get_or-map, get_or_default, take_all, length-append}
use Rattle.std.proofs.lemmas.List.Elements.{All-from_recursion}
use Rattle.trace_text.specs.declared.frame.End.{End}
use Rattle.trace_text.specs.Frames.{BearsFragment, sent_in, add_frame, is_abort, fragment_in, past_behind, past_of}
use Rattle.trace_text.specs.Faults.{late_of, newest}
use Rattle.trace_text.specs.Past.{PastFrame, at}
use Rattle.trace_text.specs.Proper.{Reaches, NumberedFrame, data_that_came, is_ack_of, AcksAreFor, DataIsAcked}
use Rattle.trace_text.specs.TraceLines.{FrameValue}
use Rattle.line_laws.proofs.PastLaws.{at_push}
use Rattle.trace_check.specs.Acking.{numbered_value, data_came, answered_of, IsRepeats, Hears, HearsWrong, pushed, Passes}
use Rattle.trace_check.specs.declared.acking.Acks.{Acks}
use Rattle.trace_check.specs.declared.came.DataCame.{DataCame}
use Rattle.trace_check.proofs.CameLaws.{StandsIn, data_came-stand, data_came-numbered, reached-reaches, reaches-reached}
use Rattle.trace_check.proofs.RepeatsLaws.{repeats-more}

-- ---- which are answered

answered_of-more : (data_frames : List DataCame) (count : ℕ) (data_frame : DataCame) → count < length data_frames → data_frame ≡ get_or data_frames count data_frame
    → answered_of data_frames (count + 1) ≡ numbered_value data_frame ∷ answered_of data_frames count
answered_of-more data_frames count data_frame inside is =
    ap (λ xs. reverse (map numbered_value xs)) (take_more data_frames count data_frame inside ∙ ap (λ d. take count data_frames ++ d ∷ []) (sym is))
    ∙ (ap reverse (map-append numbered_value (take count data_frames) (data_frame ∷ []))
    ∙ reverse-append (map numbered_value (take count data_frames)) (numbered_value data_frame ∷ []))

length-answered_of : (data_frames : List DataCame) (count : ℕ) → count ≤ length data_frames → length (answered_of data_frames count) ≡ count
length-answered_of data_frames count inside =
    length-reverse (map numbered_value (take count data_frames))
    ∙ (length-map (take count data_frames) numbered_value ∙ omega (arith, length-take count data_frames))

map-reverse : {X Y : Type 0} (f : X → Y) (xs : List X) → map f (reverse xs) ≡ reverse (map f xs)
map-reverse f [] = refl
map-reverse f (x ∷ xs) =
    ap (map f) (reverse-append (x ∷ []) xs) ∙ (map-append f (reverse xs) (x ∷ [])
    ∙ (ap (λ ys. ys ++ f x ∷ []) (map-reverse f xs) ∙ sym (reverse-append (f x ∷ []) (map f xs))))

-- one that is answered behind these is the next of those that came
next-answered : (data_frames : List DataCame) (more : List NumberedFrame) (next : NumberedFrame) (older : List NumberedFrame)
    → reverse (map numbered_value data_frames) ≡ more ++ next ∷ older → (length older < length data_frames)
    × ((data_frame : DataCame) → data_frame ≡ get_or data_frames (length older) data_frame → numbered_value data_frame ≡ next)
next-answered data_frames more next older all =
    let turned : map numbered_value data_frames ≡ reverse older ++ next ∷ reverse more =
    sym (reverse-reverse (map numbered_value data_frames)) ∙ (ap reverse all ∙ (reverse-append more (next ∷ older)
    ∙ (ap (λ xs. xs ++ reverse more) (reverse-append (next ∷ []) older) ∙ append_assoc (reverse older) (next ∷ []) (reverse more)))) in
    let len : length data_frames ≡ length (reverse older) + suc (length (reverse more)) =
    sym (length-map data_frames numbered_value) ∙ (ap length turned ∙ length-append (reverse older) (next ∷ reverse more)) in
    let turn : length (reverse older) ≡ length older = length-reverse older in
    let inside : length older < length data_frames = omega (arith, len, turn) in
    let here : get_or (map numbered_value data_frames) (length older) next ≡ next =
    ap (λ xs. get_or xs (length older) next) turned ∙ get_or_at (reverse older) next (reverse more) next (length older) turn in (
      inside,
      λ data_frame is. ap numbered_value is ∙ (sym (get_or-map numbered_value data_frames (length older) data_frame next inside) ∙ here),
    )

-- ---- one frame more

acks-ack : (Y : End) (came : ℕ → Bool) (frame : PastFrame) (past : List PastFrame) (answered : List NumberedFrame) (next : NumberedFrame) (older : List NumberedFrame)
    → is_ack_of Y frame ≡ true → answered ≡ next ∷ older → next.key ≡ frame.key → Reaches came next.number past → AcksAreFor Y came past older
    → AcksAreFor Y came (frame ∷ past) answered
acks-ack Y came frame past answered next older ack is key reaches acks =
    let Acks : Type 0 = (first : NumberedFrame) × (rest : List NumberedFrame) × (answered ≡ first ∷ rest) × (first.key ≡ frame.key) × Reaches came first.number past
    × AcksAreFor Y came past rest in
    let it : Acks = (next, older, is, key, reaches, acks) in
    subst (λ b. MatchBool b Acks (AcksAreFor Y came past answered)) (sym ack) it

acks-other : (Y : End) (came : ℕ → Bool) (frame : PastFrame) (past : List PastFrame) (answered : List NumberedFrame) → is_ack_of Y frame ≡ false
    → AcksAreFor Y came past answered → AcksAreFor Y came (frame ∷ past) answered
acks-other Y came frame past answered other acks =
    let Acks : Type 0 = (first : NumberedFrame) × (rest : List NumberedFrame) × (answered ≡ first ∷ rest) × (first.key ≡ frame.key) × Reaches came first.number past
    × AcksAreFor Y came past rest in
    subst (λ b. MatchBool b Acks (AcksAreFor Y came past answered)) (sym other) acks

-- ---- back in the past

acks-step : (Y : End) (came : ℕ → Bool) (frame : PastFrame) (past : List PastFrame) (answered : List NumberedFrame) → AcksAreFor Y came (frame ∷ past) answered
    → (more : List NumberedFrame) × (older : List NumberedFrame) × (answered ≡ more ++ older) × AcksAreFor Y came past older
acks-step Y came frame past answered acks = elim (cases_Bool (is_ack_of Y frame)) [
  | inl ack ↦ let it = when_true _ _ ack acks in (it.0 ∷ [], it.1, it.2, it.5)
  | inr other ↦ ([], answered, refl, when_false _ _ other acks)
]

acks-back : (Y : End) (came : ℕ → Bool) (past : List PastFrame) (frames : List FrameValue) (answered : List NumberedFrame)
    → AcksAreFor Y came (past_behind past frames) answered → (more : List NumberedFrame) × (older : List NumberedFrame) × (answered ≡ more ++ older) × AcksAreFor Y came past older
acks-back Y came past [] answered acks = ([], answered, refl, acks)
acks-back Y came past (frame ∷ later) answered acks =
    let found = acks-back Y came (add_frame frame past) later answered acks in
    elim (cases_Bool (is_abort (fragment_in frame).kind)) [
      | inl aborts ↦ (found.0, found.1, found.2, subst (λ p. AcksAreFor Y came p found.1) (cond-true _ past (sent_in frame ∷ past) aborts) found.3)
      | inr goes ↦
          let one = acks-step Y came (sent_in frame) past found.1 (subst (λ p. AcksAreFor Y came p found.1) (cond-false _ past (sent_in frame ∷ past) goes) found.3) in
          (found.0 ++ one.0, one.1, found.2 ∙ (ap (λ xs. found.0 ++ xs) one.2 ∙ sym (append_assoc found.0 one.0 one.1)), one.3)
    ]

-- one past has so many acknowledgements
acks-length : (Y : End) (came : ℕ → Bool) (past : List PastFrame) (xs ys : List NumberedFrame) → AcksAreFor Y came past xs → AcksAreFor Y came past ys → length xs ≡ length ys
acks-length Y came [] xs ys a b = ap length a ∙ sym (ap length b)
acks-length Y came (frame ∷ past) xs ys a b = elim (cases_Bool (is_ack_of Y frame)) [
  | inl ack ↦
      let one = when_true _ _ ack a in
      let other = when_true _ _ ack b in
      let rest = acks-length Y came past one.1 other.1 one.5 other.5 in
      omega (arith, rest, ap length one.2, ap length other.2)
  | inr none ↦ acks-length Y came past xs ys (when_false _ _ none a) (when_false _ _ none b)
]

at-behind : (n : ℕ) (past : List PastFrame) (frames : List FrameValue) → n ≤ length past
    → (at n (past_behind past frames) ≡ at n past) × (length past ≤ length (past_behind past frames))
at-behind n past [] inside = (refl, omega arith)
at-behind n past (frame ∷ later) inside = elim (cases_Bool (is_abort (fragment_in frame).kind)) [
  | inl aborts ↦
      let is : add_frame frame past ≡ past = cond-true _ past (sent_in frame ∷ past) aborts in
      subst (λ p. (at n (past_behind p later) ≡ at n past) × (length past ≤ length (past_behind p later))) (sym is) (at-behind n past later inside)
  | inr goes ↦
      let is : add_frame frame past ≡ sent_in frame ∷ past = cond-false _ past (sent_in frame ∷ past) goes in
      let found = at-behind n (sent_in frame ∷ past) later (omega arith) in
      subst (λ p. (at n (past_behind p later) ≡ at n past) × (length past ≤ length (past_behind p later))) (sym is)
      (found.0 ∙ at_push (sent_in frame) past inside, omega (arith, found.1))
]

stands-back : (X : End) (came : ℕ → Bool) (past : List PastFrame) (frames : List FrameValue) (data_frame : DataCame)
    → StandsIn X came (past_behind past frames) data_frame → data_frame.number ≤ length past → StandsIn X came past data_frame
stands-back X came past frames data_frame stands inside =
    let same = (at-behind data_frame.number past frames inside).0 in
    record {
      frame = stands.frame;
      older = stands.older;
      some = stands.some;
      inside = inside;
      here = sym same ∙ stands.here;
      is = stands.is;
      came_is = stands.came_is;
      late_is = stands.late_is ∙ ap (newest (late_of X)) same;
    }

-- each of those that came stands in the past
came-stands : (X : End) (came : ℕ → Bool) (past : List PastFrame) (data_frames : List DataCame) (place : ℕ) (data_frame : DataCame)
    → reverse data_frames ≡ data_came X came past → place < length data_frames → data_frame ≡ get_or data_frames place data_frame
    → StandsIn X came past data_frame
came-stands X came past data_frames place data_frame all inside is =
    let each = All-from_recursion (StandsIn X came past) (reverse data_frames) (subst (AllByRecursion (StandsIn X came past)) (sym all) (data_came-stand X came past)) in
    let turned = length-reverse data_frames in
    let index = length data_frames - 1 - place in
    let back : length data_frames - 1 - index ≡ place = omega (arith, inside) in
    let there : get_or (reverse data_frames) index data_frame ≡ data_frame =
    get_or-reverse data_frames index data_frame (omega (arith, inside)) ∙ (ap (λ k. get_or data_frames k data_frame) back ∙ sym is) in
    subst (StandsIn X came past) there (each index data_frame (omega (arith, inside, turned)))

-- ---- the walk

-- what holds behind the first frames, of which these are left
pub record Acked (X Y : End) (came : ℕ → Bool) (data_frames : List DataCame) (frames : List FrameValue) (place : ℕ) (acks : Acks) (left : List FrameValue) : Type 0 where
  pub past : List PastFrame
  pub all : past_of frames ≡ past_behind past left
  pub short : length past ≤ place
  pub is : IsRepeats past acks.repeats
  pub inside : acks.acked ≤ length data_frames
  pub acked : AcksAreFor Y came past (answered_of data_frames acks.acked)
  pub bear : AllByRecursion BearsFragment left

module _ (X Y : End) (came : ℕ → Bool) (data_frames : List DataCame) (frames : List FrameValue) where
  hears-on : (frame : PastFrame) (past : List PastFrame) (old new : Acks) → reverse data_frames ≡ data_came X came (past_of frames)
      → ((data_frame : DataCame) → StandsIn X came (past_of frames) data_frame → data_frame.number ≤ length past → StandsIn X came past data_frame)
      → IsRepeats past old.repeats → old.acked ≤ length data_frames → AcksAreFor Y came past (answered_of data_frames old.acked) → Hears Y data_frames frame old new
      → (IsRepeats (frame ∷ past) new.repeats) × (new.acked ≤ length data_frames) × AcksAreFor Y came (frame ∷ past) (answered_of data_frames new.acked)
  hears-on frame past old new all back is inside acked hears = elim (cases_Bool (is_ack_of Y frame)) [
    | inl ack ↦
        let it = when_true _ _ ack hears in
        let next = it.0 in
        let stands = came-stands X came (past_of frames) data_frames old.acked next.data_frame all next.inside next.here in
        let reaches = reached-reaches X came past old.repeats next.data_frame is (back next.data_frame stands) next.reached in
        subst (λ acks. (IsRepeats (frame ∷ past) acks.repeats) × (acks.acked ≤ length data_frames) × AcksAreFor Y came (frame ∷ past) (answered_of data_frames acks.acked))
        (sym it.1) (
          repeats-more frame past old.repeats is,
          omega (arith, next.inside),
          acks-ack Y came frame past _ (numbered_value next.data_frame) (answered_of data_frames old.acked) ack
              (answered_of-more data_frames old.acked next.data_frame next.inside next.here) next.key_is reaches acked,
        )
    | inr other ↦
        let it = when_false _ _ other hears in
        subst (λ acks. (IsRepeats (frame ∷ past) acks.repeats) × (acks.acked ≤ length data_frames) × AcksAreFor Y came (frame ∷ past) (answered_of data_frames acks.acked))
        (sym it) (repeats-more frame past old.repeats is, inside, acks-other Y came frame past (answered_of data_frames old.acked) other acked)
  ]

  -- what is answered in the end
  answered-end : reverse data_frames ≡ data_came X came (past_of frames) → DataIsAcked X Y came (past_of frames)
      → (more : List NumberedFrame) × (answered : List NumberedFrame) × (reverse (map numbered_value data_frames) ≡ more ++ answered) × AcksAreFor Y came (past_of frames) answered
  answered-end all acked =
      let that : reverse (map numbered_value data_frames) ≡ data_that_came X came (past_of frames) =
      sym (map-reverse numbered_value data_frames) ∙ (ap (map numbered_value) all ∙ data_came-numbered X came (past_of frames)) in
      elim acked [
        | inl whole ↦ ([], data_that_came X came (past_of frames), that, whole)
        | inr but_last ↦ (but_last.last ∷ [], but_last.older, that ∙ but_last.is, but_last.acked)
      ]

  hears-not : (frame : PastFrame) (past : List PastFrame) (old : Acks) (left : List FrameValue) → reverse data_frames ≡ data_came X came (past_of frames)
      → past_of frames ≡ past_behind (frame ∷ past) left
      → ((data_frame : DataCame) → StandsIn X came (past_of frames) data_frame → data_frame.number ≤ length past → StandsIn X came past data_frame)
      → IsRepeats past old.repeats → old.acked ≤ length data_frames → AcksAreFor Y came past (answered_of data_frames old.acked)
      → HearsWrong Y data_frames frame old → DataIsAcked X Y came (past_of frames) → ⊥
  hears-not frame past old left all walked back is inside acked wrong whole =
      let end = answered-end all whole in
      let here = acks-back Y came (frame ∷ past) left end.1 (subst (λ p. AcksAreFor Y came p end.1) walked end.3) in
      let ack = when_true _ _ wrong.0 here.3 in
      let next = ack.0 in
      let older = ack.1 in
      let count : length older ≡ old.acked =
      acks-length Y came past older (answered_of data_frames old.acked) ack.5 acked ∙ length-answered_of data_frames old.acked inside in
      let split : reverse (map numbered_value data_frames) ≡ (end.0 ++ here.0) ++ next ∷ older =
      end.2 ∙ (ap (λ xs. end.0 ++ xs) (here.2 ∙ ap (λ xs. here.0 ++ xs) ack.2) ∙ sym (append_assoc end.0 here.0 (next ∷ older))) in
      let found = next-answered data_frames (end.0 ++ here.0) next older split in
      let below : old.acked < length data_frames = omega (arith, found.0, count) in
      let nothing : DataCame = record { number = 0; key = next.key; late = 0 } in
      let data_frame = get_or data_frames old.acked nothing in
      let at_count : data_frame ≡ get_or data_frames old.acked data_frame = get_or_default data_frames old.acked nothing data_frame below in
      let same : numbered_value data_frame ≡ next = found.1 data_frame (at_count ∙ ap (λ k. get_or data_frames k data_frame) (sym count)) in
      let number : data_frame.number ≡ next.number = ap (λ (n : NumberedFrame). n.number) same in
      let reaches : Reaches came data_frame.number past = subst (λ n. Reaches came n past) (sym number) ack.4 in
      let stands = back data_frame (came-stands X came (past_of frames) data_frames old.acked data_frame all below at_count) reaches.inside in
      wrong.1 (record {
        data_frame = data_frame;
        inside = below;
        here = at_count;
        key_is = ap (λ (n : NumberedFrame). n.key) same ∙ ack.3;
        reached = reaches-reached X came past old.repeats data_frame is stands reaches;
      })

  -- one frame more is passed
  pub acked-more : (frame : FrameValue) (place : ℕ) (old new : Acks) (left : List FrameValue) → reverse data_frames ≡ data_came X came (past_of frames)
      → Acked X Y came data_frames frames place old (frame ∷ left) → Passes Y data_frames frame old true new
      → Acked X Y came data_frames frames (place + 1) new left
  acked-more frame place old new left all so passes = by passes.sent passes.adds passes.hears
    where
      by : (sent : Option PastFrame) → ((past : List PastFrame) → add_frame frame past ≡ pushed sent past)
          → MatchOption sent ((true ≡ true) × (new ≡ old)) (λ f. MatchBool true (Hears Y data_frames f old new) (HearsWrong Y data_frames f old))
          → Acked X Y came data_frames frames (place + 1) new left
      by None adds hears = record {
        past = so.past;
        all = so.all ∙ ap (λ p. past_behind p left) (adds so.past);
        short = omega (arith, so.short);
        is = subst (λ acks. IsRepeats so.past acks.repeats) (sym hears.1) so.is;
        inside = subst (λ acks. acks.acked ≤ length data_frames) (sym hears.1) so.inside;
        acked = subst (λ acks. AcksAreFor Y came so.past (answered_of data_frames acks.acked)) (sym hears.1) so.acked;
        bear = so.bear.1;
      }
      by (Some sent) adds hears =
          let on = hears-on sent so.past old new all (λ data_frame stands inside. stands-back X came so.past (frame ∷ left) data_frame
          (subst (λ p. StandsIn X came p data_frame) so.all stands) inside) so.is so.inside so.acked hears in
          record {
            past = sent ∷ so.past;
            all = so.all ∙ ap (λ p. past_behind p left) (adds so.past);
            short = omega (arith, so.short);
            is = on.0;
            inside = on.1;
            acked = on.2;
            bear = so.bear.1;
          }

  -- one that isn't passed
  pub acked-not : (frame : FrameValue) (place : ℕ) (old new : Acks) (left : List FrameValue) → reverse data_frames ≡ data_came X came (past_of frames)
      → Acked X Y came data_frames frames place old (frame ∷ left) → Passes Y data_frames frame old false new → DataIsAcked X Y came (past_of frames) → ⊥
  acked-not frame place old new left all so passes = by passes.sent passes.adds passes.hears
    where
      by : (sent : Option PastFrame) → ((past : List PastFrame) → add_frame frame past ≡ pushed sent past)
          → MatchOption sent ((false ≡ true) × (new ≡ old)) (λ f. MatchBool false (Hears Y data_frames f old new) (HearsWrong Y data_frames f old))
          → DataIsAcked X Y came (past_of frames) → ⊥
      by None adds hears whole = let no_way = hears.0 in cc
      by (Some sent) adds hears whole =
          hears-not sent so.past old left all (so.all ∙ ap (λ p. past_behind p left) (adds so.past)) (λ data_frame stands inside.
          stands-back X came so.past (frame ∷ left) data_frame (subst (λ p. StandsIn X came p data_frame) so.all stands) inside) so.is so.inside so.acked hears whole

  -- the acknowledgements of all frames
  pub acked-end : (place : ℕ) (acks : Acks) → Acked X Y came data_frames frames place acks []
      → AcksAreFor Y came (past_of frames) (answered_of data_frames acks.acked)
  acked-end place acks so = subst (λ p. AcksAreFor Y came p (answered_of data_frames acks.acked)) (sym so.all) so.acked

  -- they are those of all data frames that came, or of all but the last, exactly where they are enough
  pub acked-enough : (count : ℕ) → reverse data_frames ≡ data_came X came (past_of frames) → count ≤ length data_frames
      → AcksAreFor Y came (past_of frames) (answered_of data_frames count)
      → DataIsAcked X Y came (past_of frames) ↔ ((count ≡ length data_frames) ⊎ (count + 1 ≡ length data_frames))
  acked-enough count all inside acks = (enough, is_acked)
    where
      that : reverse (map numbered_value data_frames) ≡ data_that_came X came (past_of frames)
      that = sym (map-reverse numbered_value data_frames) ∙ (ap (map numbered_value) all ∙ data_came-numbered X came (past_of frames))

      len : length (data_that_came X came (past_of frames)) ≡ length data_frames
      len = ap length (sym that) ∙ (length-reverse (map numbered_value data_frames) ∙ length-map data_frames numbered_value)

      enough : DataIsAcked X Y came (past_of frames) → (count ≡ length data_frames) ⊎ (count + 1 ≡ length data_frames)
      enough (inl whole) =
          let same = acks-length Y came (past_of frames) _ _ acks whole in
          inl (omega (arith, same, length-answered_of data_frames count inside, len))
      enough (inr but_last) =
          let same = acks-length Y came (past_of frames) _ _ acks but_last.acked in
          inr (omega (arith, same, length-answered_of data_frames count inside, len, ap length but_last.is))

      all_of : answered_of data_frames (length data_frames) ≡ data_that_came X came (past_of frames)
      all_of = ap (λ xs. reverse (map numbered_value xs)) (take_all (length data_frames) data_frames (omega arith)) ∙ that

      is_acked : (count ≡ length data_frames) ⊎ (count + 1 ≡ length data_frames) → DataIsAcked X Y came (past_of frames)
      is_acked (inl whole) = inl (subst (AcksAreFor Y came (past_of frames)) (ap (answered_of data_frames) whole ∙ all_of) acks)
      is_acked (inr but_last) =
          let nothing : DataCame = record { number = 0; key = record { id = 0; flags = 0; size = 0 }; late = 0 } in
          let below : count < length data_frames = omega (arith, but_last) in
          let last = get_or data_frames count nothing in
          inr (record {
            last = numbered_value last;
            older = answered_of data_frames count;
            is = sym all_of ∙ (ap (answered_of data_frames) (sym but_last)
                ∙ answered_of-more data_frames count last below (get_or_default data_frames count nothing last below));
            acked = acks;
          })
