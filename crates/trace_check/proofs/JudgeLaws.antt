-- What is known of both ends tells whether a new fragment may go out.
use Rattle.line_laws.proofs.Names.{◌≡◌, ◌⊎◌, ℕ, ◌+◌, ◌-◌, ◌<◌, ◌≤◌, Bool, true, false, not, ◌&&◌, List, [], ◌∷◌, length, Option, Some, None}
use Rattle.line_laws.proofs.Names.{refl, sym, ap, subst, ◌∙◌, arith, inl, inr, cases_Bool, cases_lt, cond-true, cond-false, and_parts, and_from, nat_eq}
use Rattle.line_laws.proofs.Names.{End, Handheld, Desktop, PastFrame, Key, at, is_end, first, said, data_of, is_data_of, newest_repeat, pieces_before}
use Rattle.line_laws.proofs.Names.{messages_of, Talk, Turn, is_ack_of, answered_by, answer_to, IsKnown, AcksNewest, AnswersNewest, IfAnswers, AnswersReached}
use Rattle.line_laws.proofs.Names.{Reaches, same_key}
use Rattle.std.proofs.Common.{◌||◌, ltb, get_or}
use Rattle.std.proofs.lemmas.Bool.{eqb-true, eq-eqb, ltb-true, lt-ltb, or_left, or_right}
use Rattle.std.proofs.lemmas.List.{get_or_past}
use Rattle.trace_text.specs.Past.{is_newest_key}
use Rattle.trace_text.specs.Proper.{BearsNumber}
use Rattle.line_laws.proofs.PastLaws.{keys_below, keys_end_all, ends_all, same_key-same}
use Rattle.line_laws.proofs.CameLaws.{same_end}
use Rattle.line_laws.proofs.MessageLaws.{pieces-grow, pieces-more}
use Rattle.trace_check.proofs.ReachLaws.{reached-free, free-reached}
use Rattle.trace_check.proofs.SideLaws.{newest_first}
use Rattle.trace_check.specs.Arrivals.{acks, bears, is_free}
use Rattle.trace_check.specs.Sides.{IsSide, SideValue, is_end_free, is_start, is_start_free, last_start}
use Rattle.trace_check.specs.BothEnds.{AreSides, BothValue, other_end, side_of}
use Rattle.trace_check.specs.Turns.{has_answer, is_answered_by, is_end_reached, is_known}

-- ---- a fragment that reached an end

pub record IsTaken (Y : End) (came : ℕ → Bool) (past : List PastFrame) (number : ℕ) : Type 0 where
  pub n : ℕ
  pub reaches : Reaches came n past
  pub bears : BearsNumber Y past n reaches.frame number

data-from : (Y : End) (frame : PastFrame) → is_data_of Y frame ≡ true → frame.from ≡ Y
data-from Y frame is = same_end Y frame.from (and_parts (is_end Y frame.from) frame.is_data is).0

ack-from : (Y : End) (frame : PastFrame) → is_ack_of Y frame ≡ true → frame.from ≡ Y
ack-from Y frame is = same_end Y frame.from (and_parts (is_end Y frame.from) (not frame.is_data) is).0

bears-from : (Y : End) (number : ℕ) (frame : PastFrame) (older : List PastFrame) → bears Y number (frame ∷ older) ≡ true → frame.from ≡ Y
bears-from Y number frame older passes =
    data-from Y frame (and_parts (is_data_of Y frame) (nat_eq (length (said Y (frame ∷ older))) number) passes).0

module _ (Y X : End) (talk : Talk) (came : ℕ → Bool) (past : List PastFrame) (side : SideValue) (are : IsSide Y X talk came past side) where
  -- it was said
  taken-said : (number : ℕ) → IsTaken Y came past number → number ≤ length (said Y past)
  taken-said number it = omega (arith, keys_below (data_of Y) it.n past, it.bears.number_is)

  free-taken : (j : ℕ) → is_free (newest_repeat past) (get_or side.arrivals j None) ≡ true → IsTaken Y came past (j + 1)
  free-taken j free = elim (cases_lt j (length (said Y past))) [
    | inr none ↦
        let e : false ≡ true = ap (is_free (newest_repeat past)) (sym (get_or_past side.arrivals j None (omega (arith, none, are.said_all)))) ∙ free in
        absurd cc
    | inl inside ↦
        let it = free-reached (bears Y (j + 1)) Y came past (bears-from Y (j + 1))
        (ap (is_free (newest_repeat past)) (sym (are.arrivals_are j inside)) ∙ free) in
        let parts = and_parts (is_data_of Y it.reaches.frame) (nat_eq (length (said Y (it.reaches.frame ∷ it.reaches.older))) (j + 1)) it.passes in
        record {
          n = it.n;
          reaches = it.reaches;
          bears = record { is = parts.0; number_is = ap (λ p. length (said Y p)) it.reaches.here ∙ eqb-true _ _ parts.1 };
        }
  ]

  taken-free : (j : ℕ) → IsTaken Y came past (j + 1) → is_free (newest_repeat past) (get_or side.arrivals j None) ≡ true
  taken-free j it =
      let inside : j < length (said Y past) = omega (arith, taken-said (j + 1) it) in
      let number : length (said Y (it.reaches.frame ∷ it.reaches.older)) ≡ j + 1 =
      ap (λ p. length (said Y p)) (sym it.reaches.here) ∙ it.bears.number_is in
      ap (is_free (newest_repeat past)) (are.arrivals_are j inside)
      ∙ reached-free (bears Y (j + 1)) Y came past it.n it.reaches (data-from Y it.reaches.frame it.bears.is)
      (and_from _ _ it.bears.is (eq-eqb _ _ number))

  place_of : (k : ℕ) → k < length side.starts → get_or side.starts k 0 ≡ pieces_before (messages_of Y talk) k
  place_of k less = are.starts_are.places k (omega (arith, less, are.starts_are.counted))

  start-taken : (number : ℕ) → is_start_free (newest_repeat past) number side ≡ true
      → (number < length (messages_of Y talk)) × IsTaken Y came past (pieces_before (messages_of Y talk) number + 1)
  start-taken number free =
      let parts = and_parts (ltb number (length side.starts)) _ free in
      let less = ltb-true number (length side.starts) parts.0 in
      let it = free-taken (pieces_before (messages_of Y talk) number)
      (ap (λ k. is_free (newest_repeat past) (get_or side.arrivals k None)) (sym (place_of number less)) ∙ parts.1) in
      let said_it = taken-said _ it in
      elim (cases_lt number are.starts_are.begun) [
        | inl before ↦ (omega (arith, before, are.starts_are.there), it)
        | inr behind ↦
            let e : number ≡ are.starts_are.begun = omega (arith, behind, less, are.starts_are.counted) in
            absurd (omega (arith, said_it, are.starts_are.inside, ap (pieces_before (messages_of Y talk)) e))
      ]

  taken-start : (number : ℕ) → IsTaken Y came past (pieces_before (messages_of Y talk) number + 1) → is_start_free (newest_repeat past) number side ≡ true
  taken-start number it = elim (cases_lt number are.starts_are.begun) [
    | inl before ↦
        let less : number < length side.starts = omega (arith, before, are.starts_are.counted) in
        and_from _ _ (lt-ltb _ _ less)
        (ap (λ k. is_free (newest_repeat past) (get_or side.arrivals k None)) (place_of number less)
        ∙ taken-free (pieces_before (messages_of Y talk) number) it)
    | inr behind ↦ absurd (omega (
      arith,
      taken-said _ it,
      are.starts_are.inside,
      pieces-grow (messages_of Y talk) are.starts_are.begun number behind,
    ))
  ]

  end-taken : (number : ℕ) → is_end_free (newest_repeat past) number side ≡ true
      → (number < length (messages_of Y talk)) × IsTaken Y came past (pieces_before (messages_of Y talk) (number + 1))
  end-taken number free =
      let parts = and_parts (ltb (number + 1) (length side.starts)) _ free in
      let less = ltb-true (number + 1) (length side.starts) parts.0 in
      let inside : number < length (messages_of Y talk) = omega (arith, less, are.starts_are.counted, are.starts_are.there) in
      let some = pieces-more (messages_of Y talk) number (number + 1) (omega arith) (omega (arith, inside)) in
      let e : pieces_before (messages_of Y talk) (number + 1) - 1 + 1 ≡ pieces_before (messages_of Y talk) (number + 1) = omega (arith, some) in
      let it = free-taken (pieces_before (messages_of Y talk) (number + 1) - 1)
      (ap (λ k. is_free (newest_repeat past) (get_or side.arrivals (k - 1) None)) (sym (place_of (number + 1) less)) ∙ parts.1) in
      (inside, subst (IsTaken Y came past) e it)

  taken-end : (number : ℕ) → number < length (messages_of Y talk) → IsTaken Y came past (pieces_before (messages_of Y talk) (number + 1))
      → is_end_free (newest_repeat past) number side ≡ true
  taken-end number inside it = elim (cases_lt are.starts_are.begun (number + 1)) [
    | inl behind ↦ absurd (omega (
      arith,
      taken-said _ it,
      are.starts_are.inside,
      pieces-more (messages_of Y talk) are.starts_are.begun (number + 1) behind (omega (arith, inside)),
    ))
    | inr before ↦
        let less : number + 1 < length side.starts = omega (arith, before, are.starts_are.counted) in
        let some = pieces-more (messages_of Y talk) number (number + 1) (omega arith) (omega (arith, inside)) in
        let e : pieces_before (messages_of Y talk) (number + 1) ≡ pieces_before (messages_of Y talk) (number + 1) - 1 + 1 = omega (arith, some) in
        and_from _ _ (lt-ltb _ _ less)
        (ap (λ k. is_free (newest_repeat past) (get_or side.arrivals (k - 1) None)) (place_of (number + 1) less)
        ∙ taken-free (pieces_before (messages_of Y talk) (number + 1) - 1) (subst (IsTaken Y came past) e it))
  ]

  last_place : last_start side ≡ pieces_before (messages_of Y talk) are.starts_are.begun
  last_place =
      let last : length side.starts - 1 ≡ are.starts_are.begun = omega (arith, are.starts_are.counted) in
      ap (λ k. get_or side.starts k 0) last ∙ are.starts_are.places are.starts_are.begun (omega arith)

  start-place : is_start side ≡ true → length (said Y past) ≡ pieces_before (messages_of Y talk) are.starts_are.begun
  start-place is = sym are.said_all ∙ (eqb-true _ _ is ∙ last_place)

  -- a message whose beginning is where the said fragments end is the next
  place-start : (number : ℕ) → number ≤ length (messages_of Y talk) → pieces_before (messages_of Y talk) number ≡ length (said Y past)
      → (is_start side ≡ true) × (number ≡ are.starts_are.begun)
  place-start number inside is = elim (cases_lt number are.starts_are.begun) [
    | inl before ↦
        let old = are.starts_are.behind (omega (arith, before)) in
        let grows = pieces-grow (messages_of Y talk) number (are.starts_are.begun - 1) (omega (arith, before)) in
        absurd (omega (arith, old, grows, is))
    | inr not_before ↦ elim (cases_lt are.starts_are.begun number) [
      | inl behind ↦ absurd (omega (
        arith,
        are.starts_are.inside,
        pieces-more (messages_of Y talk) are.starts_are.begun number behind inside,
        is,
      ))
      | inr not_behind ↦
          let e : number ≡ are.starts_are.begun = omega (arith, not_before, not_behind) in
          (eq-eqb _ _ (are.said_all ∙ (sym is ∙ (ap (pieces_before (messages_of Y talk)) e ∙ sym last_place))), e)
    ]
  ]

-- ---- an acknowledgement that reached an end

module _ (X Y : End) (talk : Talk) (came : ℕ → Bool) (past : List PastFrame) (side : SideValue) (are : IsSide X Y talk came past side) where
  pub record IsAcked : Type 0 where
    pub n : ℕ
    pub reaches : Reaches came n past
    pub acks : AcksNewest X Y past n reaches.frame

  free-acked : is_free (newest_repeat past) side.ack ≡ true → IsAcked
  free-acked free =
      let it = free-reached (acks X Y (length (said X past))) Y came past
      (λ frame older passes. ack-from Y frame (parts_of frame older passes).0)
      (ap (is_free (newest_repeat past)) (sym are.ack_is) ∙ free) in
      let parts = parts_of it.reaches.frame it.reaches.older it.passes in
      let behind : length (said X (at it.n past)) ≡ length (said X past) = ap (λ p. length (said X p)) it.reaches.here ∙ parts.1 in
      let same : said X (it.reaches.frame ∷ it.reaches.older) ≡ said X past =
      ap (said X) (sym it.reaches.here) ∙ ends_all (keys_end_all (data_of X) it.n past) behind in
      record {
        n = it.n;
        reaches = it.reaches;
        acks = record { is = parts.0; behind = behind; key_is = ap first (sym same) ∙ (newest_first it.reaches.frame.key _ parts.2).0 };
      }
    where
      parts_of : (frame : PastFrame) (older : List PastFrame) → acks X Y (length (said X past)) (frame ∷ older) ≡ true
          → (is_ack_of Y frame ≡ true) × (length (said X (frame ∷ older)) ≡ length (said X past)) × (is_newest_key frame.key (said X (frame ∷ older)) ≡ true)
      parts_of frame older passes =
          let front = and_parts (is_ack_of Y frame && nat_eq (length (said X (frame ∷ older))) (length (said X past)))
          (is_newest_key frame.key (said X (frame ∷ older)))
          passes in
          let back = and_parts (is_ack_of Y frame) (nat_eq (length (said X (frame ∷ older))) (length (said X past))) front.0 in
          (back.0, eqb-true _ _ back.1, front.1)

  acked-free : IsAcked → is_free (newest_repeat past) side.ack ≡ true
  acked-free it =
      let number : length (said X (it.reaches.frame ∷ it.reaches.older)) ≡ length (said X past) =
      ap (λ p. length (said X p)) (sym it.reaches.here) ∙ it.acks.behind in
      let same : said X past ≡ said X (it.reaches.frame ∷ it.reaches.older) =
      sym (ends_all (keys_end_all (data_of X) it.n past) it.acks.behind) ∙ ap (said X) it.reaches.here in
      let key : is_newest_key it.reaches.frame.key (said X (it.reaches.frame ∷ it.reaches.older)) ≡ true =
      ap (is_newest_key it.reaches.frame.key) (sym same) ∙ newest_is_key it.reaches.frame.key (said X past) it.acks.key_is in
      ap (is_free (newest_repeat past)) are.ack_is
      ∙ reached-free (acks X Y (length (said X past))) Y came past it.n it.reaches (ack-from Y it.reaches.frame it.acks.is)
      (and_from _ _ (and_from _ _ it.acks.is (eq-eqb _ _ number)) key)
    where
      newest_is_key : (key : Key) (keys : List Key) → first keys ≡ Some key → is_newest_key key keys ≡ true
      newest_is_key key [] none = absurd cc
      newest_is_key key (newest ∷ older) is = (let e : newest ≡ key = cc in ap (same_key key) e ∙ same_key-same key)

-- ---- known

abbrev known_with : ℕ → End → SideValue → SideValue → Bool
known_with repeat X side other = is_free repeat side.ack || (is_start side && is_answered_by (answer_to X (length side.starts - 2)) repeat other)

or_cases : (a b : Bool) → (a || b) ≡ true → (a ≡ true) ⊎ (b ≡ true)
or_cases true b is = inl refl
or_cases false b is = inr is

answered_by-start : (o : Option ℕ) (repeat : ℕ) (other : SideValue) → is_answered_by o repeat other ≡ true
    → (answer : ℕ) × (o ≡ Some answer) × (is_start_free repeat answer other ≡ true)
answered_by-start None repeat other is = absurd cc
answered_by-start (Some answer) repeat other is = (answer, refl, is)

module _ (X Y : End) (talk : Talk) (came : ℕ → Bool) (past : List PastFrame) (side other : SideValue) (are : IsSide X Y talk came past side)
    (theirs : IsSide Y X talk came past other) (some : 0 < length (said X past)) where
  known-is : known_with (newest_repeat past) X side other ≡ true → IsKnown X Y talk came past
  known-is known = elim (or_cases (is_free (newest_repeat past) side.ack) _ known) [
    | inl free ↦ (let it = free-acked X Y talk came past side are free in record { n = it.n; reaches = it.reaches; cause = inl it.acks })
    | inr answered ↦
        let parts = and_parts (is_start side) _ answered in
        let place : length (said X past) ≡ pieces_before (messages_of X talk) are.starts_are.begun = start-place X Y talk came past side are parts.0 in
        let found = answered_by-start (answer_to X (length side.starts - 2)) (newest_repeat past) other parts.1 in
        let begun : 0 < are.starts_are.begun = begun_some place in
        let next : length side.starts - 2 + 1 ≡ are.starts_are.begun = omega (arith, are.starts_are.counted, begun) in
        let it = start-taken Y X talk came past other theirs found.0 found.2 in
        record {
          n = it.1.n;
          reaches = it.1.reaches;
          cause = inr (record {
            number = length side.starts - 2;
            answer = found.0;
            asked = omega (arith, next, are.starts_are.there);
            there = it.0;
            answers = found.1;
            newest_ends = ap (pieces_before (messages_of X talk)) next ∙ sym place;
            bears = it.1.bears;
          });
        }
  ] where
    begun_some : length (said X past) ≡ pieces_before (messages_of X talk) are.starts_are.begun → 0 < are.starts_are.begun
    begun_some place = elim (cases_lt 0 are.starts_are.begun) [
      | inl more ↦ more
      | inr none ↦
          let e : are.starts_are.begun ≡ 0 = omega (arith, none) in
          absurd (omega (arith, some, place, ap (pieces_before (messages_of X talk)) e))
    ]

  is-known : IsKnown X Y talk came past → known_with (newest_repeat past) X side other ≡ true
  is-known it = go it.n it.reaches it.cause where
    go : (n : ℕ) (reaches : Reaches came n past) → AcksNewest X Y past n reaches.frame ⊎ AnswersNewest X Y talk past n reaches.frame
        → known_with (newest_repeat past) X side other ≡ true
    go n reaches (inl ack) =
        or_left (is_free (newest_repeat past) side.ack) _ (acked-free X Y talk came past side are (record { n = n; reaches = reaches; acks = ack }))
    go n reaches (inr answer) =
        let begins = place-start X Y talk came past side are (answer.number + 1) (omega (arith, answer.asked)) answer.newest_ends in
        let number : answer.number ≡ length side.starts - 2 = omega (arith, begins.1, are.starts_are.counted) in
        let asked : answer_to X (length side.starts - 2) ≡ Some answer.answer = ap (answer_to X) (sym number) ∙ answer.answers in
        let free = taken-start Y X talk came past other theirs answer.answer (record { n = n; reaches = reaches; bears = answer.bears }) in
        or_right (is_free (newest_repeat past) side.ack) _
        (and_from _ _ begins.0 (ap (λ o. is_answered_by o (newest_repeat past) other) asked ∙ free))

-- ---- by what is known of both ends

pub side-is : (X : End) (talk : Talk) (came : ℕ → Bool) (past : List PastFrame) (both : BothValue) → AreSides talk came past both
    → IsSide X (other_end X) talk came past (side_of X both)
side-is Handheld talk came past both are = are.handheld
side-is Desktop talk came past both are = are.desktop

other-is : (X : End) (talk : Talk) (came : ℕ → Bool) (past : List PastFrame) (both : BothValue) → AreSides talk came past both
    → IsSide (other_end X) X talk came past (side_of (other_end X) both)
other-is Handheld talk came past both are = are.desktop
other-is Desktop talk came past both are = are.handheld

module _ (X : End) (talk : Talk) (came : ℕ → Bool) (past : List PastFrame) (both : BothValue) (are : AreSides talk came past both) where
  mine : IsSide X (other_end X) talk came past (side_of X both)
  mine = side-is X talk came past both are

  repeats_as : is_known X both ≡ known_with (newest_repeat past) X (side_of X both) (side_of (other_end X) both)
  repeats_as = ap (λ r. known_with r X (side_of X both) (side_of (other_end X) both)) are.repeat_is

  pub known_by : 0 < length (said X past) → is_known X both ≡ true → IsKnown X (other_end X) talk came past
  known_by some known =
      known-is X (other_end X) talk came past (side_of X both) (side_of (other_end X) both) mine (other-is X talk came past both are) some
      (sym repeats_as ∙ known)

  pub by_known : 0 < length (said X past) → IsKnown X (other_end X) talk came past → is_known X both ≡ true
  by_known some known =
      repeats_as ∙ is-known X (other_end X) talk came past (side_of X both) (side_of (other_end X) both) mine (other-is X talk came past both are) some known

  if-reached : (turn : Option Turn) → is_end_reached turn both ≡ true → IfAnswers turn talk came past
  if-reached None is = tt
  if-reached (Some turn) is =
      let it = end-taken turn.end (other_end turn.end) talk came past (side_of turn.end both) (side-is turn.end talk came past both are) turn.number
      (ap (λ r. is_end_free r turn.number (side_of turn.end both)) (sym are.repeat_is) ∙ is) in
      record { n = it.1.n; reaches = it.1.reaches; there = it.0; bears = it.1.bears }

  reached-if : (turn : Option Turn) → IfAnswers turn talk came past → is_end_reached turn both ≡ true
  reached-if None is = refl
  reached-if (Some turn) is =
      ap (λ r. is_end_free r turn.number (side_of turn.end both)) are.repeat_is
      ∙ taken-end turn.end (other_end turn.end) talk came past (side_of turn.end both) (side-is turn.end talk came past both are) turn.number is.there
      (record { n = is.n; reaches = is.reaches; bears = is.bears })

  last_begun : length (side_of X both).starts - 1 ≡ mine.starts_are.begun
  last_begun = omega (arith, mine.starts_are.counted)

  pub answered : has_answer X both ≡ true → AnswersReached X talk came past
  answered has number less begins =
      let start = place-start X (other_end X) talk came past (side_of X both) mine number (omega (arith, less)) begins in
      let reached : is_end_reached (answered_by X (length (side_of X both).starts - 1)) both ≡ true = sym (cond-true _ _ _ start.0) ∙ has in
      let number_is : length (side_of X both).starts - 1 ≡ number = last_begun ∙ sym start.1 in
      if-reached (answered_by X number) (ap (λ k. is_end_reached (answered_by X k) both) (sym number_is) ∙ reached)

  pub has-answer : length (said X past) < pieces_before (messages_of X talk) (length (messages_of X talk)) → AnswersReached X talk came past
      → has_answer X both ≡ true
  has-answer inside reached = elim (cases_Bool (is_start (side_of X both))) [
    | inr later ↦ cond-false _ _ _ later
    | inl start ↦
        let place : length (said X past) ≡ pieces_before (messages_of X talk) mine.starts_are.begun =
        start-place X (other_end X) talk came past (side_of X both) mine start in
        let less : mine.starts_are.begun < length (messages_of X talk) = begun_less place in
        cond-true _ _ _ start
        ∙ (ap (λ k. is_end_reached (answered_by X k) both) last_begun
        ∙ reached-if (answered_by X mine.starts_are.begun) (reached mine.starts_are.begun less (sym place)))
  ] where
    begun_less : length (said X past) ≡ pieces_before (messages_of X talk) mine.starts_are.begun → mine.starts_are.begun < length (messages_of X talk)
    begun_less place = elim (cases_lt mine.starts_are.begun (length (messages_of X talk))) [
      | inl less ↦ less
      | inr all ↦
          let e : mine.starts_are.begun ≡ length (messages_of X talk) = omega (arith, all, mine.starts_are.there) in
          absurd (omega (arith, inside, place, ap (pieces_before (messages_of X talk)) e))
    ]
