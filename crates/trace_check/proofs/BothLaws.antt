-- What is known of both ends goes on by what a frame says.
use Rattle.line_laws.proofs.Names.{◌≡◌, ◌⊎◌, ℕ, ◌+◌, Bool, true, false, not, ◌&&◌, cond, List, [], ◌∷◌, length, Option}
use Rattle.line_laws.proofs.Names.{refl, sym, ap, subst, ◌∙◌, arith, inl, inr, cases_Bool, cond-true, cond-false, and_from, nat_eq}
use Rattle.line_laws.proofs.Names.{End, Handheld, Desktop, PastFrame, Key, is_end, first, said, is_data_of, is_repeat}
use Rattle.line_laws.proofs.Names.{late_of, newest, last_repeat, newest_repeat, is_late, Talk, is_ack_of}
use Rattle.std.proofs.lemmas.Bool.{eq-eqb, and_right}
use Rattle.trace_text.specs.Past.{is_newest_key}
use Rattle.trace_text.specs.Proper.{SaysMessages}
use Rattle.line_laws.proofs.PastLaws.{is_end-same}
use Rattle.trace_check.specs.declared.notice.Notice.{Notice}
use Rattle.trace_check.proofs.ReachLaws.{first-other, or_none}
use Rattle.trace_check.specs.Arrivals.{acks, first_late}
use Rattle.trace_check.specs.Notices.{IsNotice}
use Rattle.trace_check.specs.Sides.{IsSide, SideValue, is_key, with_ack, with_fragment, with_repeat}
use Rattle.trace_check.specs.BothEnds.{arrival_of, hearer_after, late_after, repeat_after, speaker_after}
use Rattle.std.specs.Option.{option_or}
use Rattle.std.specs.Bool.{then_some}
use Rattle.trace_check.proofs.SideLaws.{said-same, acks-other, side-quiet, side-repeats, side-begins}
use Rattle.line_laws.proofs.TraceLaws.{last_repeat-inside}

pub key-newest : (key : Key) (keys : List Key) → is_key key (first keys) ≡ is_newest_key key keys
key-newest key [] = refl
key-newest key (newest ∷ older) = refl

abbrev after : Bool → Key → Option ℕ → ℕ → SideValue → SideValue
after is_data key arrival late side =
    cond is_data (cond (is_key key side.key) (with_repeat arrival (record side { late = late })) (with_fragment key arrival (record side { late = late })))
    (record side { late = late })

module _ (X Y : End) (talk : Talk) (came : ℕ → Bool) (frame : PastFrame) (past : List PastFrame) (notice : Notice) (apart : is_end Y X ≡ false)
    (from : frame.from ≡ X) (says : IsNotice notice frame came past) where
  mine : is_end X frame.from ≡ true
  mine = ap (is_end X) from ∙ is_end-same X

  not_other : is_end Y frame.from ≡ false
  not_other = ap (is_end Y) from ∙ apart

  late-after : (side : SideValue) → IsSide X Y talk came past side → late_after notice side ≡ newest (late_of X) (frame ∷ past)
  late-after side was = elim (cases_Bool (is_late frame.course)) [
    | inl late ↦ cond-true notice.late notice.number side.late (says.late_is ∙ late)
        ∙ (says.number_is ∙ sym (cond-true (late_of X frame) (length past + 1) (newest (late_of X) past) (and_from _ _ mine late)))
    | inr prompt ↦ cond-false notice.late notice.number side.late (says.late_is ∙ prompt)
        ∙ (was.late_is ∙ sym (cond-false (late_of X frame) (length past + 1) (newest (late_of X) past)
        (and_right (is_end X frame.from) (is_late frame.course) prompt)))
  ]

  arrival-of : (side : SideValue) → IsSide X Y talk came past side
      → arrival_of notice side ≡ then_some (came (length past + 1)) (newest (late_of X) (frame ∷ past))
  arrival-of side was =
      ap (λ b. then_some b (late_after notice side)) says.came_is ∙ ap (then_some (came (length past + 1))) (late-after side was)

  no_data_of : frame.is_data ≡ false → is_data_of X frame ≡ false
  no_data_of other = and_right (is_end X frame.from) frame.is_data other

  data_is : frame.is_data ≡ true → is_data_of X frame ≡ true
  data_is is = and_from _ _ mine is

  other_data : is_data_of Y frame ≡ false
  other_data = ap (λ b. b && frame.is_data) not_other

  other_ack : is_ack_of Y frame ≡ false
  other_ack = ap (λ b. b && not frame.is_data) not_other

  pub side-speaks : (side : SideValue) → SaysMessages X talk (frame ∷ past) → IsSide X Y talk came past side
      → IsSide X Y talk came (frame ∷ past) (speaker_after notice side)
  side-speaks side messages was =
      let late = newest (late_of X) (frame ∷ past) in
      let arrival = then_some (came (length past + 1)) late in
      let same : after frame.is_data frame.key arrival late side ≡ speaker_after notice side =
      sym (ap (λ b. after b notice.key (arrival_of notice side) (late_after notice side) side) says.is_data_is
      ∙ (ap (λ k. after frame.is_data k (arrival_of notice side) (late_after notice side) side) says.key_is
      ∙ (ap (λ o. after frame.is_data frame.key o (late_after notice side) side) (arrival-of side was)
      ∙ ap (λ n. after frame.is_data frame.key arrival n side) (late-after side was)))) in
      subst (IsSide X Y talk came (frame ∷ past)) same (elim (cases_Bool frame.is_data) [
        | inr other ↦ subst (IsSide X Y talk came (frame ∷ past)) (sym (cond-false frame.is_data _ _ other))
            (side-quiet X Y talk came frame past side side.ack late was (no_data_of other)
            (was.ack_is ∙ sym (first-other (acks X Y (length (said X past))) Y came frame past (acks-other X Y (length (said X past)) frame past other_ack)))
            refl)
        | inl is ↦ subst (IsSide X Y talk came (frame ∷ past)) (sym (cond-true frame.is_data _ _ is))
            (elim (cases_Bool (is_newest_key frame.key (said X past))) [
              | inl again ↦
                  let key : is_key frame.key side.key ≡ true = ap (is_key frame.key) was.key_is ∙ (key-newest frame.key (said X past) ∙ again) in
                  subst (IsSide X Y talk came (frame ∷ past)) (sym (cond-true (is_key frame.key side.key) _ _ key))
                  (side-repeats X Y talk came frame past side was (data_is is) other_ack again)
              | inr new ↦
                  let key : is_key frame.key side.key ≡ false = ap (is_key frame.key) was.key_is ∙ (key-newest frame.key (said X past) ∙ new) in
                  subst (IsSide X Y talk came (frame ∷ past)) (sym (cond-false (is_key frame.key side.key) _ _ key))
                  (side-begins X Y talk came frame past side was (data_is is) other_ack new messages)
            ])
      ])

  other_late : newest (late_of Y) past ≡ newest (late_of Y) (frame ∷ past)
  other_late = sym (cond-false (late_of Y frame) (length past + 1) (newest (late_of Y) past) (ap (λ b. b && is_late frame.course) not_other))

  pub side-hears : (speaker side : SideValue) → IsSide X Y talk came past speaker → IsSide Y X talk came past side
      → IsSide Y X talk came (frame ∷ past) (hearer_after notice speaker side)
  side-hears speaker side spoke was = elim (cases_Bool frame.is_data) [
    | inl is ↦
        let no_ack : is_ack_of X frame ≡ false = and_right (is_end X frame.from) (not frame.is_data) (ap not is) in
        subst (IsSide Y X talk came (frame ∷ past)) (sym (cond-true notice.is_data _ _ (says.is_data_is ∙ is)))
        (side-quiet Y X talk came frame past side side.ack side.late was other_data
        (was.ack_is ∙ sym (first-other (acks Y X (length (said Y past))) X came frame past (acks-other Y X (length (said Y past)) frame past no_ack)))
        (was.late_is ∙ other_late))
    | inr other ↦
        subst (IsSide Y X talk came (frame ∷ past)) (sym (cond-false notice.is_data _ _ (says.is_data_is ∙ other)))
        (side-quiet Y X talk came frame past side (with_ack notice.key (arrival_of notice speaker) side).ack side.late was other_data
        (ack_is other) (was.late_is ∙ other_late))
  ] where
    ack_is : frame.is_data ≡ false
        → (with_ack notice.key (arrival_of notice speaker) side).ack ≡ first_late (acks Y X (length (said Y past))) X came (frame ∷ past)
    ack_is other =
        let is_ack : is_ack_of X frame ≡ true = and_from _ _ mine (ap not other) in
        let same : said Y (frame ∷ past) ≡ said Y past = said-same Y frame past other_data in
        let passes : acks Y X (length (said Y past)) (frame ∷ past) ≡ is_key notice.key side.key =
        ap (λ b. b && nat_eq (length (said Y (frame ∷ past))) (length (said Y past)) && is_newest_key frame.key (said Y (frame ∷ past))) is_ack
        ∙ (ap (λ ks. nat_eq (length ks) (length (said Y past)) && is_newest_key frame.key ks) same
        ∙ (ap (λ b. b && is_newest_key frame.key (said Y past)) (eq-eqb (length (said Y past)) _ refl)
        ∙ (sym (key-newest frame.key (said Y past)) ∙ (ap (is_key frame.key) (sym was.key_is) ∙ ap (λ k. is_key k side.key) (sym says.key_is))))) in
        let late = newest (late_of X) (frame ∷ past) in
        sym (ap (λ b. option_or (first_late (acks Y X (length (said Y past))) X came past) (then_some (b && came (length past + 1)) late)) passes
        ∙ (ap (λ o. option_or o (then_some (is_key notice.key side.key && came (length past + 1)) late)) (sym was.ack_is)
        ∙ (picked (is_key notice.key side.key) side.ack
        ∙ ap (λ o. cond (is_key notice.key side.key) (option_or side.ack o) side.ack) (sym (arrival-of speaker spoke)))))
      where
        picked : (b : Bool) (o : Option ℕ)
            → option_or o (then_some (b && came (length past + 1)) (newest (late_of X) (frame ∷ past)))
            ≡ cond b (option_or o (then_some (came (length past + 1)) (newest (late_of X) (frame ∷ past)))) o
        picked true o = refl
        picked false o = or_none o

  last_same : last_repeat Y (frame ∷ past) ≡ last_repeat Y past
  last_same = cond-false (is_repeat Y frame past) (length past + 1) (last_repeat Y past) (ap (λ b. b && is_newest_key frame.key (said Y past)) other_data)

  pub last-after : (side : SideValue) → IsSide X Y talk came past side
      → ((is_repeat X frame past ≡ true) × ((repeat : ℕ) → repeat_after notice side repeat ≡ length past + 1))
      ⊎ ((is_repeat X frame past ≡ false) × ((repeat : ℕ) → repeat_after notice side repeat ≡ repeat))
  last-after side was =
      let test : (notice.is_data && is_key notice.key side.key) ≡ is_repeat X frame past =
      ap (λ b. b && is_key notice.key side.key) says.is_data_is
      ∙ (ap (λ b. frame.is_data && b) (ap (is_key notice.key) was.key_is
      ∙ (ap (λ k. is_key k (first (said X past))) says.key_is ∙ key-newest frame.key (said X past)))
      ∙ ap (λ b. b && frame.is_data && is_newest_key frame.key (said X past)) (sym mine)) in
      elim (cases_Bool (is_repeat X frame past)) [
        | inl again ↦ inl (again, λ repeat. cond-true (notice.is_data && is_key notice.key side.key) notice.number repeat (test ∙ again) ∙ says.number_is)
        | inr new ↦ inr (new, λ repeat. cond-false (notice.is_data && is_key notice.key side.key) notice.number repeat (test ∙ new))
      ]

-- the newest repeat of either end, behind a frame of X
pub repeat-after : (X Y : End) (talk : Talk) (came : ℕ → Bool) (frame : PastFrame) (past : List PastFrame) (notice : Notice) (apart : is_end Y X ≡ false)
    → frame.from ≡ X → IsNotice notice frame came past → (side : SideValue) → IsSide X Y talk came past side → (repeat : ℕ) → repeat ≡ newest_repeat past
    → repeat_after notice side repeat ≡ newest_repeat (frame ∷ past)
repeat-after Handheld Handheld talk came frame past notice apart from says side was repeat is = absurd cc
repeat-after Desktop Desktop talk came frame past notice apart from says side was repeat is = absurd cc
repeat-after Handheld Desktop talk came frame past notice apart from says side was repeat is =
    let other = last_same Handheld Desktop talk came frame past notice apart from says in
    elim (last-after Handheld Desktop talk came frame past notice apart from says side was) [
      | inl again ↦ omega (
        arith,
        again.1 repeat,
        other,
        last_repeat-inside Desktop past,
        cond-true (is_repeat Handheld frame past) (length past + 1) (last_repeat Handheld past) again.0,
      )
      | inr new ↦ omega (arith, new.1 repeat, other, is, cond-false (is_repeat Handheld frame past) (length past + 1) (last_repeat Handheld past) new.0)
    ]
repeat-after Desktop Handheld talk came frame past notice apart from says side was repeat is =
    let other = last_same Desktop Handheld talk came frame past notice apart from says in
    elim (last-after Desktop Handheld talk came frame past notice apart from says side was) [
      | inl again ↦ omega (
        arith,
        again.1 repeat,
        other,
        last_repeat-inside Handheld past,
        cond-true (is_repeat Desktop frame past) (length past + 1) (last_repeat Desktop past) again.0,
      )
      | inr new ↦ omega (arith, new.1 repeat, other, is, cond-false (is_repeat Desktop frame past) (length past + 1) (last_repeat Desktop past) new.0)
    ]
