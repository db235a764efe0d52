-- The messages of both ends: how many pieces stand before one, and what stays of the rules when a message is added.
use Rattle.line_laws.proofs.Names.{rules, ◌≡◌, ◌⊎◌, ℕ, zero, suc, ◌+◌, ◌<◌, ◌≤◌, Bool, true, false, List, [], ◌∷◌, ◌++◌, length, Option, Some, None, refl, sym}
use Rattle.line_laws.proofs.Names.{ap, ◌∙◌, arith, inl, inr, cases_lt, piece_count, PastFrame, is_end, first, said, is_data_of, is_repeat, AcksNewest, AnswersNewest}
use Rattle.line_laws.proofs.Names.{IsKnown, IfAnswers, BeginInTurn, Talk, Turn, messages_of, pieces_before, answered_by, End, Handheld, Desktop, count_messages}
use Rattle.line_laws.proofs.Names.{say}

pub some_pieces : (size : ℕ) → 0 < piece_count size
some_pieces size = omega arith

pub pieces-grow : (messages : List (List ℕ)) (j k : ℕ) → j ≤ k → pieces_before messages j ≤ pieces_before messages k
pieces-grow messages zero k le = omega arith
pieces-grow messages (suc j) zero le = absurd (omega arith)
pieces-grow [] (suc j) (suc k) le = omega arith
pieces-grow (message ∷ later) (suc j) (suc k) le = omega (arith, pieces-grow later j k (omega arith))

pub pieces-more : (messages : List (List ℕ)) (j k : ℕ) → j < k → k ≤ length messages → pieces_before messages j < pieces_before messages k
pieces-more messages j zero less inside = absurd (omega arith)
pieces-more [] j (suc k) less inside = absurd (omega arith)
pieces-more (message ∷ later) zero (suc k) less inside = omega (arith, some_pieces (length message))
pieces-more (message ∷ later) (suc j) (suc k) less inside = omega (arith, pieces-more later j k (omega arith) (omega arith))

pieces-stay : (messages : List (List ℕ)) (message : List ℕ) (k : ℕ) → k ≤ length messages
    → pieces_before (messages ++ message ∷ []) k ≡ pieces_before messages k
pieces-stay messages message zero inside = refl
pieces-stay [] message (suc k) inside = absurd (omega arith)
pieces-stay (first ∷ later) message (suc k) inside = ap (λ n. piece_count (length first) + n) (pieces-stay later message k (omega arith))

one_more : (messages : List (List ℕ)) (message : List ℕ) → length (messages ++ message ∷ []) ≡ length messages + 1
one_more [] message = refl
one_more (first ∷ later) message = omega (arith, one_more later message)

pieces-all : (messages : List (List ℕ)) (message : List ℕ)
    → pieces_before (messages ++ message ∷ []) (length messages + 1) ≡ pieces_before messages (length messages) + piece_count (length message)
pieces-all [] message = omega arith
pieces-all (first ∷ later) message =
    let next : length (first ∷ later) + 1 ≡ suc (length later + 1) = omega arith in
    rw next (omega (arith, pieces-all later message))

-- ---- a message is added

-- what stood in the lists of messages stands in the later ones
pub record Longer (talk later : Talk) : Type 0 where
  pub more : (Z : End) (k : ℕ) → k ≤ count_messages Z talk → k ≤ count_messages Z later
  pub stays : (Z : End) (k : ℕ) → k ≤ count_messages Z talk → pieces_before (messages_of Z later) k ≡ pieces_before (messages_of Z talk) k

pub longer-say : (X : End) (message : List ℕ) (talk : Talk) → Longer talk (say X message talk)
longer-say Handheld message talk = record { more = more; stays = stays }
  where
    more : (Z : End) (k : ℕ) → k ≤ count_messages Z talk → k ≤ count_messages Z (say Handheld message talk)
    more Handheld k inside = omega (arith, one_more talk.handheld message)
    more Desktop k inside = inside

    stays : (Z : End) (k : ℕ) → k ≤ count_messages Z talk → pieces_before (messages_of Z (say Handheld message talk)) k ≡ pieces_before (messages_of Z talk) k
    stays Handheld k inside = pieces-stay talk.handheld message k inside
    stays Desktop k inside = refl
longer-say Desktop message talk = record { more = more; stays = stays }
  where
    more : (Z : End) (k : ℕ) → k ≤ count_messages Z talk → k ≤ count_messages Z (say Desktop message talk)
    more Handheld k inside = inside
    more Desktop k inside = omega (arith, one_more talk.desktop message)

    stays : (Z : End) (k : ℕ) → k ≤ count_messages Z talk → pieces_before (messages_of Z (say Desktop message talk)) k ≡ pieces_before (messages_of Z talk) k
    stays Handheld k inside = refl
    stays Desktop k inside = pieces-stay talk.desktop message k inside

pub count-say : (X : End) (message : List ℕ) (talk : Talk) → count_messages X (say X message talk) ≡ count_messages X talk + 1
count-say Handheld message talk = one_more talk.handheld message
count-say Desktop message talk = one_more talk.desktop message

pub pieces-say : (X : End) (message : List ℕ) (talk : Talk)
    → pieces_before (messages_of X (say X message talk)) (count_messages X talk + 1) ≡ pieces_before (messages_of X talk)
    (count_messages X talk) + piece_count (length message)
pieces-say Handheld message talk = pieces-all talk.handheld message
pieces-say Desktop message talk = pieces-all talk.desktop message

pub messages-other : (X Y : End) (message : List ℕ) (talk : Talk) → is_end Y X ≡ false → messages_of Y (say X message talk) ≡ messages_of Y talk
messages-other Handheld Handheld message talk apart = absurd cc
messages-other Handheld Desktop message talk apart = refl
messages-other Desktop Handheld message talk apart = refl
messages-other Desktop Desktop message talk apart = absurd cc

-- ---- the rules stay

pub known-longer : {X Y : End} {talk later : Talk} {came : ℕ → Bool} {past : List PastFrame} → Longer talk later → IsKnown X Y talk came past
    → IsKnown X Y later came past
known-longer {X} {Y} {talk} {later} {past} longer was = record { n = was.n; reaches = was.reaches; cause = go was.reaches.frame was.cause }
  where
    go : (frame : PastFrame) → AcksNewest X Y past was.n frame ⊎ AnswersNewest X Y talk past was.n frame
        → AcksNewest X Y past was.n frame ⊎ AnswersNewest X Y later past was.n frame
    go frame (inl ack) = inl ack
    go frame (inr answer) = inr (record {
      number = answer.number;
      answer = answer.answer;
      asked = omega (arith, longer.more X (answer.number + 1) (omega (arith, answer.asked)));
      there = omega (arith, longer.more Y (answer.answer + 1) (omega (arith, answer.there)));
      answers = answer.answers;
      newest_ends = longer.stays X (answer.number + 1) (omega (arith, answer.asked)) ∙ answer.newest_ends;
      bears = record {
        is = answer.bears.is;
        number_is = answer.bears.number_is
            ∙ ap (λ k. k + 1) (sym (longer.stays Y answer.answer (omega (arith, answer.there))));
      };
    })

pub answers-longer : (turn : Option Turn) {talk later : Talk} (came : ℕ → Bool) (past : List PastFrame) → Longer talk later → IfAnswers turn talk came past
    → IfAnswers turn later came past
answers-longer None came past longer was = tt
answers-longer (Some turn) came past longer was = record {
  n = was.n;
  reaches = was.reaches;
  there = omega (arith, longer.more turn.end (turn.number + 1) (omega (arith, was.there)));
  bears = record { is = was.bears.is; number_is = was.bears.number_is ∙ sym (longer.stays turn.end (turn.number + 1) (omega (arith, was.there))) };
}

-- a new fragment is one more
pub new-says : (X : End) (frame : PastFrame) (past : List PastFrame) → is_data_of X frame ≡ true → is_repeat X frame past ≡ false
    → length (said X (frame ∷ past)) ≡ length (said X past) + 1
new-says X frame past is new = search rules

said-grows : (X : End) (frame : PastFrame) (past : List PastFrame) → length (said X past) ≤ length (said X (frame ∷ past))
said-grows X frame past = search rules

pub begins-longer : (X Y : End) {talk later : Talk} (came : ℕ → Bool) (past : List PastFrame) → Longer talk later
    → length (said X past) ≤ pieces_before (messages_of X talk) (count_messages X talk) → BeginInTurn X Y talk came past
    → BeginInTurn X Y later came past
begins-longer X Y came [] longer most was = tt
begins-longer X Y {talk} {later} came (frame ∷ past) longer most was = (
  λ is new. let rules = was.0 is new in
      let one = new-says X frame past is new in (
        λ some. known-longer longer (rules.0 some),
        λ number less begins. elim (cases_lt number (count_messages X talk)) [
          | inl old ↦ answers-longer (answered_by X number) came past longer (rules.1 number old (sym (longer.stays X number (omega (arith, old))) ∙ begins))
          | inr added ↦ absurd (omega (
            arith,
            one,
            most,
            begins,
            longer.stays X (count_messages X talk) (omega arith),
            pieces-grow (messages_of X later) (count_messages X talk) number added,
          ))
        ],
      ),
  begins-longer X Y came past longer (omega (arith, most, said-grows X frame past)) was.1,
)
