-- Where the messages of an end begin among its fragments.
use Rattle.line_laws.proofs.Names.{◌≡◌, ◌⊎◌, ℕ, zero, suc, ◌+◌, ◌-◌, ◌<◌, true, false, List, [], ◌∷◌, ◌++◌, length, drop, map, reverse, Some}
use Rattle.line_laws.proofs.Names.{refl, sym, ap, ◌∙◌, arith, inl, inr, cases_Bool, cond-true, cond-false, append_assoc, length-map, range_with_len, piece_count}
use Rattle.line_laws.proofs.Names.{Piece, piece_of, pieces, fragment_of, session_id, End, PastFrame, Key, Part, key_of_part, part_of, add_part, spoken, message_parts, session_parts}
use Rattle.line_laws.proofs.Names.{first, said, same_key, is_data_of, pieces_before, messages_of, Talk, length-map-range_with_len}
use Rattle.std.proofs.lemmas.List.{length-reverse, length-append, reverse-append}
use Rattle.std.proofs.Math.Seq.{drop-append_seam, drop-append-add}
use Rattle.trace_text.specs.Past.{is_newest_key}
use Rattle.trace_text.specs.Proper.{SaysMessages}
use Rattle.line_laws.proofs.PartLaws.{spoken_keys, add_part-new}
use Rattle.line_laws.proofs.PastLaws.{same_key-same}
use Rattle.line_laws.proofs.MessageLaws.{some_pieces}

-- ---- the part that begins a message

abbrev part_by : List ℕ → Piece → Part
part_by message piece = record { key = piece.key; bytes = (fragment_of message piece).bytes }

abbrev piece_part : List ℕ → ℕ → ℕ → Part
piece_part message id number = part_by message (piece_of id (length message) number)

parts_count : (id : ℕ) (message : List ℕ) → length (message_parts id message) ≡ piece_count (length message)
parts_count id message =
    length-map (pieces id (length message)) (part_by message)
    ∙ length-map-range_with_len (piece_of id (length message)) 0 (piece_count (length message))

pub session-length : (number : ℕ) (messages : List (List ℕ)) → length (session_parts number messages) ≡ pieces_before messages (length messages)
session-length number [] = refl
session-length number (message ∷ later) =
    length-append (message_parts (session_id number) message) (session_parts (number + 1) later)
    ∙ omega (arith, parts_count (session_id number) message, session-length (number + 1) later)

first_part : (id : ℕ) (message : List ℕ) (count : ℕ) → piece_count (length message) ≡ suc count
    → (more : List Part) × (message_parts id message ≡ piece_part message id 0 ∷ more)
first_part id message count counted = (
  map (part_by message) (map (piece_of id (length message)) (range_with_len 1 count)),
  ap (λ n. map (part_by message) (map (piece_of id (length message)) (range_with_len 0 n))) counted,
)

-- its size is that of the message
pub start-part : (number : ℕ) (messages : List (List ℕ)) (k : ℕ) (part : Part) (later : List Part) → k < length messages
    → drop (pieces_before messages k) (session_parts number messages) ≡ part ∷ later
    → pieces_before messages (k + 1) ≡ pieces_before messages k + piece_count part.key.size
start-part number [] k part later less is = absurd (omega arith)
start-part number (message ∷ rest) zero part later less is =
    let count : piece_count (length message) ≡ suc (piece_count (length message) - 1) = omega (arith, some_pieces (length message)) in
    let front = first_part (session_id number) message (piece_count (length message) - 1) count in
    let all : piece_part message (session_id number) 0 ∷ (front.0 ++ session_parts (number + 1) rest) ≡ part ∷ later =
    ap (λ xs. xs ++ session_parts (number + 1) rest) (sym front.1) ∙ is in
    let same : piece_part message (session_id number) 0 ≡ part = cc in
    let size : length message ≡ part.key.size = ap (λ (p : Part). p.key.size) same in
    let counted : piece_count (length message) ≡ piece_count part.key.size = ap piece_count size in
    omega (arith, counted)
start-part number (message ∷ rest) (suc k) part later less is =
    let size : length (message_parts (session_id number) message) ≡ piece_count (length message) = parts_count (session_id number) message in
    let behind : drop (piece_count (length message) + pieces_before rest k) (message_parts (session_id number) message ++ session_parts (number + 1) rest)
    ≡ drop (pieces_before rest k) (session_parts (number + 1) rest) =
    ap (λ n. drop (n + pieces_before rest k) (message_parts (session_id number) message ++ session_parts (number + 1) rest)) (sym size)
    ∙ drop-append-add (message_parts (session_id number) message) (session_parts (number + 1) rest) (pieces_before rest k) in
    let was = start-part (number + 1) rest k part later (omega arith) (sym behind ∙ is) in
    let next : suc k + 1 ≡ suc (k + 1) = omega arith in
    rw next (omega (arith, was))

-- ---- the part that a new fragment is

pub newest_apart : (key : Key) (keys : List Key) → is_newest_key key keys ≡ false → first keys ≡ Some key → ⊥
newest_apart key [] new is = absurd cc
newest_apart key (newest ∷ older) new is =
    let same : newest ≡ key = cc in
    let e : true ≡ false = sym (same_key-same key) ∙ (ap (same_key key) (sym same) ∙ new) in
    absurd cc

module _ (X : End) (frame : PastFrame) (past : List PastFrame) where
  pub spoken-new : is_data_of X frame ≡ true → is_newest_key frame.key (said X past) ≡ false → spoken X (frame ∷ past) ≡ part_of frame ∷ spoken X past
  spoken-new is new =
      cond-true (is_data_of X frame) (add_part (part_of frame) (spoken X past)) (spoken X past) is
      ∙ add_part-new (spoken X past) (λ same. newest_apart frame.key (said X past) new (ap first (sym (spoken_keys X past)) ∙ same))

  spoken-either : (spoken X (frame ∷ past) ≡ spoken X past) ⊎ (spoken X (frame ∷ past) ≡ part_of frame ∷ spoken X past)
  spoken-either = elim (cases_Bool (is_data_of X frame)) [
    | inr other ↦ inl (cond-false (is_data_of X frame) (add_part (part_of frame) (spoken X past)) (spoken X past) other)
    | inl is ↦ elim (either_part (part_of frame) (spoken X past)) [
      | inl same ↦ inl (cond-true (is_data_of X frame) (add_part (part_of frame) (spoken X past)) (spoken X past) is ∙ same)
      | inr more ↦ inr (cond-true (is_data_of X frame) (add_part (part_of frame) (spoken X past)) (spoken X past) is ∙ more)
    ]
  ] where
    either_part : (part : Part) (older : List Part) → (add_part part older ≡ older) ⊎ (add_part part older ≡ part ∷ older)
    either_part part [] = inr refl
    either_part part (newest ∷ older) = elim (cases_Bool (same_key part.key newest.key)) [
      | inl same ↦ inl (cond-true (same_key part.key newest.key) (newest ∷ older) (part ∷ newest ∷ older) same)
      | inr differ ↦ inr (cond-false (same_key part.key newest.key) (newest ∷ older) (part ∷ newest ∷ older) differ)
    ]

  one_more : (rest : List Part) → reverse (part_of frame ∷ spoken X past) ++ rest ≡ reverse (spoken X past) ++ part_of frame ∷ rest
  one_more rest =
      ap (λ xs. xs ++ rest) (reverse-append (part_of frame ∷ []) (spoken X past)) ∙ append_assoc (reverse (spoken X past)) (part_of frame ∷ []) rest

  -- what is said at the end was said before, as far as it went
  pub says-back : (talk : Talk) → SaysMessages X talk (frame ∷ past) → SaysMessages X talk past
  says-back talk says = elim spoken-either [
    | inl same ↦ record { rest = says.rest; is = ap (λ xs. reverse xs ++ says.rest) (sym same) ∙ says.is }
    | inr more ↦ record {
      rest = part_of frame ∷ says.rest;
      is = sym (one_more says.rest) ∙ (ap (λ xs. reverse xs ++ says.rest) (sym more) ∙ says.is);
    }
  ]

  pub new_part : (talk : Talk) → SaysMessages X talk (frame ∷ past) → is_data_of X frame ≡ true → is_newest_key frame.key (said X past) ≡ false
      → (rest : List Part) × (drop (length (said X past)) (session_parts 0 (messages_of X talk)) ≡ part_of frame ∷ rest)
      × (length (said X past) < length (session_parts 0 (messages_of X talk)))
  new_part talk says is new =
      let all : reverse (spoken X past) ++ part_of frame ∷ says.rest ≡ session_parts 0 (messages_of X talk) =
      sym (one_more says.rest) ∙ (ap (λ xs. reverse xs ++ says.rest) (sym (spoken-new is new)) ∙ says.is) in
      let size : length (reverse (spoken X past)) ≡ length (said X past) =
      length-reverse (spoken X past) ∙ (sym (length-map (spoken X past) key_of_part) ∙ ap length (spoken_keys X past)) in
      let inside = length-append (reverse (spoken X past)) (part_of frame ∷ says.rest) in (
        says.rest,
        ap (λ n. drop n (session_parts 0 (messages_of X talk))) (sym size)
            ∙ (ap (drop (length (reverse (spoken X past)))) (sym all) ∙ drop-append_seam (reverse (spoken X past)) (part_of frame ∷ says.rest)),
        omega (arith, ap length all, size, inside),
      )
