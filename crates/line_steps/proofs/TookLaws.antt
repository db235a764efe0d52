-- What an end took, as a story of messages.
use Rattle.line_steps.proofs.Names.{common_steps, rules, ◌≡◌, ◌⊎◌, ℕ, suc, ◌+◌, ◌-◌, ◌<◌, ◌≤◌, Bool, true, false, ◌&&◌, cond, leb, List, [], ◌∷◌, ◌++◌, length}
use Rattle.line_steps.proofs.Names.{take, drop, reverse, refl, sym, ap, subst, ◌∙◌, arith, inl, inr, nat_eq, cases_lt, cond-false, both_ways, eq-eqb, ne_eqb}
use Rattle.line_steps.proofs.Names.{append_assoc, append-nil, length-append, length-map, length-reverse, drop-append-le, length-map-range_with_len, has_flag}
use Rattle.line_steps.proofs.Names.{session_id, piece_count, pieces, piece_of, piece_flags, fragment_of, flag_last, End, comes, data_comes, Part, add_part}
use Rattle.line_steps.proofs.Names.{part_of, taken, message_parts, session_parts, PastFrame, is_end, at, is_data_of, IdMessage, told_parts, IsStoryOf, Talk, messages_of}
use Rattle.line_steps.proofs.Names.{pieces_before, heard, part_at, same_end, stays_in, leaves, IsByCursor, some_pieces, at_push, at_all, parts-from}
use Rattle.line_steps.proofs.Names.{TookMessages, told_from}
use Rattle.line_laws.proofs.CameLaws.{and_none}

-- ---- what came, by the frames and by the cursor

newest_is : (cursor : End → ℕ) {came : ℕ → Bool} (frame : PastFrame) (past : List PastFrame) → IsByCursor cursor came (frame ∷ past)
    → came (length past + 1) ≡ (comes frame.course && leb (length past + 1) (cursor frame.from))
newest_is cursor frame past is = search rules

older_is : (cursor : End → ℕ) {came : ℕ → Bool} (frame : PastFrame) (past : List PastFrame) → IsByCursor cursor came (frame ∷ past) → IsByCursor cursor came past
older_is cursor frame past is n found older le there = is n found older (omega (arith, le)) (at_push frame past le ∙ there)

taken_within : {X : End} (cursor : End → ℕ) {came : ℕ → Bool} (past : List PastFrame) → IsByCursor cursor came past → length past ≤ cursor X
    → taken X came past ≡ heard X past
taken_within cursor [] is inside = refl
taken_within {X} cursor {came} (frame ∷ past) is inside =
    go (is_end X frame.from) refl (newest_is cursor frame past is) (taken_within cursor past (older_is cursor frame past is) (omega arith)) where
      go : (b : Bool) → is_end X frame.from ≡ b → came (length past + 1) ≡ (comes frame.course && leb (length past + 1) (cursor frame.from))
          → taken X came past ≡ heard X past → taken X came (frame ∷ past) ≡ heard X (frame ∷ past)
      go true mine here later =
          let came_is : came (length past + 1) ≡ comes frame.course = here ∙ stays_in cursor frame (same_end X frame.from mine) (omega arith) in
          ap (λ b. cond (is_data_of X frame && b) (add_part (part_of frame) (taken X came past)) (taken X came past)) came_is
          ∙ ap (λ list. cond (data_comes X frame) (add_part (part_of frame) list) list) later
      go false other here later =
          ap (λ b. cond ((b && frame.is_data) && came (length past + 1)) (add_part (part_of frame) (taken X came past)) (taken X came past)) other
          ∙ (later ∙ ap (λ b. cond ((b && frame.is_data) && comes frame.course) (add_part (part_of frame) (heard X past)) (heard X past)) (sym other))

pub taken_heard : {X : End} (cursor : End → ℕ) {came : ℕ → Bool} (past : List PastFrame) → IsByCursor cursor came past → cursor X ≤ length past
    → taken X came past ≡ heard X (at (cursor X) past)
taken_heard {X} cursor [] is inside = ap (heard X) (sym (ap (λ k. at k []) (none (cursor X) inside) ∙ at_all [])) where
  none : (k : ℕ) → k ≤ 0 → k ≡ 0
  none k le = omega arith
taken_heard {X} cursor {came} (frame ∷ past) is inside = elim (cases_lt (length past) (cursor X)) [
  | inl whole ↦ (let end : cursor X ≡ length (frame ∷ past) = omega arith in
      taken_within cursor (frame ∷ past) is (omega arith) ∙ ap (heard X) (sym (ap (λ k. at k (frame ∷ past)) end ∙ at_all (frame ∷ past))))
  | inr below ↦ (let later = taken_heard cursor past (older_is cursor frame past is) (omega arith) in
      let out : (is_data_of X frame && came (length past + 1)) ≡ false = skip (is_end X frame.from) refl (newest_is cursor frame past is) (omega arith) in
      cond-false _ _ _ out ∙ (later ∙ ap (heard X) (sym (at_push frame past (omega arith)))))
] where
  skip : (b : Bool) → is_end X frame.from ≡ b → came (length past + 1) ≡ (comes frame.course && leb (length past + 1) (cursor frame.from))
      → cursor X < length past + 1 → (is_data_of X frame && came (length past + 1)) ≡ false
  skip true mine here above = ap (λ b. is_data_of X frame && b) (here ∙ leaves cursor frame (same_end X frame.from mine) above) ∙ and_none (is_data_of X frame)
  skip false other here above = ap (λ b. (b && frame.is_data) && came (length past + 1)) other

-- ---- the parts of a message, and where it ends

parts_length : (id : ℕ) (message : List ℕ) → length (message_parts id message) ≡ piece_count (length message)
parts_length id message = length-map (pieces id (length message))
    (λ piece. let it : Part = record { key = piece.key; bytes = (fragment_of message piece).bytes } in it)
    ∙ length-map-range_with_len (piece_of id (length message)) 0 (piece_count (length message))

first_same : {a b : Part} {left right : List Part} → a ∷ left ≡ b ∷ right → a ≡ b
first_same same = cc

-- no message is an unfinished front of another one
no_front : (id : ℕ) (message : List ℕ) (id' : ℕ) (message' : List ℕ) (part : Part) (tail : List Part)
    → message_parts id message ≡ message_parts id' message' ++ part ∷ tail → ⊥
no_front id message id' message' part tail same =
    let count' = piece_count (length message') in
    let k = count' - 1 in
    let some = some_pieces (length message') in
    let longer : piece_count (length message) ≡ count' + suc (length tail) =
    omega (arith, parts_length id message, parts_length id' message', ap length same, length-append (message_parts id' message') (part ∷ tail)) in
    let less : k < piece_count (length message) = omega (arith, longer, some) in
    let less' : k < piece_count (length message') = omega (arith, some) in
    let left_side = parts-from message less in
    let right_side : drop k (message_parts id message) ≡ part_at id' message' k ∷ (drop (k + 1) (message_parts id' message') ++ part ∷ tail) =
    ap (λ ps. drop k ps) same ∙ (drop-append-le k (message_parts id' message') (part ∷ tail) (omega (arith, parts_length id' message', some))
    ∙ ap (λ ps. ps ++ part ∷ tail) (parts-from message' less')) in
    let one : part_at id message k ≡ part_at id' message' k = first_same (sym left_side ∙ right_side) in
    let goes_on : nat_eq (k + 1) (piece_count (length message)) ≡ false = ne_eqb _ _ (λ e. omega (arith, e, longer, some)) in
    let ends : nat_eq (k + 1) (piece_count (length message')) ≡ true = eq-eqb _ _ (omega (arith, some)) in
    let flags : has_flag 64 (piece_flags (length message) k) ≡ has_flag 64 (piece_flags (length message') k) = ap (λ p. has_flag 64 p.key.flags) one in
    both_ways (has_flag 64 (piece_flags (length message) k)) (flag_last (nat_eq k 0) (nat_eq (k + 1) (piece_count (length message))) ∙ goes_on)
    (flags ∙ (flag_last (nat_eq k 0) (nat_eq (k + 1) (piece_count (length message'))) ∙ ends))

-- ---- parts as a story

split_front : (p : List Part) {s : List Part} (front : List Part) {rest : List Part} → front ++ rest ≡ p ++ s → length p ≤ length front
    → (behind : List Part) × (front ≡ p ++ behind) × (behind ++ rest ≡ s)
split_front [] front same inside = (front, refl, same)
split_front (a ∷ p) [] same inside = absurd (omega arith)
split_front (a ∷ p) {s} (b ∷ front) {rest} same inside =
    let here : b ≡ a = cc in
    let tails : front ++ rest ≡ p ++ s = cc in
    let later = split_front p front tails (omega arith) in
    (later.0, (λ i. here i ∷ later.1 i), later.2)

abbrev pub Tells : ℕ → List (List ℕ) → List Part → Type 0
Tells number messages front =
    IsStoryOf front (told_from number messages) ⊎ ((0 < length messages) × IsStoryOf front (told_from number (take (length messages - 1) messages)))

one_more : (number : ℕ) {message : List ℕ} {story : List IdMessage} {front behind : List Part} → front ≡ message_parts (session_id number) message ++ behind
    → IsStoryOf behind story → IsStoryOf front (record { id = session_id number; message = message } ∷ story)
one_more number is told = grind (arith, common_steps)

empty_story : IsStoryOf [] []
empty_story = search rules

tells : (number : ℕ) (messages : List (List ℕ)) (front rest : List Part) → front ++ rest ≡ session_parts number messages
    → pieces_before messages (length messages - 1) ≤ length front → Tells number messages front
tells number [] [] rest same most = inl empty_story
tells number [] (part ∷ front) rest same most = absurd cc
tells number (message ∷ []) front [] same most = inl (one_more number (sym (append-nil front) ∙ same) empty_story)
tells number (message ∷ []) front (part ∷ rest) same most = inr (
  omega arith,
  record {
    rest = front;
    is = refl;
    unfinished = λ id' message' later is. go id' message' later is;
  },
) where
  more : (id' : ℕ) (message' : List ℕ) (later : List Part) → message_parts (session_id number) message ≡ message_parts id' message' ++ (later ++ part ∷ rest)
      → ⊥
  more id' message' [] all = no_front (session_id number) message id' message' part rest all
  more id' message' (p ∷ later) all = no_front (session_id number) message id' message' p (later ++ part ∷ rest) all

  go : (id' : ℕ) (message' : List ℕ) (later : List Part) → front ≡ message_parts id' message' ++ later → ⊥
  go id' message' later is =
      let all : message_parts (session_id number) message ≡ message_parts id' message' ++ (later ++ part ∷ rest) =
      sym (append-nil (message_parts (session_id number) message))
      ∙ (sym same ∙ (ap (λ ps. ps ++ part ∷ rest) is ∙ append_assoc (message_parts id' message') later (part ∷ rest))) in
      more id' message' later all
tells number (message ∷ next ∷ later) front rest same most =
    let last : length (message ∷ next ∷ later) - 1 ≡ suc (length later) = omega arith in
    let next_last : length later ≡ length (next ∷ later) - 1 = omega arith in
    let now : piece_count (length message) + pieces_before (next ∷ later) (length later) ≤ length front =
    subst (λ k. pieces_before (message ∷ next ∷ later) k ≤ length front) last most in
    let cut = split_front (message_parts (session_id number) message) front same (omega (arith, parts_length (session_id number) message, now)) in
    let size : length front ≡ piece_count (length message) + length cut.0 = ap length cut.1
    ∙ (length-append (message_parts (session_id number) message) cut.0 ∙ ap (λ n. n + length cut.0) (parts_length (session_id number) message)) in
    let behind : pieces_before (next ∷ later) (length later) ≤ length cut.0 = omega (arith, now, size) in
    elim (tells (number + 1) (next ∷ later) cut.0 rest cut.2 (subst (λ k. pieces_before (next ∷ later) k ≤ length cut.0) next_last behind)) [
      | inl whole ↦ inl (one_more number cut.1 whole)
      | inr but ↦ inr (
        omega arith,
        subst (λ k. IsStoryOf front (told_from number (take k (message ∷ next ∷ later)))) (sym last)
            (one_more number cut.1 (subst (λ k. IsStoryOf cut.0 (told_from (number + 1) (take k (next ∷ later)))) (sym next_last) but.1)),
      )
    ]

-- of the messages of X
pub took_tells : {X : End} {talk : Talk} {past : List PastFrame} {cx : ℕ} → TookMessages X talk past cx
    → Tells 0 (messages_of X talk) (reverse (heard X (at cx past)))
took_tells {X} {talk} {past} {cx} took =
    tells 0 (messages_of X talk) (reverse (heard X (at cx past))) took.rest took.is (omega (arith, took.most, length-reverse (heard X (at cx past))))

-- all of them
pub all_told : (number : ℕ) (messages : List (List ℕ)) {front : List Part} → front ≡ session_parts number messages → IsStoryOf front (told_from number messages)
all_told number [] same = subst (λ ps. IsStoryOf ps []) (sym same) empty_story
all_told number (message ∷ later) same = one_more number same (all_told (number + 1) later refl)

-- ---- by how much was taken

-- all pieces of all messages
pub parts_total : (number : ℕ) (messages : List (List ℕ)) → length (session_parts number messages) ≡ pieces_before messages (length messages)
parts_total number [] = omega arith
parts_total number (message ∷ later) =
    length-append (message_parts (session_id number) message) (session_parts (number + 1) later)
    ∙ omega (arith, parts_length (session_id number) message, parts_total (number + 1) later)

told_parts-from : (number : ℕ) (messages : List (List ℕ)) → told_parts (told_from number messages) ≡ session_parts number messages
told_parts-from number [] = refl
told_parts-from number (message ∷ later) = ap (λ ps. message_parts (session_id number) message ++ ps) (told_parts-from (number + 1) later)

no_parts : (parts : List Part) → length parts ≡ 0 → parts ≡ []
no_parts [] none = refl
no_parts (part ∷ parts) none = absurd (omega (arith, none))

pub took_whole : {X : End} {talk : Talk} {past : List PastFrame} {cx : ℕ} → TookMessages X talk past cx
    → pieces_before (messages_of X talk) (length (messages_of X talk)) ≤ length (heard X (at cx past))
    → IsStoryOf (reverse (heard X (at cx past))) (told_from 0 (messages_of X talk))
took_whole {X} {talk} {past} {cx} took whole =
    let front = reverse (heard X (at cx past)) in
    let sum = sym (length-append front took.rest) ∙ (ap length took.is ∙ parts_total 0 (messages_of X talk)) in
    let none = no_parts took.rest (omega (arith, sum, whole, length-reverse (heard X (at cx past)))) in
    all_told 0 (messages_of X talk) (sym (append-nil front) ∙ (ap (λ ps. front ++ ps) (sym none) ∙ took.is))

pub took_but : {X : End} {talk : Talk} {past : List PastFrame} {cx : ℕ} → TookMessages X talk past cx
    → length (heard X (at cx past)) < pieces_before (messages_of X talk) (length (messages_of X talk))
    → IsStoryOf (reverse (heard X (at cx past))) (told_from 0 (take (length (messages_of X talk) - 1) (messages_of X talk)))
took_but {X} {talk} {past} {cx} took short = elim (took_tells took) [
  | inl whole ↦ absurd (let all = ap length whole.is ∙ length-append (told_parts (told_from 0 (messages_of X talk))) whole.rest in
      let total = ap length (told_parts-from 0 (messages_of X talk)) ∙ parts_total 0 (messages_of X talk) in
      omega (arith, all, total, short, length-reverse (heard X (at cx past))))
  | inr but ↦ but.1
]
