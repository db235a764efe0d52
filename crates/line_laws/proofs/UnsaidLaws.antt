-- The parts of its messages that an end hasn't begun.
use Rattle.line_laws.proofs.Names.{common_steps, rules, ◌≡◌, ℕ, zero, suc, ◌+◌, ◌-◌, ◌<◌, List, [], ◌∷◌, ◌++◌, length, map, drop, sym, ap, ◌∙◌, arith, reverse}
use Rattle.line_laws.proofs.Names.{range_with_len, append_assoc, append-nil, length-map, length-map-range_with_len, drop_of_length-le, session_id, piece_count}
use Rattle.line_laws.proofs.Names.{pieces, piece_of, fragment_of, Piece, Part, message_parts, session_parts, Talk, messages_of, End, Handheld, Desktop, Side}
use Rattle.line_laws.proofs.Names.{left, part_at, unsaid, count_messages, say}

drop-range : (f : Piece → Part) (g : ℕ → Piece) (start count k : ℕ) → k < count
    → drop k (map f (map g (range_with_len start count))) ≡ f (g (start + k)) ∷ drop (k + 1) (map f (map g (range_with_len start count)))
drop-range f g start zero k less = absurd (omega arith)
drop-range f g start (suc count) zero less = let same : start ≡ start + 0 =
    omega arith in ap (λ n. f (g n) ∷ map f (map g (range_with_len (start + 1) count))) same
drop-range f g start (suc count) (suc k) less =
    let next : suc k + 1 ≡ suc (k + 1) = omega arith in
    let same : start + 1 + k ≡ start + suc k = omega arith in
    rw next (drop-range f g (start + 1) count k (omega arith) ∙ ap (λ n. f (g n) ∷ drop (k + 1) (map f (map g (range_with_len (start + 1) count)))) same)

pub parts-from : {id : ℕ} (message : List ℕ) {k : ℕ} → k < piece_count (length message)
    → drop k (message_parts id message) ≡ part_at id message k ∷ drop (k + 1) (message_parts id message)
parts-from {id} message {k} less =
    let same : 0 + k ≡ k = omega arith in
    drop-range (λ piece. record { key = piece.key; bytes = (fragment_of message piece).bytes }) (piece_of id (length message)) 0
    (piece_count (length message)) k less
    ∙ ap (λ n. part_at id message n ∷ drop (k + 1) (message_parts id message)) same

pub unsaid-next : (side : Side) → side.acknowledged + 1 < piece_count (length side.message)
    → unsaid side ≡ part_at side.id side.message (side.acknowledged + 1) ∷ unsaid (record side { acknowledged = side.acknowledged + 1 })
unsaid-next side more =
    let here : piece_count (length side.message) - left side ≡ side.acknowledged + 1 = omega (arith, more) in
    let behind : side.acknowledged + 1 + 1 ≡ piece_count (length side.message) - (piece_count (length side.message) - (side.acknowledged + 1 + 1)) =
    omega (arith, more) in
    ap (λ n. drop n (message_parts side.id side.message)) here
    ∙ (parts-from side.message more
    ∙ ap (λ n. part_at side.id side.message (side.acknowledged + 1) ∷ drop n (message_parts side.id side.message)) behind)

pub unsaid-first : (side : Side) → side.acknowledged ≡ 0 → message_parts side.id side.message ≡ part_at side.id side.message 0 ∷ unsaid side
unsaid-first side first_one = search rules

pub unsaid-none : (side : Side) → left side ≡ 0 → unsaid side ≡ []
unsaid-none side none =
    let len : length (message_parts side.id side.message) ≡ piece_count (length side.message) =
    length-map (pieces side.id (length side.message)) (λ piece. let it : Part = record { key = piece.key; bytes = (fragment_of side.message piece).bytes } in
    it) ∙ length-map-range_with_len (piece_of side.id (length side.message)) 0 (piece_count (length side.message)) in
    drop_of_length-le (message_parts side.id side.message) (omega (arith, len, none))

-- one part more in front of the rest
pub said-one : (part : Part) (said rest : List Part) → reverse (part ∷ said) ++ rest ≡ reverse said ++ part ∷ rest
said-one part said rest = grind (arith, common_steps)

parts-more : (start : ℕ) (messages : List (List ℕ)) (message : List ℕ)
    → session_parts start (messages ++ message ∷ []) ≡ session_parts start messages ++ message_parts (session_id (start + length messages)) message
parts-more start [] message = let same : start ≡ start + 0 =
    omega arith in append-nil (message_parts (session_id start) message) ∙ ap (λ n. message_parts (session_id n) message) same
parts-more start (first ∷ later) message =
    let same : start + 1 + length later ≡ start + suc (length later) = omega arith in
    ap (λ parts. message_parts (session_id start) first ++ parts)
    (parts-more (start + 1) later message ∙ ap (λ n. session_parts (start + 1) later ++ message_parts (session_id n) message) same)
    ∙ sym (append_assoc (message_parts (session_id start) first) (session_parts (start + 1) later)
    (message_parts (session_id (start + suc (length later))) message))

pub parts-say : (X : End) (message : List ℕ) (talk : Talk)
    → session_parts 0 (messages_of X (say X message talk)) ≡ session_parts 0 (messages_of X talk) ++ message_parts (session_id (count_messages X talk)) message
parts-say Handheld message talk = parts-more 0 talk.handheld message
    ∙ (let same : 0 + length talk.handheld ≡ length talk.handheld = omega arith in
    ap (λ n. session_parts 0 talk.handheld ++ message_parts (session_id n) message) same)
parts-say Desktop message talk = parts-more 0 talk.desktop message
    ∙ (let same : 0 + length talk.desktop ≡ length talk.desktop = omega arith in
    ap (λ n. session_parts 0 talk.desktop ++ message_parts (session_id n) message) same)
