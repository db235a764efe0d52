-- The first parts of an end's messages may be said one after the other, and the first message is a greeting exactly where it may be.
use Rattle.std.proofs.Common.{◌≡◌, ℕ, zero, suc, ◌+◌, ◌-◌, ◌*◌, ◌<◌, ◌≤◌, min, List, [], ◌∷◌, ◌++◌, length, drop, map, replicate, refl, sym, ap, subst, ◌∙◌, arith, inl, inr}
use Rattle.std.specs.List.{range_with_len}
use Rattle.std.proofs.lemmas.Bool.{cases_lt}
use Rattle.std.proofs.lemmas.List.{append-nil, length-append, length-take, length-drop, length-replicate}
use Rattle.cmp_hello.specs.declared.hello.HelloKind.{HelloKind}
use Rattle.padp_link.specs.Neighbours.{session_id}
use Rattle.padp_link.specs.Pieces.{piece_count}
use Rattle.trace_text.specs.Parts.{Part, session_parts}
use Rattle.line_laws.specs.Talking.{part_at}
use Rattle.trace_check.specs.Messages.{filled, parts_behind, messages_from, messages_in, wholes_from, wholes_in, IfFirst, IsGreeting}
use Rattle.trace_check.specs.Standings.{start, IsPiece, GoesOnBy, GreetsBy, next, MaySayAll}
use Rattle.trace_check.specs.declared.standing.Standing.{Standing}
use Rattle.trace_check.proofs.FilledLaws.{message_parts-firsts, wholes-few}

-- ---- going on and greeting, each by itself

abbrev GoOn : Standing → List Part → Type 0
GoOn old [] = Unit {0}
GoOn old (part ∷ later) = GoesOnBy old.wanted old part × GoOn (next old part) later

abbrev Greet : HelloKind → Standing → List Part → Type 0
Greet kind old [] = Unit {0}
Greet kind old (part ∷ later) = GreetsBy kind old.begun old.wanted part × Greet kind (next old part) later

say-both : (kind : HelloKind) (old : Standing) (parts : List Part) → GoOn old parts → Greet kind old parts → MaySayAll kind old parts
say-both kind old [] go greet = tt
say-both kind old (part ∷ later) go greet =
    (record { goes_on = go.0; greets = greet.0 }, say-both kind (next old part) later go.1 greet.1)

say-greets : (kind : HelloKind) (old : Standing) (parts : List Part) → MaySayAll kind old parts → Greet kind old parts
say-greets kind old [] all = tt
say-greets kind old (part ∷ later) all = (all.0.greets, say-greets kind (next old part) later all.1)

-- ---- the first parts of messages go on

piece-part : (id : ℕ) (message : List ℕ) (number : ℕ) → IsPiece id (length message) number (part_at id message number)
piece-part id message number =
    let size = min (length message - 1024 * number) 1024 in
    let short = length-take size (drop (1024 * number) message) in
    let left = length-drop (1024 * number) message in
    record { key_is = refl; count = omega (arith, short, left) }

-- a part that begins the message of this number, and what is behind it
record Begun (number : ℕ) (part : Part) (later : List Part) : Type 0 where
  message : List ℕ
  messages : List (List ℕ)
  piece : IsPiece (session_id number) part.key.size 0 part
  size_is : part.key.size ≡ length message
  is : later ≡ map (part_at (session_id number) message) (range_with_len 1 (parts_behind part)) ++ session_parts (number + 1) messages

begun-by : (number : ℕ) (part : Part) (later : List Part) (messages : List (List ℕ)) → part ∷ later ≡ session_parts number messages → Begun number part later
begun-by number part later [] is = absurd cc
begun-by number part later (message ∷ messages) is =
    let id = session_id number in
    let count : piece_count (length message) ≡ suc (piece_count (length message) - 1) = omega arith in
    let all : part ∷ later ≡ part_at id message 0 ∷ (map (part_at id message) (range_with_len 1 (piece_count (length message) - 1)) ++ session_parts (number + 1) messages) =
    is ∙ ap (λ xs. xs ++ session_parts (number + 1) messages) (message_parts-firsts id message ∙ ap (λ n. map (part_at id message) (range_with_len 0 n)) count) in
    let first : part ≡ part_at id message 0 = cc in
    let rest : later ≡ map (part_at id message) (range_with_len 1 (piece_count (length message) - 1)) ++ session_parts (number + 1) messages = cc in
    let size : part.key.size ≡ length message = ap (λ (p : Part). p.key.size) first in
    record {
      message = message;
      messages = messages;
      piece = subst (λ n. IsPiece id n 0 part) (sym size) (subst (IsPiece id (length message) 0) (sym first) (piece-part id message 0));
      size_is = size;
      is = rest ∙ ap (λ n. map (part_at id message) (range_with_len 1 (piece_count n - 1)) ++ session_parts (number + 1) messages) (sym size);
    }

goes-behind : (parts rest : List Part) (message : List ℕ) (messages : List (List ℕ)) (begun number size wanted count : ℕ) → begun ≡ suc number
    → size ≡ length message → count + wanted ≡ piece_count size
    → parts ++ rest ≡ map (part_at (session_id number) message) (range_with_len count wanted) ++ session_parts begun messages
    → GoOn (record { begun = begun; size = size; wanted = wanted }) parts
goes-behind [] rest message messages begun number size wanted count is size_is counted all = tt
goes-behind (part ∷ parts) rest message messages begun number size zero count is size_is counted all =
    let found = begun-by begun part (parts ++ rest) messages all in (
      found.piece,
      goes-behind parts rest found.message found.messages (begun + 1) begun part.key.size (parts_behind part) 1 (omega arith) found.size_is (omega arith) found.is,
    )
goes-behind (part ∷ parts) rest message messages begun number size (suc wanted) count is size_is counted all =
    let id = session_id number in
    let first : part ≡ part_at id message count = cc in
    let later : parts ++ rest ≡ map (part_at id message) (range_with_len (count + 1) wanted) ++ session_parts begun messages = cc in
    let place : piece_count size - suc wanted ≡ count = omega (arith, counted) in
    let number_is : begun - 1 ≡ number = omega arith in
    let piece = subst (IsPiece id (length message) count) (sym first) (piece-part id message count) in (
      subst (λ n. IsPiece (session_id n) size (piece_count size - suc wanted) part) (sym number_is)
          (subst (λ n. IsPiece id size n part) (sym place) (subst (λ n. IsPiece id n count part) (sym size_is) piece)),
      goes-behind parts rest message messages begun number size wanted (count + 1) is size_is (omega (arith, counted)) later,
    )

goes-first : (parts rest : List Part) (messages : List (List ℕ)) → parts ++ rest ≡ session_parts 0 messages → GoOn start parts
goes-first [] rest messages all = tt
goes-first (part ∷ parts) rest messages all =
    let found = begun-by 0 part (parts ++ rest) messages all in (
      found.piece,
      goes-behind parts rest found.message found.messages (0 + 1) 0 part.key.size (parts_behind part) 1 (omega arith) found.size_is (omega arith) found.is,
    )

-- ---- the first message

-- where it is whole, the first message is a greeting of this kind
abbrev pub Greeted : HelloKind → List Part → Type 0
Greeted kind parts = 0 < wholes_in parts → IfFirst (IsGreeting kind) (messages_in parts)

length-greeting : (kind : HelloKind) (bytes : List ℕ) → IsGreeting kind bytes → length bytes ≡ 10
length-greeting kind bytes greeting =
    let len = ap length greeting.text.is in
    let parts = length-append greeting.text.unread in
    omega (arith, len, parts, greeting.text.two)

wholes-some : (parts : List Part) (wanted : ℕ) → wanted ≤ length parts → 0 < wholes_from wanted parts
wholes-some [] zero inside = omega arith
wholes-some [] (suc wanted) inside = absurd (omega arith)
wholes-some (part ∷ parts) zero inside = omega arith
wholes-some (part ∷ parts) (suc wanted) inside = wholes-some parts wanted (omega arith)

length-filled : (size : ℕ) (bytes : List ℕ) → size ≤ length (filled size bytes)
length-filled size bytes = let len = length-append bytes (replicate (size - length bytes) 0) in let zeros = length-replicate {A = ℕ} (size - length bytes) 0 in omega (arith, len, zeros)

first-long : (P : List ℕ → Type 0) (parts : List Part) (wanted size : ℕ) (bytes : List ℕ) → IfFirst P (messages_from wanted size bytes parts)
    → (message : List ℕ) × P message × (size ≤ length message)
first-long P [] wanted size bytes first = (filled size bytes, first, length-filled size bytes)
first-long P (part ∷ parts) zero size bytes first = (filled size bytes, first, length-filled size bytes)
first-long P (part ∷ parts) (suc wanted) size bytes first = first-long P parts wanted size (bytes ++ part.bytes) first

filled-whole : (size : ℕ) (bytes : List ℕ) → length bytes ≡ size → filled size bytes ≡ bytes
filled-whole size bytes len = ap (λ n. bytes ++ replicate n 0) (let e : size - length bytes ≡ 0 = omega (arith, len) in e) ∙ append-nil bytes

-- behind the second message's beginning nothing is asked
quiet : (kind : HelloKind) (parts : List Part) (begun number size wanted : ℕ) → begun ≡ suc (suc number)
    → Greet kind (record { begun = begun; size = size; wanted = wanted }) parts
quiet kind [] begun number size wanted is = tt
quiet kind (part ∷ parts) begun number size zero is =
    (subst (λ n. GreetsBy kind n 0 part) (sym is) tt, quiet kind parts (begun + 1) (suc number) part.key.size (parts_behind part) (omega arith))
quiet kind (part ∷ parts) begun number size (suc wanted) is =
    (subst (λ n. GreetsBy kind n (suc wanted) part) (sym is) tt, quiet kind parts begun number size wanted is)

-- behind the first message, which is whole
greet-whole : (kind : HelloKind) (parts : List Part) (size : ℕ) → Greet kind (record { begun = 1; size = size; wanted = 0 }) parts
greet-whole kind [] size = tt
greet-whole kind (part ∷ parts) size = (tt, quiet kind parts 2 0 part.key.size (parts_behind part) refl)

-- where parts of it are missing, it never gets whole
greet-part : (kind : HelloKind) (parts : List Part) (size wanted : ℕ) → Greet kind (record { begun = 1; size = size; wanted = suc wanted }) parts
    → length parts ≤ wanted
greet-part kind [] size wanted greet = omega arith
greet-part kind (part ∷ parts) size zero greet = absurd greet.0
greet-part kind (part ∷ parts) size (suc wanted) greet = omega (arith, greet-part kind parts size wanted greet.1)

part-greet : (kind : HelloKind) (parts : List Part) (size wanted : ℕ) → length parts ≤ wanted
    → Greet kind (record { begun = 1; size = size; wanted = suc wanted }) parts
part-greet kind [] size wanted few = tt
part-greet kind (part ∷ parts) size zero few = absurd (omega arith)
part-greet kind (part ∷ parts) size (suc wanted) few = (tt, part-greet kind parts size wanted (omega arith))

greet-by : (kind : HelloKind) (part : Part) (parts : List Part) (wanted : ℕ) → parts_behind part ≡ wanted → IsPiece (session_id 0) part.key.size 0 part
    → (0 < wholes_from wanted parts → IfFirst (IsGreeting kind) (messages_from wanted part.key.size part.bytes parts))
    → (parts_behind part ≡ 0 → IsGreeting kind part.bytes) × Greet kind (record { begun = 1; size = part.key.size; wanted = wanted }) parts
greet-by kind part parts zero is piece greeted =
    let whole : filled part.key.size part.bytes ≡ part.bytes = filled-whole part.key.size part.bytes (omega (arith, piece.count, is)) in
    (λ _. subst (IsGreeting kind) whole (first_is parts (greeted (wholes-some parts 0 (omega arith)))), greet-whole kind parts part.key.size)
  where
    first_is : (parts : List Part) → IfFirst (IsGreeting kind) (messages_from 0 part.key.size part.bytes parts) → IsGreeting kind (filled part.key.size part.bytes)
    first_is [] first = first
    first_is (next ∷ parts) first = first
greet-by kind part parts (suc wanted) is piece greeted = elim (cases_lt wanted (length parts)) [
  | inl many ↦
      let long = first-long (IsGreeting kind) parts (suc wanted) part.key.size part.bytes (greeted (wholes-some parts (suc wanted) (omega (arith, many)))) in
      let ten = length-greeting kind long.0 long.1 in
      absurd (omega (arith, ten, long.2, is))
  | inr few ↦ (λ none. absurd (omega (arith, is, none)), part-greet kind parts part.key.size wanted (omega (arith, few)))
]

by-greet : (kind : HelloKind) (part : Part) (parts : List Part) (wanted : ℕ) → parts_behind part ≡ wanted → IsPiece (session_id 0) part.key.size 0 part
    → (parts_behind part ≡ 0 → IsGreeting kind part.bytes) → Greet kind (record { begun = 1; size = part.key.size; wanted = wanted }) parts
    → 0 < wholes_from wanted parts → IfFirst (IsGreeting kind) (messages_from wanted part.key.size part.bytes parts)
by-greet kind part parts zero is piece greets greet some =
    let whole : filled part.key.size part.bytes ≡ part.bytes = filled-whole part.key.size part.bytes (omega (arith, piece.count, is)) in
    first_is parts (subst (IsGreeting kind) (sym whole) (greets is))
  where
    first_is : (parts : List Part) → IsGreeting kind (filled part.key.size part.bytes) → IfFirst (IsGreeting kind) (messages_from 0 part.key.size part.bytes parts)
    first_is [] first = first
    first_is (next ∷ parts) first = first
by-greet kind part parts (suc wanted) is piece greets greet some =
    let few = greet-part kind parts part.key.size wanted greet in
    absurd (omega (arith, some, wholes-few parts (suc wanted) (omega (arith, few))))

-- ---- both

-- the first parts of messages of which the first one greets may be said
pub first-said : (kind : HelloKind) (parts rest : List Part) (messages : List (List ℕ)) → parts ++ rest ≡ session_parts 0 messages → Greeted kind parts
    → MaySayAll kind start parts
first-said kind [] rest messages all greeted = tt
first-said kind (part ∷ parts) rest messages all greeted =
    let go = goes-first (part ∷ parts) rest messages all in
    let greet = greet-by kind part parts (parts_behind part) refl go.0 greeted in
    say-both kind start (part ∷ parts) go greet

-- where parts may be said, the first message greets
pub said-greets : (kind : HelloKind) (parts : List Part) → MaySayAll kind start parts → Greeted kind parts
said-greets kind [] all some = tt
said-greets kind (part ∷ parts) all some =
    by-greet kind part parts (parts_behind part) refl all.0.goes_on all.0.greets (say-greets kind start (part ∷ parts) all).1 some
