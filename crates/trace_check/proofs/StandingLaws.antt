-- Parts that may be said one after the other are the first parts of an end's messages, and the first message a greeting.
use Rattle.std.proofs.Common.{◌≡◌, ℕ, zero, suc, ◌+◌, ◌-◌, ◌*◌, ◌<◌, ◌≤◌, min, List, [], ◌∷◌, ◌++◌, length, take, drop, replicate, refl, sym, ap, subst, ◌∙◌, append_assoc, zero-add, arith}
use Rattle.std.proofs.lemmas.List.{append-nil, length-append, length-replicate, take-append-drop, take_at, drop_at}
use Rattle.std.proofs.lemmas.List.FromFn.{take-map-range_with_len, map-range_with_len_more}
use Rattle.cmp_hello.specs.declared.hello.HelloKind.{HelloKind}
use Rattle.padp_link.proofs.PieceLaws.{count_inside}
use Rattle.padp_link.specs.Neighbours.{session_id}
use Rattle.padp_link.specs.Pieces.{piece_count}
use Rattle.trace_text.specs.Parts.{Part, session_parts, message_parts}
use Rattle.line_laws.specs.Talking.{part_at}
use Rattle.trace_check.specs.Messages.{parts_behind, messages_in, wholes_from, wholes_in}
use Rattle.trace_check.specs.Standings.{start, IsPiece, MaySay, next, standing_behind, MaySayAll, wholes_at}
use Rattle.trace_check.specs.declared.standing.Standing.{Standing}
use Rattle.trace_check.proofs.FilledLaws.{firsts, message_parts-firsts, heard}

-- ---- how many are whole

wholes-by : (parts : List Part) (begun size wanted number : ℕ) → begun ≡ suc number
    → wholes_from wanted parts + number ≡ wholes_at (standing_behind (record { begun = begun; size = size; wanted = wanted }) parts)
wholes-by [] begun size zero number is = omega arith
wholes-by [] begun size (suc wanted) number is = omega arith
wholes-by (part ∷ later) begun size zero number is =
    let rest = wholes-by later (begun + 1) part.key.size (parts_behind part) (suc number) (omega arith) in
    omega (arith, rest)
wholes-by (part ∷ later) begun size (suc wanted) number is = wholes-by later begun size wanted number is

-- the whole messages are counted by where the end stands
pub wholes_in-standing : (parts : List Part) → wholes_in parts ≡ wholes_at (standing_behind start parts)
wholes_in-standing [] = refl
wholes_in-standing (part ∷ later) =
    let rest = wholes-by later (0 + 1) part.key.size (parts_behind part) 0 (omega arith) in
    omega (arith, rest)

-- ---- one part more

pub standing_behind-push : (old : Standing) (parts : List Part) (part : Part)
    → standing_behind old (parts ++ part ∷ []) ≡ next (standing_behind old parts) part
standing_behind-push old [] part = refl
standing_behind-push old (first ∷ parts) part = standing_behind-push (next old first) parts part

pub MaySayAll-push : (kind : HelloKind) (old : Standing) (parts : List Part) (part : Part) → MaySayAll kind old parts
    → MaySay kind (standing_behind old parts) part → MaySayAll kind old (parts ++ part ∷ [])
MaySayAll-push kind old [] part all may = (may, tt)
MaySayAll-push kind old (first ∷ parts) part all may = (all.0, MaySayAll-push kind (next old first) parts part all.1 may)

pub MaySayAll-front : (kind : HelloKind) (old : Standing) (parts more : List Part) → MaySayAll kind old (parts ++ more) → MaySayAll kind old parts
MaySayAll-front kind old [] more all = tt
MaySayAll-front kind old (first ∷ parts) more all = (all.0, MaySayAll-front kind (next old first) parts more all.1)

pub MaySayAll-last : (kind : HelloKind) (old : Standing) (parts : List Part) (part : Part) → MaySayAll kind old (parts ++ part ∷ [])
    → MaySay kind (standing_behind old parts) part
MaySayAll-last kind old [] part all = all.0
MaySayAll-last kind old (first ∷ parts) part all = MaySayAll-last kind (next old first) parts part all.1

-- ---- parts that may be said are the first ones of messages

-- the parts behind the first ones of a message of this size, which begins with these bytes, go on so
pub record Continued (number size count : ℕ) (bytes : List ℕ) (parts : List Part) : Type 0 where
  pub message : List ℕ
  pub size_is : length message ≡ size
  pub more : List ℕ
  pub begins : message ≡ bytes ++ more
  pub later : List (List ℕ)
  pub rest : List Part
  pub is : firsts (session_id number) message count ++ (parts ++ rest) ≡ session_parts number (message ∷ later)

-- the parts so far and those behind them are all of the message's
firsts-all : (number : ℕ) (message : List ℕ) (count : ℕ) → count ≤ piece_count (length message)
    → firsts (session_id number) message count ++ drop count (message_parts (session_id number) message) ≡ message_parts (session_id number) message
firsts-all number message count inside =
    let id = session_id number in
    let all = firsts id message (piece_count (length message)) in
    let front : take count all ≡ firsts id message count = take-map-range_with_len (part_at id message) 0 (piece_count (length message)) count inside in
    let whole = message_parts-firsts id message in
    ap (λ xs. firsts id message count ++ drop count xs) whole ∙ (ap (λ xs. xs ++ drop count all) (sym front) ∙ (take-append-drop count all ∙ sym whole))

continued-none : (number size count : ℕ) (bytes : List ℕ) → count ≤ piece_count size → length bytes ≤ size → Continued number size count bytes []
continued-none number size count bytes inside few =
    let zeros = replicate (size - length bytes) 0 in
    let len : length (bytes ++ zeros) ≡ size = length-append bytes zeros ∙ (ap (λ n. length bytes + n) (length-replicate (size - length bytes) 0) ∙ omega (arith, few)) in
    record {
      message = bytes ++ zeros;
      size_is = len;
      more = zeros;
      begins = refl;
      later = [];
      rest = drop count (message_parts (session_id number) (bytes ++ zeros));
      is = firsts-all number (bytes ++ zeros) count (omega (arith, len, inside)) ∙ sym (append-nil (message_parts (session_id number) (bytes ++ zeros)));
    }

-- the part of this number is the piece with these bytes
part-is : (id number : ℕ) (message bytes more : List ℕ) (part : Part) → IsPiece id (length message) number part → length bytes ≡ 1024 * number
    → message ≡ (bytes ++ part.bytes) ++ more → part_at id message number ≡ part
part-is id number message bytes more part piece len begins =
    let front : drop (1024 * number) message ≡ part.bytes ++ more =
    ap (drop (1024 * number)) (begins ∙ append_assoc bytes part.bytes more) ∙ drop_at bytes (part.bytes ++ more) (1024 * number) len in
    let bytes_are : take (min (length message - 1024 * number) 1024) (drop (1024 * number) message) ≡ part.bytes =
    ap (take (min (length message - 1024 * number) 1024)) front ∙ take_at part.bytes more (min (length message - 1024 * number) 1024) piece.count in
    ap (λ k. record { key = k; bytes = take (min (length message - 1024 * number) 1024) (drop (1024 * number) message) }) (sym piece.key_is)
    ∙ ap (λ bs. record { key = part.key; bytes = bs }) bytes_are

firsts-push : (id : ℕ) (message : List ℕ) (count : ℕ) → firsts id message (count + 1) ≡ firsts id message count ++ part_at id message count ∷ []
firsts-push id message count = map-range_with_len_more (part_at id message) 0 count count (zero-add count)

-- the first part of the next message is said where the one before it is whole
continued-next : (number size : ℕ) (bytes : List ℕ) (part : Part) (later : List Part) → IsPiece (session_id (suc number)) part.key.size 0 part
    → length bytes ≡ size → Continued (suc number) part.key.size 1 part.bytes later → Continued number size (piece_count size) bytes (part ∷ later)
continued-next number size bytes part later piece len next =
    let first : part_at (session_id (suc number)) next.message 0 ≡ part =
    part-is (session_id (suc number)) 0 next.message [] next.more part (subst (λ n. IsPiece (session_id (suc number)) n 0 part) (sym next.size_is) piece) refl next.begins in
    let count : piece_count size ≡ piece_count (length bytes) = ap piece_count (sym len) in
    let number_is : suc number ≡ number + 1 = omega arith in
    record {
      message = bytes;
      size_is = len;
      more = [];
      begins = sym (append-nil bytes);
      later = next.message ∷ next.later;
      rest = next.rest;
      is = ap (λ n. firsts (session_id number) bytes n ++ (part ∷ later ++ next.rest)) count
          ∙ (ap (λ xs. xs ++ (part ∷ later ++ next.rest)) (sym (message_parts-firsts (session_id number) bytes))
          ∙ ap (λ xs. message_parts (session_id number) bytes ++ xs)
          (ap (λ x. x ∷ later ++ next.rest) (sym first) ∙ (next.is ∙ ap (λ n. session_parts n (next.message ∷ next.later)) number_is)));
    }

-- the next part of a message is said
continued-more : (number size count : ℕ) (bytes : List ℕ) (part : Part) (later : List Part) → IsPiece (session_id number) size count part
    → length bytes ≡ 1024 * count → Continued number size (count + 1) (bytes ++ part.bytes) later → Continued number size count bytes (part ∷ later)
continued-more number size count bytes part later piece len next =
    let id = session_id number in
    let here : part_at id next.message count ≡ part =
    part-is id count next.message bytes next.more part (subst (λ n. IsPiece id n count part) (sym next.size_is) piece) len next.begins in
    record {
      message = next.message;
      size_is = next.size_is;
      more = part.bytes ++ next.more;
      begins = next.begins ∙ append_assoc bytes part.bytes next.more;
      later = next.later;
      rest = next.rest;
      is = ap (λ x. firsts id next.message count ++ (x ∷ later ++ next.rest)) (sym here)
          ∙ (sym (append_assoc (firsts id next.message count) (part_at id next.message count ∷ []) (later ++ next.rest))
          ∙ (ap (λ xs. xs ++ (later ++ next.rest)) (sym (firsts-push id next.message count)) ∙ next.is));
    }

continued : (kind : HelloKind) (parts : List Part) (begun number size wanted : ℕ) (bytes : List ℕ) → begun ≡ suc number
    → MaySayAll kind (record { begun = begun; size = size; wanted = wanted }) parts → wanted < piece_count size
    → length bytes ≡ min (1024 * (piece_count size - wanted)) size → Continued number size (piece_count size - wanted) bytes parts
continued kind [] begun number size wanted bytes is all few len = continued-none number size (piece_count size - wanted) bytes (omega arith) (omega arith)
continued kind (part ∷ later) begun number size zero bytes is all few len =
    let piece = all.0.goes_on in
    let one : piece_count part.key.size - parts_behind part ≡ 1 = omega arith in
    let short : length part.bytes ≡ min (1024 * (piece_count part.key.size - parts_behind part)) part.key.size = omega (arith, one, piece.count) in
    let next = continued kind later (begun + 1) (suc number) part.key.size (parts_behind part) part.bytes (omega arith) all.1 (omega arith) short in
    let whole : piece_count size - 0 ≡ piece_count size = omega arith in
    subst (λ n. Continued number size n bytes (part ∷ later)) (sym whole)
    (continued-next number size bytes part later (subst (λ n. IsPiece (session_id n) part.key.size 0 part) is piece) (omega (arith, len))
    (subst (λ n. Continued (suc number) part.key.size n part.bytes later) one next))
continued kind (part ∷ later) begun number size (suc wanted) bytes is all few len =
    let count = piece_count size - suc wanted in
    let number_is : begun - 1 ≡ number = omega arith in
    let piece : IsPiece (session_id number) size count part = subst (λ n. IsPiece (session_id n) size count part) number_is all.0.goes_on in
    let some : 0 < count = omega (arith, few) in
    let inside = count_inside size count some (omega (arith, few)) in
    let full : length bytes ≡ 1024 * count = omega (arith, len, inside) in
    let one : piece_count size - wanted ≡ count + 1 = omega (arith, few) in
    let long : length (bytes ++ part.bytes) ≡ min (1024 * (count + 1)) size =
    length-append bytes part.bytes ∙ omega (arith, full, piece.count, inside) in
    continued-more number size count bytes part later piece full
    (subst (λ n. Continued number size n (bytes ++ part.bytes) later) one
    (continued kind later begun number size wanted (bytes ++ part.bytes) is all.1 (omega (arith, few))
    (long ∙ ap (λ n. min (1024 * n) size) (sym one))))

-- parts that may be said from the start on are the first ones of the messages that they say
pub said-first : (kind : HelloKind) (parts : List Part) → MaySayAll kind start parts → (rest : List Part) × (parts ++ rest ≡ session_parts 0 (messages_in parts))
said-first kind [] all = ([], refl)
said-first kind (part ∷ later) all =
    let piece = all.0.goes_on in
    let one : piece_count part.key.size - parts_behind part ≡ 1 = omega arith in
    let short : length part.bytes ≡ min (1024 * (piece_count part.key.size - parts_behind part)) part.key.size = omega (arith, one, piece.count) in
    let next = subst (λ n. Continued 0 part.key.size n part.bytes later) one
    (continued kind later (0 + 1) 0 part.key.size (parts_behind part) part.bytes (omega arith) all.1 (omega arith) short) in
    let first : part_at (session_id 0) next.message 0 ≡ part =
    part-is (session_id 0) 0 next.message [] next.more part (subst (λ n. IsPiece (session_id 0) n 0 part) (sym next.size_is) piece) refl next.begins in
    let found = heard 0 (next.message ∷ next.later) (part ∷ later) next.rest (ap (λ x. x ∷ later ++ next.rest) (sym first) ∙ next.is) in
    (found.rest, found.is)
