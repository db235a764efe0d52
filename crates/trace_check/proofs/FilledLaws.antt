-- The messages of parts that begin those of a session: each is the session's, and the last one, where parts are missing, has its length and its first parts.
use Rattle.std.proofs.Common.{◌≡◌, ◌⊎◌, ℕ, zero, suc, ◌+◌, ◌-◌, ◌*◌, ◌<◌, ◌≤◌, min, List, [], ◌∷◌, ◌++◌, length, take, drop, map, replicate, refl, sym, ap, subst, ◌∙◌, append_assoc, arith, inl, inr}
use Rattle.std.proofs.lemmas.Bool.{cases_lt}
use Rattle.std.proofs.lemmas.List.{append-nil, length-append, length-take, length-replicate, take-append-drop, take-append-le, take_all, length-drop}
use Rattle.std.specs.List.{range_with_len, flat_map}
use Rattle.std.proofs.lemmas.List.FromFn.{length-map-range_with_len, take-map-range_with_len}
use Rattle.padp_link.specs.Pieces.{piece_count, piece_of, fragment_of}
use Rattle.padp_link.specs.Receivers.{bytes_of}
use Rattle.padp_link.specs.Neighbours.{session_id}
use Rattle.padp_link.proofs.PieceLaws.{bytes_of-taken}
use Rattle.trace_text.specs.Parts.{Part, message_parts, session_parts}
use Rattle.trace_text.specs.Talks.{pieces_before}
use Rattle.line_laws.specs.Talking.{part_at}
use Rattle.trace_check.specs.Messages.{filled, messages_from, messages_in, wholes_from, wholes_in, IfFirst}

-- ---- the first parts of a message

abbrev pub firsts : ℕ → List ℕ → ℕ → List Part
firsts id message count = map (part_at id message) (range_with_len 0 count)

parts_on : (id : ℕ) (message : List ℕ) (numbers : List ℕ)
    → map (λ piece. record { key = piece.key; bytes = (fragment_of message piece).bytes }) (map (piece_of id (length message)) numbers)
    ≡ map (part_at id message) numbers
parts_on id message [] = refl
parts_on id message (number ∷ numbers) = ap (λ xs. part_at id message number ∷ xs) (parts_on id message numbers)

pub message_parts-firsts : (id : ℕ) (message : List ℕ) → message_parts id message ≡ firsts id message (piece_count (length message))
message_parts-firsts id message = parts_on id message (range_with_len 0 (piece_count (length message)))

abbrev part_bytes : List Part → List ℕ
part_bytes parts = flat_map (λ part. part.bytes) parts

bytes_on : (id : ℕ) (message : List ℕ) (numbers : List ℕ)
    → part_bytes (map (part_at id message) numbers) ≡ bytes_of (map (λ number. fragment_of message (piece_of 0 (length message) number)) numbers)
bytes_on id message [] = refl
bytes_on id message (number ∷ numbers) = ap (λ xs. (part_at id message number).bytes ++ xs) (bytes_on id message numbers)

firsts-bytes : (id : ℕ) (message : List ℕ) (count : ℕ) → part_bytes (firsts id message count) ≡ take (1024 * count) message
firsts-bytes id message count = bytes_on id message (range_with_len 0 count) ∙ bytes_of-taken (length message) count message (omega arith)

-- ---- filled with zeros

-- the message as far as its first parts say it
abbrev pub said_of : List ℕ → ℕ → List ℕ
said_of message count = filled (length message) (take (1024 * count) message)

length-said_of : (message : List ℕ) (count : ℕ) → length (said_of message count) ≡ length message
length-said_of message count =
    let front : length (take (1024 * count) message) ≡ min (1024 * count) (length message) = length-take (1024 * count) message in
    length-append (take (1024 * count) message) (replicate (length message - length (take (1024 * count) message)) 0)
    ∙ (ap (λ n. length (take (1024 * count) message) + n) (length-replicate (length message - length (take (1024 * count) message)) 0) ∙ omega (arith, front))

said_of-all : (message : List ℕ) (count : ℕ) → length message ≤ 1024 * count → said_of message count ≡ message
said_of-all message count all =
    let whole : take (1024 * count) message ≡ message = take_all _ _ all in
    let none : length message - length message ≡ 0 = omega arith in
    ap (λ xs. filled (length message) xs) whole ∙ (ap (λ n. message ++ replicate n 0) none ∙ append-nil message)

drop-front : (place : ℕ) (xs ys : List ℕ) → place ≤ length xs → drop place (xs ++ ys) ≡ drop place xs ++ ys
drop-front zero xs ys inside = refl
drop-front (suc place) [] ys inside = absurd (omega arith)
drop-front (suc place) (x ∷ xs) ys inside = drop-front place xs ys (omega arith)

part-front : (place count : ℕ) (xs ys : List ℕ) → place + count ≤ length xs → take count (drop place (xs ++ ys)) ≡ take count (drop place xs)
part-front place count xs ys inside =
    ap (take count) (drop-front place xs ys (omega (arith, inside)))
    ∙ take-append-le count (drop place xs) ys (let len = length-drop place xs in omega (arith, len, inside))

said_part : (message : List ℕ) (count number : ℕ) → number < count
    → take (min (length message - 1024 * number) 1024) (drop (1024 * number) (said_of message count))
    ≡ take (min (length message - 1024 * number) 1024) (drop (1024 * number) message)
said_part message count number below = elim (cases_lt (1024 * count) (length message)) [
  | inl inside ↦
      let size = min (length message - 1024 * number) 1024 in
      let front = take (1024 * count) message in
      let len : length front ≡ min (1024 * count) (length message) = length-take (1024 * count) message in
      let fits : 1024 * number + size ≤ length front = omega (arith, len, inside, below) in
      part-front (1024 * number) size front (replicate (length message - length front) 0) fits
      ∙ (sym (part-front (1024 * number) size front (drop (1024 * count) message) fits)
      ∙ ap (λ xs. take size (drop (1024 * number) xs)) (take-append-drop (1024 * count) message))
  | inr all ↦ ap (λ xs. take (min (length message - 1024 * number) 1024) (drop (1024 * number) xs)) (said_of-all message count (omega (arith, all)))
]

said_of-part : (id : ℕ) (message : List ℕ) (count number : ℕ) → number < count → part_at id (said_of message count) number ≡ part_at id message number
said_of-part id message count number below =
    let len = length-said_of message count in
    ap (λ n. record {
      key = (piece_of id n number).key;
      bytes = take (min (n - 1024 * number) 1024) (drop (1024 * number) (said_of message count));
    }) len
    ∙ ap (λ xs. record { key = (piece_of id (length message) number).key; bytes = xs }) (said_part message count number below)

same_on : (f g : ℕ → Part) (from count : ℕ) → ((k : ℕ) → k < from + count → f k ≡ g k) → map f (range_with_len from count) ≡ map g (range_with_len from count)
same_on f g from zero same = refl
same_on f g from (suc count) same =
    let first : f from ≡ g from = same from (omega arith) in
    let rest = same_on f g (from + 1) count (λ k below. same k (omega arith)) in
    ap (λ x. x ∷ map f (range_with_len (from + 1) count)) first ∙ ap (λ xs. g from ∷ xs) rest

firsts-said_of : (id : ℕ) (message : List ℕ) (count : ℕ) → firsts id (said_of message count) count ≡ firsts id message count
firsts-said_of id message count =
    same_on (part_at id (said_of message count)) (part_at id message) 0 count (λ k below. said_of-part id message count k (omega (arith, below)))

-- ---- messages of parts

from-whole : (parts later : List Part) (wanted size : ℕ) (bytes : List ℕ) → length parts ≡ wanted
    → messages_from wanted size bytes (parts ++ later) ≡ filled size (bytes ++ part_bytes parts) ∷ messages_in later
from-whole [] [] zero size bytes counted = ap (λ xs. filled size xs ∷ []) (sym (append-nil bytes))
from-whole [] (part ∷ later) zero size bytes counted = ap (λ xs. filled size xs ∷ messages_in (part ∷ later)) (sym (append-nil bytes))
from-whole [] later (suc wanted) size bytes counted = absurd (omega arith)
from-whole (part ∷ parts) later zero size bytes counted = absurd (omega arith)
from-whole (part ∷ parts) later (suc wanted) size bytes counted =
    from-whole parts later wanted size (bytes ++ part.bytes) (omega arith)
    ∙ ap (λ xs. filled size xs ∷ messages_in later) (append_assoc bytes part.bytes (part_bytes parts))

from-part : (parts : List Part) (wanted size : ℕ) (bytes : List ℕ) → length parts < wanted
    → messages_from wanted size bytes parts ≡ filled size (bytes ++ part_bytes parts) ∷ []
from-part [] zero size bytes few = absurd (omega arith)
from-part [] (suc wanted) size bytes few = ap (λ xs. filled size xs ∷ []) (sym (append-nil bytes))
from-part (part ∷ parts) zero size bytes few = absurd (omega arith)
from-part (part ∷ parts) (suc wanted) size bytes few =
    from-part parts wanted size (bytes ++ part.bytes) (omega arith)
    ∙ ap (λ xs. filled size xs ∷ []) (append_assoc bytes part.bytes (part_bytes parts))

in-whole : (id : ℕ) (message : List ℕ) (behind : ℕ) (later : List Part) → piece_count (length message) ≡ suc behind
    → messages_in (firsts id message (suc behind) ++ later) ≡ message ∷ messages_in later
in-whole id message behind later counted =
    let rest = map (part_at id message) (range_with_len 1 behind) in
    let wanted : piece_count (length message) - 1 ≡ behind = omega (arith, counted) in
    let all : length message ≤ 1024 * suc behind = omega (arith, counted) in
    from-whole rest later (piece_count (length message) - 1) (length message) (part_at id message 0).bytes
    (length-map-range_with_len (part_at id message) 1 behind ∙ sym wanted)
    ∙ ap (λ xs. xs ∷ messages_in later) (ap (filled (length message)) (firsts-bytes id message (suc behind)) ∙ said_of-all message (suc behind) all)

in-part : (id : ℕ) (message : List ℕ) (behind : ℕ) → suc behind < piece_count (length message)
    → messages_in (firsts id message (suc behind)) ≡ said_of message (suc behind) ∷ []
in-part id message behind few =
    let rest = map (part_at id message) (range_with_len 1 behind) in
    let len = length-map-range_with_len (part_at id message) 1 behind in
    from-part rest (piece_count (length message) - 1) (length message) (part_at id message 0).bytes (omega (arith, len, few))
    ∙ ap (λ xs. xs ∷ []) (ap (filled (length message)) (firsts-bytes id message (suc behind)))

-- ---- the session's messages

-- other messages are as many as were begun of these, and have their lengths
pub record Agrees (messages others : List (List ℕ)) (said : ℕ) : Type 0 where
  pub few : length others ≤ length messages
  pub stays : (k : ℕ) → k ≤ length others → pieces_before others k ≡ pieces_before messages k
  pub begun : (k : ℕ) → k < length messages → pieces_before messages k < said → k < length others

pub record Heard (number : ℕ) (messages : List (List ℕ)) (parts : List Part) : Type 0 where
  pub rest : List Part
  pub is : parts ++ rest ≡ session_parts number (messages_in parts)
  pub agrees : Agrees messages (messages_in parts) (length parts)

heard-none : (number : ℕ) (messages : List (List ℕ)) → Heard number messages []
heard-none number messages = record {
  rest = [];
  is = refl;
  agrees = record { few = omega arith; stays = none; begun = λ k less some. absurd (omega (arith, some)) };
}
  where
    none : (k : ℕ) → k ≤ 0 → pieces_before [] k ≡ pieces_before messages k
    none zero inside = refl
    none (suc k) inside = absurd (omega arith)

heard-part : (number : ℕ) (message : List ℕ) (later : List (List ℕ)) (behind : ℕ) → suc behind < piece_count (length message)
    → Heard number (message ∷ later) (firsts (session_id number) message (suc behind))
heard-part number message later behind few =
    let id = session_id number in
    let said = said_of message (suc behind) in
    let len : length said ≡ length message = length-said_of message (suc behind) in
    let told : messages_in (firsts id message (suc behind)) ≡ said ∷ [] = in-part id message behind few in
    let count = piece_count (length said) in
    let inside : suc behind ≤ count = omega (arith, len, few) in
    let front : take (suc behind) (firsts id said count) ≡ firsts id message (suc behind) =
    take-map-range_with_len (part_at id said) 0 count (suc behind) inside ∙ firsts-said_of id message (suc behind) in
    record {
      rest = drop (suc behind) (firsts id said count);
      is = ap (λ xs. xs ++ drop (suc behind) (firsts id said count)) (sym front)
          ∙ (take-append-drop (suc behind) (firsts id said count)
          ∙ (sym (message_parts-firsts id said) ∙ (sym (append-nil (message_parts id said)) ∙ ap (session_parts number) (sym told))));
      agrees = subst (λ others. Agrees (message ∷ later) others (length (firsts id message (suc behind)))) (sym told)
          (agrees_one said len (length-map-range_with_len (part_at id message) 0 (suc behind)));
    }
  where
    agrees_one : (said : List ℕ) → length said ≡ length message → {count : ℕ} → count ≡ suc behind → Agrees (message ∷ later) (said ∷ []) count
    agrees_one said len {count} counted = record { few = omega arith; stays = stays; begun = begun }
      where
        stays : (k : ℕ) → k ≤ 1 → pieces_before (said ∷ []) k ≡ pieces_before (message ∷ later) k
        stays zero inside = refl
        stays (suc zero) inside = ap (λ n. piece_count n + 0) len
        stays (suc (suc k)) inside = absurd (omega arith)

        begun : (k : ℕ) → k < length (message ∷ later) → pieces_before (message ∷ later) k < count → k < 1
        begun zero less some = omega arith
        begun (suc k) less some = absurd (omega (arith, some, counted, few))

heard-whole : (number : ℕ) (message : List ℕ) (later : List (List ℕ)) (behind : ℕ) (parts : List Part) → piece_count (length message) ≡ suc behind
    → Heard (number + 1) later parts → Heard number (message ∷ later) (firsts (session_id number) message (suc behind) ++ parts)
heard-whole number message later behind parts counted heard =
    let id = session_id number in
    let told : messages_in (firsts id message (suc behind) ++ parts) ≡ message ∷ messages_in parts = in-whole id message behind parts counted in
    let whole : message_parts id message ≡ firsts id message (suc behind) =
    message_parts-firsts id message ∙ ap (firsts id message) counted in
    record {
      rest = heard.rest;
      is = append_assoc (firsts id message (suc behind)) parts heard.rest
          ∙ (ap (λ xs. firsts id message (suc behind) ++ xs) heard.is
          ∙ (ap (λ xs. xs ++ session_parts (number + 1) (messages_in parts)) (sym whole) ∙ ap (session_parts number) (sym told)));
      agrees = subst (λ others. Agrees (message ∷ later) others (length (firsts id message (suc behind) ++ parts))) (sym told)
          (more (messages_in parts) heard.agrees
          (length-append (firsts id message (suc behind)) parts ∙ ap (λ n. n + length parts) (length-map-range_with_len (part_at id message) 0 (suc behind))));
    }
  where
    more : (others : List (List ℕ)) → Agrees later others (length parts) → {count : ℕ} → count ≡ suc behind + length parts
        → Agrees (message ∷ later) (message ∷ others) count
    more others agrees {count} is = record { few = omega (arith, agrees.few); stays = stays; begun = begun }
      where
        stays : (k : ℕ) → k ≤ length (message ∷ others) → pieces_before (message ∷ others) k ≡ pieces_before (message ∷ later) k
        stays zero inside = refl
        stays (suc k) inside = ap (λ n. piece_count (length message) + n) (agrees.stays k (omega arith))

        begun : (k : ℕ) → k < length (message ∷ later) → pieces_before (message ∷ later) k < count → k < length (message ∷ others)
        begun zero less some = omega arith
        begun (suc k) less some = let next = agrees.begun k (omega arith) (omega (arith, some, is, counted)) in omega (arith, next)

front_is : (xs ys rest later : List Part) → xs ++ rest ≡ ys ++ later → length xs ≤ length ys → xs ≡ take (length xs) ys
front_is [] ys rest later is inside = refl
front_is (x ∷ xs) [] rest later is inside = absurd (omega arith)
front_is (x ∷ xs) (y ∷ ys) rest later is inside =
    let head : x ≡ y = cc in
    let tail : xs ++ rest ≡ ys ++ later = cc in
    ap (λ z. z ∷ xs) head ∙ ap (λ zs. y ∷ zs) (front_is xs ys rest later tail (omega arith))

behind_is : (xs ys rest later : List Part) → xs ++ rest ≡ ys ++ later → length ys ≤ length xs → (more : List Part) × (xs ≡ ys ++ more) × (more ++ rest ≡ later)
behind_is xs [] rest later is inside = (xs, refl, is)
behind_is [] (y ∷ ys) rest later is inside = absurd (omega arith)
behind_is (x ∷ xs) (y ∷ ys) rest later is inside =
    let head : x ≡ y = cc in
    let tail : xs ++ rest ≡ ys ++ later = cc in
    let found = behind_is xs ys rest later tail (omega arith) in
    (found.0, ap (λ z. z ∷ xs) head ∙ ap (λ zs. y ∷ zs) found.1, found.2)

-- parts that begin a session's begin its first message, or are all of it and go on with the next
begins : (number : ℕ) (message : List ℕ) (later : List (List ℕ)) (part : Part) (parts rest : List Part)
    → (part ∷ parts) ++ rest ≡ session_parts number (message ∷ later)
    → ((suc (length parts) < piece_count (length message)) × (part ∷ parts ≡ firsts (session_id number) message (suc (length parts))))
    ⊎ ((behind : ℕ) × (more : List Part) × (piece_count (length message) ≡ suc behind) × (part ∷ parts ≡ firsts (session_id number) message (suc behind) ++ more)
    × (more ++ rest ≡ session_parts (number + 1) later))
begins number message later part parts rest is =
    let id = session_id number in
    let count = piece_count (length message) in
    let all : (part ∷ parts) ++ rest ≡ firsts id message count ++ session_parts (number + 1) later =
    is ∙ ap (λ xs. xs ++ session_parts (number + 1) later) (message_parts-firsts id message) in
    let len : length (firsts id message count) ≡ count = length-map-range_with_len (part_at id message) 0 count in
    elim (cases_lt (length (part ∷ parts)) count) [
      | inl few ↦
          let front = front_is (part ∷ parts) (firsts id message count) rest (session_parts (number + 1) later) all (omega (arith, len, few)) in
          inl (few, front ∙ take-map-range_with_len (part_at id message) 0 count (suc (length parts)) (omega (arith, few)))
      | inr enough ↦
          let found = behind_is (part ∷ parts) (firsts id message count) rest (session_parts (number + 1) later) all (omega (arith, len, enough)) in
          let counted : count ≡ suc (count - 1) = omega arith in
          inr (count - 1, found.0, counted, found.1 ∙ ap (λ k. firsts id message k ++ found.0) counted, found.2)
    ]

pub heard : (number : ℕ) (messages : List (List ℕ)) (parts rest : List Part) → parts ++ rest ≡ session_parts number messages → Heard number messages parts
heard number messages [] rest is = heard-none number messages
heard number [] (part ∷ parts) rest is = absurd cc
heard number (message ∷ later) (part ∷ parts) rest is = elim (begins number message later part parts rest is) [
  | inl few ↦ subst (Heard number (message ∷ later)) (sym few.1) (heard-part number message later (length parts) few.0)
  | inr all ↦ subst (Heard number (message ∷ later)) (sym all.3)
      (heard-whole number message later all.0 all.1 all.2 (heard (number + 1) later all.1 rest all.4))
]

pub wholes-few : (parts : List Part) (wanted : ℕ) → length parts < wanted → wholes_from wanted parts ≡ 0
wholes-few [] zero few = absurd (omega arith)
wholes-few [] (suc wanted) few = refl
wholes-few (part ∷ parts) zero few = absurd (omega arith)
wholes-few (part ∷ parts) (suc wanted) few = wholes-few parts wanted (omega arith)

none-whole : (id : ℕ) (message : List ℕ) (behind : ℕ) → suc behind < piece_count (length message) → wholes_in (firsts id message (suc behind)) ≡ 0
none-whole id message behind few =
    let len = length-map-range_with_len (part_at id message) 1 behind in
    wholes-few (map (part_at id message) (range_with_len 1 behind)) (piece_count (length message) - 1) (omega (arith, len, few))

-- the first message, where it is whole, is the session's first one
pub first-told : (P : List ℕ → Type 0) (number : ℕ) (messages : List (List ℕ)) (parts rest : List Part) → parts ++ rest ≡ session_parts number messages
    → 0 < wholes_in parts → IfFirst P messages → IfFirst P (messages_in parts)
first-told P number messages [] rest is some first = tt
first-told P number [] (part ∷ parts) rest is some first = absurd cc
first-told P number (message ∷ later) (part ∷ parts) rest is some first = elim (begins number message later part parts rest is) [
  | inl few ↦
      let none = ap wholes_in few.1 ∙ none-whole (session_id number) message (length parts) few.0 in
      absurd (omega (arith, some, none))
  | inr all ↦ subst (IfFirst P) (sym (ap messages_in all.3 ∙ in-whole (session_id number) message all.0 all.1 all.2)) first
]
