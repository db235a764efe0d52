-- The pieces of a message are fragments of the protocol, and a receiver that waits for the message takes them one after the
-- other.
use Rattle.std.proofs.lemmas.Bool.Decides.{nat_tests}
use Rattle.std.proofs.lemmas.Grind.{common_steps}
use Rattle.std.proofs.Common.{◌≡◌, ℕ, zero, suc, ◌+◌, ◌-◌, ◌*◌, ◌<◌, ◌≤◌, min, Bool, true, cond, not, ◌&&◌, nat_eq, nat_le, List, [], ◌∷◌, ◌++◌, length, take}
use Rattle.std.proofs.Common.{drop, map, replicate, Some, sym, ap, ◌∙◌, arith, refl, subst}
use Rattle.std.specs.List.{range_with_len, AllByRecursion}
use Rattle.std.proofs.lemmas.Bool.{and_parts, and_from, eqb-true, eqb-false, eq-eqb, ne_eqb, cond-true, cond-false, not-true, both_ways}
use Rattle.std.proofs.lemmas.List.{length-take, length-take-le}
use Rattle.std.proofs.lemmas.List.FromFn.{map-range_with_len_more}
use Rattle.padp_link.specs.declared.fragment.PadpKind.TheVariants.{Data}
use Rattle.padp_link.specs.declared.receiver.Taken.{Taken}
use Rattle.padp_link.specs.declared.receiver.Taken.TheVariants.{Accepted, Whole, Repeated, Dropped}
use Rattle.padp_link.specs.FragmentText.{FragmentValue, fits_size, IsFragment}
use Rattle.padp_link.specs.Pieces.{piece_count, piece_flags, piece_size, piece_of, fragment_of, fragments}
use Rattle.padp_link.specs.Collecting.{taken_pieces}
use Rattle.padp_link.specs.Receivers.{ReceiverValue, bytes_of, is_complete, whole_of, goes_on, is_next_piece, Answers, after_answer, AnswersAll, answers_to_all}
use Rattle.padp_link.proofs.PieceLaws.{count_inside, flag_first, flag_last, flags_clear, bytes_of-taken, fragments_are}
use Rattle.padp_link.proofs.CollectingLaws.{same_tests, beq_of, last_of_first, bytes_of-held, is_complete-held}
use Rattle.padp_link.proofs.NeighbourLaws.{next_key_differs}

-- how many bytes a piece has
part_len : (number : ℕ) (message : List ℕ)
    → length (take (min (length message - 1024 * number) 1024) (drop (1024 * number) message)) ≡ min (length message - 1024 * number) 1024
part_len number message = grind (arith, nat_tests, common_steps)

-- ---- pieces are fragments

first_fits : (message : List ℕ)
    → fits_size Data (piece_flags (length message) 0) (length message) (length (take (min (length message - 1024 * 0) 1024) (drop (1024 * 0) message))) ≡ true
first_fits message =
    let size = length message in
    let last = nat_eq (0 + 1) (piece_count size) in
    cond-true _ _ _ (flag_first true last) ∙ and_from _ _ (eq-eqb _ _ (omega (arith, part_len 0 message)))
    (beq_of _ _ (flag_last true last ∙ sym (last_of_first size)))

-- a later piece is full, or the last one
full : (size number : ℕ) {len : ℕ} (last : Bool) → nat_eq (number + 1) (piece_count size) ≡ last → 0 < number → number < piece_count size
    → len ≡ min (size - 1024 * number) 1024 → cond last (nat_le 1 len && nat_le len 1024) (nat_eq len 1024) ≡ true
full size number last ends some below is = grind arith

later_fits : (number : ℕ) (message : List ℕ) → 0 < number → number < piece_count (length message)
    → fits_size Data (piece_flags (length message) number) (piece_size (length message) number)
    (length (take (min (length message - 1024 * number) 1024) (drop (1024 * number) message))) ≡ true
later_fits number message some below = grind (arith, nat_tests, common_steps)

piece_is_fragment : (number : ℕ) (message : List ℕ) → number < piece_count (length message)
    → IsFragment (fragment_of message (piece_of 0 (length message) number))
piece_is_fragment zero message below = grind (arith, nat_tests, common_steps, flags_clear, nat_eq, first_fits)
piece_is_fragment (suc number) message below = grind (arith, nat_tests, common_steps)

pub all_are_fragments : (id : ℕ) (message : List ℕ) → AllByRecursion IsFragment (fragments id message)
all_are_fragments id message = rw fragments_are (go 0 (piece_count (length message)) (omega arith)) where
  go : (from count : ℕ) → from + count ≤ piece_count (length message)
      → AllByRecursion IsFragment (map (λ number. fragment_of message (piece_of 0 (length message) number)) (range_with_len from count))
  go from zero below = tt
  go from (suc count) below = (piece_is_fragment from message (omega arith), go (from + 1) count (omega arith))

-- ---- each piece is the next one behind those before it

goes_on-piece : (number : ℕ) (message : List ℕ) → 0 < number → number < piece_count (length message)
    → goes_on (length message) (1024 * number) (fragment_of message (piece_of 0 (length message) number)) ≡ true
goes_on-piece number message some below = grind (arith, nat_tests, common_steps)

is_next_piece-piece : (number : ℕ) (message : List ℕ) → number < piece_count (length message)
    → is_next_piece (taken_pieces (length message) number message) (fragment_of message (piece_of 0 (length message) number)) ≡ true
is_next_piece-piece zero message below = flag_first true (nat_eq (0 + 1) (piece_count (length message)))
is_next_piece-piece (suc number) message below =
    grind (
      arith,
      nat_tests,
      common_steps,
      count_inside (length message) (suc number) (omega arith) below,
      bytes_of-taken (length message) (suc number) message (omega arith),
      length-take-le (1024 * suc number) message (omega arith),
      goes_on-piece (suc number) message (omega arith) below,
    )

-- ---- a receiver takes them all

pub with_one_more : (number : ℕ) (message : List ℕ) {pieces : List FragmentValue} → pieces ≡ taken_pieces (length message) number message
    → pieces ++ fragment_of message (piece_of 0 (length message) number) ∷ [] ≡ taken_pieces (length message) (number + 1) message
with_one_more number message is =
    cc (map-range_with_len_more (λ number. fragment_of message (piece_of 0 (length message) number)) 0 number number (omega arith))

-- the first pieces of a message are the whole one exactly where they are all
pub is_complete-pieces : (count : ℕ) (message : List ℕ) → 0 < count → count ≤ piece_count (length message)
    → is_complete (taken_pieces (length message) count message) ≡ nat_eq count (piece_count (length message))
is_complete-pieces zero message some below = absurd (omega arith)
is_complete-pieces (suc count) message some below =
    let size = length message in
    let taken : length (bytes_of (taken_pieces size (suc count) message)) ≡ min (1024 * suc count) size =
    ap (λ (s : List ℕ). length s) (bytes_of-taken size (suc count) message (omega arith)) ∙ length-take (1024 * suc count) message in
    let reaches : min (1024 * suc count) size ≡ size → suc count ≡ piece_count size = λ e. omega arith in
    let all : suc count ≡ piece_count size → min (1024 * suc count) size ≡ size = λ e. omega arith in
    ap (λ (n : ℕ). nat_eq n size) taken ∙ same_tests _ _ (λ test. eq-eqb _ _ (reaches (eqb-true _ _ test))) (λ test. eq-eqb _ _ (all (eqb-true _ _ test)))

-- a receiver that took the pieces before this one
pub record IsBefore (id number : ℕ) (message : List ℕ) (receiver : ReceiverValue) : Type 0 where
  pub awaited : receiver.awaited ≡ Some id
  pub pieces : receiver.pieces ≡ taken_pieces (length message) number message
  pub fresh : receiver.last ≡ Some ((piece_of id (length message) number).key) → ⊥

-- it takes this one, which makes the message whole where it is the last one, and then it took the pieces before the next one
pub takes_piece : (id number : ℕ) (message : List ℕ) (receiver : ReceiverValue) (answer : Taken) → IsBefore id number message receiver
    → number < piece_count (length message) → Answers receiver id (fragment_of message (piece_of 0 (length message) number)) answer
    → (answer ≡ cond (nat_eq (number + 1) (piece_count (length message))) Whole Accepted) × IsBefore id (number + 1) message
    (after_answer receiver id (fragment_of message (piece_of 0 (length message) number)) answer)
takes_piece id number message receiver Repeated before below is = absurd (before.fresh is)
takes_piece id number message receiver Dropped before below is = grind (arith, nat_tests, common_steps, and_from, eq-eqb, is_next_piece-piece, both_ways)
takes_piece id number message receiver Accepted before below is =
    grind (arith, nat_tests, common_steps, with_one_more, nat_eq, is_complete-pieces, cond-false, next_key_differs)
takes_piece id number message receiver Whole before below is =
    grind (arith, nat_tests, common_steps, with_one_more, nat_eq, is_complete-pieces, cond-true, next_key_differs)

-- so many pieces from one on
abbrev pieces_from : List ℕ → ℕ → ℕ → List FragmentValue
pieces_from message from count = map (λ number. fragment_of message (piece_of 0 (length message) number)) (range_with_len from count)

takes_all : (id : ℕ) (message : List ℕ) (from count : ℕ) (receiver end : ReceiverValue) (answers : List Taken) → from + suc count ≡ piece_count (length message)
    → IsBefore id from message receiver
    → AnswersAll receiver id (pieces_from message from (suc count)) answers end
    → (answers ≡ replicate count Accepted ++ Whole ∷ []) × (end.pieces ≡ taken_pieces (length message) (from + suc count) message)
takes_all id message from count receiver end [] counts before all = absurd all
takes_all id message from zero receiver end (answer ∷ []) counts before all =
    let step = takes_piece id from message receiver answer before (omega arith) all.0 in
    let last : answer ≡ Whole = step.0 ∙ cond-true _ Whole Accepted (eq-eqb _ _ (omega arith)) in
    let e : from + 1 ≡ from + suc 0 = omega arith in (
      ap (λ (a : Taken). a ∷ []) last,
      ap (λ (r : ReceiverValue). r.pieces) (sym all.1) ∙ step.1.pieces ∙ ap (λ (n : ℕ). taken_pieces (length message) n message)
          e,
    )
takes_all id message from zero receiver end (answer ∷ other ∷ answers) counts before all = absurd all.1
takes_all id message from (suc count) receiver end (answer ∷ answers) counts before all =
    let step = takes_piece id from message receiver answer before (omega arith) all.0 in
    let first : answer ≡ Accepted = step.0 ∙ cond-false _ Whole Accepted (ne_eqb _ _ (λ e. omega arith)) in
    let later = takes_all id message (from + 1) count (after_answer receiver id (fragment_of message (piece_of 0 (length message) from)) answer) end answers
    (omega arith) step.1 all.1 in
    let e : from + 1 + suc count ≡ from + suc (suc count) = omega arith in (
      ap (λ (a : Taken). a ∷ answers) first ∙ ap (λ (more : List Taken). Accepted ∷ more) later.0,
      later.1 ∙ ap (λ (n : ℕ). taken_pieces (length message) n message) e,
    )

-- ---- the whole message

pub whole_of-held : (size count : ℕ) (bytes : List ℕ) → length bytes ≡ min (1024 * count) size → is_complete (taken_pieces size count bytes) ≡ true
    → whole_of (taken_pieces size count bytes) ≡ Some bytes
whole_of-held size count bytes held complete = grind (arith, cond-true, bytes_of-held)

pub whole_pieces : (size count : ℕ) (bytes : List ℕ) → count ≤ piece_count size → length bytes ≡ min (1024 * count) size
    → is_complete (taken_pieces size count bytes) ≡ true → (id : ℕ) → taken_pieces size count bytes ≡ fragments id bytes
whole_pieces size count bytes fits held complete id =
    grind (arith, nat_tests, common_steps, and_parts, not, nat_eq, is_complete-held, eqb-false, not-true, eqb-true, fragments_are)

pub gives_the_message : (id : ℕ) (message : List ℕ) (receiver end : ReceiverValue) (answers : List Taken) → receiver.awaited ≡ Some id → receiver.pieces ≡ []
    → (receiver.last ≡ Some ((piece_of id (length message) 0).key) → ⊥) → AnswersAll receiver id (fragments id message) answers end
    → (answers ≡ answers_to_all (piece_count (length message))) × (end.pieces ≡ fragments id message) × (whole_of end.pieces ≡ Some message)
gives_the_message id message receiver end answers awaited none fresh all =
    let size = length message in
    let count = piece_count size in
    let before : IsBefore id 0 message receiver = record { awaited = awaited; pieces = none; fresh = fresh } in
    let one_more : suc (count - 1) ≡ count = omega arith in
    let given = subst (λ (fs : List FragmentValue). AnswersAll receiver id fs answers end)
    (fragments_are id message ∙ ap (λ (n : ℕ). taken_pieces size n message) (sym one_more)) all in
    let takes = takes_all id message 0 (count - 1) receiver end answers (omega arith) before given in
    let e : 0 + suc (count - 1) ≡ count = omega arith in
    let taken : end.pieces ≡ taken_pieces size count message = takes.1 ∙ ap (λ (n : ℕ). taken_pieces size n message) e in
    let held : length message ≡ min (1024 * count) size = omega arith in
    let complete : is_complete (taken_pieces size count message) ≡ true = is_complete-pieces count message (omega arith) (omega arith)
    ∙ eq-eqb count count refl in
    (takes.0, taken ∙ sym (fragments_are id message), ap whole_of taken ∙ whole_of-held size count message held complete)
