-- Pieces that come over a port in memory.
use Rattle.std.proofs.Common.{arith, ◌≡◌, ◌<◌, ◌≤◌, refl, sym, ap, ◌∙◌, ℕ, suc, ◌+◌, List, [], ◌∷◌, length, drop, min, get_or}
use Rattle.std.specs.Prelude.{map, vec_items, Vec}
use Rattle.std.specs.Global.{Global}
use Rattle.std.specs.List.{drop-map}
use Rattle.std.proofs.Math.Seq.{drop-cons}
use Rattle.std.proofs.lemmas.List.{drop-drop}
use Rattle.std.proofs.lemmas.Bool.Decides.{nat_tests}
use Rattle.port_line.specs.MemPorts.{pieces_from, left_of}

-- where there is a piece of this number, it comes next, and then the later ones
pub one_coming : (held pieces : List (Vec ℕ Global)) (next from : ℕ) (piece : Vec ℕ Global)
    (text left : List ℕ)
    → held ≡ pieces → next < length held → piece ≡ get_or held next piece
    → text ≡ vec_items piece → left ≡ drop from text
    → pieces_from from (drop next (map vec_items pieces))
    ≡ left ∷ drop (next + 1) (map vec_items pieces)
one_coming held pieces next from piece text left same below is text_is left_is =
    let more : suc next ≡ next + 1 = omega arith in
    let cons : drop next held ≡ piece ∷ drop (next + 1) held
    = drop-cons held next piece below ∙ ap (λ it. it ∷ drop (suc next) held) (sym is)
    ∙ ap (λ k. piece ∷ drop k held) more in
    let there : pieces_from from (drop next (map vec_items held))
    ≡ drop from (vec_items piece) ∷ drop (next + 1) (map vec_items held)
    = ap (pieces_from from) (drop-map vec_items next held ∙ ap (map vec_items) cons)
    ∙ ap (λ later. drop from (vec_items piece) ∷ later) (sym (drop-map vec_items (next + 1) held)) in
    ap (λ (held : List (Vec ℕ Global)). pieces_from from (drop next (map vec_items held))) (sym same) ∙ there
    ∙ ap (λ (held : List (Vec ℕ Global)). drop from (vec_items piece) ∷ drop (next + 1) (map vec_items held)) same
    ∙ ap (λ (left : List ℕ). left ∷ drop (next + 1) (map vec_items pieces)) (ap (drop from) (sym text_is) ∙ sym left_is)

-- pieces from their beginning
pub from_start : (pieces : List (List ℕ)) → pieces_from 0 pieces ≡ pieces
from_start [] = refl
from_start (piece ∷ pieces) = refl

-- a piece that has room is given whole
pub whole_given : (room : ℕ) (left : List ℕ) (later : List (List ℕ)) → length left ≤ room
    → left_of room (left ∷ later) ≡ later
whole_given room left later few = grind (arith, nat_tests)

-- of a longer one the front is given
pub front_given : (room : ℕ) (left : List ℕ) (later : List (List ℕ)) → room < length left
    → left_of room (left ∷ later) ≡ drop room left ∷ later
front_given room left later long = grind (arith, nat_tests)

-- what is behind the front of what was left
pub rest_left : (room count from : ℕ) (text left : List ℕ) → left ≡ drop from text
    → count ≡ min room (length left) → room < length left → drop (from + count) text ≡ drop room left
rest_left room count from text left is count_is long =
    let same : count ≡ room = count_is ∙ (omega arith) in
    ap (λ count. drop (from + count) text) same ∙ sym (drop-drop room from text) ∙ ap (drop room) (sym is)
