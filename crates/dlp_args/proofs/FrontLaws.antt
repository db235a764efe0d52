-- The arguments at the front, one after the other.
use Rattle.std.proofs.Common.{◌≡◌, ℕ, zero, suc, ◌+◌, ◌-◌, ◌<◌, List, [], ◌∷◌, ◌++◌, length, Result, Ok, Err, refl, sym, ap, ◌∙◌, append_assoc, arith}
use Rattle.dlp_args.specs.declared.fault.ArgFault.{ArgFault}
use Rattle.dlp_args.specs.Arguments.{Argument}
use Rattle.std.proofs.lemmas.List.{append-nil}
use Rattle.dlp_args.specs.declared.fault.ArgFault.TheVariants.{Wrapper}
use Rattle.dlp_args.specs.Reading.{◌>>=◌, Header, short_at, long_at, header_at, argument_at, arguments_at, arguments_in}
use Rattle.dlp_args.proofs.NumberLaws.{bind_ok, guard_ok, chosen}

pub left_none : (bytes : List ℕ) → arguments_in 0 bytes ≡ []
unfolding arguments_in
left_none bytes = refl

pub left_err : (count : ℕ) (bytes : List ℕ) (fault : ArgFault) → argument_at 0 bytes ≡ Err fault → arguments_in count bytes ≡ []
unfolding arguments_in
left_err count bytes fault e = grind arith

pub left_ok : (count : ℕ) (bytes : List ℕ) (argument : Argument) (rest : List ℕ) → 0 < count → argument_at 0 bytes ≡ Ok (argument, rest)
    → arguments_in count bytes ≡ argument ∷ arguments_in (count - 1) rest
unfolding arguments_in
left_ok count bytes argument rest some e = grind arith

-- ---- what is found doesn't depend on the place

short_anywhere : (p q first : ℕ) (rest : List ℕ) {found : Header} → short_at p first rest ≡ Ok found → short_at q first rest ≡ Ok found
unfolding short_at
short_anywhere p q first rest e = grind arith

long_anywhere : (p q first : ℕ) (rest : List ℕ) {found : Header} → long_at p first rest ≡ Ok found → long_at q first rest ≡ Ok found
unfolding long_at
long_anywhere p q first rest e = grind arith

header_anywhere : (p q : ℕ) (bytes : List ℕ) {found : Header} → header_at p bytes ≡ Ok found → header_at q bytes ≡ Ok found
unfolding header_at
header_anywhere p q bytes e = grind (arith, guard_ok, chosen, long_anywhere, short_anywhere)

argument_anywhere : (p q : ℕ) (bytes : List ℕ) {x : Argument × List ℕ} → argument_at p bytes ≡ Ok x → argument_at q bytes ≡ Ok x
unfolding argument_at
argument_anywhere p q bytes e = grind (arith, bind_ok, guard_ok, header_anywhere)

pub left_all : (count place : ℕ) (bytes : List ℕ) {arguments : List Argument} → arguments_at count place bytes ≡ Ok arguments
    → arguments_in count bytes ≡ arguments
unfolding arguments_at arguments_in
left_all zero place [] e = cc
left_all zero place (byte ∷ bytes) e = absurd cc
left_all (suc count) place bytes e =
    let first = bind_ok (argument_at place bytes) _ e in
    let others = bind_ok (arguments_at count (place + (length bytes - length first.0.1)) first.0.1) _ first.2 in
    let more = left_all count _ first.0.1 others.1 in
    let is = others.2 in
    rw (argument_anywhere place 0 bytes first.1) (ap (λ (xs : List Argument). first.0.0 ∷ xs) more ∙ cc)

-- ---- a loop over them

-- what was read before, and what is still read
abbrev pub with_front : List Argument → Result (List Argument) ArgFault → Result (List Argument) ArgFault
with_front front read = read >>= λ others. Ok (front ++ others)

-- so many are left at the place, and with those before they make the whole
pub record SoFar (total : Result (List Argument) ArgFault) (left place : ℕ) (rest : List ℕ) : Type 0 where
  pub front : List Argument
  pub is : with_front front (arguments_at left place rest) ≡ total

no_front : (read : Result (List Argument) ArgFault) → with_front [] read ≡ read
no_front read = grind arith

pub starts : (count place : ℕ) (bytes : List ℕ) → SoFar (arguments_at count place bytes) count place bytes
starts count place bytes = grind arith

regroup : (front : List Argument) (first : Argument) (read : Result (List Argument) ArgFault)
    → with_front front (read >>= λ xs. Ok (first ∷ xs)) ≡ with_front (front ++ first ∷ []) read
regroup front first read = grind (arith, append_assoc)

pub goes_on : {total : Result (List Argument) ArgFault} (count i : ℕ) {place : ℕ} {bytes : List ℕ} (first : Argument) (rest : List ℕ)
    → SoFar total (count - i) place bytes → i < count → argument_at place bytes ≡ Ok (first, rest)
    → SoFar total (count - (i + 1)) (place + (length bytes - length rest)) rest
unfolding arguments_at
goes_on count i {place} {bytes} first rest so_far lt h =
    let k : count - i ≡ suc (count - (i + 1)) = omega arith in
    let one : with_front so_far.front (arguments_at (count - i) place bytes)
    ≡ with_front (so_far.front
    ++ first ∷ []) (arguments_at (count - (i + 1)) (place + (length bytes - length rest)) rest) = rw (k, h) (regroup so_far.front first _) in
    record { front = so_far.front ++ first ∷ []; is = sym one ∙ so_far.is }

pub stops : {total : Result (List Argument) ArgFault} (count i : ℕ) {place : ℕ} {bytes : List ℕ} {fault : ArgFault} → SoFar total (count - i) place bytes
    → i < count → argument_at place bytes ≡ Err fault → total ≡ Err fault
unfolding arguments_at
stops count i so_far lt h = grind arith

pub has_more : {total : Result (List Argument) ArgFault} {left place : ℕ} (bytes : List ℕ) → SoFar total left place bytes → left ≡ 0 → 0 < length bytes
    → total ≡ Err (Wrapper place)
unfolding arguments_at
has_more bytes so_far none some = grind arith

pub is_all : {total : Result (List Argument) ArgFault} {left place : ℕ} (bytes : List ℕ) (so_far : SoFar total left place bytes) → left ≡ 0
    → length bytes ≡ 0 → total ≡ Ok so_far.front
unfolding arguments_at
is_all bytes so_far none empty = grind (arith, append-nil)
