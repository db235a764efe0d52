-- The text of a fragment is read as it was written.
use Rattle.std.proofs.Common.{◌≡◌, ℕ, ◌-◌, ◌^◌, ◌<◌, ◌≤◌, true, List, [], ◌∷◌, ◌++◌, length, get_or, slice_index, drop, Result, None, IfOk, refl, sym, ap}
use Rattle.std.proofs.Common.{subst, ◌∙◌, arith}
use Rattle.std.specs.Result.{result_err, IsOkAnd}
use Rattle.std.proofs.lemmas.List.{drop_more, length-drop, get_or-drop}
use Rattle.std.proofs.lemmas.Nat.{be_bytes_2, from_be_bytes-to_be_bytes_2}
use Rattle.byteorder.specs.Endian.{big_bytes, big_number}
use Rattle.padp_link.specs.declared.fragment.Fragment.{Fragment}
use Rattle.padp_link.specs.declared.fragment.PadpKind.{PadpKind}
use Rattle.padp_link.specs.declared.fragment.FragmentFault.{FragmentFault}
use Rattle.padp_link.specs.FragmentText.{FragmentValue, kind_code, is_kind, are_flags, fits_size, FragmentText}
use Rattle.padp_link.specs.FragmentFaults.{fragment_fault}
use Rattle.padp_link.specs.FragmentValues.{fragment_value}

-- two bytes are those of their number
size_bytes : (bytes : List ℕ) → length bytes ≡ 2 → ((i : ℕ) → get_or bytes i 0 < 256) → bytes ≡ big_bytes 2 (big_number 2 bytes)
size_bytes bytes two fit = sym (be_bytes_2 bytes (big_number 2 bytes) two fit (omega arith))

size_again : (size : ℕ) (rest : List ℕ) → size < 2 ^ 16 → big_number 2 (big_bytes 2 size ++ rest) ≡ size
size_again size rest fits = omega (arith, from_be_bytes-to_be_bytes_2 size fits)

two_bytes : (a b : ℕ) → a < 256 → b < 256 → (i : ℕ) → get_or (a ∷ b ∷ []) i 0 < 256
two_bytes a b a_fits b_fits i = grind arith

-- bytes of a kind, with flags of that kind and a size that fits, are the text of what they say
pub text_of_fields : (kind : PadpKind) (bytes : List ℕ) → 4 ≤ length bytes → ((i : ℕ) → get_or bytes i 0 < 256) → kind_code kind ≡ slice_index bytes 0
    → are_flags kind (slice_index bytes 1) ≡ true → fits_size kind (slice_index bytes 1) (big_number 2 (drop 2 bytes)) (length bytes - 4) ≡ true
    → FragmentText (record { kind = kind; flags = slice_index bytes 1; size = big_number 2 (drop 2 bytes); bytes = drop 4 bytes }) bytes
text_of_fields kind bytes four fit code flags fits =
    let a = get_or bytes 2 0 in
    let b = get_or bytes 3 0 in
    let e0 = drop_more bytes 0 0 (omega arith) in
    let e1 = drop_more bytes 1 0 (omega arith) in
    let e2 = drop_more bytes 2 0 (omega arith) in
    let e3 = drop_more bytes 3 0 (omega arith) in
    let size : a ∷ b ∷ [] ≡ big_bytes 2 (big_number 2 (a ∷ b ∷ [])) = size_bytes (a ∷ b ∷ []) refl (two_bytes a b (fit 2) (fit 3)) in
    let same : big_number 2 (drop 2 bytes) ≡ big_number 2 (a ∷ b ∷ []) = omega (arith, get_or-drop 2 bytes 0 0, get_or-drop 2 bytes 1 0) in
    let number = big_number 2 (drop 2 bytes) in
    let two : a ∷ b ∷ [] ≡ big_bytes 2 number = size ∙ ap (λ (n : ℕ). big_bytes 2 n) (sym same) in
    let tail : drop 2 bytes ≡ a ∷ b ∷ drop 4 bytes = cc in
    let joined : a ∷ b ∷ drop 4 bytes ≡ big_bytes 2 number ++ drop 4 bytes = ap (λ (s : List ℕ). s ++ drop 4 bytes) two in
    record {
      fragment_is = record { flags = flags; size = subst (λ (n : ℕ). fits_size kind (slice_index bytes 1) number n ≡ true) (sym (length-drop 4 bytes)) fits };
      size_fits = omega (arith, fit 2, fit 3, same);
      is = cc;
    }

is_kind-kind_code : (kind : PadpKind) → is_kind (kind_code kind) ≡ true
is_kind-kind_code kind = grind arith

no_fault : (kind : PadpKind) (bytes : List ℕ) → 4 ≤ length bytes → slice_index bytes 0 ≡ kind_code kind → are_flags kind (slice_index bytes 1) ≡ true
    → fits_size kind (slice_index bytes 1) (big_number 2 (drop 2 bytes)) (length bytes - 4) ≡ true → fragment_fault bytes ≡ None
no_fault kind bytes four code flags fits = grind arith

-- what a text says of its fragment, place by place
pub record Says (bytes : List ℕ) (fragment : FragmentValue) : Type 0 where
  pub code : slice_index bytes 0 ≡ kind_code fragment.kind
  pub flags : slice_index bytes 1 ≡ fragment.flags
  pub size : big_number 2 (drop 2 bytes) ≡ fragment.size
  pub rest : drop 4 bytes ≡ fragment.bytes

text_says : {fragment : FragmentValue} {bytes : List ℕ} → FragmentText fragment bytes → Says bytes fragment
text_says text = grind arith

pub one_fragment : (x y : FragmentValue) (bytes : List ℕ) → FragmentText x bytes → FragmentText y bytes → x ≡ y
one_fragment x y bytes x_text y_text = grind arith

-- a text is read
pub text_is_read : {bytes : List ℕ} (result : Result Fragment FragmentFault) → result_err result ≡ fragment_fault bytes
    → IfOk result (λ fragment. FragmentText (fragment_value fragment) bytes) → (fragment : FragmentValue) → FragmentText fragment bytes
    → IsOkAnd result (λ read. fragment_value read ≡ fragment)
text_is_read result no_fault text fragment is = grind arith

-- ---- a fragment is short

pub is_short : (kind : PadpKind) (flags size len : ℕ) → fits_size kind flags size len ≡ true → len ≤ 1024
is_short kind flags size len fits = grind arith
