-- The text of a greeting is read as it was written.
use Rattle.std.proofs.Common.{◌≡◌, ℕ, true, ◌+◌, ◌^◌, ◌<◌, List, [], ◌∷◌, length, get_or, slice_index, drop, Result, Ok, Err, None, IfOk, refl, sym, ap, ◌∙◌}
use Rattle.std.proofs.Common.{arith}
use Rattle.std.specs.Result.{result_err}
use Rattle.std.proofs.lemmas.List.{drop_more, length-drop, get_or-drop}
use Rattle.std.proofs.lemmas.Nat.{be_bytes_4, from_be_bytes-to_be_bytes_4}
use Rattle.byteorder.specs.Endian.{big_bytes, big_number}
use Rattle.cmp_hello.specs.declared.hello.Hello.{Hello}
use Rattle.cmp_hello.specs.declared.hello.HelloKind.{HelloKind}
use Rattle.cmp_hello.specs.declared.hello.HelloKind.TheVariants.{Wake, Init, Abort}
use Rattle.cmp_hello.specs.declared.hello.HelloFault.{HelloFault}
use Rattle.cmp_hello.specs.HelloText.{kind_code, hello_bytes, HelloText}
use Rattle.cmp_hello.specs.HelloFaults.{is_kind, hello_fault}

-- four bytes are those of their number
rate_bytes : (bytes : List ℕ) → length bytes ≡ 4 → ((i : ℕ) → get_or bytes i 0 < 256) → bytes ≡ big_bytes 4 (big_number 4 bytes)
rate_bytes bytes four fit = sym (be_bytes_4 bytes (big_number 4 bytes) four fit (omega arith))

rate_again : (rate : ℕ) → rate < 2 ^ 32 → big_number 4 (big_bytes 4 rate) ≡ rate
rate_again rate fits = omega (arith, from_be_bytes-to_be_bytes_4 rate fits)

-- ten bytes of a kind and of the major version are the text of what they say
pub text_of_fields : (kind : HelloKind) (bytes : List ℕ)
    → length bytes ≡ 10 → ((i : ℕ) → get_or bytes i 0 < 256) → kind_code kind ≡ slice_index bytes 0 → slice_index bytes 2 ≡ 1
    → HelloText (record { kind = kind; flags = slice_index bytes 1; minor = slice_index bytes 3; rate = big_number 4 (drop 6 bytes) }) bytes
text_of_fields kind bytes ten fit code major =
    let rest = drop 6 bytes in
    let rest_fits : (i : ℕ) → get_or rest i 0 < 256 = λ i. rw get_or-drop (fit (6 + i)) in
    let e0 = drop_more bytes 0 0 (omega arith) in
    let e1 = drop_more bytes 1 0 (omega arith) in
    let e2 = drop_more bytes 2 0 (omega arith) in
    let e3 = drop_more bytes 3 0 (omega arith) in
    let e4 = drop_more bytes 4 0 (omega arith) in
    let e5 = drop_more bytes 5 0 (omega arith) in
    let e6 = rate_bytes rest (omega (arith, length-drop 6 bytes)) rest_fits in
    record {
      unread = get_or bytes 4 0 ∷ get_or bytes 5 0 ∷ [];
      two = refl;
      rate_fits = omega (arith, rest_fits 0, rest_fits 1, rest_fits 2, rest_fits 3);
      is = cc;
    }

pub kind_from_code : (x y : HelloKind) → kind_code x ≡ kind_code y → x ≡ y
kind_from_code Wake Wake e = refl
kind_from_code Wake Init e = absurd (omega arith)
kind_from_code Wake Abort e = absurd (omega arith)
kind_from_code Init Wake e = absurd (omega arith)
kind_from_code Init Init e = refl
kind_from_code Init Abort e = absurd (omega arith)
kind_from_code Abort Wake e = absurd (omega arith)
kind_from_code Abort Init e = absurd (omega arith)
kind_from_code Abort Abort e = refl

is_kind-kind_code : (kind : HelloKind) → is_kind (kind_code kind) ≡ true
is_kind-kind_code Wake = refl
is_kind-kind_code Init = refl
is_kind-kind_code Abort = refl

-- what a text says of its greeting, place by place
pub record Says (bytes : List ℕ) (hello : Hello) : Type 0 where
  pub code : kind_code hello.kind ≡ slice_index bytes 0
  pub flags : hello.flags ≡ slice_index bytes 1
  pub minor : hello.minor ≡ slice_index bytes 3
  pub rate : hello.rate ≡ big_number 4 (drop 6 bytes)
  pub no_fault : hello_fault bytes ≡ None

pub text_says : (hello : Hello) (bytes : List ℕ) → HelloText hello bytes → Says bytes hello
text_says hello bytes text = go text.unread text.two text.is where
  go : (unread : List ℕ) → length unread ≡ 2 → bytes ≡ hello_bytes hello unread → Says bytes hello
  go [] two is = absurd (omega arith)
  go (a ∷ []) two is = absurd (omega arith)
  go (a ∷ b ∷ []) two is = record {
    code = rw is refl;
    flags = rw is refl;
    minor = rw is refl;
    rate = rw is (sym (rate_again hello.rate text.rate_fits));
    no_fault = rw (is, is_kind-kind_code hello.kind) refl;
  }
  go (a ∷ b ∷ c ∷ more) two is = absurd (omega arith)

pub one_hello : (x y : Hello) (bytes : List ℕ) → HelloText x bytes → HelloText y bytes → x ≡ y
one_hello x y bytes x_text y_text =
    let a = text_says x bytes x_text in
    let b = text_says y bytes y_text in
    let kind = kind_from_code x.kind y.kind (a.code ∙ sym b.code) in
    let flags : x.flags ≡ y.flags = a.flags ∙ sym b.flags in
    let minor : x.minor ≡ y.minor = a.minor ∙ sym b.minor in
    let rate : x.rate ≡ y.rate = a.rate ∙ sym b.rate in
    λ i. record { kind = kind i; flags = flags i; minor = minor i; rate = rate i }

-- a text is read
pub text_is_read : (bytes : List ℕ) (result : Result Hello HelloFault)
    → result_err result ≡ hello_fault bytes → IfOk result (λ hello. HelloText hello bytes) → (hello : Hello) → HelloText hello bytes → result ≡ Ok hello
text_is_read bytes (Ok read) no_fault text hello is = ap (λ (h : Hello). Ok h) (one_hello read hello bytes text is)
text_is_read bytes (Err fault) has_fault text hello is =
    let none = (text_says hello bytes is).no_fault in
    absurd cc
