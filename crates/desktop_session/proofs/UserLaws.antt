-- The reply with a user has a name and a password.
use Rattle.std.proofs.Common.{◌≡◌, refl, inl, inr, ℕ, List, [], ◌∷◌, Bool, true, false, cond, length, take, one-add, arith}
use Rattle.std.specs.Prelude.{Option, Some, None, is_some, nat_le, ◌==◌, ◌&&◌}
use Rattle.std.specs.List.{list_any, position_or_len}
use Rattle.pdb_values.specs.Users.{password_of, user_name_of}
use Rattle.dlp_args.proofs.CellLaws.{bind_some}
use Rattle.dlp_args.specs.CellReading.{short_text_in, text_in}
use Rattle.dlp_args.specs.Functions.{function_of}
use Rattle.dlp_replies.specs.Checks.{text_or_none, user_name, user_sizes}
use Rattle.dlp_replies.specs.Layouts.{user_info}
use Rattle.dlp_replies.specs.ReplyTexts.{IsOne, ReplyText}
use Rattle.dlp_replies.specs.ReplyValues.{ReplyValue, ReadUserInfo}
use Rattle.dlp_replies.specs.Shapes.{user_said}
use Rattle.dlp_replies.specs.Checks.{user_checks}
use Rattle.std.proofs.lemmas.Grind.{common_steps}
use Rattle.std.proofs.lemmas.Bool.Decides.{nat_tests}
use Rattle.std.proofs.Common.{rules}

-- no zero stands before the first one
no_zero_cons : (b : Bool) (byte : ℕ) (bytes : List ℕ) → (byte == 0) ≡ b
    → list_any (λ byte. byte == 0) (take (position_or_len (λ byte. byte == 0) bytes) bytes) ≡ false
    → list_any (λ byte. byte == 0) (take (position_or_len (λ byte. byte == 0) (byte ∷ bytes)) (byte ∷ bytes)) ≡ false
no_zero_cons b byte bytes e more = search (rules, one-add)

no_zero_before : (bytes : List ℕ) → list_any (λ byte. byte == 0) (take (position_or_len (λ byte. byte == 0) bytes) bytes) ≡ false
no_zero_before [] = refl
no_zero_before (byte ∷ bytes) = no_zero_cons (byte == 0) byte bytes refl (no_zero_before bytes)

guarded : {A : Type 0} (b : Bool) {y : A} (x : A) → cond b (Some x) None ≡ Some y → (b ≡ true) × (x ≡ y)
guarded true x is = (refl, cc)
guarded false x is = cc

unguarded : {A : Type 0} (b : Bool) {y : A} (x : A) → cond b None (Some x) ≡ Some y → (b ≡ false) × (x ≡ y)
unguarded true x is = cc
unguarded false x is = (refl, cc)

text_whole : {text : List ℕ} (bytes : List ℕ) → text_in bytes ≡ Some text → list_any (λ byte. byte == 0) text ≡ false
unfolding text_in
text_whole bytes is = grind (arith, common_steps, nat_tests, bind_some, guarded, no_zero_before)

name_short : {text : List ℕ} (bytes : List ℕ) → short_text_in 40 bytes ≡ Some text → user_name_of text ≡ Some text
unfolding short_text_in
name_short bytes is = grind (arith, common_steps, nat_tests, bind_some, unguarded, text_whole)

name_read : {text : List ℕ} (bytes : List ℕ) → user_name bytes ≡ Some text → user_name_of text ≡ Some text
unfolding user_name
name_read bytes is = grind (arith, common_steps, nat_tests, name_short)

named : (o : Option (List ℕ)) (bytes : List ℕ) → user_name bytes ≡ o → is_some o ≡ true → user_name_of (text_or_none o) ≡ Some (text_or_none o)
named o bytes is there = search (rules, name_read)

both : (a b : Bool) → (a && b) ≡ true → (a ≡ true) × (b ≡ true)
both true b is = (refl, is)
both false b is = cc

short_password : (bytes : List ℕ) → nat_le (length bytes) 40 ≡ true → password_of bytes ≡ Some bytes
short_password bytes short = grind arith

-- the name and the password in a reply
abbrev name_in : ReplyValue → List ℕ
name_in (ReadUserInfo user viewer pc good last name password) = name
name_in other = []

one_ok : {first user viewer pc good last : ℕ} {name password bytes : List ℕ}
    → IsOne first user_info user_sizes user_checks user_said (ReadUserInfo user viewer pc good last name password) bytes
    → (user_name_of name ≡ Some name) × (password_of password ≡ Some password)
one_ok is = grind (arith, common_steps, nat_tests, both, named, short_password)

pub user_ok : (user viewer pc good last : ℕ) (name password bytes : List ℕ) → ReplyText 0x10 (ReadUserInfo user viewer pc good last name password) bytes
    → (user_name_of name ≡ Some name) × (password_of password ≡ Some password)
unfolding function_of
user_ok user viewer pc good last name password bytes (inl refusal) = cc
user_ok user viewer pc good last name password bytes (inr is) = one_ok is
