-- An archive loses no entry, and what it has isn't archived again.
use Rattle.std.proofs.Common.{◌≡◌, ℕ, List, [], ◌∷◌, refl, ap, ◌∙◌, sym, arith, Bool, true, false, ◌||◌, ◌&&◌, ◌==◌, if◌then◌else◌}
use Rattle.std.proofs.lemmas.Bool.Decides.{nat_tests}
use Rattle.pdb_values.specs.Contents.{ContentValue}
use Rattle.conduit_rules.specs.Contents.{same_content}
use Rattle.conduit_rules.proofs.ContentLaws.{same_content-is}
use Rattle.record_merge.specs.Merging.{is_archived, one_copy_behind}

-- whether two entries have one id and one content
abbrev pub is_equal : ℕ × ContentValue → ℕ × ContentValue → Bool
is_equal x e = (x.0 == e.0) && same_content x.1 e.1

-- two such entries are one
pub same_entry : (x e : ℕ × ContentValue) → is_equal x e ≡ true → x ≡ e
same_entry x e is = grind (arith, same_content-is x.1 e.1 (grind (arith, nat_tests, is)))

left_out : (a t r s : Bool) → (t ≡ true → a ≡ true) → (a || r) ≡ (a || s) → (a || r) ≡ (a || (t || s))
left_out a t r s h5 rest = grind arith

put_in : (a t r s : Bool) → ((t || a) || r) ≡ ((t || a) || s) → (a || (t || r)) ≡ (a || (t || s))
put_in a t r s rest = grind arith

-- an entry stands in what is left of a list behind others, or among these, where it stands in the list or among them
pub copies-stand : (e : ℕ × ContentValue) (earlier es : List (ℕ × ContentValue))
    → (is_archived e earlier || is_archived e (one_copy_behind earlier es)) ≡ (is_archived e earlier || is_archived e es)
copies-stand e earlier [] = refl
copies-stand e earlier (x ∷ es) = by (is_archived x earlier) refl (copies-stand e earlier es) (copies-stand e (x ∷ earlier) es)
  where
    by : (b : Bool) → is_archived x earlier ≡ b
        → (is_archived e earlier || is_archived e (one_copy_behind earlier es)) ≡ (is_archived e earlier || is_archived e es)
        → (is_archived e (x ∷ earlier) || is_archived e (one_copy_behind (x ∷ earlier) es)) ≡ (is_archived e (x ∷ earlier) || is_archived e es)
        → (is_archived e earlier || is_archived e (if b then one_copy_behind earlier es else x ∷ one_copy_behind (x ∷ earlier) es)) ≡
        (is_archived e earlier || is_archived e (x ∷ es))
    by true there rest more =
        left_out (is_archived e earlier) (is_equal x e) (is_archived e (one_copy_behind earlier es)) (is_archived e es)
        (λ same. ap (λ y. is_archived y earlier) (sym (same_entry x e same)) ∙ there) rest
    by false there rest more = put_in (is_archived e earlier) (is_equal x e) (is_archived e (one_copy_behind (x ∷ earlier) es)) (is_archived e es) more
