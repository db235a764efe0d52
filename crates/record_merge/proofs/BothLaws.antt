-- The rows of a session that takes up another: under the ids that both gave.
use Rattle.std.proofs.Common.{◌≡◌, ℕ, ◌==◌, List, [], ◌∷◌, ◌++◌, refl, ap, ◌∙◌, arith, Option, Some, None, Bool, true, false, if◌then◌else◌}
use Rattle.std.specs.Option.{option_or}
use Rattle.pdb_values.specs.Contents.{ContentValue}
use Rattle.conduit_rules.specs.ById.{id_bound, put, at}
use Rattle.conduit_rules.specs.Choices.{Choice}
use Rattle.record_merge.specs.Merging.{row_at, AreNew}
use Rattle.record_merge.specs.Stops.{behind, with_add, rest_of}
use Rattle.record_merge.specs.Writes.{numbered, adding}

pub no_contents : (given : List ℕ) → numbered given [] ≡ []
no_contents [] = refl
no_contents (g ∷ gs) = refl

-- under other ids the same is kept
new-put : (keep : ℕ → Option ContentValue) (g : ℕ) (a : ContentValue) (es : List (ℕ × ContentValue)) (n : ℕ) → at g es ≡ None → AreNew keep es n
    → AreNew (put keep g (Some a)) es n
new-put keep g a [] n apart new = tt
new-put keep g a (e ∷ es) n apart new =
    let other = differs (e.0 == g) apart in
    let rest = behind_it (e.0 == g) apart in
    (grind (arith, other, new.0), new.1, new.2, new-put keep g a es n rest new.3)
  where
    differs : (b : Bool) → (if b then Some e.1 else at g es) ≡ None → b ≡ false
    differs true is = absurd (cc)
    differs false is = refl

    behind_it : (b : Bool) → (if b then Some e.1 else at g es) ≡ None → at g es ≡ None
    behind_it true is = absurd (cc)
    behind_it false is = is

one_more : (same : Bool) (k o : Option ContentValue) (a : ContentValue) → (same ≡ true → k ≡ None)
    → option_or (if same then Some a else k) o ≡ option_or k (if same then Some a else o)
one_more same k o a none = grind arith

-- with the next add kept under its id
added : (ch : Choice) (g : ℕ) (gs : List ℕ) (a : ContentValue) (cs : List ContentValue) (i : ℕ) → ch.keep g ≡ None
    → option_or (put ch.keep g (Some a) i) (at i (numbered gs cs)) ≡ option_or (ch.keep i) (at i ((g, a) ∷ numbered gs cs))
added ch g gs a cs i none = grind arith

both : (given later : List ℕ) (cs : List ContentValue) (ch : Choice) (i : ℕ) → ch.adds ≡ cs → AreNew ch.keep (numbered given cs) id_bound
    → row_at (rest_of (adding (numbered given cs)) ch) later i ≡ option_or (ch.keep i) (at i (numbered (given ++ later) cs))
both [] later cs ch i is new = ap (λ xs. option_or (ch.keep i) (at i (numbered later xs))) is
both (g ∷ gs) later [] ch i is new = grind (arith, no_contents later)
both (g ∷ gs) later (c ∷ cs) ch i is new =
    both gs later cs (with_add ch g c) i (ap behind is) (new-put ch.keep g c (numbered gs cs) id_bound new.1 new.3)
    ∙ added ch g (gs ++ later) c cs i new.0

pub row_at-both : (ch : Choice) (given later : List ℕ) (i : ℕ) → AreNew ch.keep (numbered given ch.adds) id_bound
    → row_at (rest_of (adding (numbered given ch.adds)) ch) later i ≡ row_at ch (given ++ later) i
row_at-both ch given later i new = both given later ch.adds ch i refl new
