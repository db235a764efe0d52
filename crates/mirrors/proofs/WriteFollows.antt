-- What is left of what carries out a plan, item by item.
use Rattle.std.proofs.Common.{◌≡◌, ◌++◌, refl, ℕ, List, [], ◌∷◌}
use Rattle.std.specs.Prelude.{Ok}
use Rattle.pdb_values.specs.Contents.{ContentValue}
use Rattle.desktop_session.specs.Asking.{puts_one, removes}
use Rattle.desktop_session.specs.Inquiries.{Ends, ◌>>=◌}
use Rattle.mirrors.specs.WriteInquiries.{adds_each, removes_each, replaces_each}

pub replaces-next : (handle : ℕ) (entry : ℕ × ContentValue) {left more : List (ℕ × ContentValue)} → left ≡ entry ∷ more
    → replaces_each handle left ≡ puts_one handle entry.0 entry.1 >>= (λ id. replaces_each handle more)
unfolding replaces_each
replaces-next handle entry is = rw is refl

pub replaces-end : (handle : ℕ) {left : List (ℕ × ContentValue)} → left ≡ [] → replaces_each handle left ≡ Ends (Ok tt)
unfolding replaces_each
replaces-end handle none = rw none refl

pub adds-next : (handle : ℕ) (content : ContentValue) (ids : List ℕ) {left more : List ContentValue} → left ≡ content ∷ more
    → adds_each handle left ids ≡ puts_one handle 0 content >>= (λ id. adds_each handle more (ids ++ id ∷ []))
unfolding adds_each
adds-next handle content ids is = rw is refl

pub adds-end : (handle : ℕ) (ids : List ℕ) {left : List ContentValue} → left ≡ [] → adds_each handle left ids ≡ Ends (Ok ids)
unfolding adds_each
adds-end handle ids none = rw none refl

pub removes-next : (handle id : ℕ) {left more : List ℕ} → left ≡ id ∷ more
    → removes_each handle left ≡ removes handle id >>= (λ found. removes_each handle more)
unfolding removes_each
removes-next handle id is = rw is refl

pub removes-end : (handle : ℕ) {left : List ℕ} → left ≡ [] → removes_each handle left ≡ Ends (Ok tt)
unfolding removes_each
removes-end handle none = rw none refl

pub adds-begin : (handle : ℕ) {left contents : List ContentValue} {ids : List ℕ} → left ≡ contents → ids ≡ []
    → adds_each handle left ids ≡ adds_each handle contents []
adds-begin handle is none = rw (is, none) refl
