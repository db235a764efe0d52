-- The labels of an app block.
use Rattle.std.proofs.lemmas.List.{take_all}
use Rattle.std.proofs.lemmas.List.Concat.{flat_map-append}
use Rattle.std.proofs.Math.Seq.{take-length, take-suc}
use Rattle.std.proofs.Common.{arith, ◌≡◌, ◌<◌, ◌≤◌, ◌++◌, ◌∷◌, [], ◌∙◌, ◌+◌, ◌-◌, ◌*◌, ap, sym, ℕ, List, add-one, append_assoc, append-nil, get_or, length, take}
use Rattle.std.specs.Prelude.{replicate}
use Rattle.std.specs.List.{flat_map}
use Rattle.memo_texts.specs.Databases.{label_field}

-- the labels behind a first one
abbrev pub fields : List ℕ → List (List ℕ) → List ℕ
fields first labels = label_field first ++ flat_map label_field labels

-- one more label
pub fields-take : (front before after first : List ℕ) (labels : List (List ℕ)) (at : ℕ) (label : List ℕ) → at < length labels → label ≡ get_or labels at label
    → before ≡ front ++ fields first (take at labels) → after ≡ before ++ label_field label → after ≡ front ++ fields first (take (at + 1) labels)
fields-take front before after first labels at label inside is held grown =
    let more : take (at + 1) labels ≡ take at labels ++ label ∷ [] =
    rw add-one (take-suc labels at label inside ∙ ap (λ (l : List ℕ). take at labels ++ l ∷ []) (sym is)) in
    let shown : flat_map label_field (take (at + 1) labels) ≡ flat_map label_field (take at labels) ++ label_field label =
    ap (flat_map label_field) more ∙ (flat_map-append label_field (take at labels) (label ∷ []) ∙ ap (λ l. flat_map label_field (take at labels) ++ l) (append-nil (label_field label))) in
    grown ∙ (ap (λ l. l ++ label_field label) held
    ∙ (append_assoc front (fields first (take at labels)) (label_field label)
    ∙ ap (λ l. front ++ l) (append_assoc (label_field first) (flat_map label_field (take at labels)) (label_field label) ∙ ap (λ l. label_field first ++ l) (sym shown))))

-- all labels, and what is empty
pub fields-all : (front before after first : List ℕ) (labels : List (List ℕ)) (at size : ℕ) → at ≡ length labels → length labels ≤ 15 → size ≡ length before → length before ≡ 18 + 16 * at
    → before ≡ front ++ fields first (take at labels) → after ≡ take 258 before ++ replicate (258 - size) 0
    → after ≡ front ++ (fields first labels ++ replicate (256 - 16 * length (first ∷ labels)) 0)
fields-all front before after first labels at size is few measured long held cut =
    let whole : take 258 before ≡ before = take_all 258 before (omega arith) in
    let rest : 258 - size ≡ 256 - 16 * length (first ∷ labels) = omega arith in
    let taken : take at labels ≡ labels = ap (λ n. take n labels) is ∙ take-length labels in
    let filled = replicate (256 - 16 * length (first ∷ labels)) 0 in
    cut ∙ (ap (λ l. l ++ replicate (258 - size) 0) whole
    ∙ (ap (λ n. before ++ replicate n 0) rest
    ∙ (ap (λ l. l ++ filled) (held ∙ ap (λ l. front ++ fields first l) taken) ∙ append_assoc front (fields first labels) filled)))
