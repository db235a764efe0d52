use Rattle.std.proofs.Common.{arith, append_assoc, ◌≡◌, ◌∙◌, ◌-◌, ap, drop, length, refl, replicate, take, ℕ}
use Rattle.std.proofs.lemmas.List.{drop-replicate, length-replicate, take_all}
use Rattle.palm_records.specs.Strings.{until_zero}
use Rattle.category_tables.proofs.write.push_label.Goals as goal

-- what follows a label are zero bytes
zeros_behind : (n : ℕ) → take (16 - n) (drop n (replicate {A = ℕ} 16 0)) ≡ replicate {A = ℕ} (16 - n) 0
zeros_behind n =
    ap (take {A = ℕ} (16 - n)) (drop-replicate n 16 0) ∙ take_all (16 - n) (replicate (16 - n) 0) (omega (arith, length-replicate {A = ℕ} (16 - n) 0))

pub returns : goal.returns
returns c =
    rw (
      c.in_ok-extend_from_slice-2.ensures.items,
      c.in_ok-extend_from_slice.ensures.items,
      c.until_zero-label.ensures,
      zeros_behind (length (until_zero c.args.entry.now.label)),
      append_assoc,
    ) refl
