-- A search by number among rules whose numbers rise.
use Rattle.std.proofs.Common.{◌≡◌, ℕ, zero, suc, ◌<◌, ◌≤◌, List, [], ◌∷◌, length, map, get_or, Ok, Err, refl, ap, arith}
use Rattle.std.specs.List.Sorted.{IsBinarySearchResult, IsNonDecreasingBy}
use Rattle.std.specs.Ordering.{nat_cmp, ordering_index}
use Rattle.std.proofs.lemmas.Cmp.{ranked}
use Rattle.std.proofs.lemmas.Bool.{eq-eqb, ne_eqb}
use Rattle.std.proofs.lemmas.Bool.Decides.{nat_tests}
use Rattle.trace_text.specs.Fates.{Untouched, fate_value}
use Rattle.line_script.specs.Rules.{rule_value}
use Rattle.line_script.specs.Scripts.{Rise, fate_by}
use Rattle.line_script.specs.declared.script.Rule.{Rule}

rise-above : (before : ℕ) (rules : List Rule) → Rise before (map rule_value rules) → (i : ℕ) (d : Rule) → i < length rules → before < (get_or rules i d).number
rise-above before [] rise i d less = absurd (omega arith)
rise-above before (rule ∷ rules) rise zero d less = rise.0
rise-above before (rule ∷ rules) rise (suc i) d less = omega (arith, rise.0, rise-above rule.number rules rise.1 i d (omega arith))

rise-between : (before : ℕ) (rules : List Rule) → Rise before (map rule_value rules) → (i j : ℕ) (d : Rule) → i < j → j < length rules
    → (get_or rules i d).number < (get_or rules j d).number
rise-between before [] rise i j d less inside = absurd (omega arith)
rise-between before (rule ∷ rules) rise i zero d less inside = absurd (omega arith)
rise-between before (rule ∷ rules) rise zero (suc j) d less inside = grind (arith, rise-above)
rise-between before (rule ∷ rules) rise (suc i) (suc j) d less inside = rise-between rule.number rules rise.1 i j d (omega arith) (omega arith)

comparisons_rise : (rules : List Rule) → Rise 0 (map rule_value rules) → (number : ℕ)
    → IsNonDecreasingBy (λ rule. ordering_index (nat_cmp rule.number number)) rules
comparisons_rise rules rise number i j d le inside =
    let keys_rise : (get_or rules i d).number ≤ (get_or rules j d).number =
    grind (arith, rise-between 0 rules rise i j d, λ (same : i ≡ j). ap (λ (k : ℕ). (get_or rules k d).number) same) in
    grind (arith, nat_tests)

fate-there : (before : ℕ) (rules : List Rule) (at : ℕ) (d : Rule) (number : ℕ) → Rise before (map rule_value rules) → at < length rules
    → (get_or rules at d).number ≡ number → fate_value (get_or rules at d).fate ≡ fate_by (map rule_value rules) number
fate-there before [] at d number rise less is = absurd (omega arith)
fate-there before (rule ∷ rules) zero d number rise less is = rw (eq-eqb rule.number number is) refl
fate-there before (rule ∷ rules) (suc at) d number rise less is =
    grind (arith, rise-above, ne_eqb, fate-there rule.number rules at d number rise.1 (omega arith) is)

fate-nowhere : (rules : List Rule) (number : ℕ) → ((i : ℕ) (d : Rule) → i < length rules → (get_or rules i d).number ≡ number → ⊥)
    → Untouched ≡ fate_by (map rule_value rules) number
fate-nowhere [] number none = refl
fate-nowhere (rule ∷ rules) number none =
    rw (ne_eqb rule.number number (λ same. none 0 rule (omega arith) same)) (fate-nowhere rules number (λ i d less same. none (suc i) d (omega arith) same))

-- a binary search finds the rule of this number
pub found-fate : (rules : List Rule) (number at : ℕ) (d : Rule) → Rise 0 (map rule_value rules) → at < length rules
    → IsBinarySearchResult (λ rule. nat_cmp rule.number number) rules (Ok at)
    → fate_value (get_or rules at d).fate ≡ fate_by (map rule_value rules) number
found-fate rules number at d rise inside equal = grind (arith, fate-there, ranked)

-- and where it finds none there is none
pub missing-fate : (rules : List Rule) (number at : ℕ) → Rise 0 (map rule_value rules)
    → IsBinarySearchResult (λ rule. nat_cmp rule.number number) rules (Err at) → Untouched ≡ fate_by (map rule_value rules) number
missing-fate rules number at rise parted = grind (arith, fate-nowhere, ranked, comparisons_rise)
