-- The loops over the items of a text.
use Rattle.std.proofs.Common.{◌≡◌, ◌&&◌, Bool, true, false, List, [], ◌∷◌, ◌++◌, ℕ, refl, sym, ap, ◌∙◌, Option, Some, None}
use Rattle.std.specs.List.{filter_map, cons_option}
use Rattle.std.proofs.lemmas.List.{append_assoc}
use Rattle.run_words.specs.Actions.{are_items, is_next, item_of, items_of}
use Rattle.run_words.specs.declared.action.NamedAction.{NamedAction}

are_items-more : (item : List ℕ) (items : List (List ℕ)) → are_items (item ∷ items) ≡ (is_next item items && are_items items)
unfolding are_items
are_items-more item items = refl

pub are_items-nil : are_items [] ≡ true
unfolding are_items
are_items-nil = refl

-- what is left begins with an item
module _ {rest : Option (List ℕ)} {text item : List ℕ} (more : Option (List ℕ)) (is : rest ≡ Some text)
    (split : items_of (Some text) ≡ item ∷ items_of more) where
  next : {X : Type 0} (f : List (List ℕ) → X) {whole : X} → f (items_of rest) ≡ whole → f (item ∷ items_of more) ≡ whole
  next f so_far = ap f (sym split) ∙ ap (λ o. f (items_of o)) (sym is) ∙ so_far

  pub items_stop : {whole : Bool} → are_items (items_of rest) ≡ whole → is_next item (items_of more) ≡ false → false ≡ whole
  items_stop so_far bad = sym (are_items-more item (items_of more) ∙ ap (λ b. b && are_items (items_of more)) bad) ∙ next are_items so_far

  pub items_go_on : {whole : Bool} → are_items (items_of rest) ≡ whole → is_next item (items_of more) ≡ true → are_items (items_of more) ≡ whole
  items_go_on so_far good =
      sym (are_items-more item (items_of more) ∙ ap (λ b. b && are_items (items_of more)) good) ∙ next are_items so_far

  pub item_is_read : (actions : List NamedAction) (action : NamedAction) {whole : List NamedAction}
      → actions ++ filter_map item_of (items_of rest) ≡ whole → Some action ≡ item_of item
      → (actions ++ action ∷ []) ++ filter_map item_of (items_of more) ≡ whole
  item_is_read actions action so_far says =
      append_assoc actions (action ∷ []) (filter_map item_of (items_of more))
      ∙ ap (λ o. actions ++ cons_option o (filter_map item_of (items_of more))) says
      ∙ next (λ items. actions ++ filter_map item_of items) so_far

  pub item_is_skipped : (actions : List NamedAction) {whole : List NamedAction} → actions ++ filter_map item_of (items_of rest) ≡ whole
      → None ≡ item_of item → actions ++ filter_map item_of (items_of more) ≡ whole
  item_is_skipped actions so_far says =
      ap (λ o. actions ++ cons_option o (filter_map item_of (items_of more))) says
      ∙ next (λ items. actions ++ filter_map item_of items) so_far
