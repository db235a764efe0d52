-- One id behind the other.
use Rattle.std.proofs.Common.{append_assoc, append-nil, arith, ◌≡◌, ◌∙◌, ◌++◌, ◌∷◌, [], List, map, ap, sym, ℕ}
use Rattle.category_tables.specs.Likes.{id_like, ids_like}
use Rattle.category_tables.specs.Tables.{CategoryValue, entry_value, table_value}
use Rattle.category_tables.proofs.LikeBlockLaws.{ids-more}
use Rattle.category_tables.proofs.like_block.push_ids_like.Goals as goal

pub loop-number-init : goal.loop-number-init
unfolding ids_like
loop-number-init c = sym (append-nil c.args.out.now.items)

pub loop-number-preserved : goal.loop-number-preserved
loop-number-preserved c =
    let other : List CategoryValue = (table_value c.args.other.now).entries in
    let entries : List CategoryValue = map entry_value c.args.entries.now in
    c.in_ok-push.ensures.items
    ∙ ap (λ id. c.loop-number.out.items ++ id ∷ []) c.id_like.ensures
    ∙ ap (λ (l : List ℕ). l ++ id_like other entries c.args.block.now c.loop-number.number ∷ []) c.loop-number.invariant
    ∙ append_assoc c.args.out.now.items (ids_like other entries c.args.block.now c.loop-number.number) (id_like other entries c.args.block.now c.loop-number.number ∷ [])
    ∙ ap (λ (l : List ℕ). c.args.out.now.items ++ l) (sym (ids-more other entries c.args.block.now c.loop-number.number))

pub returns : goal.returns
returns c = let last : c.loop-number.number ≡ 16 = omega arith in rw last at c.loop-number.invariant
