use Rattle.std.proofs.Common.{◌≡◌, ◌∙◌, Some, ap, sym, slice_get, arith, not, ◌&&◌, ◌||◌, ℕ, ◌==◌}
use Rattle.std.specs.BTreeSet.{contains}
use Rattle.std.specs.Ordering.{nat_cmp}
use Rattle.std.specs.List.{list_any}
use Rattle.std.specs.BTreeMap.{is_at}
use Rattle.handheld_files.proofs.FreshLaws.{get_some, gives_none, gives_own, gives_least, gives_all, some_is_free}
use Rattle.handheld_files.proofs.fresh.fresh_ids.Goals as goal
use Rattle.handheld_files.proofs.fresh.fresh_ids.Goals.{then-branch+in_ok-push, else-branch+in_ok-push-2}

pub loop-place-init : goal.loop-place-init
loop-place-init c =
    rw c.new-fresh.ensures.items
    (gives_none c.args.ids.now c.in_ok-numbers.numbers c.new-seen.result c.in_ok-numbers.ensures
    (λ x. ap (λ keys. list_any (is_at (nat_cmp x)) keys) c.new-seen.ensures.empty))

pub first_free-free-requires : goal.first_free-free-requires
first_free-free-requires c = some_is_free c.args.ids.now c.loop-place.fresh.items c.in_ok-numbers.numbers c.loop-place.seen c.loop-place.next c.loop-place.place
    c.loop-place.invariant c.requires (omega arith)

pub loop-place-preserved : goal.loop-place-preserved
loop-place-preserved c =
    let id = c.index-ids-place.result in
    let here : slice_get c.args.ids.now c.loop-place.place ≡ Some id = get_some c.args.ids.now c.loop-place.place id c.loop-place-test.true c.index-ids-place.is
    in
    let own : c.in_ok-is_own.field-0 ≡ (not (id == 0) && not (contains nat_cmp c.loop-place.seen id)) = c.in_ok-is_own.ensures.own
    ∙ ap (λ n. not (n == 0) && not (contains nat_cmp c.loop-place.seen n)) c.number.ensures.number in
    let more : (x : ℕ) → contains nat_cmp c.is_own.new.seen x ≡ ((id == x) || contains nat_cmp c.loop-place.seen x) = λ x. c.in_ok-is_own.ensures.seen x
    ∙ ap (λ n. (n == x) || contains nat_cmp c.loop-place.seen x) c.number.ensures.number in
    elim c.if-branch.branch [
      | then-branch+in_ok-push w ↦ rw (w.fresh-is, w.next-is, w.in_ok-push.ensures.items)
          (gives_own c.args.ids.now c.loop-place.fresh.items c.in_ok-numbers.numbers c.loop-place.seen c.is_own.new.seen c.loop-place.next c.loop-place.place id
          c.loop-place.invariant here (sym own ∙ w.if-branch.true) more)
      | else-branch+in_ok-push-2 w ↦ rw (w.fresh-is, w.next-is, w.in_ok-push-2.ensures.items, w.id_of.ensures)
          (gives_least c.args.ids.now c.loop-place.fresh.items c.in_ok-numbers.numbers c.loop-place.seen c.is_own.new.seen c.loop-place.next c.loop-place.place
          id w.first_free-free.result c.loop-place.invariant here (sym own ∙ w.if-branch.false) more
          w.first_free-free.ensures.from w.first_free-free.ensures.free w.first_free-free.ensures.first)
    ]

pub returns-clause-fresh : goal.returns-clause-fresh
returns-clause-fresh c = gives_all c.args.ids.now c.loop-place.fresh.items c.in_ok-numbers.numbers c.loop-place.seen c.loop-place.next c.loop-place.place
    c.loop-place.invariant c.loop-place-test.false
