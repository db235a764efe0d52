-- Rows in rising ids, settled.
use Rattle.std.proofs.Common.{◌≡◌, ◌∙◌, ap, map, subst, sym, IfOk}
use Rattle.std.proofs.lemmas.List.{map-append}
use Rattle.conduit_rules.specs.declared.view.Seen.{Seen}
use Rattle.record_merge.specs.Merging.{settled_record}
use Rattle.record_merge.specs.Writes.{numbered}
use Rattle.mirrors.specs.Entries.{ordered}
use Rattle.session_plan.specs.Rows.{row_entries, row_seen}
use Rattle.session_plan.proofs.RowLaws.{settled-ordered}
use Rattle.session_plan.proofs.rows.planned_rows.Goals as goal

pub returns : goal.returns
returns c =
    let kept = c.args.plan.now.kept.items in
    let added = numbered c.args.given.now c.args.plan.now.adds.items in
    let entries : c.put_added.new.rows.items ≡ map row_seen (row_entries c.args.plan.now c.args.given.now)
    = rw (c.in_ok-put_added.ensures.rows, c.in_ok-put_kept.ensures.rows, c.new-rows.ensures.items, c.deref.ensures.value, c.deref-2.ensures.value)
    (sym (map-append row_seen kept added)) in
    subst (λ xs. IfOk c.settled_all.result (λ rows. rows.items ≡ xs))
    (ap (map (λ (seen : Seen). settled_record (seen.id, seen.content))) (c.in_ok-view.ensures.ordered ∙ ap ordered entries)
    ∙ settled-ordered (row_entries c.args.plan.now c.args.given.now)) c.settled_all.ensures
