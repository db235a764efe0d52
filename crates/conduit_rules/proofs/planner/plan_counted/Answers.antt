use Rattle.std.proofs.Common.{◌≡◌, ◌∙◌, ap, sym, subst, arith, ℕ, map, Some, ◌+◌, drop, if◌then◌else◌, is_some, Bor}
use Rattle.std.specs.Option.{option_copied, option_map}
use Rattle.std.proofs.lemmas.List.{length-map}
use Rattle.conduit_rules.specs.Choices.{sides_of, partner_under, loose_for}
use Rattle.conduit_rules.specs.Drafts.{Grew}
use Rattle.conduit_rules.specs.Fates.{fate_under}
use Rattle.conduit_rules.specs.Fronts.{seen_id, record_id}
use Rattle.conduit_rules.specs.News.{noted}
use Rattle.pdb_values.specs.declared.record.Record.{Record}
use Rattle.conduit_rules.specs.States.{BaseState, SideState, has_row}
use Rattle.conduit_rules.proofs.DraftLaws.{draft-start, map-loose_for}
use Rattle.conduit_rules.proofs.CountedLaws.{pass-start, pass-next, pass-end, front-some, steps-left, one_if}
use Rattle.conduit_rules.proofs.LooseLaws.{based_by}
use Rattle.conduit_rules.proofs.PassLaws.{front-within}
use Rattle.conduit_rules.proofs.planner.plan_counted.Goals as goal

pub loop-front-init : goal.loop-front-init
loop-front-init g c = record {
  pass = pass-start c.args.action c.args.view.list c.args.rows.list c.args.base.list c.args.gone_counts c.args.view.ahead c.args.rows.ahead c.args.base.ahead
      (map option_copied c.in_ok-slots.slots.items) c.new-draft.result c.requires.view c.requires.rows c.requires.base
      (length-map c.in_ok-slots.slots.items option_copied ∙ c.in_ok-slots.ensures ∙ c.len.ensures)
      (draft-start c.args.action (sides_of c.args.view.list c.args.rows.list c.args.base.list c.args.gone_counts) c.new-draft.result
      c.new-draft.ensures.kept c.new-draft.ensures.replace c.new-draft.ensures.archive c.new-draft.ensures.gone c.new-draft.ensures.purge
      c.new-draft.ensures.partners c.new-draft.ensures.news);
  bound = omega (arith, c.requires.view.len, c.requires.rows.len, c.requires.base.len);
}

pub note_row-requires : goal.note_row-requires
note_row-requires g c = λ x is.
    let at_row : option_map (λ e. (e.0, e.1.now)) c.in-Some.front.row ≡ Some (x.0, x.1.now) = ap (option_map (λ e. (e.0, e.1.now))) is in
    let within = front-within (based_by c.args.action (has_row c.args.base.list)) c.args.rows.list c.in-Some.front.id c.loop-front.rows.ahead
    (map option_copied c.loop-front.slots.items) (x.0, x.1.now)
    c.loop-front.invariant.pass.slotted (sym c.in-Some.ensures.front.row ∙ at_row) in
    omega (arith, length-map c.loop-front.slots.items option_copied)

pub loop-front-preserved : goal.loop-front-preserved
loop-front-preserved g c =
    let front = c.in-Some.ensures.front in
    let f = c.in-Some.front in
    let views : c.pass.new.self.ahead ≡ drop (if is_some f.seen then 1 else 0) c.loop-front.view.ahead = cc in
    let rows : c.pass-in-Some.new.self.ahead ≡ drop (if is_some f.row then 1 else 0) c.loop-front.rows.ahead =
    cc in
    let bases : c.pass-in-Some-2.new.self.ahead ≡ drop (if is_some f.base then 1 else 0) c.loop-front.base.ahead =
    cc in
    let steps : c.pass-in-Some-2.new.steps ≡ c.loop-front.steps + 3 + one_if (is_some f.seen) + one_if (is_some f.row) + one_if (is_some f.base) =
    cc in
    record {
      pass = pass-next c.args.action c.args.view.list c.args.rows.list c.args.base.list c.args.gone_counts c.loop-front.view.ahead c.pass.new.self.ahead
          c.loop-front.rows.ahead c.loop-front.base.ahead
          c.pass-in-Some.new.self.ahead c.pass-in-Some-2.new.self.ahead (map option_copied c.loop-front.slots.items)
          (map option_copied c.note_row.new.slots.items) c.loop-front.draft c.decide.new.self
          c.loop-front.next c.max-next.result f c.loop-front.invariant.pass front
          (omega arith)
          (λ from. subst {A = BaseState × SideState × SideState} (λ p. Grew c.loop-front.draft c.decide.new.self f.id (fate_under c.args.action p.0 p.1 p.2) p.1
          (partner_under c.args.action p.0 p.1))
          (λ k. (c.in_front-basis.ensures k, c.seen_in-handheld.ensures k, c.row_in-desktop.ensures k)) (c.in_ok-decide.ensures.grows from))
          c.decide.ensures.stays
          (c.note_row.ensures ∙ ap (λ b. noted (option_map {T = ℕ × Bor Record} {U = ℕ × Record} (λ e. (e.0, e.1.now)) f.row) b
          (map option_copied c.loop-front.slots.items)) c.is_loose.ensures)
          views rows bases
          (omega arith);
      bound = steps-left (is_some f.seen) (is_some f.row) (is_some f.base) c.loop-front.view.ahead c.pass.new.self.ahead c.loop-front.rows.ahead
          c.pass-in-Some.new.self.ahead c.loop-front.base.ahead c.pass-in-Some-2.new.self.ahead
          c.loop-front.steps c.pass-in-Some-2.new.steps _ front.some (front-some seen_id f.id c.loop-front.view.ahead f.seen front.seen)
          (front-some record_id f.id c.loop-front.rows.ahead f.row front.row)
          (front-some record_id f.id c.loop-front.base.ahead f.base front.base) views rows bases steps c.loop-front.invariant.bound;
    }

pub returns-clause-plan : goal.returns-clause-plan
returns-clause-plan g c =
    let done = pass-end c.args.action c.args.view.list c.args.rows.list c.args.base.list c.args.gone_counts c.loop-front.view.ahead c.loop-front.rows.ahead
    c.loop-front.base.ahead
    (map option_copied c.loop-front.slots.items) (map option_copied c.counted.result.now) c.loop-front.draft c.loop-front.next c.loop-front.invariant.pass
    c.in_default.ensures.front
    (map-loose_for c.args.action option_copied c.loop-front.slots.items c.counted.result.now
    (c.counted.ensures ∙ ap (λ xs. loose_for c.args.action xs xs) c.deref.ensures.value)) in
    c.finished.ensures c.args.action (sides_of c.args.view.list c.args.rows.list c.args.base.list c.args.gone_counts) done.0 done.1 done.2
