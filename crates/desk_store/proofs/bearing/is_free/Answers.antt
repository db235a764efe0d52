-- One slot more has another user, or it is the one at the place.
use Rattle.std.proofs.Common.{◌≡◌, ◌∙◌, ℕ, ap, below_more, get_or, sym}
use Rattle.folder_files.specs.Slots.{users_of}
use Rattle.desk_store.specs.Shelves.{SlotValue, marks_of}
use Rattle.desk_store.proofs.BearLaws.{user_at}
use Rattle.desk_store.proofs.bearing.is_free.Goals as goal
use Rattle.desk_store.proofs.bearing.is_free.Goals.{else-index-place-via-then-index-place+else-slot-user, else-index-place-via-else-index-place}

pub returns-then-slot-user : goal.returns-then-slot-user
returns-then-slot-user c =
    let own = user_at c.args.slots.now c.loop-index.index c.loop-index-test.true c.index-slots-index.is
    ∙ ap (λ (s : SlotValue). s.marks.user) (sym c.slot.view_is) in
    (λ e. absurd (cc e), λ free. absurd (free c.loop-index.index c.loop-index-test.true c.if-index-place.true (own ∙ c.if-slot-user.true)))

pub loop-index-preserved : goal.loop-index-preserved
loop-index-preserved c =
    let own = user_at c.args.slots.now c.loop-index.index c.loop-index-test.true c.index-slots-index.is
    ∙ ap (λ (s : SlotValue). s.marks.user) (sym c.slot.view_is) in
    let here : (c.loop-index.index ≡ c.args.place → ⊥) → get_or (users_of (marks_of c.args.slots.now)) c.loop-index.index 0 ≡ c.args.user → ⊥ =
    elim c.else-index-place.branch [
      | else-index-place-via-then-index-place+else-slot-user w ↦ λ _ e. w.if-slot-user.false (sym own ∙ e)
      | else-index-place-via-else-index-place w ↦ λ apart _. apart w.if-index-place.false
    ] in
    below_more (λ (other : ℕ). (other ≡ c.args.place → ⊥) → get_or (users_of (marks_of c.args.slots.now)) other 0 ≡ c.args.user → ⊥) c.loop-index.index
    c.loop-index.invariant here
