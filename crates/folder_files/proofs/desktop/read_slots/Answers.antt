-- The lines of one slot more.
use Rattle.std.proofs.Common.{◌≡◌, ◌∙◌, ◌-◌, ◌+◌, ◌<◌, suc, true, false, rules, arith, sym, ap, length, Err, List}
use Rattle.std.proofs.lemmas.List.{length-append}
use Rattle.std.specs.Global.{Vec}
use Rattle.folder_files.specs.InfoFiles.{slot_form, slots_at}
use Rattle.folder_files.specs.Slots.{SlotInfoValue, all_marks, may_follow}
use Rattle.folder_files.specs.declared.parted.Parted.{Parted}
use Rattle.folder_files.proofs.SlotLaws.{slots_end, slots_more, slots_refused, slots_stop, slots_stop_parted, stop_unless}
use Rattle.folder_files.proofs.desktop.read_slots.Goals as goal

pub returns-in_err-user : goal.returns-in_err-user
returns-in_err-user c = search (rules, slots_stop)

pub returns-then-not-may_follow : goal.returns-then-not-may_follow
returns-then-not-may_follow c =
    let key = c.as_bytes.ensures.value ∙ (c.in_ok-key.ensures.ok ∙ ap (λ n. (slot_form n).key) (sym c.loop-number.invariant.number)) in
    let some : 0 < c.args.count - c.loop-number.number-counter = omega arith in
    let may : may_follow (all_marks c.loop-number.infos.items) c.in_ok-user.user ≡ false = ap (λ (infos : List SlotInfoValue). may_follow (all_marks infos) c.in_ok-user.user)
    (sym c.deref.ensures.value) ∙ (sym c.may_follow.ensures ∙ c.if-not-may_follow.true) in
    c.loop-number.invariant.rest ∙ slots_refused c.args.room c.args.pc _ c.loop-number.infos.items _ _ _ some key c.in_ok-user.ensures may

pub returns-in_err-parted : goal.returns-in_err-parted
returns-in_err-parted c =
    let key = c.as_bytes.ensures.value ∙ (c.in_ok-key.ensures.ok ∙ ap (λ n. (slot_form n).key) (sym c.loop-number.invariant.number)) in
    let some : 0 < c.args.count - c.loop-number.number-counter = omega arith in
    let may : may_follow (all_marks c.loop-number.infos.items) c.in_ok-user.user ≡ true = ap (λ (infos : List SlotInfoValue). may_follow (all_marks infos) c.in_ok-user.user)
    (sym c.deref.ensures.value) ∙ (sym c.may_follow.ensures ∙ c.if-not-may_follow.false) in
    let stop = slots_stop_parted c.args.room c.args.pc _ c.loop-number.infos.items _ _ _ some key c.in_ok-user.ensures may in
    let is : c.from_residual-in_err-parted.result ≡ Err c.in_err-parted.field-0.0 = search rules in
    rw (c.loop-number.invariant.rest, is) (stop_unless (λ (parted : Vec Parted). (parted.items, c.read_parted.new.lines.rest.now))
    (λ (infos : Vec SlotInfoValue). infos.items) c.in_err-parted.field-0.0 _ _ stop c.in_err-parted.ensures)

pub loop-number-preserved : goal.loop-number-preserved
loop-number-preserved c =
    let key = c.as_bytes.ensures.value ∙ (c.in_ok-key.ensures.ok ∙ ap (λ n. (slot_form n).key) (sym c.loop-number.invariant.number)) in
    let may : may_follow (all_marks c.loop-number.infos.items) c.in_ok-user.user ≡ true = ap (λ (infos : List SlotInfoValue). may_follow (all_marks infos) c.in_ok-user.user)
    (sym c.deref.ensures.value) ∙ (sym c.may_follow.ensures ∙ c.if-not-may_follow.false) in
    let left : c.args.count - c.loop-number.number-counter ≡ suc (c.args.count - (c.loop-number.number-counter + 1)) = omega arith in
    let pushed = c.in_ok-push.ensures.items in
    record {
      number = omega (arith, ap length pushed, length-append {A = SlotInfoValue}, c.loop-number.invariant.number);
      rest = c.loop-number.invariant.rest
          ∙ (ap (λ n. slots_at c.args.room c.args.pc n c.loop-number.infos.items c.loop-number.lines.rest.now) left
          ∙ (slots_more c.args.room c.args.pc _ c.loop-number.infos.items _ _ _ _ _ key c.in_ok-user.ensures may c.in_ok-parted.ensures
          ∙ ap (λ infos. slots_at c.args.room c.args.pc (c.args.count - (c.loop-number.number-counter + 1)) infos c.read_parted.new.lines.rest.now) (sym pushed)));
    }

pub returns-in_err-end : goal.returns-in_err-end
returns-in_err-end c = search (rules, slots_end)

pub returns : goal.returns
returns c = search (rules, slots_end)
