use Rattle.std.proofs.Common.{◌≡◌, ◌∙◌, ap, sym, Some, None, rules, true, false, ◌==◌}
use Rattle.std.specs.Prelude.{if◌then◌else◌}
use Rattle.conduit_rules.specs.States.{no_base, row}
use Rattle.palm_device.specs.Records.{place_of_id}
use Rattle.mirrors.specs.Places.{row_content}
use Rattle.mirrors.proofs.PlaceLaws.{no_place, placed_there, row_there}
use Rattle.mirrors.proofs.rows.row_of.Goals as goal

pub returns-in_err-place : goal.returns-in_err-place
returns-in_err-place c =
    let none : place_of_id c.args.id c.args.base.now ≡ None = search rules in
    cc (no_place c.args.id c.args.base.now none)

pub returns-then-item : goal.returns-then-item
returns-then-item c =
    let item = c.index-base-place.result in
    let placed : place_of_id c.args.id c.args.base.now ≡ Some c.in_ok-place.field-0.now = search rules in
    let here = placed_there c.args.id c.args.base.now placed c.index-base-place.is in
    let other : (c.args.id == 0) ≡ false = search rules in
    let gone : item.deleted ≡ true = c.if-item.true in
    sym (row_there c.args.id c.args.base.now other placed here
    ∙ ap (λ b. row_content (if b then no_base else row item.content)) gone)

pub returns : goal.returns
returns c =
    let item = c.index-base-place.result in
    let placed : place_of_id c.args.id c.args.base.now ≡ Some c.in_ok-place.field-0.now = search rules in
    let here = placed_there c.args.id c.args.base.now placed c.index-base-place.is in
    let other : (c.args.id == 0) ≡ false = search rules in
    let stays : item.deleted ≡ false = c.if-item.false in
    sym (row_there c.args.id c.args.base.now other placed here
    ∙ ap (λ b. row_content (if b then no_base else row item.content)) stays)
