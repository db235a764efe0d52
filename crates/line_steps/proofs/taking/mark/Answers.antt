use Rattle.line_steps.proofs.Names.{◌≡◌, List, ap, sym, refl, ◌∙◌, Frame, marked}
use Rattle.line_steps.proofs.taking.mark.Goals as goal

pub returns : goal.returns
returns c =
    let old = c.args.wire.now.frames in
    let new = c.mark.new.self in
    let same : new.items ≡ marked c.args.place old.items = ap (λ v. v.items) c.mark.ensures in
    record {
      frames_are = same;
      released_is = refl;
      room_is = c.mark.ensures ∙ ap (λ (fs : List Frame). record old { items = fs }) (sym same);
    }
