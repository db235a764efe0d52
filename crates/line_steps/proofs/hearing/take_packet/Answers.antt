use Rattle.line_steps.proofs.Names.{◌≡◌, sym, ap, subst, ◌∙◌, fragment_value, key_of, Answers, after_answer, one_fragment}
use Rattle.line_steps.proofs.hearing.take_packet.Goals as goal

-- src/hearing.rt:50:1
pub returns-in-Data : goal.returns-in-Data
returns-in-Data c fragment bears =
    let it = c.in-Data.ensures in
    let taken = fragment_value c.in-Data.fragment in
    let receiver = c.args.receiver.now in
    let answer = c.on_data.result in
    let same : taken ≡ fragment = one_fragment taken fragment c.args.packet.body.now it.0.text bears.text in
    let id : c.in-Data.id ≡ c.args.packet.id = it.2 in
    let kind = ap (λ f. f.kind) (sym same) ∙ it.1 in
    let key = c.key-key.ensures ∙ ap (λ n. key_of n taken) id ∙ ap (λ f. key_of c.args.packet.id f) same in
    let answers = subst (λ f. Answers receiver c.args.packet.id f answer) same (subst (λ n. Answers receiver n taken answer) id c.on_data.ensures.answer) in
    let after = c.on_data.ensures.after ∙ ap (λ n. after_answer receiver n taken answer) id ∙ ap (λ f. after_answer receiver c.args.packet.id f answer) same in
    (kind, key, answers, after)
