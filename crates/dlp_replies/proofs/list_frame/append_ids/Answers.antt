use Rattle.std.proofs.Common.{◌∙◌, ◌+◌, ◌++◌, List, ℕ, drop, length, sym, ap, arith}
use Rattle.std.specs.Int.{w32, to_be_bytes}
use Rattle.std.proofs.lemmas.List.{length-append}
use Rattle.dlp_replies.specs.IdLists.{ids_text}
use Rattle.dlp_replies.proofs.ListLaws.{text_added, text_fits, within_list}
use Rattle.dlp_replies.proofs.list_frame.append_ids.Goals as goal
use Rattle.dlp_replies.proofs.list_frame.append_ids.Goals.{in-Some, in_default}

pub append-requires : goal.append-requires
append-requires c =
    let all = c.args.out.now ++ ids_text c.args.ids.now in
    let fits = text_fits (to_be_bytes w32) c.args.ids.now c.loop-place.place c.in-Some.id c.loop-place.out all (sym c.get.ensures ∙ c.in-Some.is)
    c.loop-place.invariant in
    let bytes = ap length c.to_be_bytes.ensures in
    omega (arith, fits, bytes, length-append c.args.out.now (ids_text c.args.ids.now), c.requires)

pub loop-place-preserved : goal.loop-place-preserved
loop-place-preserved c =
    elim c.match-get.branch [
      | in-Some w ↦
          let all = c.args.out.now ++ ids_text c.args.ids.now in
          let bytes = w.to_be_bytes.ensures ∙ ap (to_be_bytes w32) w.number.ensures.number in
          let out = w.out-is ∙ w.append.ensures ∙ ap (λ (xs : List ℕ). c.loop-place.out ++ xs) bytes in
          ap (λ (xs : List ℕ). xs ++ ids_text (drop (c.loop-place.place + 1) c.args.ids.now)) out ∙ text_added (to_be_bytes w32) c.args.ids.now
          c.loop-place.place w.in-Some.id c.loop-place.out all (sym c.get.ensures ∙ w.in-Some.is) c.loop-place.invariant
      | in_default w ↦
          let past = within_list c.args.ids.now c.loop-place.place (sym c.get.ensures ∙ w.in_default.is) in
          absurd (omega (arith, past, c.loop-place-test.true, c.len-place-end.ensures))
    ]
