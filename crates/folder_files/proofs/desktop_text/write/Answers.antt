-- The lines of one slot more, which say it.
use Rattle.std.proofs.Common.{ℕ, ◌<◌, ◌≡◌, ◌∙◌, ap, arith, get_or, length, rules, subst, take}
use Rattle.std.proofs.lemmas.List.{append_assoc, take_all}
use Rattle.folder_files.specs.Lines.{Number, SaysNumber, text_of}
use Rattle.folder_files.specs.Slots.{SlotInfoValue, all_marks, pc_of}
use Rattle.folder_files.proofs.SlotLaws.{first-pc, marks-length, said_all, said_more, text_more}
use Rattle.folder_files.proofs.desktop_text.write.Goals as goal

pub loop-number-preserved : goal.loop-number-preserved
loop-number-preserved c = search (rules, text_more, said_more)

pub returns-clause-text : goal.returns-clause-text
returns-clause-text c =
    let infos = c.args.slots.now in
    let pc : c.first.inside.marks.pc ≡ pc_of (all_marks infos) = first-pc infos c.first.inside.marks c.index-slots-0.result c.requires.some
    (ap (λ (info : SlotInfoValue). info.marks) (c.first.view_is ∙ c.index-slots-0.is)) in
    let all : take c.loop-number.number infos ≡ infos = take_all c.loop-number.number infos c.loop-number-test.false in
    c.loop-number.invariant.text ∙ simp (c.in_ok-text.ensures.ok, c.title_text-title.ensures, c.has_parted.ensures, c.in_ok-pc.ensures.word, pc, all, append_assoc)

pub returns-clause-said : goal.returns-clause-said
returns-clause-said c =
    let infos = c.args.slots.now in
    let pc : c.first.inside.marks.pc ≡ (get_or infos 0 c.index-slots-0.result).marks.pc = ap (λ (info : SlotInfoValue). info.marks.pc)
    (c.first.view_is ∙ c.index-slots-0.is) in
    let some : 0 < length infos = omega (arith, c.requires.some, marks-length infos) in
    said_all infos c.loop-number.number c.index-slots-0.result c.loop-number-test.false some
    (subst (λ (n : ℕ). SaysNumber n (text_of Number n)) pc c.in_ok-pc.ensures.says) c.loop-number.invariant.said
