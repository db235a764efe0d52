-- What is left stands for no byte.
use Rattle.std.proofs.Common.{◌≡◌, ◌∙◌, [], ap, sym, rules}
use Rattle.folder_files.specs.StemTexts.{name_in}
use Rattle.folder_files.proofs.StemTextLaws.{name_in-of, stem_bytes-end}
use Rattle.folder_files.proofs.stem.named_by.Goals as goal

pub returns : goal.returns
returns c =
    let none : c.loop-byte.rest.now ≡ [] = search rules in
    let read = c.loop-byte.invariant ∙ stem_bytes-end c.loop-byte.bytes.items c.loop-byte.rest.now none in
    c.ok-2.ensures.value ∙ (name_in-of _ _ c.new.ensures.ok c.new.ensures.fault ∙ ap name_in (c.as_slice.ensures.value ∙ sym read))
