use Rattle.std.proofs.Common.{◌∙◌}
use Rattle.std.proofs.lemmas.Nat.{and_mask}
use Rattle.pdb_files.specs.Reading.{record_of}
use Rattle.pdb_files.proofs.BitLaws.{bit_tested}
use Rattle.hotsync_c.specs.Building.{record_in}
use Rattle.hotsync_c.proofs.build.record_in.Goals as goal

pub returns : goal.returns
unfolding record_in record_of
returns c =
    let bits = c.args.entry.now.attributes in
    let id = (rw c.unwrap.ensures at c.new-3.ensures).1 in
    let deleted = c.has-2.ensures ∙ bit_tested 7 bits in
    let dirty = c.has-3.ensures ∙ bit_tested 6 bits in
    let busy = c.has-4.ensures ∙ bit_tested 5 bits in
    let secret = c.has.ensures ∙ bit_tested 4 bits in
    let category = (rw c.unwrap-category.ensures at c.new.ensures).1 ∙ and_mask bits 4 in
    let content = (rw c.unwrap-content.ensures at c.new-2.ensures).1
    ∙ (λ i. record { category = category i; secret = secret i; bytes = c.in_ok-bytes.ensures.items i }) in
    λ i. record { id = id i; deleted = deleted i; dirty = dirty i; busy = busy i; content = content i }
