use Rattle.std.proofs.Common.{◌∙◌}
use Rattle.std.proofs.lemmas.Nat.{and_mask}
use Rattle.pdb_files.specs.Reading.{record_of}
use Rattle.pdb_files.proofs.BitLaws.{bit_tested}
use Rattle.pdb_files.proofs.entry.Entry.record.Goals as goal

pub returns-clause-item : goal.returns-clause-item
unfolding record_of
returns-clause-item c =
    let bits = c.args.self.now.attributes in
    let deleted = c.has-2.ensures ∙ bit_tested 7 bits in
    let dirty = c.has-3.ensures ∙ bit_tested 6 bits in
    let busy = c.has-4.ensures ∙ bit_tested 5 bits in
    let secret = c.has.ensures ∙ bit_tested 4 bits in
    let category = (rw c.unwrap-category.ensures at c.new.ensures).1 ∙ and_mask bits 4 in
    let content = (rw c.unwrap-content.ensures at c.new-2.ensures).1
    ∙ (λ i. record { category = category i; secret = secret i; bytes = c.in_ok-bytes.ensures.items i }) in
    λ i. record { id = c.args.self.now.id; deleted = deleted i; dirty = dirty i; busy = busy i; content = content i }
