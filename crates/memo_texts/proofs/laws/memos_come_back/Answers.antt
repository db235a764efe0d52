use Rattle.std.proofs.lemmas.Bool.Decides.{nat_tests}
use Rattle.std.proofs.Common.{arith, ◌≡◌, ◌∙◌, ap, false, length, refl}
use Rattle.std.specs.Prelude.{nat_lt}
use Rattle.memo_texts.specs.Databases.{database_or_fault, labels_of}
use Rattle.memo_texts.proofs.BackLaws.{memos_in-memos_text}
use Rattle.memo_texts.proofs.ReturnLaws.{exported_memos-database}
use Rattle.memo_texts.proofs.laws.memos_come_back.Goals as goal

pub returns-clause-imported : goal.returns-clause-imported
returns-clause-imported c = λ memos kept labels_few few.
    let labels : nat_lt 15 (length (labels_of memos)) ≡ false = grind (arith, nat_tests, labels_few) in
    let records : nat_lt 65535 (length memos) ≡ false = grind (arith, nat_tests, few) in
    ap database_or_fault (memos_in-memos_text memos kept) ∙ rw (labels, records) refl

pub returns-clause-exported : goal.returns-clause-exported
returns-clause-exported c = exported_memos-database
