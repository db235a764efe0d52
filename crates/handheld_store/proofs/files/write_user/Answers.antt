use Rattle.std.proofs.Common.{Result, Ok, Err, rules}
use Rattle.std.specs.Prelude.{OnOk}
use Rattle.handheld_store.proofs.files.write_user.Goals as goal

on_ok : {A E P : Type 0} (answer : Result A E) → P → OnOk answer P
on_ok (Ok x) holds = holds
on_ok (Err fault) holds = tt

pub returns-clause-written : goal.returns-clause-written
returns-clause-written g c = rw (← c.in_ok-text.ensures.text, ← c.as_bytes.ensures.value) (search rules)

pub returns-clause-file : goal.returns-clause-file
returns-clause-file g c = on_ok c.write_file.result (rw (← c.in_ok-text.ensures.text) c.in_ok-text.ensures.file)
