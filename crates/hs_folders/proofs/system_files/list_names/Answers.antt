use Rattle.std.proofs.Common.{◌≢◌, string_bytes}
use Rattle.std.specs.Prelude.{codes}
use Rattle.std.proofs.lemmas.List.Sorted.{All-permutation}
use Rattle.hs_folders.proofs.system_files.list_names.Goals as goal

pub returns-clause-no_temporary : goal.returns-clause-no_temporary
returns-clause-no_temporary g c =
    All-permutation (λ name. string_bytes name ≢ codes "hotsync.tmp") _ _ c.in_ok-sort.ensures.permutation c.add_entries.ensures.no_temporary
