use Rattle.hs_folders.proofs.FileTrees.{slice_get-kept}
use Rattle.hs_folders.proofs.mem_folder.MemFolder.copy_at.Goals as goal

pub returns-clause-contents : goal.returns-clause-contents
returns-clause-contents c = rw (
  slice_get-kept _ c.in-Kept.past c.args.self.now.files c.args.moment c.in-Kept.is,
  ← c.deref.ensures.value,
  ← c.tree_at.ensures,
  c.in-Some.is,
  c.in_ok-copy.ensures,
)
