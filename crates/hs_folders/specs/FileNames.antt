-- Names of files right in a folder of the file system (POSIX, pathname resolution), and those that
-- a session reads.
use Rattle.std.specs.Prelude.{◌≢◌, ℕ, List, [], Contains, codes, Bool, ◌||◌, nat_eq}
use Rattle.std.specs.List.{ends_with}

-- It is not empty, names neither the folder nor the one above, and has no slash and no zero byte.
pub record IsFileName (name : List ℕ) : Type 0 where
  pub some : name ≢ []
  pub not_here : name ≢ codes "."
  pub not_above : name ≢ codes ".."
  pub no_slash : ¬ Contains name 47
  pub no_zero : ¬ Contains name 0

-- the path ends in these bytes
abbrev pub has_ending : List ℕ → List ℕ → Bool
has_ending ending path = ends_with nat_eq path ending

-- A path under which a side of a session might keep a file: it ends in what the files of databases
-- end in, or as the names of the others do.
abbrev pub is_side_name : List ℕ → Bool
is_side_name path =
    has_ending (codes ".pdb") path || (has_ending (codes ".prc") path
    || (has_ending (codes ".base") path || (has_ending (codes ".arc") path
    || (has_ending (codes "device.inf") path || (has_ending (codes "desktop.inf") path
    || (has_ending (codes "hotsync.journal") path || has_ending (codes "hotsync.tmp") path))))))
