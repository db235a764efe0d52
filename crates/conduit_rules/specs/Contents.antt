-- When two contents are equal: by category, secrecy and bytes.
use Rattle.std.specs.Prelude.{ℕ, Bool, ◌&&◌, ◌==◌, List, bytes_eq, count_by}
use Rattle.std.specs.Bool.{beq}
use Rattle.pdb_values.specs.Contents.{ContentValue}

-- whether two contents are equal
unfoldable pub same_content : ContentValue → ContentValue → Bool
same_content a b = (a.category == b.category) && (beq a.secret b.secret && bytes_eq a.bytes b.bytes)

-- how often a content stands in a list
abbrev pub count_of : ContentValue → List ContentValue → ℕ
count_of c xs = count_by (λ x. same_content x c) xs
