-- A label goes to its number in the other table.
use Rattle.category_tables.proofs.LikeNumberLaws.{label_home}
use Rattle.category_tables.proofs.laws.labels_keep_their_numbers.Goals as goal

pub returns : goal.returns
returns c = λ other made number place is uses known. label_home other made number place is.whole uses known
