-- What a row is against its base row.
use Rattle.category_mirror.proofs.EditLaws.{no_edit, states_stay}
use Rattle.category_mirror.proofs.laws.no_record_counts_as_edited.Goals as goal

pub returns : goal.returns
returns c = record {
  unedited = λ filing name rows base id side are un is. no_edit filing name rows base id are side un is;
  states = λ filing name rows base id are apart. states_stay filing name rows base id are apart;
}
