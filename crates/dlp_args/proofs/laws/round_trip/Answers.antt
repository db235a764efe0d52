use Rattle.dlp_args.proofs.ArgumentLaws.{written_texts, arguments_again}
use Rattle.dlp_args.specs.Arguments.{arg_texts}
use Rattle.dlp_args.proofs.laws.round_trip.Goals as goal

pub returns-clause-text : goal.returns-clause-text
returns-clause-text c = written_texts

pub returns-clause-again : goal.returns-clause-again
returns-clause-again c = λ arguments place is. arguments_again arguments place (arg_texts arguments) (written_texts arguments is)
