use Rattle.file_text.proofs.EscapeLaws.{escaped-injective, escaped-printable}
use Rattle.file_text.proofs.laws.contents_are_shown_one_to_one.Goals as goal

pub returns-clause-apart : goal.returns-clause-apart
returns-clause-apart c = escaped-injective

pub returns-clause-printable : goal.returns-clause-printable
returns-clause-printable c = escaped-printable
