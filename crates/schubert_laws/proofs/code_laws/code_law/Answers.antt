use Rattle.schubert_laws.proofs.Codes.{inversions-code, code_is_code, one_line_letters}
use Rattle.schubert_laws.proofs.Codes.{code_of_letters, one_line_from_code, code_from_code}
use Rattle.schubert_laws.proofs.Codes.{from_code-code}
use Rattle.schubert_laws.proofs.code_laws.code_law.Goals as goal

pub returns-clause-inversions : goal.returns-clause-inversions
returns-clause-inversions c = inversions-code

pub returns-clause-is_code : goal.returns-clause-is_code
returns-clause-is_code c = code_is_code

pub returns-clause-one_line : goal.returns-clause-one_line
returns-clause-one_line c = one_line_letters

pub returns-clause-code : goal.returns-clause-code
returns-clause-code c = code_of_letters

pub returns-clause-kept_one_line : goal.returns-clause-kept_one_line
returns-clause-kept_one_line c = one_line_from_code

pub returns-clause-kept_code : goal.returns-clause-kept_code
returns-clause-kept_code c = code_from_code

pub returns-clause-back : goal.returns-clause-back
returns-clause-back c = from_code-code
