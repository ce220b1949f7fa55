use Rattle.model.proofs.Language.Integers.{reads_integers, refuses_other_texts}
use Rattle.model.proofs.laws_values.integers_read.Goals as goal

pub returns-clause-read : goal.returns-clause-read
returns-clause-read c b bs h = reads_integers b bs h

pub returns-clause-refused : goal.returns-clause-refused
returns-clause-refused c b bs h = refuses_other_texts b bs h
