use Rattle.values.specs.Values.{value_of}
use Rattle.frames.proofs.Counts.{no_count}
use Rattle.frames.proofs.answering.answer_of.Goals as goal

pub returns-in-Err-clause-answer : goal.returns-in-Err-clause-answer
returns-in-Err-clause-answer c = rw c.in-Count.is (no_count (value_of c.args.value.now) c.in-Err.code c.in-Err.ensures)
