use Rattle.model.proofs.Machine.ImagesIn.{image_in, well_formed_in, asked_there, runs_ask_there}
use Rattle.model.proofs.laws_machine.asked_expressions_are_there.Goals as goal

pub returns-clause-images : goal.returns-clause-images
returns-clause-images c = image_in

pub returns-clause-well_formed : goal.returns-clause-well_formed
returns-clause-well_formed c = well_formed_in

pub returns-clause-there : goal.returns-clause-there
returns-clause-there c = asked_there

pub returns-clause-runs : goal.returns-clause-runs
returns-clause-runs c = runs_ask_there
