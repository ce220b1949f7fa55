use Rattle.codegen_laws.proofs.Images.{spelt, sound, small, agrees, in_time, prints}
use Rattle.codegen_laws.proofs.laws.accepted_images.Goals as goal

pub returns-clause-spelt : goal.returns-clause-spelt
returns-clause-spelt c = spelt

pub returns-clause-sound : goal.returns-clause-sound
returns-clause-sound c = sound

pub returns-clause-small : goal.returns-clause-small
returns-clause-small c = small

pub returns-clause-agrees : goal.returns-clause-agrees
returns-clause-agrees c = agrees

pub returns-clause-in_time : goal.returns-clause-in_time
returns-clause-in_time c = in_time

pub returns-clause-prints : goal.returns-clause-prints
returns-clause-prints c = prints
