use Rattle.model.proofs.Machine.SearchLiving.{search_lives, supplied_lives}
use Rattle.model.proofs.Machine.StepsLiving.{step_alike, steps_alike, seen_alike}
use Rattle.model.proofs.Machine.Collecting.{images_live, cleared_alike, fit_by_number, go_on_collected, value_on, operands_on, search_on, frames_on, steps_collected, collected_again, collections_unseen}
use Rattle.model.proofs.laws_machine.unreached_objects_are_unseen.Goals as goal

pub returns-clause-searches : goal.returns-clause-searches
returns-clause-searches c = search_lives

pub returns-clause-supplied : goal.returns-clause-supplied
returns-clause-supplied c = supplied_lives

pub returns-clause-step : goal.returns-clause-step
returns-clause-step c = step_alike

pub returns-clause-steps : goal.returns-clause-steps
returns-clause-steps c = steps_alike

pub returns-clause-seen : goal.returns-clause-seen
returns-clause-seen c = seen_alike

pub returns-clause-images : goal.returns-clause-images
returns-clause-images c = images_live

pub returns-clause-cleared : goal.returns-clause-cleared
returns-clause-cleared c = cleared_alike

pub returns-clause-fit : goal.returns-clause-fit
returns-clause-fit c = fit_by_number

pub returns-clause-values : goal.returns-clause-values
returns-clause-values c = value_on

pub returns-clause-operands : goal.returns-clause-operands
returns-clause-operands c = operands_on

pub returns-clause-matches : goal.returns-clause-matches
returns-clause-matches c = search_on

pub returns-clause-frames : goal.returns-clause-frames
returns-clause-frames c = frames_on

pub returns-clause-on : goal.returns-clause-on
returns-clause-on c = steps_collected

pub returns-clause-go_on : goal.returns-clause-go_on
returns-clause-go_on c = go_on_collected

pub returns-clause-again : goal.returns-clause-again
returns-clause-again c = collected_again

pub returns-clause-runs : goal.returns-clause-runs
returns-clause-runs c = collections_unseen
