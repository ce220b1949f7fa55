use Rattle.driver.proofs.InMemory.{runs_in_memory}
use Rattle.driver.proofs.laws.ends_or_goes_on.Goals as goal

pub returns : goal.returns
returns c = runs_in_memory
