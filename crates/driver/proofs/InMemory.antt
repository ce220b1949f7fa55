-- Units in memory stop no run that uses them as they are open.
use Rattle.model.specs.declared.run.Status.TheVariants as status
use Rattle.model.specs.declared.run.Stop.TheVariants as stop
use Rattle.unit_io.specs.Held.{io_of, side_at}
use Rattle.unit_io.proofs.OpenSides.{never_shut}
use Rattle.statement_machine.proofs.Asked.{stops_used}
use Rattle.driver.specs.InMemory.{RunsInMemory}

pub runs_in_memory : RunsInMemory
runs_in_memory deck bound status.Running before after r uses = tt
runs_in_memory deck bound (status.Ended e) before after r uses = tt
runs_in_memory deck bound (status.Stopped stop.NoMemory) before after r uses = tt
runs_in_memory deck bound (status.Stopped (stop.Unit u cause)) before after r uses =
    never_shut (side_at u before.opened) (stops_used r.image bound u (io_of before) (io_of after) uses r.stopped r.asked.1)
