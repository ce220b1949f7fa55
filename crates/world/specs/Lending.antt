-- What a world lends of itself, to be changed: afterwards it has what that became.
use Rattle.std.specs.Prelude.{List}
use Rattle.std.specs.Borrow.{Fml, Lends, MutBor}
use Rattle.model.specs.Language.Keywords.{Keys}
use Rattle.model.specs.Language.Values.{Object}
use Rattle.heap.specs.contracts.heap.Heap as heap
use Rattle.keywords.specs.contracts.Keywords as keywords
use Rattle.world.specs.Held.{WorldView}
use Rattle.values.specs.contracts.value.Value as value
use Rattle.world.specs.contracts.world.World as world
use Rattle.values.specs.declared.value.Value.{Value}

abbrev pub LendsObjects : MutBor WorldView → MutBor (List (Object Value)) → Fml
LendsObjects w r = Lends world.the_row (heap.the_row value.the_row) w r (λ os. record w.now { objects = os })

abbrev pub LendsKeywords : MutBor WorldView → MutBor Keys → Fml
LendsKeywords w r = Lends world.the_row keywords.the_row w r (λ ks. record w.now { keys = ks })
