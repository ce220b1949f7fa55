-- What a deck's statements come to.
use Rattle.std.specs.Prelude.{◌≡◌, ◌≢◌, ⊤, List, [], map, Result, Ok, Err}
use Rattle.model.specs.declared.cards.Statement.{Statement}
use Rattle.model.specs.declared.causes.DeckFault.{DeckFault}
use Rattle.model.specs.declared.causes.DeckFault.TheVariants as fault
use Rattle.model.specs.declared.causes.StmtFault.{StmtFault}
use Rattle.model.specs.declared.trees.Program.{Program}
use Rattle.model.specs.Deck.Faults.{faults, deck_trees}
use Rattle.model.specs.Deck.TreeViews.{program_of}

-- these faulty statements, of which there is at least one, are reported
abbrev pub AreTold : List StmtFault → List StmtFault → Type 0
AreTold faults fs = (fs ≡ faults) × (faults ≢ [])

-- all faulty statements are reported, unless memory ran out
abbrev pub IsRefusal : List StmtFault → DeckFault → Type 0
IsRefusal faults (fault.Faulty fs) = AreTold faults fs
IsRefusal faults fault.Memory = ⊤

abbrev pub IsParsed : List Statement → Result Program (List StmtFault) → Type 0
IsParsed statements (Ok p) = (faults statements ≡ []) × (program_of p ≡ deck_trees statements) × (p.cards ≡ map (λ s. s.card) statements)
IsParsed statements (Err fs) = AreTold (faults statements) fs
