use Rattle.codegen_laws.proofs.Images.{spelt}
use Rattle.driver.proofs.WholeDecks.{is_module}
use Rattle.driver.proofs.compiling.compile_deck.Goals as goal

pub write-requires : goal.write-requires
write-requires c = let d = c.in_ok-draft.ensures.draft in (_, d.generated, spelt c.args.deck.now _ d.trees)

pub returns-clause-accepted : goal.returns-clause-accepted
returns-clause-accepted c = (c.in_ok-draft.ensures.draft.statements, c.in_ok-draft.ensures.draft.trees)

pub returns-clause-module : goal.returns-clause-module
returns-clause-module c =
    let d = c.in_ok-draft.ensures.draft in
    is_module c.args.deck.now c.in_ok-module.module.items d.statements d.trees (c.in_ok-module.ensures _ d.generated)
