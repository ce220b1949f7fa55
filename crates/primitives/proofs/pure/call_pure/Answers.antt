use Rattle.std.proofs.Common.{subst}
use Rattle.world.specs.Held.{world_of}
use Rattle.primitives.specs.Answers.{ComesTo}
use Rattle.primitives.proofs.Unchanging.{three_are}
use Rattle.primitives.proofs.pure.call_pure.Goals as goal

pub returns-clause-answer : goal.returns-clause-answer
returns-clause-answer c vs first second third io =
    let w = world_of c.args.world.now io in
    subst (ComesTo c.call_three.result w) (three_are c.args.id _ _ _ vs w c.requires.pure first second third) (c.call_three.ensures.answer io)
