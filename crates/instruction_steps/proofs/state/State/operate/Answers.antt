use Rattle.std.proofs.Common.{subst}
use Rattle.model.specs.Module.Flow.{takes}
use Rattle.frames.specs.Kinds.{AreOnTop}
use Rattle.instruction_steps.proofs.state.State.operate.Goals as goal

pub returns-in-KeySet-clause-left : goal.returns-in-KeySet-clause-left
returns-in-KeySet-clause-left c im fs io = rw c.in-KeySet.is (c.set_keyword.ensures.left im fs io)

pub returns-in-Indir-clause-left : goal.returns-in-Indir-clause-left
returns-in-Indir-clause-left c im fs io = rw c.in-Indir.is (c.indir.ensures.left im fs io)

pub element-requires : goal.element-requires
element-requires c = subst (λ i. AreOnTop (takes i) c.args.self.now.operands.top) c.in-Elem.is c.requires.there

pub returns-in-Elem-clause-left : goal.returns-in-Elem-clause-left
returns-in-Elem-clause-left c im fs io = rw c.in-Elem.is (c.element.ensures.left im fs io)

pub returns-in-NameV-clause-left : goal.returns-in-NameV-clause-left
returns-in-NameV-clause-left c im fs io = rw c.in-NameV.is (c.name_value.ensures.left im fs io)

pub returns-in-Drop-clause-left : goal.returns-in-Drop-clause-left
returns-in-Drop-clause-left c im fs io = rw c.in-Drop.is (c.drop_value.ensures.left im fs io)

pub returns-in-Sign-clause-left : goal.returns-in-Sign-clause-left
returns-in-Sign-clause-left c im fs io = rw c.in-Sign.is (c.sign.ensures.left im fs io)

pub returns-in-Arith-clause-left : goal.returns-in-Arith-clause-left
returns-in-Arith-clause-left c im fs io = rw c.in-Arith.is (c.arith.ensures.left im fs io)

pub returns-in-Cat-clause-left : goal.returns-in-Cat-clause-left
returns-in-Cat-clause-left c im fs io = rw c.in-Cat.is (c.cat.ensures.left im fs io)

pub returns-in-Alt-clause-left : goal.returns-in-Alt-clause-left
returns-in-Alt-clause-left c im fs io = rw c.in-Alt.is (c.alt.ensures.left im fs io)

pub returns-in-Cond-clause-left : goal.returns-in-Cond-clause-left
returns-in-Cond-clause-left c im fs io = rw c.in-Cond.is (c.cond.ensures.left im fs io)
