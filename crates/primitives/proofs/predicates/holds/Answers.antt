use Rattle.primitives.proofs.Tests.{tested_same}
use Rattle.primitives.proofs.predicates.holds.Goals as goal

pub returns-in-Eq : goal.returns-in-Eq
returns-in-Eq c vs w first second = rw (c.in-Eq.is, first, second) (c.compares.ensures w)

pub returns-in-Ne : goal.returns-in-Ne
returns-in-Ne c vs w first second = rw (c.in-Ne.is, first, second) (c.compares-in-Ne.ensures w)

pub returns-in-Lt : goal.returns-in-Lt
returns-in-Lt c vs w first second = rw (c.in-Lt.is, first, second) (c.compares-in-Lt.ensures w)

pub returns-in-Le : goal.returns-in-Le
returns-in-Le c vs w first second = rw (c.in-Le.is, first, second) (c.compares-in-Le.ensures w)

pub returns-in-Gt : goal.returns-in-Gt
returns-in-Gt c vs w first second = rw (c.in-Gt.is, first, second) (c.compares-in-Gt.ensures w)

pub returns-in-Ge : goal.returns-in-Ge
returns-in-Ge c vs w first second = rw (c.in-Ge.is, first, second) (c.compares-in-Ge.ensures w)

pub returns-in-Ident : goal.returns-in-Ident
returns-in-Ident c vs w first second = rw (c.in-Ident.is, first, second) (tested_same c.same.result _ w c.same.ensures)
