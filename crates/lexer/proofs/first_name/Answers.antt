use Rattle.std.proofs.Common.{◌∙◌, subst}
use Rattle.lexer.specs.Scans.{IsScanned}
use Rattle.lexer.proofs.Naming.{fits_is, name_is, none_named}
use Rattle.lexer.proofs.first_name.Goals as goal

pub name_of-requires : goal.name_of-requires
name_of-requires c = fits_is c.args.text.now c.in-Some.found (subst (IsScanned c.args.text.now) c.in-Some.is c.scan.ensures)

pub returns-in-Some : goal.returns-in-Some
returns-in-Some c = c.name_of.ensures ∙ name_is c.args.text.now c.in-Some.found (subst (IsScanned c.args.text.now) c.in-Some.is c.scan.ensures)

pub returns-in-None : goal.returns-in-None
returns-in-None c = none_named c.args.text.now (subst (IsScanned c.args.text.now) c.in-None.is c.scan.ensures)
