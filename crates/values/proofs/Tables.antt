-- Functions by their names.
use Rattle.std.proofs.Common.{◌≡◌, Option, Some, None, sym, subst}
use Rattle.std.specs.Prelude.{IfSome}
use Rattle.std.specs.Option.{option_copied}
use Rattle.std.specs.Borrow.{Bor}
use Rattle.model.specs.Deck.Trees.{Bytes}
use Rattle.values.specs.Functions.{IsNamed, IfNamed}
use Rattle.values.specs.declared.functions.Function.{Function}

pub named_there : (x : Bytes) (o : Option (Bor Function)) (p : Option Function) → option_copied o ≡ p → IfNamed x p → IfSome o (λ f. IsNamed x f.now)
named_there x None p is h = tt
named_there x (Some f) p is h = subst (IfNamed x) (sym is) h
