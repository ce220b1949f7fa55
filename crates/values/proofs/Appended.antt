-- Functions that are put in a table with others.
use Rattle.std.proofs.Common.{◌≡◌, Option, Some, None, sym, subst}
use Rattle.std.specs.Prelude.{Result, Ok, Err, OnOk, OnErr}
use Rattle.std.specs.Option.{option_or}
use Rattle.model.specs.Deck.Trees.{Bytes}
use Rattle.values.specs.Functions.{IfNamed}
use Rattle.values.specs.declared.functions.Function.{Function}

-- the table with functions appended, of which each is named
pub appended_named : (x : Bytes) (o p q : Option Function) → q ≡ option_or o p → IfNamed x o → IfNamed x p → IfNamed x q
appended_named x None p q is h k = subst (IfNamed x) (sym is) k
appended_named x (Some f) p q is h k = subst (IfNamed x) (sym is) h

-- what holds after a success and after a refusal
pub either_way : {A E P Q X : Type 0} (r : Result A E) → OnOk r P → OnErr r Q → (P → X) → (Q → X) → X
either_way (Ok a) p q f g = f p
either_way (Err e) p q f g = g q
