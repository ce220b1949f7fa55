-- Reads one after another, and what is told behind them.
use Rattle.std.proofs.Common.{◌≡◌, ℕ, List, [], ◌++◌, Option, Some, None, Result, refl, sym, ap, subst, ◌∙◌, append_assoc}
use Rattle.std.proofs.lemmas.List.{append-nil}
use Rattle.std.specs.Io.KnownBytes.{Consumes}
use Rattle.model.specs.declared.run.UnitFault.{UnitFault}
use Rattle.unit_io.specs.Streams.{Tells, TellsNext, Took}

consumes_none : (a : Option (List ℕ)) → Consumes a a []
consumes_none None = tt
consumes_none (Some xs) = refl

consumes_on : (a b c : Option (List ℕ)) (xs ys : List ℕ) → Consumes a b xs → Consumes b c ys → Consumes a c (xs ++ ys)
consumes_on None b c xs ys p q = tt
consumes_on (Some x) None c xs ys p q = absurd p
consumes_on (Some x) (Some y) None xs ys p q = absurd q
consumes_on (Some x) (Some y) (Some z) xs ys p q = p ∙ ap (λ (l : List ℕ). xs ++ l) q ∙ sym (append_assoc xs ys z)

pub took_none : (a : Option (List ℕ)) (held : List ℕ) → Took a a held held
took_none a held = ([], consumes_none a, sym (append-nil held))

pub took_on : (a b c : Option (List ℕ)) (held now seen later : List ℕ) → Took a b held now → seen ≡ now → Took b c seen later → Took a c held later
took_on a b c held now seen later (xs, p, e) same (ys, q, f) =
    (xs ++ ys, consumes_on a b c xs ys p q, f ∙ ap (λ (l : List ℕ). l ++ ys) (same ∙ e) ∙ append_assoc held xs ys)

-- a record is told of what is held, and the source is left as it was
pub tells_next : (result : Result (Option (List ℕ)) UnitFault) (a b c : Option (List ℕ)) (held now seen later : List ℕ) → Took a b held now → seen ≡ now → Tells result seen later b → c ≡ b
    → TellsNext result a c held later
tells_next result a b c held now seen later (xs, p, e) same told kept =
    subst (λ (s : Option (List ℕ)). TellsNext result a s held later) (sym kept) (xs, p, subst (λ (l : List ℕ). Tells result l later b) (same ∙ e) told)
