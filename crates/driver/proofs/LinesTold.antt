-- A line that is written in two parts.
use Rattle.std.proofs.Common.{◌≡◌, ◌∙◌, ℕ, List, [], ◌++◌, Option, Some, None, Result, Ok, Err, ap, sym, subst, append_assoc, append-nil}
use Rattle.std.specs.Prelude.{OnOk}
use Rattle.std.specs.Io.KnownBytes.{Appends}

pub parts_appended : (a b c : Option (List ℕ)) (first rest : List ℕ) → Appends a b first → Appends b c rest → Appends a c (first ++ rest)
parts_appended None b c first rest p q = tt
parts_appended (Some x) None c first rest p q = absurd p
parts_appended (Some x) (Some y) None first rest p q = absurd q
parts_appended (Some x) (Some y) (Some z) first rest p q = q ∙ ap (λ (l : List ℕ). l ++ rest) p ∙ append_assoc x first rest

pub parts_told : {T E : Type 0} (r : Result T E) (whole first rest : List ℕ) (a b c : Option (List ℕ)) → whole ≡ first ++ rest → Appends a b first → OnOk r (Appends b c rest) → OnOk r (Appends a c whole)
parts_told (Ok x) whole first rest a b c is p q = subst (λ (l : List ℕ). Appends a c l) (sym is) (parts_appended a b c first rest p q)
parts_told (Err x) whole first rest a b c is p q = tt

pub nothing_appended : (a : Option (List ℕ)) → Appends a a []
nothing_appended None = tt
nothing_appended (Some x) = sym (append-nil x)
