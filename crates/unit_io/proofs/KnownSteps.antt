-- Known bytes over two steps.
use Rattle.std.proofs.Common.{◌≡◌, ℕ, List, [], ◌++◌, Option, Some, None, refl, sym, ap, subst, ◌∙◌}
use Rattle.std.proofs.lemmas.List.{append-nil}
use Rattle.std.specs.Io.KnownBytes.{Keeps, append_known, prepend_known}

pub keeps_same : (a : Option (List ℕ)) → Keeps a a
keeps_same None = tt
keeps_same (Some xs) = refl

pub keeps_of : (a b : Option (List ℕ)) → b ≡ a → Keeps a b
keeps_of a b e = subst (Keeps a) (sym e) (keeps_same a)

pub keeps_keeps : (a b c : Option (List ℕ)) → Keeps a b → Keeps b c → Keeps a c
keeps_keeps None b c p q = tt
keeps_keeps (Some x) None c p q = absurd p
keeps_keeps (Some x) (Some y) None p q = absurd q
keeps_keeps (Some x) (Some y) (Some z) p q = q ∙ p

-- a reader that holds nothing, and a writer that keeps nothing back

pub keeps_prepended : (a b : Option (List ℕ)) (held : List ℕ) → held ≡ [] → Keeps a b → Keeps a (prepend_known held b)
keeps_prepended None b held e k = tt
keeps_prepended (Some x) None held e k = absurd k
keeps_prepended (Some x) (Some y) held e k = ap (λ (l : List ℕ). l ++ y) e ∙ k

pub keeps_appended : (a b : Option (List ℕ)) (back : List ℕ) → back ≡ [] → Keeps a b → Keeps a (append_known b back)
keeps_appended None b back e k = tt
keeps_appended (Some x) None back e k = absurd k
keeps_appended (Some x) (Some y) back e k = ap (λ (l : List ℕ). y ++ l) e ∙ append-nil y ∙ k
