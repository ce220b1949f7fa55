-- A name leads to what it names, and what a name leads to has that name.
use Rattle.std.proofs.Common.{refl, cond, sym, subst, ◌≡◌, ◌⊎◌, inl, inr, ℕ, Bool, true, false, List, [], ◌∷◌}
use Rattle.std.specs.Prelude.{Option, Some}
use Rattle.std.specs.List.{find}
use Rattle.std.specs.Str.{bytes_eq}
use Rattle.std.proofs.lemmas.Option.{same_Some}
use Rattle.std.proofs.lemmas.Slice.Eq.{bytes_eq-Decides}
use Rattle.model.specs.declared.keys.KeyId.{KeyId}
use Rattle.model.specs.declared.keys.KeyId.TheVariants as k
use Rattle.model.specs.declared.primitives.PrimId.{PrimId}
use Rattle.model.specs.declared.primitives.PrimId.TheVariants as p
use Rattle.model.specs.Language.Names.{named, key_name, key_named, prim_name, prim_named}
use Rattle.model.specs.Laws.Names.{KeyNames, PrimNames}

first_or : {A : Type 0} (b : Bool) (y x : A) (o : Option A) → cond b (Some y) o ≡ Some x → ((b ≡ true) × (y ≡ x)) ⊎ (o ≡ Some x)
first_or true y x o h = inl (refl, same_Some y x h)
first_or false y x o h = inr h

found : {A : Type 0} (test : A → Bool) (xs : List A) (x : A) → find test xs ≡ Some x → test x ≡ true
found test [] x h = absurd (cc)
found test (y ∷ ys) x h = elim (first_or (test y) y x (find test ys) h) [ inl q ↦ subst (λ z. test z ≡ true) q.1 q.0 | inr rest ↦ found test ys x rest ]

has_name : {A : Type 0} (name : A → List ℕ) (xs : List A) (text : List ℕ) (x : A) → named name xs text ≡ Some x → text ≡ name x
unfolding named
has_name name xs text x h = sym ((bytes_eq-Decides (name x) text).0 (found (λ y. bytes_eq (name y) text) xs x h))

key_back : (x : KeyId) → key_named (key_name x) ≡ Some x
unfolding key_named named
key_back k.Anchor = refl
key_back k.FullScan = refl
key_back k.Trim = refl
key_back k.Input = refl
key_back k.Output = refl
key_back k.StLimit = refl
key_back k.MaxLngth = refl
key_back k.Alphabet = refl
key_back k.StCount = refl
key_back k.StNo = refl
key_back k.LastNo = refl
key_back k.StFCount = refl
key_back k.FncLevel = refl
key_back k.RtnType = refl

key_has_name : (text : List ℕ) (x : KeyId) → key_named text ≡ Some x → text ≡ key_name x
unfolding key_named
key_has_name text x h = has_name key_name _ text x h

prim_back : (x : PrimId) → prim_named (prim_name x) ≡ Some x
unfolding prim_named named
prim_back p.Len = refl
prim_back p.Pos = refl
prim_back p.RPos = refl
prim_back p.Tab = refl
prim_back p.RTab = refl
prim_back p.Any = refl
prim_back p.NotAny = refl
prim_back p.Span = refl
prim_back p.Break = refl
prim_back p.Arbno = refl
prim_back p.Eq = refl
prim_back p.Ne = refl
prim_back p.Lt = refl
prim_back p.Le = refl
prim_back p.Gt = refl
prim_back p.Ge = refl
prim_back p.Lgt = refl
prim_back p.Ident = refl
prim_back p.Differ = refl
prim_back p.Integer = refl
prim_back p.Size = refl
prim_back p.Trim = refl
prim_back p.Dupl = refl
prim_back p.Replace = refl
prim_back p.Remdr = refl
prim_back p.DataType = refl
prim_back p.Array = refl
prim_back p.Table = refl
prim_back p.Item = refl
prim_back p.Copy = refl
prim_back p.Convert = refl
prim_back p.Data = refl
prim_back p.Define = refl
prim_back p.Apply = refl
prim_back p.Input = refl
prim_back p.Output = refl
prim_back p.Detach = refl
prim_back p.Fence = refl

prim_has_name : (text : List ℕ) (x : PrimId) → prim_named text ≡ Some x → text ≡ prim_name x
unfolding prim_named
prim_has_name text x h = has_name prim_name _ text x h

pub key_names : KeyNames
key_names = (key_back, key_has_name)

pub prim_names : PrimNames
prim_names = (prim_back, prim_has_name)
