-- Names and what they name are each other's reverse.
use Rattle.std.specs.Prelude.{◌≡◌, List, ℕ, Option, Some}
use Rattle.model.specs.Language.Names.{key_name, key_named, prim_name, prim_named}

-- each name leads back to what it names, and what a name leads to has that name
abbrev pub RoundTrip : {A : Type 0} → (A → List ℕ) → (List ℕ → Option A) → Type 0
RoundTrip name named = ((x : _) → named (name x) ≡ Some x) × ((text : List ℕ) (x : _) → named text ≡ Some x → text ≡ name x)

abbrev pub KeyNames : Type 0
KeyNames = RoundTrip key_name key_named

abbrev pub PrimNames : Type 0
PrimNames = RoundTrip prim_name prim_named
