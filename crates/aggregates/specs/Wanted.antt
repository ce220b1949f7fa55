-- Keys that are looked up by what they are made of.
use Rattle.std.proofs.Common.{◌≡◌, Bool, false, refl, rules}
use Rattle.std.specs.Prelude.{IsTrue, nat_eq}
use Rattle.std.specs.Cmp.Lexicographic.{pointwise}
use Rattle.std.specs.Ordering.{int_eq}
use Rattle.model.specs.Language.Values as values
use Rattle.aggregates.specs.declared.place.Key.{Key}
use Rattle.aggregates.specs.declared.place.Key.TheVariants as k
use Rattle.aggregates.specs.declared.place.Wanted.{Wanted}
use Rattle.aggregates.specs.declared.place.Wanted.TheVariants as w
use Rattle.aggregates.specs.contracts.place.KeyHash.TheImpl as key
use Rattle.aggregates.specs.contracts.place.WantedHash.TheImpl as wanted
use Rattle.aggregates.specs.contracts.place.KeyPartialEq.TheImpl as equal

-- the key that it is
abbrev pub wanted_key : Wanted → values.Key
wanted_key (w.Integer z) = values.IntegerAt z
wanted_key (w.String s) = values.StringAt s.now

-- whether what is looked up is a key
abbrev pub is_wanted : Wanted → Key → Bool
is_wanted (w.Integer z) (k.Integer y) = int_eq z y
is_wanted (w.String s) (k.String t) = pointwise nat_eq s.now t
is_wanted (w.Integer z) (k.String t) = false
is_wanted (w.String s) (k.Integer y) = false

pub fed_as_key : (q : Wanted) (x : Key) → IsTrue (is_wanted q x) → wanted.ghosts.hash_input q ≡ key.ghosts.hash_input x
fed_as_key (w.Integer z) (k.Integer y) same = Prim.search rules
fed_as_key (w.Integer z) (k.String t) same = absurd (cc)
fed_as_key (w.String s) (k.Integer y) same = absurd (cc)
fed_as_key (w.String s) (k.String t) same = Prim.search rules

pub same_as_key : (q : Wanted) (x y : Key) → IsTrue (is_wanted q x) → is_wanted q y ≡ equal.ghosts.eq x y
same_as_key (w.Integer z) (k.Integer x) (k.Integer y) same = Prim.search rules
same_as_key (w.Integer z) (k.Integer x) (k.String t) same = refl
same_as_key (w.Integer z) (k.String s) y same = absurd (cc)
same_as_key (w.String s) (k.Integer x) y same = absurd (cc)
same_as_key (w.String s) (k.String t) (k.Integer y) same = refl
same_as_key (w.String s) (k.String t) (k.String u) same = Prim.search rules
