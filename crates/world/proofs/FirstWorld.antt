-- The world that a run begins with.
use Rattle.std.proofs.Common.{◌≡◌, List, [], ◌∷◌, ◌++◌, Bool, true, false, cond, Option, Some, None, refl, sym, ap, ◌∙◌, append-nil, bytes_eq, codes}
use Rattle.std.proofs.lemmas.Slice.Eq.{bytes_eq-Decides}
use Rattle.model.specs.declared.image.Level.{Level}
use Rattle.model.specs.Deck.Trees.{Bytes}
use Rattle.model.specs.Language.Io.{Io}
use Rattle.model.specs.Language.Keywords.{first_keys}
use Rattle.model.specs.Language.Values.{Str, first_value}
use Rattle.model.specs.Machine.Steps.{codes_of}
use Rattle.model.specs.Laws.Agreement.{first_m}
use Rattle.model.specs.Laws.PrintedBefore.{after_w}
use Rattle.world.specs.Held.{WorldView, variable_at, value_in, input_in, output_in, world_of, null_variable, first_patterns, first_variables}
use Rattle.values.specs.declared.variable.Variable.{Variable}

-- what f gives of the variable that is found among some, or else this
abbrev pub among : {A : Type 0} → (Option Variable → A) → Bytes → A → List (Bytes × Variable) → A
among f x other [] = other
among f x other (e ∷ es) = cond (bytes_eq x e.0) (f (Some e.1)) (among f x other es)

by_field : {A : Type 0} (f : Option Variable → A) (b : Bool) (v : Variable) (o : Option Variable) (u : A) → f o ≡ u → f (cond b (Some v) o) ≡ cond b (f (Some v)) u
by_field f true v o u e = refl
by_field f false v o u e = e

is_among : {A : Type 0} (f : Option Variable → A) (x : Bytes) (es : List (Bytes × Variable)) → f (variable_at x es) ≡ among f x (f None) es
is_among f x [] = refl
is_among f x (e ∷ es) = by_field f (bytes_eq x e.0) e.1 (variable_at x es) (among f x (f None) es) (is_among f x es)

-- each has what a function of names gives there
abbrev pub AreGiven : {A : Type 0} → (Option Variable → A) → (Bytes → A) → List (Bytes × Variable) → Type 0
AreGiven f g [] = Unit {0}
AreGiven f g (e ∷ es) = (f (Some e.1) ≡ g e.0) × AreGiven f g es

as_given : {A : Type 0} (f : Option Variable → A) (g : Bytes → A) (x : Bytes) (other : A) (es : List (Bytes × Variable)) → AreGiven f g es → other ≡ g x → among f x other es ≡ g x
as_given f g x other [] h e = e
as_given {A} f g x other (k ∷ es) (d, h) e = go (as_given f g x other es h e) (bytes_eq x k.0) refl
  where
    go : among f x other es ≡ g x → (b : Bool) → bytes_eq x k.0 ≡ b → cond b (f (Some k.1)) (among f x other es) ≡ g x
    go later true q = d ∙ ap g (sym ((bytes_eq-Decides x k.0).0 q))
    go later false q = later

same_two : {A : Type 0} (a b : Bool) (u : A) → cond a u (cond b u u) ≡ u
same_two true b u = refl
same_two false true u = refl
same_two false false u = refl

same_three : {A : Type 0} (a b c : Bool) (u : A) → cond a u (cond b u (cond c u u)) ≡ u
same_three true b c u = refl
same_three false b c u = same_two b c u

first_vars : (x : Bytes) → value_in (variable_at x first_variables) ≡ first_value codes_of x
first_vars x =
    is_among value_in x first_variables
    ∙ ap (λ u. among value_in x u first_patterns) (same_three (bytes_eq x (codes "INPUT")) (bytes_eq x (codes "OUTPUT")) (bytes_eq x (codes "PUNCH")) (Str []))

first_reads : (x : Bytes) → input_in (variable_at x first_variables) ≡ cond (bytes_eq x (codes "INPUT")) (Some 5) None
first_reads x =
    is_among input_in x first_variables
    ∙ as_given input_in (λ y. cond (bytes_eq y (codes "INPUT")) (Some 5) None) x (cond (bytes_eq x (codes "INPUT")) (Some 5) (cond (bytes_eq x (codes "OUTPUT")) None (cond (bytes_eq x (codes "PUNCH")) None None))) first_patterns
    (refl, (refl, (refl, (refl, (refl, (refl, (refl, tt)))))))
    (ap (cond (bytes_eq x (codes "INPUT")) (Some 5)) (same_two (bytes_eq x (codes "OUTPUT")) (bytes_eq x (codes "PUNCH")) None))

first_writes : (x : Bytes) → output_in (variable_at x first_variables) ≡ cond (bytes_eq x (codes "OUTPUT")) (Some 6) (cond (bytes_eq x (codes "PUNCH")) (Some 7) None)
first_writes x =
    is_among output_in x first_variables
    ∙ as_given output_in (λ y. cond (bytes_eq y (codes "OUTPUT")) (Some 6) (cond (bytes_eq y (codes "PUNCH")) (Some 7) None)) x (cond (bytes_eq x (codes "OUTPUT")) (Some 6) (cond (bytes_eq x (codes "PUNCH")) (Some 7) None)) (first_patterns ++ (codes "INPUT", null_variable (Some 5) None) ∷ [])
    (refl, (refl, (refl, (refl, (refl, (refl, (refl, (refl, tt)))))))) refl

first_io : (io : Io) → io ≡ record { left = io.left; printed = io.printed ++ [] }
first_io io = ap (λ ps. record { left = io.left; printed = ps }) (sym (append-nil io.printed))

pub first_holds : (h : WorldView) (lv : Level) (ns : List Bytes) (io : Io) → h ≡ record { variables = first_variables; objects = []; functions = []; keys = first_keys; level = lv; names = ns } → world_of h io ≡ after_w io.printed (first_m lv io.left)
first_holds h lv ns io is =
    ap (λ z. world_of z io) is
    ∙ (λ i. record {
      vars = λ y. first_vars y i;
      objects = [];
      plain = record {
        level = lv;
        functions = λ f. None;
        keys = first_keys;
        reads = λ y. first_reads y i;
        writes = λ y. first_writes y i;
      };
      io = first_io io i;
    })
