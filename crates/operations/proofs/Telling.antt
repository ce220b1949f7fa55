-- What is said of units that tell.
use Rattle.std.proofs.Common.{◌≡◌, ℕ, List, [], ◌∷◌, Bool, true, false, Option, Some, None, nat_eq, refl, sym, ap, ◌∙◌, subst}
use Rattle.std.specs.Prelude.{if◌then◌else◌}
use Rattle.std.proofs.lemmas.Bool.Decides.{Decides-eqb}
use Rattle.model.specs.Deck.Trees.{Bytes}
use Rattle.model.specs.Language.Io.{Io}
use Rattle.model.specs.Language.Told.{IfTold}
use Rattle.model.specs.Language.Units.{Reads, Writes, after_read, after_write, first_of, rest_of}
pub use Rattle.unit_io.proofs.Serving.{told_on, told_same}

pub told_read : (o n : Option Io) (u : ℕ) (got : Option Bytes) (P : Io → Io → Type 0) → Reads u got o n → ((io : Io) → got ≡ first_of (io.left u) → P io (after_read u io)) → IfTold o n P
told_read None n u got P h f = tt
told_read (Some told) n u got P (io, (is, after), e) f =
    subst (λ x. IfTold (Some told) x P) (sym after) (subst (λ x. P x (after_read u io)) (sym is) (f io e))

pub told_written : (o n : Option Io) (u : ℕ) (bytes : Bytes) (P : Io → Io → Type 0) → Writes u bytes o n → ((io : Io) → P io (after_write u bytes io)) → IfTold o n P
told_written None n u bytes P h f = tt
told_written (Some told) n u bytes P (io, (is, after)) f = subst (λ x. IfTold (Some told) x P) (sym after) (subst (λ x. P x (after_write u bytes io)) (sym is) (f io))

-- a unit that failed leaves what is told
pub told_kept : (o n : Option Io) (P : Io → Io → Type 0) → n ≡ o → ((io : Io) → P io io) → IfTold o n P
told_kept o n P e f = subst (λ x. IfTold o x P) (sym e) (told_same o P f)

no_first : (rows : List Bytes) → None ≡ first_of rows → rows ≡ []
no_first [] e = refl
no_first (r ∷ rs) e = absurd (cc)

left_by : (b : Bool) (mine other : List Bytes) → (b ≡ true → mine ≡ other) → (if b then mine else other) ≡ other
left_by true mine other h = h refl
left_by false mine other h = refl

-- at the end of a unit a read changes nothing
pub end_stays : (u : ℕ) (io : Io) → None ≡ first_of (io.left u) → after_read u io ≡ io
end_stays u io e = λ i. record {
  left = λ v. left_by (nat_eq u v) (rest_of (io.left u)) (io.left v)
      (λ q. ap rest_of (no_first (io.left u) e) ∙ sym (no_first (io.left u) e) ∙ ap (λ w. io.left w) ((Decides-eqb u v).0 q)) i;
  printed = io.printed;
}
