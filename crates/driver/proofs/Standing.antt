-- Where a run that stopped stands.
use Rattle.std.proofs.Common.{◌≡◌, ◌⊎◌, ◌∙◌, refl, sym, ap, subst, ℕ, zero, suc, ◌+◌, ◌≤◌, [], ◌∷◌, ◌++◌, Option, Some, None, append_assoc, arith, inl, inr}
use Rattle.model.specs.declared.image.Image.{Image}
use Rattle.model.specs.declared.run.Status.{Status}
use Rattle.model.specs.declared.run.Status.TheVariants as status
use Rattle.model.specs.Language.Io.{Io}
use Rattle.model.specs.Language.Told.{IfTold}
use Rattle.model.specs.Laws.Agreement.{Inputs, IsPrefix, Records, first_m, machine_at, seen_at}
use Rattle.model.specs.Language.Values.{printed_of}
use Rattle.model.specs.Machine.Steps.{MW, Module, to_stmt}
use Rattle.model.specs.Module.Images.{module_of}
use Rattle.model.proofs.Machine.LongerRuns.{run_prints_on}
use Rattle.statement_machine.specs.Runs.{IsStoppedRun}
use Rattle.statement_machine.specs.Stopped.{IfStop}
use Rattle.unit_io.proofs.Serving.{told_on}
use Rattle.driver.specs.Whole.{StandsWithin}

-- of two beginnings of one list one is a prefix of the other
one_begins : (xs ys a b : Records) → xs ++ a ≡ ys ++ b → IsPrefix xs ys ⊎ IsPrefix ys xs
one_begins [] ys a b e = inl (ys, refl)
one_begins (x ∷ xs) [] a b e = inr (x ∷ xs, refl)
one_begins (x ∷ xs) (y ∷ ys) a b e =
    let head : x ≡ y = cc in
    let tail : xs ++ a ≡ ys ++ b = cc in
    elim (one_begins xs ys a b tail) [
      | inl h ↦ let is : ys ≡ xs ++ h.0 = h.1 in inl (h.0, cc)
      | inr h ↦ let is : xs ≡ ys ++ h.0 = h.1 in inr (h.0, cc)
    ]

begins_on : (xs ys zs : Records) → IsPrefix xs ys → IsPrefix ys zs → IsPrefix xs zs
begins_on xs ys zs (a, p) (b, q) = (a ++ b, q ∙ ap (λ (l : Records). l ++ b) p ∙ append_assoc xs a b)

-- nothing is printed at the entry
none_at : (m : Module) (o : Option ℕ) (w : MW) → printed_of w ≡ [] → (seen_at (to_stmt m o [] w)).printed ≡ []
none_at m None w e = e
none_at m (Some o) w e = e

module _ (im : Image) (inputs : Inputs) where
  abbrev printed : ℕ → Records
  printed b = (machine_at im inputs b).printed

  prints_on : (b : ℕ) → IsPrefix (printed b) (printed (b + 1))
  prints_on b = let swap : 1 + b ≡ b + 1 = omega arith in subst (λ (n : ℕ). IsPrefix (printed b) (printed n)) swap (run_prints_on im inputs b 1)

  record Stand (b : ℕ) (new : Records) : Type 0 where
    made : ℕ
    within : made ≤ b
    least : IsPrefix (printed made) new
    most : IsPrefix new (printed (made + 1))

  stand : (b : ℕ) (new : Records) → IsPrefix new (printed b) → Stand b new
  stand zero new h = record { made = 0; within = omega arith; least = (new, sym (ap (λ (l : Records). l ++ new) (none_at (module_of im) ((module_of im).stmt (module_of im).entry) (first_m im.level inputs) refl))); most = begins_on new (printed 0) (printed (0 + 1)) h (prints_on 0) }
  stand (suc b) new h =
      let next : suc b ≡ b + 1 = omega arith in
      let last : IsPrefix new (printed (b + 1)) = subst (λ (n : ℕ). IsPrefix new (printed n)) next h in
      elim (one_begins new (printed b) last.0 (prints_on b).0 (sym last.1 ∙ (prints_on b).1)) [
        | inl before ↦ let s = stand b new before in record { made = s.made; within = omega (arith, s.within); least = s.least; most = s.most }
        | inr after ↦ record { made = b; within = omega arith; least = after; most = last }
      ]

stands : (im : Image) (bound : ℕ) (io io' : Io) → IsStoppedRun im bound io io' → StandsWithin im bound io io'
stands im bound io io' (new, follows, h) =
    let s = stand im io.left bound new h in
    record { new = new; follows = follows; made = s.made; within = s.within; least = s.least; most = s.most }

pub stopped_stands : (im : Image) (bound : ℕ) (s : Status) (before after : Option Io) → IfStop s (IfTold before after (IsStoppedRun im bound)) → IfStop s (IfTold before after (StandsWithin im bound))
stopped_stands im bound (status.Stopped why) before after h = told_on before after _ _ (stands im bound) h
stopped_stands im bound status.Running before after h = tt
stopped_stands im bound (status.Ended e) before after h = tt
