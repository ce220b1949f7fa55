use Rattle.std.proofs.Common.{◌≡◌, ◌+◌, ◌*◌, ◌≤◌, Some, None, drop, subst, refl, sym, ap, ◌∙◌, arith}
use Rattle.std.proofs.lemmas.Int.{ints, to_z-of_z}
use Rattle.std.proofs.Math.Nat.{one-mul}
use Rattle.model.specs.Language.Aggregates.{place_from}
use Rattle.model.specs.Language.Prototypes.{elements_in}
use Rattle.aggregates.proofs.Subscripts.{no_place, place_next, place_none, some_next, fits_next, small_next, ended}
use Rattle.aggregates.proofs.bounds.place_of.Goals as goal

pub returns-then-subscripts-bounds : goal.returns-then-subscripts-bounds
returns-then-subscripts-bounds c = sym (no_place 0 c.args.bounds.now c.args.subscripts.now c.if-subscripts-bounds.true)

pub loop-k-init : goal.loop-k-init
loop-k-init c = record { same = refl; fits = omega (arith, one-mul (elements_in c.args.bounds.now)); some = c.requires.some }

pub returns-in_err-offset : goal.returns-in_err-offset
returns-in_err-offset c =
    c.from_residual.ensures
    ∙ sym (place_none c.args.bounds.now c.args.subscripts.now c.loop-k.k c.loop-k.place c.index-bounds-k.result (omega arith) (omega arith) c.index-bounds-k.is None (grind (arith, ints, to_z-of_z, c.in_err-offset.ensures)) refl)
    ∙ c.loop-k.invariant.same

small : (c : goal.After-count) → c.loop-k.place * c.index-bounds-k.result.count + c.index-bounds-k.result.count ≤ elements_in c.args.bounds.now
small c = small_next c.args.bounds.now c.args.subscripts.now c.loop-k.k c.loop-k.place c.index-bounds-k.result (omega arith) (omega arith) c.index-bounds-k.is c.in_ok-offset.offset (elements_in c.args.bounds.now) c.in_ok-offset.ensures.below c.loop-k.invariant.fits c.loop-k.invariant.some

-- the count is told whole
counted : (c : goal.After-count) → c.count.result ≡ c.index-bounds-k.result.count
counted c = let few = small c in omega (arith, few, c.count.ensures.count, c.requires.fits)

placed : (c : goal.After-count) → c.loop-k.place * c.count.result + c.in_ok-offset.offset ≡ c.loop-k.place * c.index-bounds-k.result.count + c.in_ok-offset.offset
placed c = ap (λ n. c.loop-k.place * n + c.in_ok-offset.offset) (counted c)

pub overflow_mul-place : goal.overflow_mul-place
overflow_mul-place c = let few = small c in let same = ap (λ n. c.loop-k.place * n) (counted c) in omega (arith, few, same, c.requires.fits)

pub overflow_add-place : goal.overflow_add-place
overflow_add-place c = let few = small c in let same = placed c in omega (arith, few, same, c.in_ok-offset.ensures.below, c.requires.fits)

pub loop-k-preserved : goal.loop-k-preserved
loop-k-preserved c = record {
  same = ap (λ n. place_from n (drop (c.loop-k.k + 1) c.args.bounds.now) (drop (c.loop-k.k + 1) c.args.subscripts.now)) (placed c)
      ∙ place_next c.args.bounds.now c.args.subscripts.now c.loop-k.k c.loop-k.place c.index-bounds-k.result (omega arith) (omega arith) c.index-bounds-k.is (Some c.in_ok-offset.offset) (grind (arith, ints, to_z-of_z, c.in_ok-offset.ensures)) c.in_ok-offset.offset refl
      ∙ c.loop-k.invariant.same;
  fits = subst (λ n. (n + 1) * elements_in (drop (c.loop-k.k + 1) c.args.bounds.now) ≤ elements_in c.args.bounds.now) (sym (placed c))
      (fits_next c.args.bounds.now c.args.subscripts.now c.loop-k.k c.loop-k.place c.index-bounds-k.result (omega arith) (omega arith) c.index-bounds-k.is c.in_ok-offset.offset (elements_in c.args.bounds.now) c.in_ok-offset.ensures.below c.loop-k.invariant.fits);
  some = some_next c.args.bounds.now c.args.subscripts.now c.loop-k.k c.loop-k.place c.index-bounds-k.result (omega arith) (omega arith) c.index-bounds-k.is c.loop-k.invariant.some;
}

pub returns : goal.returns
returns c = ended c.args.bounds.now c.args.subscripts.now c.loop-k.k c.loop-k.place (omega arith) (omega arith) ∙ c.loop-k.invariant.same
