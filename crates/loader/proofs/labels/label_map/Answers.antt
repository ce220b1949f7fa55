use Rattle.std.proofs.Common.{◌∙◌, ◌-◌, ℕ, List, Bor, arith, ap, sym, refl}
use Rattle.std.specs.Prelude.{option_map}
use Rattle.loader.proofs.Labelling.{skips, puts, unlabelled}
use Rattle.loader.proofs.labels.label_map.Goals as goal

abbrev bytes_of : Bor (List ℕ) → List ℕ
bytes_of b = b.now

pub loop-left-preserved-in_ok-insert : goal.loop-left-preserved-in_ok-insert
loop-left-preserved-in_ok-insert c =
    let ls = c.labels-labels.result.now in
    let n = c.loop-left.left in
    let there = sym c.string.ensures ∙ ap (option_map bytes_of) c.in-Some.is in
    record {
      within = omega (arith, c.loop-left.invariant.within);
      so_far = puts bytes_of _ (λ x y. refl) c.args.image.now.strings ls n (n - 1) unlabelled c.in-Some.name.now c.in-Some.name c.loop-left.found.entries c.insert.new.self.entries
          (omega (arith, c.loop-left-test.true)) (omega (arith, c.loop-left-test.true, c.loop-left.invariant.within)) there refl c.in_ok-insert.ensures.entries c.loop-left.invariant.so_far;
    }

pub loop-left-preserved : goal.loop-left-preserved
loop-left-preserved c =
    let ls = c.labels-labels.result.now in
    let n = c.loop-left.left in
    let none = sym c.string.ensures ∙ ap (option_map bytes_of) c.in_default.is in
    record {
      within = omega (arith, c.loop-left.invariant.within);
      so_far = skips bytes_of _ (λ x y. refl) c.args.image.now.strings ls n (n - 1) unlabelled c.loop-left.found.entries (omega (arith, c.loop-left-test.true)) (omega (arith, c.loop-left-test.true, c.loop-left.invariant.within)) none c.loop-left.invariant.so_far;
    }
