use Rattle.std.proofs.Common.{◌≡◌, ℕ, drop}
use Rattle.flow_check.specs.Marks.{marked, seeded}
use Rattle.flow_check.proofs.check.seed.Given as goal

abbrev pub invariant-loop-offset : goal.invariant-loop-offset
invariant-loop-offset l = (y : ℕ) → seeded (drop l.offset-index l.offsets) l.shape (marked l.marks) y ≡ seeded l.offsets l.shape (marked l.initial.marks) y
