use Rattle.std.proofs.Common.{◌≡◌, ℕ, subst, refl, sym}
use Rattle.unit_io.specs.Counts.{failures_at}
use Rattle.unit_io.specs.Files.{IsKnown, left_on}
use Rattle.unit_io.specs.Sides.{left_by, written_by}
use Rattle.unit_io.proofs.Holding.{flushed, still_kept, zero_before}
use Rattle.unit_io.proofs.file.FileUnits.flush.Goals as goal

pub invariant_of-self : goal.invariant_of-self
invariant_of-self g c =
    let exposes = g.S.UnitSystem.exposes in
    let left = λ (u : ℕ) (h : IsKnown (left_on u c.self.inside.given.items (left_by g.S.Input.Read.remaining c.self.inside.input))).
    subst IsKnown (sym (c.flush_all-files.ensures.left u (left_by g.S.Input.Read.remaining c.self.inside.input))) h in
    let written = λ (u : ℕ). flushed u c.self.inside.given.items c.flush_all-files.new.given.items (written_by g.S.Output.Write.contents c.self.inside.output) (written_by g.S.Output.Write.contents c.flush-output.new.self)
    (c.flush_all-files.ensures.written u) c.flush-output.ensures.bytes in
    still_kept exposes _ _ refl c.self.invariant left written refl (λ u none. none)

pub returns-in-None-clause-kept : goal.returns-in-None-clause-kept
returns-in-None-clause-kept g c =
    let exposes = g.S.UnitSystem.exposes in
    let left = λ (u : ℕ) (h : IsKnown (left_on u c.self.inside.given.items (left_by g.S.Input.Read.remaining c.self.inside.input))).
    subst IsKnown (sym (c.flush_all-files.ensures.left u (left_by g.S.Input.Read.remaining c.self.inside.input))) h in
    let written = λ (u : ℕ). flushed u c.self.inside.given.items c.flush_all-files.new.given.items (written_by g.S.Output.Write.contents c.self.inside.output) (written_by g.S.Output.Write.contents c.flush-output.new.self)
    (c.flush_all-files.ensures.written u) c.flush-output.ensures.bytes in
    still_kept exposes _ _ refl c.self.invariant left written refl (λ u none. none)

pub invariant_of-self-in-Some : goal.invariant_of-self-in-Some
invariant_of-self-in-Some g c =
    let exposes = g.S.UnitSystem.exposes in
    let left = λ (u : ℕ) (h : IsKnown (left_on u c.self.inside.given.items (left_by g.S.Input.Read.remaining c.self.inside.input))).
    subst IsKnown (sym (c.flush_all-files.ensures.left u (left_by g.S.Input.Read.remaining c.self.inside.input))) h in
    let written = λ (u : ℕ). flushed u c.self.inside.given.items c.flush_all-files.new.given.items (written_by g.S.Output.Write.contents c.self.inside.output) (written_by g.S.Output.Write.contents c.flush-output.new.self)
    (c.flush_all-files.ensures.written u) c.flush-output.ensures.bytes in
    still_kept exposes _ _ refl c.self.invariant left written refl (λ (u : ℕ) (none : failures_at c.add.new.self u ≡ 0). zero_before (failures_at c.self.inside.counts u) (failures_at c.add.new.self u) (c.add.ensures.grows u) none)

pub returns-in-Some-clause-kept : goal.returns-in-Some-clause-kept
returns-in-Some-clause-kept g c =
    let exposes = g.S.UnitSystem.exposes in
    let left = λ (u : ℕ) (h : IsKnown (left_on u c.self.inside.given.items (left_by g.S.Input.Read.remaining c.self.inside.input))).
    subst IsKnown (sym (c.flush_all-files.ensures.left u (left_by g.S.Input.Read.remaining c.self.inside.input))) h in
    let written = λ (u : ℕ). flushed u c.self.inside.given.items c.flush_all-files.new.given.items (written_by g.S.Output.Write.contents c.self.inside.output) (written_by g.S.Output.Write.contents c.flush-output.new.self)
    (c.flush_all-files.ensures.written u) c.flush-output.ensures.bytes in
    still_kept exposes _ _ refl c.self.invariant left written refl (λ (u : ℕ) (none : failures_at c.add.new.self u ≡ 0). zero_before (failures_at c.self.inside.counts u) (failures_at c.add.new.self u) (c.add.ensures.grows u) none)
