use Rattle.std.proofs.Common.{◌≡◌, ℕ, ◌+◌, List, take, sym, subst, arith}
use Rattle.std.specs.Io.KnownBytes.{Appends}
use Rattle.unit_io.proofs.Appended.{kept, more, within_more}
use Rattle.unit_io.proofs.line_writer.write_whole.Goals as goal
use Rattle.unit_io.proofs.line_writer.write_whole.Goals.{in-Ok, in-Err+else-ne}

pub returns-in-Ok-eq0-clause-err : goal.returns-in-Ok-eq0-clause-err
returns-in-Ok-eq0-clause-err g c =
    let C = g.W.Write.contents in
    (c.turns.at + c.in-Ok-eq0.field-0, more (C c.args.target.now) (C c.turns.target) (C c.write.new.self) c.args.bytes.now c.turns.at c.in-Ok-eq0.field-0 c.turns.invariant.written c.in-Ok-eq0.ensures.bytes)

pub returns-then-ne-clause-err : goal.returns-then-ne-clause-err
returns-then-ne-clause-err g c =
    let C = g.W.Write.contents in
    (c.turns.at, kept (C c.args.target.now) (C c.turns.target) (C c.write.new.self) (take c.turns.at c.args.bytes.now) c.turns.invariant.written c.in-Err.ensures.bytes)

pub turns-preserved : goal.turns-preserved
turns-preserved g c =
    let C = g.W.Write.contents in
    let bytes : List ℕ = c.args.bytes.now in
    let there : (end : ℕ) → c.match-write.at ≡ end → Appends (C c.args.target.now) (C c.write.new.self) (take end bytes) → Appends (C c.args.target.now) (C c.write.new.self) (take c.match-write.at bytes) =
    λ end is h. subst (λ (n : ℕ). Appends (C c.args.target.now) (C c.write.new.self) (take n bytes)) (sym is) h in
    elim c.match-write.branch [
      | in-Ok w ↦ record {
        within = within_more bytes c.turns.at w.in-Ok.n c.match-write.at c.turns.invariant.within w.in-Ok.ensures.bound w.at-is;
        written = there (c.turns.at + w.in-Ok.n) w.at-is (more (C c.args.target.now) (C c.turns.target) (C c.write.new.self) bytes c.turns.at w.in-Ok.n c.turns.invariant.written w.in-Ok.ensures.bytes);
      }
      | in-Err+else-ne w ↦ record {
        within = omega (arith, c.turns.invariant.within, w.at-is);
        written = there c.turns.at w.at-is (kept (C c.args.target.now) (C c.turns.target) (C c.write.new.self) (take c.turns.at bytes) c.turns.invariant.written w.in-Err.ensures.bytes);
      }
    ]

pub returns-clause-err : goal.returns-clause-err
returns-clause-err g c = (c.turns.at, c.turns.invariant.written)
