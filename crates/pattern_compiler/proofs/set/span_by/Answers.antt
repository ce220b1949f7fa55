use Rattle.std.proofs.Common.{◌≡◌, ◌+◌, arith}
use Rattle.std.specs.List.{prefix_len}
use Rattle.std.proofs.lemmas.List.Sums.{prefix_len-le-length}
use Rattle.model.specs.Language.Strings.{has}
use Rattle.pattern_compiler.proofs.Sets.{span_by_flags}
use Rattle.pattern_compiler.proofs.set.span_by.Goals as goal

pub returns-clause-value : goal.returns-clause-value
returns-clause-value c = λ w e.
    let n : c.span_end.result ≡ 0 + prefix_len (has c.args.table.now) c.args.bytes.now = c.span_end.ensures in
    omega (arith, span_by_flags w c.args.bytes.now c.args.table.now e (λ k. omega (arith, c.type_inv.bytes k)))

pub returns-clause-within : goal.returns-clause-within
returns-clause-within c =
    let n : c.span_end.result ≡ 0 + prefix_len (has c.args.table.now) c.args.bytes.now = c.span_end.ensures in
    omega (arith, prefix_len-le-length (has c.args.table.now) c.args.bytes.now)
