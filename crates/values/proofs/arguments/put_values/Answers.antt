use Rattle.std.proofs.Common.{◌≡◌, ◌+◌, ◌++◌, length, ap, ◌∙◌, arith}
use Rattle.std.proofs.lemmas.Result.{on_ok_weaker}
use Rattle.prototypes.specs.Views.{names_of}
use Rattle.values.proofs.Filling.{put_all}
use Rattle.values.proofs.arguments.put_values.Goals as goal

pub returns : goal.returns
returns c =
    let values = c.args.values.now in
    let count : c.len.result + length c.names.result.now ≡ length values.items + length (names_of c.args.prototype.now) = omega (arith, c.len.ensures, values.ok.0, ap length c.names.ensures.names) in
    on_ok_weaker c.fill.result
    (put_all c.args.prototype.now c.args.arguments.now.items values.items c.append.new.self.items c.fill.new.values.items c.null.result c.arity.result (c.len.result + length c.names.result.now) c.null.ensures c.arity.ensures
    (c.in_ok-append.ensures.items ∙ (λ i. c.in_ok-put.ensures i ++ c.truncate.ensures.items i)) count)
    c.fill.ensures
