use Rattle.std.proofs.Common.{◌≡◌, ◌∷◌, arith, length, suc, drop, ap, sym, ◌∙◌}
use Rattle.frames.specs.Stacked.{Stacked}
use Rattle.frames.proofs.stack.Stack.replace_two.Goals as goal

pub set_top-requires : goal.set_top-requires
set_top-requires g c =
    let one : length c.args.self.now.top ≡ suc (length c.pop.new.self.top) = ap (λ (l : Stacked _). length l.top) c.pop.ensures in
    omega (arith, one, c.requires)

pub returns : goal.returns
returns g c = c.set_top.ensures ∙ sym (ap (λ (l : Stacked _). record l { top = c.args.item ∷ drop 2 l.top }) c.pop.ensures)
