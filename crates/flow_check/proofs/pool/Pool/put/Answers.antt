use Rattle.std.proofs.Common.{◌≡◌, ◌∙◌, ℕ, true, refl, rules, sym}
use Rattle.flow_check.specs.contracts.pool.NodePartialEq.TheImpl as node_eq
use Rattle.flow_check.specs.declared.pool.Kind.TheVariants.{Value, Name, Span}
use Rattle.flow_check.specs.declared.pool.Top.{Top}
use Rattle.flow_check.specs.declared.pool.Top.TheVariants.{Run, Begin, Try}
use Rattle.flow_check.specs.Numbers.{node}
use Rattle.flow_check.proofs.Stacks.{lone_node, put_grows, stays}
use Rattle.flow_check.proofs.pool.Pool.put.Goals as goal

like : (t : Top) (b : ℕ) → node_eq.ghosts.eq (node t b) (node t b) ≡ true
like (Run Value n) b = search rules
like (Run Name n) b = search rules
like (Run Span n) b = search rules
like (Begin n) b = search rules
like (Try n d) b = search rules

pub returns-in-Some : goal.returns-in-Some
returns-in-Some c = record { grows = stays _ _ refl; put = lone_node c.args.self.now.nodes.keys c.args.top c.args.below c.in-Some.stack (sym c.lone.ensures ∙ c.in-Some.is) }

pub returns-clause-grows : goal.returns-clause-grows
returns-clause-grows c = put_grows node_eq.ghosts.eq (λ n. like n.top n.below) _ _ (node c.args.top c.args.below) (sym c.lone.ensures ∙ c.in_default.is) c.in_ok-index.ensures.keys c.in_ok-index.ensures.unique
