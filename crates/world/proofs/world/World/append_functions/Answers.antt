use Rattle.std.proofs.Common.{ap, subst, sym}
use Rattle.values.proofs.Appended.{either_way}
use Rattle.world.specs.Held.{WorldView}
use Rattle.world.specs.Slots.{FunctionsStand}
use Rattle.world.proofs.Slots.{stands_appended}
use Rattle.world.proofs.world.World.append_functions.Goals as goal

pub returns-clause-others : goal.returns-clause-others
returns-clause-others c = ap (λ (h : WorldView). record h { functions = c.append.new.self }) c.self.view_is

pub invariant_of-self : goal.invariant_of-self
invariant_of-self c =
    let ns = c.self.inside.names.items in (
      c.self.invariant.0,
      either_way c.append.result c.append.ensures.ok c.append.ensures.err
          (λ puts. stands_appended ns c.args.functions.entries c.self.inside.functions c.append.new.self puts (subst (λ (h : WorldView). FunctionsStand h.names c.args.functions.entries) (sym c.self.view_is) c.requires.stands) c.self.invariant.1)
          (λ same. subst (FunctionsStand ns) (sym same) c.self.invariant.1),
    )
