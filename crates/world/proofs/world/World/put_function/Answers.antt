use Rattle.std.proofs.Common.{ap, subst, sym, ◌∙◌}
use Rattle.std.proofs.lemmas.Result.{on_ok_weaker}
use Rattle.model.specs.Language.Primitives.{set_function}
use Rattle.values.specs.Functions.{function_of}
use Rattle.values.proofs.Appended.{either_way}
use Rattle.world.specs.Held.{WorldView, world_of}
use Rattle.world.specs.Slots.{FunctionStands, FunctionsStand}
use Rattle.world.proofs.Slots.{stands_put}
use Rattle.world.proofs.Tables.{function_put}
use Rattle.world.proofs.world.World.put_function.Goals as goal

pub returns-clause-ok : goal.returns-clause-ok
returns-clause-ok c =
    let inside = c.self.inside in
    on_ok_weaker c.put.result
    (λ puts io. function_put (record { variables = inside.variables.entries; objects = inside.heap; functions = inside.functions; keys = inside.keywords; level = inside.level; names = inside.names.items }) c.put.new.self c.args.name c.args.function puts io
    ∙ ap (λ z. set_function c.args.name (function_of c.args.function) (world_of z io)) c.self.view_is)
    c.put.ensures.ok

pub invariant_of-self : goal.invariant_of-self
invariant_of-self c =
    let ns = c.self.inside.names.items in (
      c.self.invariant.0,
      either_way c.put.result c.put.ensures.ok c.put.ensures.err
          (λ puts. stands_put ns c.self.inside.functions c.put.new.self c.args.name c.args.function puts (subst (λ (h : WorldView). FunctionStands h.names c.args.function) (sym c.self.view_is) c.requires.stands) c.self.invariant.1)
          (λ same. subst (FunctionsStand ns) (sym same) c.self.invariant.1),
    )
