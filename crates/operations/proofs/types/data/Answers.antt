use Rattle.std.proofs.Common.{ap, sym, ◌∙◌}
use Rattle.std.specs.Prelude.{[]}
use Rattle.model.specs.Language.Conversions.{Gives}
use Rattle.model.specs.Language.Values.{Str}
use Rattle.world.specs.Held.{WorldView, world_of}
use Rattle.operations.proofs.TypeFunctions.{made_type, type_named, type_stands}
use Rattle.operations.proofs.types.data.Goals as goal

pub append_functions-requires-clause-named : goal.append_functions-requires-clause-named
append_functions-requires-clause-named c = type_named c.args.prototype.now.name c.args.prototype.now.fields c.args.prototype.now.fields c.in_ok-made.made.entries c.in_ok-made.ensures.function

pub append_functions-requires-clause-stands : goal.append_functions-requires-clause-stands
append_functions-requires-clause-stands c = type_stands c.args.world.now.names c.args.prototype.now.name c.args.prototype.now.fields c.args.prototype.now.fields c.in_ok-made.made.entries c.in_ok-made.ensures.function

pub returns-clause-ok : goal.returns-clause-ok
returns-clause-ok c io =
    made_type c.args.world.now c.in_ok-made.made.entries c.append_functions.new.self.functions c.args.prototype.now c.in_ok-made.ensures.function c.in_ok-append_functions.ensures.ok io
    ∙ ap (λ (z : WorldView). Gives (Str []) (world_of z io)) (sym c.append_functions.ensures.others ∙ sym c.note_type.ensures)

pub returns-clause-names : goal.returns-clause-names
returns-clause-names c = ap (λ (h : WorldView). h.names) (c.note_type.ensures ∙ c.append_functions.ensures.others)
