use Rattle.std.proofs.Common.{◌≡◌, ◌++◌, ap, arith, subst, sym, ◌∙◌}
use Rattle.indexmap.specs.IndexMap.{set_value_at, with_value_at}
use Rattle.model.specs.Deck.Target as target
use Rattle.model.specs.Deck.Trees.{Bytes}
use Rattle.model.specs.Language.Conversions.{Gives}
use Rattle.model.specs.Language.Io.{Io}
use Rattle.model.specs.Language.Operators.{fetch_op}
use Rattle.model.specs.Language.Values.{Str}
use Rattle.world.specs.Held.{Holds, StandsIn, WorldView, world_of}
use Rattle.values.specs.Values.{value_of}
use Rattle.values.specs.declared.value.Value.{Value}
use Rattle.values.specs.declared.value.Value.TheVariants.{String}
use Rattle.values.specs.declared.variable.Variable.{Variable}
use Rattle.world.proofs.Variables.{assigned_plain, holds_there, kept_at, named_still, put_in_slot}
use Rattle.world.proofs.world.World.append_in_place.Goals.{else-filled-via-then-filled+else-front-eq0, else-filled-via-else-filled}
use Rattle.world.proofs.world.World.append_in_place.Goals as goal

pub returns-clause-made : goal.returns-clause-made
returns-clause-made c done =
    let w = c.self.inside in
    let h = c.args.self.now in
    let x = c.args.name.now in
    let u : Bytes = c.in-Some-String.text in
    let old : Variable = c.in-Some.found.now in
    let new : Variable = c.append_in_place.new.self in
    let all : Bytes = (u ++ c.args.one.now) ++ c.args.two.now in
    let before = ap {A = WorldView} (λ h. h.variables) c.self.view_is in
    let is = c.in-Some-String.field-0-is in
    let holds : Holds c.args.slot (String u) h = subst (λ (v : Value). Holds c.args.slot v h) is c.in-Some-String.ensures.held in
    let held : old.value ≡ String u = holds_there h w.variables.entries c.args.slot old (String u) before c.in-Some.ensures.value holds in
    let made = c.append_in_place.ensures.made done in
    let both : String made.0 ≡ String u = sym made.1 ∙ held in
    let same : made.0 ≡ u = cc in
    let e : new ≡ record old { value = String all } = subst (λ (z : Bytes). new ≡ record old { value = String ((z ++ c.args.one.now) ++ c.args.two.now) }) same made.2 in (
      u,
      subst (λ (v : Value). (io : Io) → fetch_op (target.Variable x) (world_of h io) ≡ Gives (value_of v) (world_of h io)) is c.in-Some-String.ensures.value,
      omega (arith, c.len-front.ensures, c.len-middle.ensures, c.len-back.ensures, c.if-front-limit.false, c.if-middle-limit.false, c.if-back-limit.false),
      λ filled. elim c.else-filled.branch [
        | else-filled-via-then-filled+else-front-eq0 b ↦ omega (arith, c.len-front.ensures, b.if-front-eq0.false)
        | else-filled-via-else-filled b ↦ absurd cc
      ],
      λ io. assigned_plain h (record { variables = (with_value_at w.variables c.args.slot new).entries; objects = w.heap; functions = w.functions; keys = w.keywords; level = w.level; names = w.names.items }) (target.Variable x) c.args.slot (Str all) c.in-Some-String.ensures.plain
          (λ y stands io. put_in_slot w.variables w.heap w.functions w.keywords w.level w.names.items h y c.args.slot old new (String all) c.self.view_is
          c.get_index_mut.ensures.unique (subst (StandsIn y c.args.slot) (sym before) stands) c.in-Some.ensures.value e io) io,
    )

pub returns-clause-kept : goal.returns-clause-kept
returns-clause-kept c failed =
    let w = c.self.inside in
    let es = w.variables.entries in
    ap (λ l. record { variables = l; objects = w.heap; functions = w.functions; keys = w.keywords; level = w.level; names = w.names.items })
    (ap (λ (v : Variable). set_value_at es c.args.slot v) (c.append_in_place.ensures.kept failed) ∙ kept_at es c.args.slot c.in-Some.found.now c.in-Some.ensures.value)
    ∙ c.self.view_is

pub invariant_of-self-2 : goal.invariant_of-self-2
invariant_of-self-2 c = (named_still c.self.inside.variables c.self.inside.names.items c.args.slot c.append_in_place.new.self c.self.invariant.0, c.self.invariant.1)
