use Rattle.std.proofs.Common.{◌≡◌, ◌<◌, Some, length, slice_get, subst, sym}
use Rattle.std.specs.Map.{values_of}
use Rattle.world.specs.Held.{StandsAs, WorldView}
use Rattle.world.proofs.Variables.{named_stands, named_within}
use Rattle.world.proofs.world.World.variable_in.Goals as goal

pub index-requires : goal.index-requires
index-requires c =
    named_within c.self.inside.variables.entries c.self.inside.names.items c.args.slot c.self.invariant.0
    (subst (λ (h : WorldView). c.args.slot < length h.names) (sym c.self.view_is) c.requires)

pub returns : goal.returns
returns c = record {
  stands = λ x named.
      let es = c.self.inside.variables.entries in
      let before = sym c.self.view_is in
      subst (λ (h : WorldView). StandsAs x c.args.slot c.index.result.now h.variables) c.self.view_is
      (named_stands es c.args.slot x c.index.result.now c.len-count.ensures.unique
      (c.self.invariant.0 c.args.slot x (subst (λ (h : WorldView). slice_get h.names c.args.slot ≡ Some x) before named)) (sym c.index.ensures));
  held = subst (λ (h : WorldView). slice_get (values_of h.variables) c.args.slot ≡ Some c.index.result.now) c.self.view_is c.index.ensures;
}
