use Rattle.std.proofs.Common.{ap, of_z, rules, subst, sym, to_z, w64, ◌∙◌, ◌≡◌}
use Rattle.std.specs.Prelude.{slice_get, []}
use Rattle.model.specs.Language.Values.{Int, IntegerAt, Obj, Str, StringAt}
use Rattle.aggregates.specs.Objects.{index_in}
use Rattle.operations.specs.Elements.{HoldsAt, key_value}
use Rattle.values.specs.Values.{value_of}
use Rattle.operations.proofs.TableValues.{there_then}
use Rattle.operations.proofs.entries.entry_for.Goals as goal

pub returns-in-Integer-clause-there : goal.returns-in-Integer-clause-there
returns-in-Integer-clause-there c =
    let key = IntegerAt (to_z w64 (of_z w64 c.in-Integer.n)) in
    let same : key_value key ≡ value_of c.args.subscript.now = sym (ap value_of c.in-Integer.is ∙ ap Int (search rules)) in
    let at = c.index_of-index.ensures ∙ ap (λ os. index_in key (slice_get os c.args.object)) c.objects.ensures in
    there_then c.entry_or_null.result _ _ (λ v f. subst (λ s. HoldsAt (Obj c.args.object) s (value_of v.now) c.args.world.now) same (f key at)) c.entry_or_null.ensures.there

pub returns-in-Integer-clause-absent : goal.returns-in-Integer-clause-absent
returns-in-Integer-clause-absent c is =
    let key = IntegerAt (to_z w64 (of_z w64 c.in-Integer.n)) in
    let same : key_value key ≡ value_of c.args.subscript.now = sym (ap value_of c.in-Integer.is ∙ ap Int (search rules)) in
    let at = c.index_of-index.ensures ∙ ap (λ os. index_in key (slice_get os c.args.object)) c.objects.ensures in
    subst (λ s. HoldsAt (Obj c.args.object) s (Str []) c.args.world.now) same (c.entry_or_null.ensures.absent is key at)

pub returns-in-String-clause-there : goal.returns-in-String-clause-there
returns-in-String-clause-there c =
    let key = StringAt c.in-String.text in
    let same : key_value key ≡ value_of c.args.subscript.now = sym (ap value_of c.in-String.is) in
    let at = c.index_of_text-index.ensures ∙ ap (λ os. index_in key (slice_get os c.args.object)) c.objects-in-String.ensures in
    there_then c.entry_or_null-in-String.result _ _ (λ v f. subst (λ s. HoldsAt (Obj c.args.object) s (value_of v.now) c.args.world.now) same (f key at)) c.entry_or_null-in-String.ensures.there

pub returns-in-String-clause-absent : goal.returns-in-String-clause-absent
returns-in-String-clause-absent c is =
    let key = StringAt c.in-String.text in
    let same : key_value key ≡ value_of c.args.subscript.now = sym (ap value_of c.in-String.is) in
    let at = c.index_of_text-index.ensures ∙ ap (λ os. index_in key (slice_get os c.args.object)) c.objects-in-String.ensures in
    subst (λ s. HoldsAt (Obj c.args.object) s (Str []) c.args.world.now) same (c.entry_or_null-in-String.ensures.absent is key at)
