use Rattle.std.proofs.Common.{ap, refl, subst, sym, ◌∙◌, bytes_eq}
use Rattle.std.specs.Cmp.Lexicographic.{nat_list_eq_equiv}
use Rattle.std.specs.Option.{option_or}
use Rattle.std.proofs.lemmas.Map.Made.{update_all_distinct}
use Rattle.std.proofs.lemmas.Result.{on_ok_weaker}
use Rattle.values.specs.Functions.{function_at, IfNamed}
use Rattle.values.proofs.Appended.{appended_named, either_way}
use Rattle.values.proofs.functions.FunctionTable.append.Goals as goal

pub returns-clause-ok : goal.returns-clause-ok
returns-clause-ok c =
    let made = c.args.functions.entries in
    on_ok_weaker c.append.result
    (λ inserts x. inserts.0 x
    ∙ update_all_distinct nat_list_eq_equiv bytes_eq (λ a b. refl) (λ y. function_at y c.self.inside.functions.entries) made x c.requires.unique
    ∙ ap (λ fs. option_or (function_at x made) (function_at x fs)) c.self.view_is)
    c.append.ensures.inserts

pub invariant_of-self : goal.invariant_of-self
invariant_of-self c x =
    let made = c.args.functions.entries in
    let old = c.self.inside.functions.entries in
    either_way c.append.result c.append.ensures.inserts c.append.ensures.err
    (λ inserts. appended_named x (function_at x made) (function_at x old) (function_at x c.append.new.self.entries)
    (inserts.0 x ∙ update_all_distinct nat_list_eq_equiv bytes_eq (λ a b. refl) (λ y. function_at y old) made x c.requires.unique)
    (c.requires.named x) (c.self.invariant x))
    (λ same. subst (λ es. IfNamed x (function_at x es)) (sym same) (c.self.invariant x))
