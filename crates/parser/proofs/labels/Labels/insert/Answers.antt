use Rattle.std.proofs.Common.{◌∙◌, ap, ◌≡◌, Bool, true, false, not, refl}
use Rattle.model.specs.Deck.Faults.{is_one_of}
use Rattle.parser.specs.Labels.{with_label}
use Rattle.parser.proofs.LabelSets.{among_keys, texts, key_put}
use Rattle.parser.proofs.labels.Labels.insert.Goals as goal

not_not : (b : Bool) → not (not b) ≡ b
not_not true = refl
not_not false = refl

pub returns-clause-put : goal.returns-clause-put
returns-clause-put c = ap texts c.in_ok-is_new.ensures.keys ∙ key_put c.args.label c.self.inside.set.keys ∙ ap (λ ls. with_label ls c.args.label.now) c.self.view_is

pub returns-clause-was : goal.returns-clause-was
returns-clause-was c = ap not c.in_ok-is_new.ensures.added ∙ not_not _ ∙ among_keys c.args.label.now c.self.inside.set.keys ∙ ap (is_one_of c.args.label.now) c.self.view_is
