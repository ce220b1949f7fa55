use Rattle.std.proofs.Common.{ap, sym}
use Rattle.std.specs.Prelude.{option_map, option_to_list}
use Rattle.parser.proofs.LabelSets.{is_put}
use Rattle.parser.proofs.labels.Labels.insert_given.Goals as goal

pub returns-then-is_return-clause-put : goal.returns-then-is_return-clause-put
returns-then-is_return-clause-put c =
    is_put c.insert.new.self c.args.self.now c.in-Some.label.now _ c.in_ok-there-in-Some.ensures.put (ap (λ o. option_to_list (option_map (λ l. l.now) o)) (sym c.in-Some.is))

pub returns-else-is_return-clause-put : goal.returns-else-is_return-clause-put
returns-else-is_return-clause-put c =
    is_put c.insert.new.self c.args.self.now c.in-Some.label.now _ c.in_ok-there-in-Some.ensures.put (ap (λ o. option_to_list (option_map (λ l. l.now) o)) (sym c.in-Some.is))
