use Rattle.std.proofs.Common.{◌∙◌, ◌++◌, ap}
use Rattle.model.specs.Deck.Faults.{fault_of}
use Rattle.parser.specs.Reads.{missing, noted_faults}
use Rattle.parser.specs.declared.reading.Noted.TheVariants as noted
use Rattle.parser.proofs.Noting.{noted_snoc}
use Rattle.parser.proofs.reading.note_label.Goals as goal

pub returns : goal.returns
returns c = λ all.
    ap (noted_faults all) c.in_ok-push.ensures.items ∙ noted_snoc all c.args.noted.now.items (noted.Entry c.args.number c.in_ok-label.label)
    ∙ ap (λ l. noted_faults all c.args.noted.now.items ++ fault_of c.args.number (missing all l)) c.in_ok-label.ensures.items
