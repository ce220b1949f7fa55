use Rattle.std.proofs.Common.{◌∙◌, ap, subst, arith, length}
use Rattle.std.specs.Prelude.{is_some}
use Rattle.model.specs.Deck.Cards.{kind_of_columns}
use Rattle.card_reader.specs.declared.reader.Reader.{Reader}
use Rattle.card_reader.specs.Parts.{step}
use Rattle.card_reader.specs.Reading.{kind_of, kind_fault, bad_byte, merge, IsCardRead}
use Rattle.card_reader.proofs.Keeping.{waits_noted}
use Rattle.card_reader.proofs.Carding.{with_bytes, noted_is, card_width, counted}
use Rattle.card_reader.proofs.reader.Reader.read_card.Goals as goal

pub read_kind-requires : goal.read_kind-requires
read_kind-requires c =
    let width = card_width c.args.line.now c.columns_of.result.now (kind_of c.card_kind.result) c.card_kind.ensures c.columns_of.ensures in
    omega (arith, width, ap (λ (r : Reader). length r.statements) c.check_bytes.ensures, c.requires)

pub returns-clause-read : goal.returns-clause-read
returns-clause-read c = λ o e w.
    let n = c.args.card in
    let bad = bad_byte n c.args.line.now in
    let checked = waits_noted c.args.self.now c.check_bytes.new.self o e bad w (noted_is c.args.self.now c.check_bytes.new.self bad c.check_bytes.ensures) in
    let kind = c.card_kind.ensures ∙ ap kind_of_columns c.columns_of.ensures in
    with_bytes c.read_kind.result c.read_kind.new.self _ e bad _
    (subst (λ k. IsCardRead c.read_kind.result c.read_kind.new.self (step o k n) (merge (merge e bad) (kind_fault (is_some o) k n))) kind (c.read_kind.ensures.read o (merge e bad) checked))

pub returns-clause-count : goal.returns-clause-count
returns-clause-count c =
    counted c.read_kind.result _ _ _ _ _ c.read_kind.ensures.count (ap (λ (r : Reader). length r.statements) c.check_bytes.ensures)
    (card_width c.args.line.now c.columns_of.result.now (kind_of c.card_kind.result) c.card_kind.ensures c.columns_of.ensures)
