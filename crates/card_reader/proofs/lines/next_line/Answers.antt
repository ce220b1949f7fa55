use Rattle.std.proofs.Common.{◌≡◌, ◌+◌, ◌∙◌, arith, ◌-◌, length, take, drop, add-one}
use Rattle.std.proofs.lemmas.List.{length-drop, length-take, drop_all}
use Rattle.std.specs.Prelude.{[]}
use Rattle.card_reader.proofs.Lining.{not_zero, line_at, rest_is, last_is}
use Rattle.card_reader.proofs.lines.next_line.Goals as goal

pub returns-in-Some : goal.returns-in-Some
returns-in-Some c =
    let deck = c.args.deck.now in
    let n = c.in-Some.end in
    let found = c.in-Some.ensures in
    let line = line_at deck n found.0.high (λ k h. found.0.before k (omega arith) h) found.1 in
    rw (rest_is deck (n + 1)) (rw add-one line, omega (arith, length-drop (n + 1) deck, found.0.high), omega (arith, length-drop (n + 1) deck, length-take n deck, found.0.high))

pub returns-in-None : goal.returns-in-None
returns-in-None c =
    let deck = c.args.deck.now in
    let none : take (length deck - length deck) (drop (length deck) deck) ≡ [] = rest_is deck (length deck) ∙ drop_all (length deck) deck (omega arith) in
    let some = not_zero (length deck) c.if-is_empty.ensures in
    rw none (last_is deck (λ e. absurd (omega arith)) (λ k h. c.in-None.ensures k (omega arith) h), omega arith, omega arith)
