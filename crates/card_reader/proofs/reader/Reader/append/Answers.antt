use Rattle.std.proofs.Common.{◌∙◌, ◌+◌, sym, ap, subst, arith, length, take, drop}
use Rattle.std.specs.Prelude.{◌++◌, ◌∷◌, [], Ok, None}
use Rattle.std.proofs.lemmas.List.{length-drop}
use Rattle.model.specs.Deck.Cards.{placed, split}
use Rattle.card_reader.specs.declared.reader.Stop.TheVariants as stop
use Rattle.card_reader.specs.Parts.{glue, all_pieces}
use Rattle.card_reader.specs.Reading.{IsStop, IsRead, IsPieceEnd, Ends}
use Rattle.card_reader.proofs.Growing.{appended_end, appended_stop, appended_pieces, after_piece}
use Rattle.card_reader.proofs.Lining.{rest_is}
use Rattle.card_reader.proofs.reader.Reader.append.Goals as goal

pub returns-in-End-clause-read : goal.returns-in-End-clause-read
returns-in-End-clause-read c = λ p e h.
    let now = c.loop-end.invariant.parts p e h in
    let rest = c.loop-end.rest.now in
    let at = subst (λ q. IsStop q rest (stop.End c.in-End.quote)) now.1.quote c.in-End.ensures in
    subst (λ x. IsRead c.end_card.result c.end_card.new.self x e) (sym (appended_end now.0 c.args.card rest c.in-End.quote at) ∙ now.2) (c.end_card.ensures.read now.0 e now.1)

pub returns-then-branch-clause-read : goal.returns-then-branch-clause-read
returns-then-branch-clause-read c = λ p e h.
    let now = c.loop-end.invariant.parts p e h in
    let rest = c.loop-end.rest.now in
    let n = c.in-Semicolon.end in
    let at = subst (λ q. IsStop q rest (stop.Semicolon n)) now.1.quote c.in-Semicolon.ensures in
    let read = subst (λ b. IsPieceEnd (Ok b) c.end_piece.new.self now.0.whole (now.0.last ++ placed c.args.card (take n rest)) e) c.if-branch.true (c.in_ok-end_piece.ensures.read now.0 e now.1) in
    subst (λ x. Ends c.end_piece.new.self x e) (sym (appended_pieces now.0 c.args.card rest n at) ∙ ap all_pieces now.2) (read (glue ([] ∷ []) (split None (placed c.args.card (drop (n + 1) rest)))))

pub loop-end-preserved : goal.loop-end-preserved
loop-end-preserved c =
    let rest = c.loop-end.rest.now in
    let n = c.in-Semicolon.end in
    record {
      parts = λ p e h.
          (let now = c.loop-end.invariant.parts p e h in
          let at = subst (λ q. IsStop q rest (stop.Semicolon n)) now.1.quote c.in-Semicolon.ensures in
          let read = subst (λ b. IsPieceEnd (Ok b) c.end_piece.new.self now.0.whole (now.0.last ++ placed c.args.card (take n rest)) e) c.if-branch.false (c.in_ok-end_piece.ensures.read now.0 e now.1) in (
            after_piece now.0 (placed c.args.card (take n rest)),
            read,
            rw (rest_is rest (n + 1)) (sym (appended_stop now.0 c.args.card rest n at) ∙ now.2),
          ));
      begun = c.in_ok-end_piece.ensures.begun ∙ c.loop-end.invariant.begun;
      count = omega (arith, c.in_ok-end_piece.ensures.count, c.loop-end.invariant.count, length-drop (n + 1) rest, ap length (rest_is rest (n + 1)), c.in-Semicolon.ensures.0);
    }
