use Rattle.std.proofs.Common.{◌≡◌, ◌∷◌, ◌∙◌, sym, ap, inl, inr, refl, arith, length}
use Rattle.model.specs.declared.tokens.TokenKind.TheVariants as kind
use Rattle.model.specs.Deck.Cut as cut
use Rattle.model.specs.Deck.Pieces.{front, behind_front, quoted, starred}
use Rattle.lexer.specs.Scans.{IsFound, class_of}
use Rattle.lexer.proofs.Scanning.{run, arm, others}
use Rattle.lexer.proofs.scan.scan.Goals as goal

pub returns-in-Space : goal.returns-in-Space
returns-in-Space c = arm c.args.text.now cut.Space _ (omega arith) c.in-Space.ensures
    (λ b bs i. run b bs kind.Blank cut.is_space c.blanks.result (others (λ x y. c.blanks.result ≡ length (front cut.is_space y)) c.args.text.now b bs i c.blanks.ensures.run))

pub returns-in-Letter : goal.returns-in-Letter
returns-in-Letter c = arm c.args.text.now cut.Letter _ (omega arith) c.in-Letter.ensures
    (λ b bs i. run b bs kind.Name cut.is_word c.word_bytes.result (others (λ x y. c.word_bytes.result ≡ length (front cut.is_word y)) c.args.text.now b bs i c.word_bytes.ensures.run))

pub returns-in-Digit : goal.returns-in-Digit
returns-in-Digit c = arm c.args.text.now cut.Digit _ (omega arith) c.in-Digit.ensures
    (λ b bs i. run b bs kind.Integer cut.is_digit c.digits.result (others (λ x y. c.digits.result ≡ length (front cut.is_digit y)) c.args.text.now b bs i c.digits.ensures.run))

pub returns-in-Quote : goal.returns-in-Quote
returns-in-Quote c = arm c.args.text.now cut.Quote _ (omega arith) c.in-Quote.ensures
    (λ b bs i. others (λ x y. IsFound (x ∷ y) c.literal.result (quoted x (front (cut.differs x) y) (behind_front (cut.differs x) y))) c.args.text.now b bs i c.literal.ensures)

pub returns-in-Star : goal.returns-in-Star
returns-in-Star c = arm c.args.text.now cut.Star _ (omega arith) c.in-Star.ensures
    (λ b bs i. others (λ x y. IsFound (x ∷ y) c.stars.result (starred x y)) c.args.text.now b bs i (c.stars.ensures _))

pub returns-in-Dot : goal.returns-in-Dot
returns-in-Dot c = arm c.args.text.now cut.Dot _ (omega arith) c.in-Dot.ensures (λ b bs i. (refl, (omega arith, omega arith)))

pub returns-in-Sign : goal.returns-in-Sign
returns-in-Sign c = arm c.args.text.now (cut.Sign c.in-Sign.mark) _ (omega arith) c.in-Sign.ensures (λ b bs i. (refl, (omega arith, omega arith)))

pub returns-in-Underscore : goal.returns-in-Underscore
returns-in-Underscore c = elim c.in-Underscore.is [
  | inl h ↦ arm c.args.text.now cut.Underscore _ (omega arith) (sym (ap class_of h) ∙ c.byte_class.ensures) (λ b bs i. (refl, tt))
  | inr h ↦ arm c.args.text.now cut.Other _ (omega arith) (sym (ap class_of h) ∙ c.byte_class.ensures) (λ b bs i. (refl, tt))
]
