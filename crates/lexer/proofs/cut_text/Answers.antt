use Rattle.std.proofs.Common.{◌≡◌, ◌≤◌, ◌+◌, ◌-◌, refl, sym, ap, ◌∙◌, subst, arith, length, drop, take, append-nil}
use Rattle.std.specs.Prelude.{Some, None, ◌++◌, slice_range}
use Rattle.model.specs.Deck.Cut as cut
use Rattle.model.specs.Deck.Cut.{least_lexical}
use Rattle.model.specs.Deck.Pieces.{pieces}
use Rattle.lexer.specs.declared.limits.Limits.{Limits}
use Rattle.lexer.specs.declared.scan.Scanned.TheVariants as s
use Rattle.lexer.specs.Lexed.{pieces_of, Spans}
use Rattle.lexer.specs.Limits.{none, told}
use Rattle.lexer.specs.Scans.{IsScanned}
use Rattle.lexer.proofs.Lexing.{all_read, no_piece, stray_piece, unclosed_piece, stray_found, unclosed_found, told_tokens, spans_more, after_open, after_row, rest_is, token_from, fits_from, cut_more, told_more}
use Rattle.lexer.proofs.cut_text.Goals as goal

pub returns-in-Stray-clause-cause : goal.returns-in-Stray-clause-cause
returns-in-Stray-clause-cause c = λ _.
    let l = c.loop-found in
    let text = c.args.text.now in
    let here = subst (λ p. IsScanned (take (length text - l.start) (drop l.start text)) (Some p)) c.in-Stray.is c.in-Some.ensures in
    let stray = stray_piece (drop l.start text) (subst (λ xs. IsScanned xs (Some s.Stray)) (rest_is text l.start) here) in
    ap least_lexical (sym l.invariant.cut) ∙ stray_found l.tokens.items (pieces (drop l.start text)) stray

pub returns-in-Unclosed-clause-cause : goal.returns-in-Unclosed-clause-cause
returns-in-Unclosed-clause-cause c = λ _.
    let l = c.loop-found in
    let text = c.args.text.now in
    let here = subst (λ p. IsScanned (take (length text - l.start) (drop l.start text)) (Some p)) c.in-Unclosed.is c.in-Some.ensures in
    let last = unclosed_piece (drop l.start text) (subst (λ xs. IsScanned xs (Some s.Unclosed)) (rest_is text l.start) here) in
    ap least_lexical (sym l.invariant.cut ∙ ap (λ ps. pieces_of l.tokens.items ++ ps) last) ∙ unclosed_found l.tokens.items (drop l.start text)

pub loop-found-preserved : goal.loop-found-preserved
loop-found-preserved c =
    let l = c.loop-found in
    let text = c.args.text.now in
    let k = c.in-Token.kind in
    let n = c.in-Token.len in
    let here = subst (λ p. IsScanned (take (length text - l.start) (drop l.start text)) (Some p)) c.in-Token.is c.in-Some.ensures in
    let fit = fits_from text l.start k n l.invariant.within here in
    let next = token_from text l.start k n here in
    record {
      within = fit.1;
      cut = subst (λ ts. pieces_of ts ++ pieces (drop (l.start + n) text) ≡ pieces text) (sym c.in-Ok.ensures.items) (cut_more text l.tokens.items _ (pieces (drop l.start text)) (pieces (drop (l.start + n) text)) l.invariant.cut next);
      spans = subst (Spans 0 (l.start + n) text) (sym c.in-Ok.ensures.items) (spans_more 0 l.start text l.tokens.items _ l.invariant.spans refl (omega arith) refl);
      counted = told_more l.limits c.see.new.self (cut.Token k (slice_range text l.start (l.start + n))) (pieces (drop l.start text)) (pieces (drop (l.start + n) text)) _ l.invariant.counted next c.see.ensures;
      few_open = subst (λ (m : Limits). m.open_brackets ≤ l.start + n) (sym c.see.ensures) (omega (arith, after_open l.limits k (slice_range text l.start (l.start + n)), l.invariant.few_open, fit.0));
      few_marks = subst (λ (m : Limits). m.row ≤ l.start + n) (sym c.see.ensures) (omega (arith, after_row l.limits k (slice_range text l.start (l.start + n)), l.invariant.few_marks, fit.0));
    }

pub returns-clause-tokens : goal.returns-clause-tokens
returns-clause-tokens c =
    let l = c.loop-found in
    let text = c.args.text.now in
    let end = no_piece (drop l.start text) (subst (λ xs. IsScanned xs None) (rest_is text l.start) c.in_default.ensures) in
    let all : pieces_of l.tokens.items ≡ pieces text = sym (append-nil (pieces_of l.tokens.items)) ∙ ap (λ ps. pieces_of l.tokens.items ++ ps) (sym end) ∙ l.invariant.cut in
    record {
      pieces = all;
      spans = subst (λ m. Spans 0 m text l.tokens.items) (all_read text l.start l.invariant.within c.in_default.ensures) l.invariant.spans;
      least = told_tokens l.tokens.items ∙ ap (told none) all ∙ sym l.invariant.counted ∙ ap (told l.limits) end;
    }
