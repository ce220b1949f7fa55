use Rattle.std.proofs.Common.{◌≡◌, true, false, refl, sym, ◌∙◌, map, [], ◌∷◌, ◌++◌}
use Rattle.std.proofs.lemmas.List.{map-append}
use Rattle.std.proofs.lemmas.Result.{err_from_is_err_and}
use Rattle.model.specs.declared.format.ReadError.TheVariants as errors
use Rattle.model.specs.Module.Spelling.{is_new}
use Rattle.model.specs.Module.Reading.{table_at, string_at}
use Rattle.module_format.proofs.Loops.{goes_on, ends, is_done}
use Rattle.module_format.proofs.Seen.{is_new_text, with_text, text_cut, text_new, text_old}
use Rattle.module_format.proofs.strings.read_strings.Goals as goal

pub returns-in_err-text : goal.returns-in_err-text
returns-in_err-text c =
    let p = err_from_is_err_and c.from_residual-in_err-text.result c.from_residual-in_err-text.ensures.1 in
    rw (p.1, p.2) (ends string_at (errors.Fault c.in_err-text.field-0.0) (map (λ k. k.now) c.loop.items.items) c.in_ok-n.n c.loop.counter c.loop.rest.now (table_at string_at c.args.bytes.now) (map (λ k. k.now) c.loop.items.items) refl c.loop-test.true (text_cut (map (λ k. k.now) c.loop.items.items) c.loop.rest.now c.in_err-text.field-0.0 c.in_err-text.ensures) c.loop.invariant.so_far)

pub returns-then-not-branch : goal.returns-then-not-branch
returns-then-not-branch c =
    let old : is_new (map (λ k. k.now) c.loop.items.items) c.in_ok-text.text.now ≡ false = sym (is_new_text c.in_ok-text.text.now c.loop.seen.texts.keys (map (λ k. k.now) c.loop.items.items) c.in_ok-insert.field-0 c.loop.invariant.seen c.in_ok-insert.ensures.added) ∙ c.if-not-branch.true in
    rw (c.miss.ensures) (ends string_at (errors.Fault _) (map (λ k. k.now) c.loop.items.items) c.in_ok-n.n c.loop.counter c.loop.rest.now (table_at string_at c.args.bytes.now) (map (λ k. k.now) c.loop.items.items) refl c.loop-test.true (text_old (map (λ k. k.now) c.loop.items.items) c.loop.rest.now (c.in_ok-text.text.now, c.in_ok-text.behind.now) c.in_ok-text.ensures old) c.loop.invariant.so_far)

pub loop-preserved : goal.loop-preserved
loop-preserved c =
    let new : is_new (map (λ k. k.now) c.loop.items.items) c.in_ok-text.text.now ≡ true = sym (is_new_text c.in_ok-text.text.now c.loop.seen.texts.keys (map (λ k. k.now) c.loop.items.items) c.in_ok-insert.field-0 c.loop.invariant.seen c.in_ok-insert.ensures.added) ∙ c.if-not-branch.false in
    let same : map (λ k. k.now) (c.loop.items.items ++ c.in_ok-text.text ∷ []) ≡ map (λ k. k.now) c.loop.items.items ++ c.in_ok-text.text.now ∷ [] = map-append (λ k. k.now) c.loop.items.items (c.in_ok-text.text ∷ []) in
    rw (c.in_ok-push.ensures.items, same) record {
      so_far = goes_on string_at (map (λ k. k.now) c.loop.items.items) c.in_ok-n.n c.loop.counter c.loop.rest.now c.in_ok-text.text.now c.in_ok-text.behind.now (table_at string_at c.args.bytes.now) (map (λ k. k.now) c.loop.items.items) refl c.loop-test.true (text_new (map (λ k. k.now) c.loop.items.items) c.loop.rest.now (c.in_ok-text.text.now, c.in_ok-text.behind.now) c.in_ok-text.ensures new) c.loop.invariant.so_far;
      seen = with_text c.in_ok-text.text c.loop.seen.texts.keys c.insert.new.self.keys (map (λ k. k.now) c.loop.items.items) c.in_ok-insert.field-0 c.loop.invariant.seen c.in_ok-insert.ensures.added c.in_ok-insert.ensures.keys c.if-not-branch.false;
    }

pub returns : goal.returns
returns c = (is_done string_at (map (λ k. k.now) c.loop.items.items) c.in_ok-n.n c.loop.counter c.loop.rest.now (table_at string_at c.args.bytes.now) c.loop-test.false c.loop.invariant.so_far)
