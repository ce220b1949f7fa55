use Rattle.std.proofs.Common.{◌≡◌, ◌∙◌, ◌<◌, length, arith, ap, get_or, not, take, true, false}
use Rattle.model.specs.Module.WellFormed.{fault_if, unless}
use Rattle.model.specs.declared.format.ModuleRule.TheVariants.{BadIndex}
use Rattle.loader.specs.Parts.{label_fault}
use Rattle.loader.proofs.Scanning.{goes_on, rest, stops}
use Rattle.loader.proofs.Labelling.{label_at, asked_if, none_seen, one_seen, unlabelled}
use Rattle.loader.proofs.labels.first_fault.Goals as goal

pub loop-label-init : goal.loop-label-init
loop-label-init c = record {
  so_far = ap (λ ls. rest (label_at c.args.image.now) (λ x. 8) ls 0 c.args.place) c.labels-labels.ensures;
  seen = none_seen (length c.args.image.now.strings) c.args.seen.now c.labels-labels.result.now c.requires.unmarked;
  place = omega arith;
}

pub returns-then-not-is_label : goal.returns-then-not-is_label
returns-then-not-is_label c =
    let im = c.args.image.now in
    let ls = c.labels-labels.result.now in
    let k = c.loop-label.label-index in
    let at = c.loop-label.offset in
    let x = get_or ls k unlabelled in
    let new = λ (there : x.string < length im.strings). c.mark-is_new.ensures.new ∙ ap not (c.loop-label.invariant.seen x.string there) in
    let told : label_at im (take k ls) at x ≡ fault_if at (unless BadIndex false) = asked_if im (take k ls) at x c.mark-is_new.result c.is_label.result new c.is_label.ensures ∙ ap (λ b. fault_if at (unless BadIndex b)) c.if-not-is_label.true in
    stops (label_at im) (λ x. 8) ls k at unlabelled (label_fault c.args.place im) _ c.loop-label-test.true told c.loop-label.invariant.so_far

pub overflow_add-offset : goal.overflow_add-offset
overflow_add-offset c = omega (arith, c.loop-label.invariant.place, c.requires.there, c.loop-label-test.true, ap length c.labels-labels.ensures)

pub loop-label-preserved : goal.loop-label-preserved
loop-label-preserved c =
    let im = c.args.image.now in
    let ls = c.labels-labels.result.now in
    let k = c.loop-label.label-index in
    let at = c.loop-label.offset in
    let x = get_or ls k unlabelled in
    let seen = c.loop-label.invariant.seen in
    let lt = c.loop-label-test.true in
    let new = λ (there : x.string < length im.strings). c.mark-is_new.ensures.new ∙ ap not (seen x.string there) in
    let told : label_at im (take k ls) at x ≡ fault_if at (unless BadIndex true) = asked_if im (take k ls) at x c.mark-is_new.result c.is_label.result new c.is_label.ensures ∙ ap (λ b. fault_if at (unless BadIndex b)) c.if-not-is_label.false in
    record {
      so_far = goes_on (label_at im) (λ x. 8) ls k at unlabelled (label_fault c.args.place im) lt told c.loop-label.invariant.so_far;
      seen = one_seen (length im.strings) c.loop-label.seen _ ls k unlabelled lt seen c.mark-is_new.ensures.marked;
      place = omega (arith, c.loop-label.invariant.place);
    }
