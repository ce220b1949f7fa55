use Rattle.std.proofs.Common.{◌≡◌, ◌+◌, ◌∙◌, arith, rules, sym, true, false}
use Rattle.module_format.specs.Views.{listed_left}
use Rattle.module_format.proofs.Leaving.{next_item, no_item}
use Rattle.flow_check.proofs.Whole.{walk_starts, walk_ends, walk_short, walk_sum, walk_on, walk_stops, code_few}
use Rattle.flow_check.proofs.check.check_flow.Goals as goal

pub loop-instr-init : goal.loop-instr-init
loop-instr-init c = record { place = 0; code = sym c.requires.code ∙ search rules; walked = walk_starts _ _ _ c.new-pool.ensures c.in_ok-marks.ensures }

pub step-requires : goal.step-requires
step-requires c =
    let w = c.loop-instr.invariant in
    let h = next_item c.args.image.now.code w.place c.in-Some.instr (listed_left c.next.new.self) (w.code ∙ c.in-Some.ensures.steps) in
    λ a e. walk_short _ _ _ _ w.place c.loop-instr.at w.walked c.in-Some.instr h.0 h.1 a e (code_few c.args.image.now c.requires.spelt.code_length)

pub returns-then-not-fine : goal.returns-then-not-fine
returns-then-not-fine c =
    let w = c.loop-instr.invariant in
    let h = next_item c.args.image.now.code w.place c.in-Some.instr (listed_left c.next.new.self) (w.code ∙ c.in-Some.ensures.steps) in
    let stop : c.in_ok-fine.fine ≡ false = search rules in
    record { least = walk_stops _ _ _ _ w.place c.loop-instr.at w.walked c.in-Some.instr h.0 h.1 _ _ _ _ stop c.in_ok-fine.ensures }

pub overflow_add-at : goal.overflow_add-at
overflow_add-at c =
    let w = c.loop-instr.invariant in
    let h = next_item c.args.image.now.code w.place c.in-Some.instr (listed_left c.next.new.self) (w.code ∙ c.in-Some.ensures.steps) in
    let f = walk_sum _ _ _ _ w.place c.loop-instr.at w.walked c.in-Some.instr h.0 h.1 c.size-at.result c.size-at.ensures (code_few c.args.image.now c.requires.spelt.code_length) in
    omega (arith, f)

pub loop-instr-preserved : goal.loop-instr-preserved
loop-instr-preserved c =
    let w = c.loop-instr.invariant in
    let h = next_item c.args.image.now.code w.place c.in-Some.instr (listed_left c.next.new.self) (w.code ∙ c.in-Some.ensures.steps) in
    let yes : c.in_ok-fine.fine ≡ true = search rules in
    record {
      place = w.place + 1;
      code = sym h.2;
      walked = walk_on _ _ _ _ w.place c.loop-instr.at w.walked c.in-Some.instr h.0 h.1 _ _ _ _ _ c.size-at.ensures yes c.in_ok-fine.ensures;
    }

pub returns : goal.returns
returns c =
    let w = c.loop-instr.invariant in
    record { least = walk_ends _ _ _ _ w.place c.loop-instr.at w.walked (no_item c.args.image.now.code w.place (w.code ∙ c.in-None.ensures.steps.0)) }
