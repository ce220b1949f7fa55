use Rattle.std.proofs.Common.{◌≡◌, sym, ◌∙◌, ap, arith, ◌<◌, length, []}
use Rattle.match_machine.specs.View.{choices_of}
use Rattle.prefilter.proofs.Going.{go_within, settled_within}
use Rattle.model.specs.Pattern.Steps as s
use Rattle.match_machine.proofs.run.onward.Goals as goal

pub returns-then-place-len : goal.returns-then-place-len
returns-then-place-len c =
    let run = c.args.run.now in
    let t = run.thread.trail in
    let g : c.len.result ≡ length t.code = c.len.ensures ∙ ap length c.code.ensures in
    let h : c.args.place < length t.code = omega (arith, g, c.if-place-len.true) in
    let here : s.Thread = record { code = t.code; place = c.args.place; cursor = c.args.cursor; notes = t.notes; pending = t.pending } in
    record {
      state = λ u.
          let cs = choices_of u t.backs in
          sym (ap (λ (x : s.Thread). s.go x cs run.start run.left []) (settled_within t.notes t.code c.args.place c.args.cursor t.pending h)
          ∙ go_within here cs run.start run.left h);
    }
