use Rattle.std.proofs.Common.{◌∙◌, ℕ, List, Bor, arith, ap, sym}
use Rattle.std.specs.Prelude.{option_map}
use Rattle.std.proofs.lemmas.List.{length-set}
use Rattle.std.proofs.lemmas.Option.{slice_get_within}
use Rattle.loader.proofs.Labelling.{noted}
use Rattle.loader.proofs.labels.label_numbers.Goals as goal
use Rattle.loader.proofs.labels.label_numbers.Goals.{in-Some+in-Some-number_at, in-Some+in_default-number_at, in_default}

abbrev bytes_of : Bor (List ℕ) → List ℕ
bytes_of b = b.now

pub loop-label-preserved : goal.loop-label-preserved
loop-label-preserved c = elim c.match-string.branch [
  | in-Some+in-Some-number_at w ↦
      let im = c.args.image.now in
      let before = c.loop-label.invariant in
      let name = w.in-Some.name.now in
      let number = w.in-Some-number_at.number in
      let there = sym c.string.ensures ∙ ap (option_map bytes_of) w.in-Some.is in
      let within = slice_get_within im.strings _ name there in
      rw w.numbers-is (record {
        so_far = noted im c.loop-label.numbers.items _ number name (omega (arith, within, before.long)) there (sym (c.requires name) ∙ w.in-Some-number_at.ensures) before.so_far;
        place = omega (arith, before.place, c.loop-label-test.true);
        long = length-set c.loop-label.numbers.items _ number ∙ before.long;
      })
  | in-Some+in_default-number_at w ↦
      let before = c.loop-label.invariant in
      rw w.numbers-is (record { so_far = before.so_far; place = omega (arith, before.place, c.loop-label-test.true); long = before.long })
  | in_default w ↦
      let before = c.loop-label.invariant in
      rw w.numbers-is (record { so_far = before.so_far; place = omega (arith, before.place, c.loop-label-test.true); long = before.long })
]
