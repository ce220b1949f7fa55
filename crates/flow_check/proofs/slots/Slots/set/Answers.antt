use Rattle.std.proofs.Common.{◌∙◌, ◌%◌, ℕ, ap, nat_eq, if◌then◌else◌, refl}
use Rattle.std.proofs.lemmas.List.{get_or_read}
use Rattle.flow_check.specs.Slots.{code_of, digit}
use Rattle.flow_check.proofs.Packing.{put_slot}
use Rattle.flow_check.proofs.slots.Slots.set.Goals as goal

pub returns : goal.returns
returns c =
    let bytes = c.args.self.now.bytes.items in
    let at = c.args.at in
    put_slot bytes _ at c.with_digit.result c.args.slot c.requires refl (λ k lt.
    c.with_digit.ensures k lt
    ∙ ap (λ (n : ℕ). if nat_eq k (at % 4) then n else digit c.index.result.now k) c.code_of.ensures.code
    ∙ ap (λ (b : ℕ). if nat_eq k (at % 4) then code_of c.args.slot else digit b k) (get_or_read bytes _ _ c.requires c.index.ensures 255))
