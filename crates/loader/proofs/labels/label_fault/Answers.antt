use Rattle.std.proofs.Common.{◌∙◌, ap, false, replicate}
use Rattle.loader.proofs.labels.label_fault.Goals as goal

pub first_fault-requires-clause-unmarked : goal.first_fault-requires-clause-unmarked
first_fault-requires-clause-unmarked c =
    c.deref_mut.ensures.value ∙ c.in_ok-seen.ensures.items_if_clones_equal (λ y same. same) ∙ ap (λ n. replicate n false) c.strings.ensures.count
