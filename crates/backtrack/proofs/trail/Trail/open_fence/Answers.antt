use Rattle.std.proofs.Common.{◌≡◌, ◌∷◌, ℕ, ◌∙◌, sym, ap, subst, length, OnOk}
use Rattle.model.specs.Pattern.Steps as s
use Rattle.backtrack.specs.Standing.{Standing}
use Rattle.backtrack.specs.Logs.{logs_of}
use Rattle.backtrack.proofs.Chains.{count_choices}
use Rattle.backtrack.proofs.trail.Trail.open_fence.Goals as goal

pub returns : goal.returns
returns c =
    let a = c.self.inside in
    let now = c.args.self.now in
    let counted : c.len-count.result ≡ length now.backs = c.len-count.ensures ∙ a.choices.ok.0 ∙ sym (count_choices (logs_of a) a.choices.items) ∙ ap (λ (v : Standing). length v.backs) c.self.view_is in
    subst (λ (k : ℕ). OnOk c.add.result (c.add.new.self ≡ record now { notes = s.Fenced k ∷ now.notes })) counted c.add.ensures
