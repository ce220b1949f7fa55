use Rattle.std.proofs.Common.{◌≡◌, ◌∷◌, ◌++◌, ◌∙◌, ◌-◌, ◌<◌, List, [], ap, sym, length, reverse, arith}
use Rattle.std.specs.Prelude.{Option, None, Some, option_to_list, slice_get, slice_index_or, vec_len}
use Rattle.std.proofs.lemmas.Option.{same_Some}
use Rattle.backtrack.specs.declared.way_back.Choice.{Choice}
use Rattle.backtrack.specs.declared.way_back.WayBack.{WayBack}
use Rattle.backtrack.specs.declared.way_back.WayBack.TheVariants as kept
use Rattle.backtrack.specs.Standing.{Back, Standing, from_kept, standing_at}
use Rattle.backtrack.specs.Logs.{backs, logs_of}
use Rattle.backtrack.proofs.Chains.{count_choices, newest_of, rest_backs, rest_marks}
use Rattle.backtrack.proofs.trail.Trail.retry.Goals as goal

abbrev first_kept : List Back → Option WayBack
first_kept [] = None
first_kept (b ∷ bs) = Some b.kept

pub invariant_of-self : goal.invariant_of-self
invariant_of-self c =
    let a = c.self.inside in
    let b = c.self-2.inside in
    let back = c.in_ok-_kept.ensures.back in
    let all = ap (λ (v : Standing). v.backs) c.self-2.view_is ∙ back.1 in
    let some : 0 < vec_len b.choices = omega (arith, b.choices.ok.0, count_choices (logs_of b) b.choices.items, ap length all) in
    let y = slice_index_or b.choices.items (vec_len b.choices - 1) c.in_ok-last.field-0.now in
    let popped : b.choices.items ≡ c.pop.new.self.items ++ y ∷ [] =
    c.pop.ensures.items ∙ ap (λ (o : Option Choice). c.pop.new.self.items ++ option_to_list o) (c.pop.ensures.value c.in_ok-last.field-0.now some) in
    record {
      marks = rest_marks (logs_of b) b.choices.items c.pop.new.self.items y popped c.self-2.invariant.marks;
      stored = c.self-2.invariant.stored;
    }

pub returns-clause-back : goal.returns-clause-back
returns-clause-back c =
    let a = c.self.inside in
    let b = c.self-2.inside in
    let back = c.in_ok-_kept.ensures.back in
    let all = ap (λ (v : Standing). v.backs) c.self-2.view_is ∙ back.1 in
    let some : 0 < vec_len b.choices = omega (arith, b.choices.ok.0, count_choices (logs_of b) b.choices.items, ap length all) in
    let y = slice_index_or b.choices.items (vec_len b.choices - 1) c.in_ok-last.field-0.now in
    let popped : b.choices.items ≡ c.pop.new.self.items ++ y ∷ [] =
    c.pop.ensures.items ∙ ap (λ (o : Option Choice). c.pop.new.self.items ++ option_to_list o) (c.pop.ensures.value c.in_ok-last.field-0.now some) in
    let x = c.in_ok-last.field-0.now in
    let newest : slice_get a.choices.items (length a.choices.items - 1) ≡ Some x =
    ap (λ (xs : List Choice). slice_get xs (length xs - 1)) (sym c.deref.ensures.value) ∙ sym c.in_ok-last.ensures.value in
    let now = sym c.in_ok-_kept.ensures.same ∙ back.1 in
    let old = ap (λ (v : Standing). v.backs) (sym c.self.view_is) ∙ (newest_of (logs_of a) a.choices.items x newest).1 in
    let kept_is : c.in_ok-_kept._kept ≡ kept.To c.in-To.place = same_Some _ _ (ap first_kept (sym now ∙ old)) ∙ sym c.kept.ensures ∙ c.in-To.is in
    let rest : back.0 ≡ backs (logs_of b) (reverse c.pop.new.self.items) =
    sym (rest_backs (logs_of b) b.choices.items c.pop.new.self.items y popped c.self-2.invariant.marks ∙ ap (from_kept None) all) in (
      c.in_ok-_kept._place,
      now
          ∙ (λ i. let bs : List Back = record { kept = kept_is i; thread = standing_at (sym c.self-2.view_is i) c.in_ok-_kept._place c.in_ok-_kept.cursor } ∷ rest i in bs),
    )
