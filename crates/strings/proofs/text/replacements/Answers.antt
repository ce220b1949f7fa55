use Rattle.std.proofs.Common.{◌≡◌, ℕ, ◌<◌, ◌+◌, ◌-◌, ◌%◌, length, take, get_or, set, replicate, arith, ap, refl, ◌∙◌, List, inl, inr}
use Rattle.std.proofs.lemmas.Bool.Decides.{nat_tests}
use Rattle.std.proofs.lemmas.Bool.{cases_eq}
use Rattle.std.proofs.lemmas.List.{take_more, length-take, get_or-set_same, get_or-set_other, length-set, get_or-replicate}
use Rattle.std.specs.Prelude.{◌==◌, if◌then◌else◌}
use Rattle.strings.proofs.Lists.{replaced_or-push}
use Rattle.model.specs.Language.Strings.{replaced}
use Rattle.strings.proofs.text.replacements.Goals as goal

step : (fs ts table : List ℕ) (k j t : ℕ) → k < length fs → k < length ts → get_or fs k 0 < length table → (t + get_or fs k 0) % 256 ≡ get_or ts k 0 → (j + get_or table j 0) % 256 ≡ replaced (take k fs) (take k ts) j → (j + get_or (set table (get_or fs k 0) t) j 0) % 256 ≡ replaced (take (k + 1) fs) (take (k + 1) ts) j
step fs ts table k j t in_fs in_ts room back same =
    let now : replaced (take (k + 1) fs) (take (k + 1) ts) j ≡ (if j == get_or fs k 0 then get_or ts k 0 else replaced (take k fs) (take k ts) j) =
    rw (take_more fs k 0 in_fs, take_more ts k 0 in_ts) (replaced_or-push (take k fs) (take k ts) j (get_or fs k 0) (get_or ts k 0) j (simp length-take (omega arith))) in
    elim (cases_eq j (get_or fs k 0)) [
      | inl e ↦ grind (arith, nat_tests, now, e, back, get_or-set_same table (get_or fs k 0) t 0 room)
      | inr ne ↦ grind (arith, nat_tests, now, same, get_or-set_other table (get_or fs k 0) j t 0 ne)
    ]

back : (f t : ℕ) → f < 256 → t < 256 → ((t + (256 - f)) % 256 + f) % 256 ≡ t
back f t few less = omega arith

unchanged : (n j : ℕ) → j < n → n ≡ 256 → (j + get_or (replicate n 0) j 0) % 256 ≡ j
unchanged n j within is = ap (λ k. (j + k) % 256) (get_or-replicate n j 0 0 within) ∙ omega arith

pub loop-k-init : goal.loop-k-init
loop-k-init c = (refl, λ j h. unchanged 256 j h refl)

pub loop-k-preserved : goal.loop-k-preserved
loop-k-preserved c = (
  length-set c.loop-k.table _ _ ∙ c.loop-k.invariant.0,
  λ j h. step c.args.from.now c.args.to.now c.loop-k.table c.loop-k.k j _ (omega arith) (omega arith) (omega (arith, c.type_inv.from c.loop-k.k)) (back (get_or c.args.from.now c.loop-k.k 0) (get_or c.args.to.now c.loop-k.k 0) (omega (arith, c.type_inv.from c.loop-k.k)) (omega (arith, c.type_inv.to c.loop-k.k))) (c.loop-k.invariant.1 j h),
)
