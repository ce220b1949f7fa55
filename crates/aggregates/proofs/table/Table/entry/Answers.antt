use Rattle.std.proofs.Common.{◌≡◌, ◌≤◌, ℕ, zero, suc, List, [], ◌∷◌, Some, length, slice_get, inl, inr, refl, sym, subst, ap, ◌∙◌}
use Rattle.std.proofs.lemmas.Bool.{cases_lt}
use Rattle.aggregates.specs.Keys.{entries_of, key_of}
use Rattle.aggregates.specs.declared.place.Key as held
use Rattle.aggregates.proofs.table.Table.entry.Goals as goal

entry_there : {V : Type 0} (es : List (held.Key × V)) (i : ℕ) (e : held.Key × V) → slice_get es i ≡ Some e → slice_get (entries_of es) i ≡ Some (record { key = key_of e.0; value = e.1 })
entry_there [] i e at = absurd cc
entry_there {V} (x ∷ es) zero e at =
    let same : x ≡ e = cc in
    ap (λ (y : held.Key × V). Some (record { key = key_of y.0; value = y.1 })) same
entry_there (x ∷ es) (suc i) e at = entry_there es i e at

length_entries : {V : Type 0} (es : List (held.Key × V)) → length (entries_of es) ≡ length es
length_entries [] = refl
length_entries (e ∷ es) = ap suc (length_entries es)

pub returns-clause-there : goal.returns-clause-there
returns-clause-there g c =
    let k = c.in-Some.key.now in
    let v = c.in-Some.value.now in
    subst (λ es. slice_get es c.args.index ≡ Some (record { key = key_of k; value = v })) c.self.view_is (entry_there c.self.inside.values.entries c.args.index (k, v) (sym c.in-Some.ensures.entry))

pub returns-in_default-clause-all : goal.returns-in_default-clause-all
returns-in_default-clause-all g c none =
    let es = c.self.inside.values.entries in
    elim (cases_lt c.args.index (length es)) [
      | inl lt ↦ let no = c.in_default.ensures.found.1 lt in absurd (cc)
      | inr ge ↦ subst (λ n. n ≤ c.args.index) (sym (length_entries es) ∙ ap length c.self.view_is) ge
    ]
