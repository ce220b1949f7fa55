-- Records in the order in which they were written, each with its unit.
use Rattle.std.specs.Prelude.{ℕ, List, ◌∷◌, [], ◌++◌, refl}
use Rattle.std.specs.Coded.{Coded, code_by, coded×, coded_ℕ, coded_list}
use Rattle.model.specs.Laws.Agreement.{Records}

-- how a proof stores them
abbrev pub records_code : Coded Records
records_code = coded_list (code_by (ℕ × List ℕ) (coded× coded_ℕ (coded_list coded_ℕ)) (λ r. (r.unit, r.bytes)) (λ p. record { unit = p.0; bytes = p.1 }) (λ _. refl))

-- one more
abbrev pub noted : Records → ℕ → List ℕ → Records
noted records unit bytes = records ++ record { unit = unit; bytes = bytes } ∷ []
