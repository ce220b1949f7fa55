-- Numbers that digits stand for, digit by digit.
use Rattle.std.proofs.Common.{◌≡◌, refl, ℕ, suc, ◌+◌, ◌-◌, ◌*◌, ◌<◌, ◌≤◌, List, [], ◌∷◌, length, get_or, drop, arith}
use Rattle.std.proofs.Math.Seq.{drop-cons}
use Rattle.std.proofs.lemmas.List.{drop_all}
use Rattle.model.specs.Deck.Digits.{value_from}

-- more digits make no less
grows : (n : ℕ) (ds : List ℕ) → n ≤ value_from n ds
grows n [] = omega arith
grows n (d ∷ ds) = let more = grows (10 * n + (d - 48)) ds in omega arith

pub over : (n limit : ℕ) (ds : List ℕ) (i : ℕ) → i < length ds → limit < 10 * n + (get_or ds i 0 - 48) → limit < value_from n (drop i ds)
over n limit ds i lt h = rw (drop-cons ds i 0 lt) (let more = grows (10 * n + (get_or ds i 0 - 48)) (drop (suc i) ds) in omega arith)

pub at_end : (n : ℕ) (ds : List ℕ) (i : ℕ) → length ds ≤ i → value_from n (drop i ds) ≡ n
at_end n ds i h = rw (drop_all i ds h) refl
