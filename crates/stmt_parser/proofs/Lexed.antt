-- What is left of lexed tokens is lexed.
use Rattle.std.proofs.Common.{◌≡◌, ℕ, zero, suc, ◌-◌, List, [], ◌∷◌, length, drop, take, arith}
use Rattle.std.proofs.lemmas.Grind.{common_steps}
use Rattle.model.specs.declared.tokens.Token.{Token}
use Rattle.model.specs.Deck.Lexed.{Lexed}

pub lexed_drop : (n : ℕ) (xs : List Token) → Lexed xs → Lexed (drop n xs)
lexed_drop zero xs h = h
lexed_drop (suc n) [] h = h
lexed_drop (suc n) (x ∷ xs) h = lexed_drop n xs h.1

pub rest_is : (n : ℕ) (xs : List Token) → take (length xs - n) (drop n xs) ≡ drop n xs
rest_is n xs = grind (arith, common_steps)
