-- A table of strings, numbered by first use.
use Rattle.std.specs.Prelude.{ℕ, suc, List, [], ◌∷◌, bytes_eq, if◌then◌else◌}
use Rattle.model.specs.Deck.Trees.{Bytes}

-- where a string stands among others, or how many they are
abbrev pub number_of_text : Bytes → List Bytes → ℕ
number_of_text t [] = 0
number_of_text t (s ∷ ss) = if bytes_eq t s then 0 else suc (number_of_text t ss)

-- the strings with one more, which is put last unless it is there
abbrev pub with_text : Bytes → List Bytes → List Bytes
with_text t [] = t ∷ []
with_text t (s ∷ ss) = if bytes_eq t s then s ∷ ss else s ∷ with_text t ss

-- with these, in order
abbrev pub with_texts : List Bytes → List Bytes → List Bytes
with_texts [] ss = ss
with_texts (t ∷ ts) ss = with_texts ts (with_text t ss)
