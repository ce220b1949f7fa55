-- Sets of labels, as lists.
use Rattle.std.specs.Prelude.{◌≡◌, ◌++◌, ◌∷◌, [], List, if◌then◌else◌}
use Rattle.model.specs.Deck.Faults.{is_one_of}
use Rattle.model.specs.Deck.Trees.{Bytes}

-- the same labels are among these and those
abbrev pub AreSame : List Bytes → List Bytes → Type 0
AreSame ls ms = (l : Bytes) → is_one_of l ls ≡ is_one_of l ms

-- the labels with one more, unless it is there
abbrev pub with_label : List Bytes → Bytes → List Bytes
with_label ls l = if is_one_of l ls then ls else ls ++ l ∷ []
