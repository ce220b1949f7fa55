-- What is known of the shapes at an offset.
use Rattle.std.specs.Prelude.{◌≡◌, true, false, ℕ, List, [], ◌∷◌, Option, Some, None, Bool, nat_lt, nat_eq, if◌then◌else◌}
use Rattle.flow_check.specs.declared.shapes.Shape.{Shape}
use Rattle.indexmap.specs.IndexMap.{get}
use Rattle.flow_check.specs.declared.marks.Marks.{Marks}
use Rattle.flow_check.specs.declared.marks.Mark.{Mark}
use Rattle.flow_check.specs.declared.slots.Slot.{Slot}
use Rattle.flow_check.specs.declared.slots.Slot.TheVariants.{Free, Bare, Other}
use Rattle.flow_check.specs.Slots.{slot_at}
use Rattle.flow_check.specs.declared.shapes.Mode.TheVariants.{Goto}
use Rattle.flow_check.specs.declared.marks.Mark.TheVariants.{One, Torn}
use Rattle.model.specs.Module.Flow as flow
use Rattle.flow_check.specs.declared.pool.Node.{Node}
use Rattle.flow_check.specs.declared.rules.Rule.{Rule}
use Rattle.flow_check.specs.declared.shapes.Led.{Led}
use Rattle.flow_check.specs.Numbers.{Grows}
use Rattle.flow_check.specs.Shapes.{IsShape, Advances, same_shape, empty_shape}

-- what a slot tells, where the map tells this
abbrev pub slotted : Slot → Option Mark → Option Mark
slotted Free other = None
slotted Bare other = Some (One (empty_shape Goto))
slotted Other other = other

abbrev pub marked : Marks → ℕ → Option Mark
marked m y = slotted (slot_at m.slots.bytes.items y) (get nat_eq m.map y)

-- with one more way to the offset
abbrev pub joined : Shape → Option Mark → Option Mark
joined a None = Some (One a)
joined a (Some (One b)) = if same_shape a b then Some (One b) else Some Torn
joined a (Some Torn) = Some Torn

abbrev pub met : Option Shape → Option Mark → Option Mark
met None m = m
met (Some a) m = joined a m

-- the marks with one more way to a target
abbrev pub noted : ℕ → Shape → (ℕ → Option Mark) → ℕ → Option Mark
noted target a m y = if nat_eq target y then joined a (m target) else m y

-- a target that isn't after the offset isn't followed
abbrev pub followed : ℕ → Option (ℕ × Shape) → (ℕ → Option Mark) → ℕ → Option Mark
followed at None m y = m y
followed at (Some p) m y = if nat_lt at p.0 then noted p.0 p.1 m y else m y

-- with a way to each of some offsets
abbrev pub seeded : List ℕ → Shape → (ℕ → Option Mark) → ℕ → Option Mark
seeded [] a m = m
seeded (o ∷ os) a m = seeded os a (noted o a m)

abbrev pub Goes : Option Led → (m m' : ℕ → Option Mark) (c : Option Shape) (at : ℕ) → Bool → Type 0
Goes None m m' c at fine = fine ≡ false
Goes (Some led) m m' c at fine = (fine ≡ true) × (c ≡ led.next) × ((y : ℕ) → m' y ≡ followed at led.target m y)

-- what one step of the walk does at an offset with this mark, under the rule of the instruction there
abbrev pub Followed : (ns more : List Node) (m m' : ℕ → Option Mark) (c : Option Shape) (at : ℕ) → Rule → Shape → Bool → Type 0
Followed ns more m m' c at r a fine = Grows ns more × (led : Option Led) × ((s : flow.Shape) → IsShape ns a s → Advances more led r s) × Goes led m m' c at fine

abbrev pub Stepped : (ns more : List Node) (m m' : ℕ → Option Mark) (c : Option Shape) (at : ℕ) → Rule → Option Mark → Bool → Type 0
Stepped ns more m m' c at r None fine = (fine ≡ true) × (more ≡ ns) × (c ≡ None) × ((y : ℕ) → m' y ≡ m y)
Stepped ns more m m' c at r (Some (One a)) fine = Followed ns more m m' c at r a fine
Stepped ns more m m' c at r (Some Torn) fine = fine ≡ false
