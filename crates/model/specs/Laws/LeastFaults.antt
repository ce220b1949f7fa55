-- All faults of well-formedness that an image has, in no order, and that the least of them is reported.
use Rattle.std.specs.Prelude.{◌≡◌, ℕ, ◌+◌, ◌≤◌, ◌<◌, List, ◌∷◌, ◌++◌, length, map, Option, Some, None, not, ◌&&◌, ◌||◌, ◌==◌, ◌⊎◌}
use Rattle.std.specs.List.{sum}
use Rattle.model.specs.declared.format.ModuleFault.{ModuleFault}
use Rattle.model.specs.declared.format.ModuleRule.{ModuleRule}
use Rattle.model.specs.declared.format.ModuleRule.TheVariants.{BadIndex, BadTarget, BadFlow, NoEnd}
use Rattle.model.specs.declared.format.Version.{Version}
use Rattle.model.specs.declared.image.Image.{Image}
use Rattle.model.specs.declared.image.PatInstr.{PatInstr}
use Rattle.model.specs.declared.instr.Instr.{Instr}
use Rattle.model.specs.Module.Images.{instr_size, code_size}
use Rattle.model.specs.Module.Flow.{BreaksFlow}
use Rattle.model.specs.Module.WellFormed.{unless, entry_offset, labels_offset, statements_offset, expressions_offset, patterns_offset, code_offset, entry_rule, label_rule, statement_rule, expression_rule, pat_rule, pat_bytes, pattern_bytes, indices_fit, place_fits, is_last_instr, is_end_instr, begins_last, number_of, IsWellFormed, IsTold}

-- a broken rule, reported at an offset
abbrev pub IsAt : ℕ → Option ModuleRule → ModuleFault → Type 0
IsAt at r f = (f.offset ≡ at) × (r ≡ Some f.rule)

-- a fault of one of several parts, which stand one behind the other from a place on, each so many bytes wide
abbrev pub Among : {A : Type 0} → (List A → ℕ → A → ModuleFault → Type 0) → (A → ℕ) → ℕ → List A → ModuleFault → Type 0
Among {A} fault width at xs f = (front : List A) × (x : A) × (back : List A) × (xs ≡ front ++ x ∷ back) × fault front (at + sum (map width front)) x f

-- an instruction may break several rules
abbrev pub index_rule : Image → Instr → Option ModuleRule
index_rule im i = unless BadIndex (indices_fit im i)

abbrev pub target_rule : Image → ℕ → ℕ → Instr → Option ModuleRule
target_rule im at next i = unless BadTarget (place_fits im at i && (is_last_instr i || not (next == code_size im.code)))

abbrev pub end_rule : Image → ℕ → Instr → Option ModuleRule
end_rule im at i = unless NoEnd (is_end_instr i || not (begins_last im at))

abbrev pub InInstr : Image → List Instr → ℕ → Instr → ModuleFault → Type 0
InInstr im front at i f =
    IsAt at (index_rule im i) f ⊎ (IsAt at (target_rule im (code_size front) (code_size front + instr_size i) i) f ⊎ IsAt at (end_rule im (code_size front) i) f)

abbrev pub InPattern : Image → List (List PatInstr) → ℕ → List PatInstr → ModuleFault → Type 0
InPattern im front at is = Among (λ before place i. IsAt place (pat_rule im (length is) before i)) pat_bytes (at + 4) is

-- a fault that the image has, spelt in a version
pub data Has (v : Version) (im : Image) (f : ModuleFault) : Type 0 where
  InEntry : IsAt (entry_offset v) (entry_rule im) f → Has v im f
  InLabels : Among (λ front at l. IsAt at (label_rule im front l)) (λ l. 8) (labels_offset v im) im.labels f → Has v im f
  InStatements : Among (λ front at o. IsAt at (statement_rule im front o)) (λ o. 4) (statements_offset v im) im.statements f → Has v im f
  InExpressions : Among (λ front at o. IsAt at (expression_rule im front o)) (λ o. 4) (expressions_offset v im) im.expressions f → Has v im f
  InPatterns : Among (InPattern im) pattern_bytes (patterns_offset v im) im.patterns f → Has v im f
  InCode : Among (InInstr im) instr_size (code_offset v im) im.code f → Has v im f
  InFlow : (at : ℕ) → BreaksFlow im at → f ≡ record { offset = code_offset v im + at; rule = BadFlow } → Has v im f

-- by offset, and by number at the same offset
abbrev pub NotAfter : ModuleFault → ModuleFault → Type 0
NotAfter f g = (f.offset < g.offset) ⊎ ((f.offset ≡ g.offset) × (number_of f.rule ≤ number_of g.rule))

-- one of them before which there is none, or none
abbrev pub IsLeastOf : (ModuleFault → Type 0) → Option ModuleFault → Type 0
IsLeastOf P None = (f : ModuleFault) → P f → ⊥
IsLeastOf P (Some f) = P f × ((g : ModuleFault) → P g → NotAfter f g)

-- what is reported is the least of all faults, and so is the only one that may be reported
abbrev pub LeastIsTold : Type 0
LeastIsTold = (v : Version) (im : Image) (fault : Option ModuleFault) → IsTold v im fault → IsLeastOf (Has v im) fault

abbrev pub OneIsTold : Type 0
OneIsTold = (v : Version) (im : Image) (fault other : Option ModuleFault) → IsTold v im fault → IsTold v im other → fault ≡ other

-- an image without any is well-formed, and no other is
abbrev pub WellFormedHasNone : Type 0
WellFormedHasNone = (v : Version) (im : Image) → IsWellFormed im → (f : ModuleFault) → Has v im f → ⊥

abbrev pub NoneIsWellFormed : Type 0
NoneIsWellFormed = (v : Version) (im : Image) → ((f : ModuleFault) → Has v im f → ⊥) → IsWellFormed im
