-- The lines that report why a deck or a module is refused.
use Rattle.std.specs.Prelude.{ℕ, List, [], ◌∷◌, ◌++◌, codes, decimal}
use Rattle.model.specs.declared.cards.CardFault.{CardFault}
use Rattle.model.specs.declared.cards.CardRule.{CardRule}
use Rattle.model.specs.declared.cards.CardRule.TheVariants as card
use Rattle.model.specs.declared.causes.Cause.{Cause}
use Rattle.model.specs.declared.causes.Cause.TheVariants as cause
use Rattle.model.specs.declared.causes.StmtFault.{StmtFault}
use Rattle.model.specs.declared.format.FormatFault.{FormatFault}
use Rattle.model.specs.declared.format.FormatRule.{FormatRule}
use Rattle.model.specs.declared.format.FormatRule.TheVariants as rule
use Rattle.model.specs.declared.format.ModuleFault.{ModuleFault}
use Rattle.model.specs.declared.format.ModuleRule.{ModuleRule}
use Rattle.model.specs.declared.format.ModuleRule.TheVariants as module'

abbrev pub line : List ℕ → List ℕ
line text = text ++ 10 ∷ []

-- ---- decks

abbrev pub card_code : CardRule → List ℕ
card_code card.BadByte = codes "C1"
card_code card.NothingToContinue = codes "C2"
card_code card.UnknownControl = codes "C3"
card_code card.NoEnd = codes "C4"
card_code card.DeckTooLong = codes "C5"
card_code card.StatementTooLong = codes "C6"
card_code card.Memory = codes "C7"

abbrev pub card_line : CardFault → List ℕ
card_line fault = codes "card " ++ decimal fault.card ++ codes " " ++ line (card_code fault.rule)

abbrev pub cause_code : Cause → List ℕ
cause_code cause.StrayByte = codes "L1"
cause_code cause.UnclosedLiteral = codes "L2"
cause_code cause.IntegerTooLarge = codes "L3"
cause_code cause.TooManyBrackets = codes "L4"
cause_code cause.TooManyMarks = codes "L5"
cause_code cause.NoTree = codes "P1"
cause_code cause.LabelTaken = codes "P2"
cause_code cause.TooManyArguments = codes "P3"
cause_code cause.UnknownKeyword = codes "P4"
cause_code cause.NotATarget = codes "P5"
cause_code cause.EntryMissing = codes "P6"
cause_code cause.Memory = codes "no memory"

abbrev pub fault_line : StmtFault → List ℕ
fault_line fault = codes "statement " ++ decimal fault.number ++ codes " " ++ line (cause_code fault.cause)

-- of each faulty statement, in order
abbrev pub fault_lines : List StmtFault → List ℕ
fault_lines [] = []
fault_lines (f ∷ fs) = fault_line f ++ fault_lines fs

-- ---- modules

abbrev pub format_code : FormatRule → List ℕ
format_code rule.BadMagic = codes "F1"
format_code rule.BadVersion = codes "F2"
format_code rule.Truncated = codes "F3"
format_code rule.TrailingBytes = codes "F4"
format_code rule.BadTable = codes "F5"
format_code rule.UnknownInstruction = codes "F6"
format_code rule.Memory = codes "F7"

abbrev pub format_line : FormatFault → List ℕ
format_line fault = codes "offset " ++ decimal fault.offset ++ codes " " ++ line (format_code fault.rule)

abbrev pub module_code : ModuleRule → List ℕ
module_code module'.BadIndex = codes "W1"
module_code module'.BadTarget = codes "W2"
module_code module'.BadFlow = codes "W3"
module_code module'.BadJump = codes "W4"
module_code module'.NoEnd = codes "W5"

abbrev pub module_line : ModuleFault → List ℕ
module_line fault = codes "offset " ++ decimal fault.offset ++ codes " " ++ line (module_code fault.rule)
