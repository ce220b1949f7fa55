-- The lines that report an outcome.
use Rattle.std.specs.Prelude.{ℕ, List, [], ◌++◌, codes, decimal, nat_eq, if◌then◌else◌}
use Rattle.std.specs.Fmt.{signed_decimal}
use Rattle.model.specs.declared.format.FormatFault.{FormatFault}
use Rattle.model.specs.declared.format.FormatRule.{FormatRule}
use Rattle.model.specs.declared.format.FormatRule.TheVariants as rule
use Rattle.model.specs.declared.format.LoadFault.{LoadFault}
use Rattle.model.specs.declared.format.LoadFault.TheVariants as load
use Rattle.model.specs.declared.run.Ending.{Ending}
use Rattle.model.specs.declared.run.Ending.TheVariants as ending
use Rattle.model.specs.declared.run.ErrorCode.{ErrorCode}
use Rattle.model.specs.declared.run.ErrorCode.TheVariants as error
use Rattle.model.specs.declared.run.Status.{Status}
use Rattle.model.specs.declared.run.Status.TheVariants as status
use Rattle.model.specs.declared.run.Stop.{Stop}
use Rattle.model.specs.declared.run.Stop.TheVariants as stop
use Rattle.model.specs.declared.run.UnitFault.TheVariants as cause
use Rattle.driver.specs.declared.refusal.Refusal.{Refusal}
use Rattle.driver.specs.declared.refusal.Refusal.TheVariants as refusal
use Rattle.driver.specs.FaultLines.{card_line, fault_lines, format_line, line, module_line}
use Rattle.driver.specs.declared.telling.FinalReport.{FinalReport}
use Rattle.driver.specs.declared.telling.FinalReport.TheVariants as told

abbrev pub no_memory_line : List ℕ
no_memory_line = line (codes "no memory")

-- the card where a statement begins; nothing where none is known
abbrev pub card_text : ℕ → List ℕ
card_text card = if nat_eq card 0 then [] else codes " card " ++ decimal card

-- the number in an error's code
abbrev pub error_number : ErrorCode → ℕ
error_number error.WrongType = 1
error_number error.Arithmetic = 2
error_number error.NotAnInteger = 3
error_number error.UndefinedFunction = 4
error_number error.NotAName = 5
error_number error.UndefinedLabel = 6
error_number error.ReturnAtLevelZero = 7
error_number error.FailureInGoto = 8
error_number error.StringTooLong = 9
error_number error.BadPatternArgument = 10
error_number error.BadKeywordValue = 11
error_number error.BadPrototype = 12
error_number error.BadArray = 13
error_number error.NotPrintable = 14
error_number error.BadUnit = 15
error_number error.TooManyArguments = 16

abbrev pub ending_lines : Ending → (card : ℕ) → List ℕ
ending_lines ending.Normal card = []
ending_lines (ending.StLimit n) card = (codes "stlimit statement " ++ decimal n) ++ line (card_text card)
ending_lines (ending.Error code n) card = (codes "error E" ++ (decimal (error_number code) ++ (codes " statement " ++ signed_decimal n))) ++ line (card_text card)

abbrev pub stop_lines : Stop → List ℕ
stop_lines stop.NoMemory = no_memory_line
stop_lines (stop.Unit unit cause.Memory) = no_memory_line
stop_lines (stop.Unit unit cause.NotOpen) = codes "unit " ++ decimal unit ++ line (codes " U1")
stop_lines (stop.Unit unit cause.ReadFailed) = codes "unit " ++ decimal unit ++ line (codes " U2")
stop_lines (stop.Unit unit cause.WriteFailed) = codes "unit " ++ decimal unit ++ line (codes " U3")

abbrev pub run_lines : Status → (card : ℕ) → List ℕ
run_lines status.Running card = line (codes "steps used up")
run_lines (status.Ended e) card = ending_lines e card
run_lines (status.Stopped why) card = stop_lines why

abbrev pub refusal_lines : Refusal → List ℕ
refusal_lines refusal.Memory = no_memory_line
refusal_lines (refusal.Card fault) = card_line fault
refusal_lines (refusal.Statements faults) = fault_lines faults

-- want of memory has no offset
abbrev pub format_lines : FormatRule → FormatFault → List ℕ
format_lines rule.Memory fault = no_memory_line
format_lines other fault = format_line fault

abbrev pub module_lines : LoadFault → List ℕ
module_lines (load.Format fault) = format_lines fault.rule fault
module_lines (load.Module fault) = module_line fault

abbrev pub lines_of : FinalReport → List ℕ
lines_of told.BadCommandLine = line (codes "bad command line")
lines_of (told.Refused r) = refusal_lines r
lines_of (told.BadModule fault) = module_lines fault
lines_of (told.Ran ran) = run_lines ran.status ran.card
lines_of (told.CannotRead file) = line (codes "cannot read " ++ file.now)
lines_of (told.CannotWrite file) = line (codes "cannot write " ++ file.now)
lines_of told.NoMemory = no_memory_line
