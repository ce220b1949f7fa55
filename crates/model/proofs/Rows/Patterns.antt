-- The worked cases, computed.
use mathlib.Core.Path.{refl}
use Rattle.model.specs.Rows.Patterns.{ScansMeetCases, StepsMeetCases, ScansMeetQuestions, StepsMeetQuestions, NestedEnds}

pub scans_meet_cases : ScansMeetCases
scans_meet_cases = refl

pub steps_meet_cases : StepsMeetCases
steps_meet_cases = refl

pub scans_meet_questions : ScansMeetQuestions
scans_meet_questions = refl

pub steps_meet_questions : StepsMeetQuestions
steps_meet_questions = refl

pub nested_ends : NestedEnds
nested_ends = (refl, refl)
