-- How many steps are enough, by the rules that are used: to the end, and to what is printed.
use Rattle.std.specs.Prelude.{◌≡◌, ◌≢◌, ℕ, ◌≤◌, ◌+◌, ◌*◌, List, Option, Some}
use Rattle.model.specs.declared.run.Ending.{Ending}
use Rattle.model.specs.declared.image.Image.{Image}
use Rattle.model.specs.declared.image.Level.TheVariants as levels
use Rattle.model.specs.Deck.Trees.{Stmt, Expr}
use Rattle.model.specs.Language.Programs.{program}
use Rattle.model.specs.Module.Images.{module_of}
use Rattle.model.specs.Module.Placed.{Placed}
use Rattle.model.specs.Laws.Agreement.{Inputs, IsPrefix, meaning_at, machine_at}
use Rattle.model.specs.Pattern.Patterns.{Pat, Running}
use Rattle.model.specs.Pattern.Search.{Script, scan}
use Rattle.model.specs.Pattern.Steps.{Code, Answers, match_steps, pattern_steps, event_of}
use Rattle.model.specs.Pattern.Stands.{Stands, Alike, AlikeEvent}
use Rattle.model.specs.Language.RulesUsed.{scan_count, rules_used}

-- ---- of a match

-- code that stands for a pattern comes to the event of its scan, under answers that are alike, within three pattern steps
-- for each rule that the scan uses, where all the answers are handed in from the start
abbrev pub PatternStepsBounded : Type 0
PatternStepsBounded = (s : List ℕ) (xs : ℕ → Option Expr) (p : Pat) (code : Code) → Stands xs p code → (n left b : ℕ) (t : Script) (u : Answers) → Alike xs t u → scan s n p left b t ≢ Running → (m : ℕ) × (m ≤ 3 * scan_count s n p left b t) × AlikeEvent xs (scan s n p left b t) (event_of (match_steps s code left b u m))

-- the same where i steps are done and it still runs, as after an answer: the steps since the match's start are no more
abbrev pub PatternStepsOnBounded : Type 0
PatternStepsOnBounded = (s : List ℕ) (xs : ℕ → Option Expr) (p : Pat) (code : Code) → Stands xs p code → (n left b : ℕ) (t : Script) (u : Answers) → Alike xs t u → scan s n p left b t ≢ Running → (i : ℕ) → event_of (match_steps s code left b u i) ≡ Running → (l : ℕ) × (i + l ≤ 3 * scan_count s n p left b t) × AlikeEvent xs (scan s n p left b t) (event_of (pattern_steps s code l (match_steps s code left b u i)))

-- ---- of a run

-- the instructions that a statement has beside its body: BEGIN, BODY and its goto
abbrev pub statement_steps : ℕ
statement_steps = 3

-- those that its body has beside the nodes in it: one for an object that isn't given, and the assignment. A replacement has
-- two more, FETCHK and MATCHR, and they are its name's: a node has at most four, but a name three
abbrev pub body_steps : ℕ
body_steps = 2

-- so many for each rule. Of a match, a row of its search has at most three pattern steps, and an answer the instruction that
-- ends an expression; of a call, the node has its instruction and that of the return
abbrev pub steps_per_rule : ℕ
steps_per_rule = statement_steps + body_steps

-- where the meaning of a deck ends having used r rules, the module has ended so too after any steps_per_rule * (r + 1) steps
-- or more
abbrev pub EndsInTime : List Stmt → Image → Type 0
EndsInTime deck image = (inputs : Inputs) (n : ℕ) (e : Ending) → (meaning_at n deck inputs).ending ≡ Some e → (b : ℕ) → steps_per_rule * (rules_used n deck inputs + 1) ≤ b → machine_at image inputs b ≡ meaning_at n deck inputs

-- the law: wherever the code of each statement stands
abbrev pub RunStepsBounded : Type 0
RunStepsBounded = (deck : List Stmt) (image : Image) (trees_at : ℕ → Option Expr) → image.level ≡ levels.Two → Placed (program deck) (module_of image) trees_at → EndsInTime deck image

-- ---- of what is printed, also where a run never ends

-- what the meaning of a deck has printed at some depth, having used r rules to that depth, the module has printed after
-- any steps_per_rule * (r + 1) steps or more
abbrev pub PrintsInTime : List Stmt → Image → Type 0
PrintsInTime deck image = (inputs : Inputs) (n b : ℕ) → steps_per_rule * (rules_used n deck inputs + 1) ≤ b → IsPrefix (meaning_at n deck inputs).printed (machine_at image inputs b).printed

-- the law: wherever the code of each statement stands
abbrev pub RunPrintsBounded : Type 0
RunPrintsBounded = (deck : List Stmt) (image : Image) (trees_at : ℕ → Option Expr) → image.level ≡ levels.Two → Placed (program deck) (module_of image) trees_at → PrintsInTime deck image
