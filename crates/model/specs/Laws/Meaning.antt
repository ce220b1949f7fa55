-- What stays at a greater depth: what is answered, and how many rules that took.
use Rattle.std.specs.Prelude.{◌≡◌, ℕ, ◌≤◌, List, Some}
use Rattle.model.specs.declared.run.Ending.{Ending}
use Rattle.model.specs.Deck.Trees.{Bytes, Stmt}
use Rattle.model.specs.Language.Programs.{Program}
use Rattle.model.specs.Language.Values.{Pattern}
use Rattle.model.specs.Pattern.Search.{Script}
use Rattle.model.specs.Language.Meaning.{W, Settled, Query, QMatch, meaning}
use Rattle.model.specs.Laws.Agreement.{Inputs, meaning_at}
use Rattle.model.specs.Language.RulesUsed.{query_count, rules_used}

-- what anything that can be asked for comes to, with the world then
abbrev pub AnswersStay : Type 0
AnswersStay = (prog : Program) (n m : ℕ) → n ≤ m → (q : Query) (w : W) → Settled (meaning prog n q w) → meaning prog m q w ≡ meaning prog n q w

-- so what a match comes to, under the answers given so far
abbrev pub MatchesStay : Type 0
MatchesStay = (prog : Program) (n m : ℕ) → n ≤ m → (subject : Bytes) (p : Pattern) (left : ℕ) (t : Script) (w : W) → Settled (meaning prog n (QMatch subject p left t) w) → meaning prog m (QMatch subject p left t) w ≡ meaning prog n (QMatch subject p left t) w

-- the rules used for it
abbrev pub CountsStay : Type 0
CountsStay = (prog : Program) (n m : ℕ) → n ≤ m → (q : Query) (w : W) → Settled (meaning prog n q w) → query_count prog m q w ≡ query_count prog n q w

-- and those of a deck whose meaning has ended
abbrev pub RulesStay : Type 0
RulesStay = (deck : List Stmt) (inputs : Inputs) (n m : ℕ) → n ≤ m → (e : Ending) → (meaning_at n deck inputs).ending ≡ Some e → rules_used m deck inputs ≡ rules_used n deck inputs
