-- Room: The statements of the laws; each is a clause of a function of `src/laws_*.rt`.
pub mod Agreement
pub mod PrintedBefore
pub mod LongerRuns
pub mod StepBound
pub mod Meaning
pub mod Matches
pub mod Patterns
pub mod MatchStates
pub mod Machine
pub mod Living
pub mod SameRuns
pub mod Decks
pub mod Trees
pub mod OneSpelling
pub mod LeastFaults
pub mod Names
pub mod Values
