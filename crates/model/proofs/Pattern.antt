-- Room: Lemmas on the search of a match and on the steps of its code.
pub mod SearchGrows
pub mod Ends
pub mod FirstEnd
pub mod Literals
pub mod CodeSearch
pub mod Followed
pub mod Exits
pub mod StandsAt
pub mod JumpsEnd
pub mod CodeFollows
pub mod CodeEvents
pub mod StepsSound
pub mod AnswersLater
pub mod StepsBounded
pub mod Laws
pub mod MatchStates
