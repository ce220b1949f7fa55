-- Room: Lemmas on cuts, trees and verdicts of decks.
pub mod Lexing
pub mod Cutting
pub mod ParseSteps
pub mod ParseSound
pub mod ParseComplete
pub mod ParseExact
pub mod StatementSound
pub mod StatementComplete
pub mod TreeWeights
pub mod ArgumentLists
pub mod Verdicts
pub mod Ends
pub mod Sizes
pub mod FirstCards
