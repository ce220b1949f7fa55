-- Room: A deck from its bytes to its trees, and its faults.
pub mod Cards
pub mod Cut
pub mod Tokens
pub mod Digits
pub mod Pieces
pub mod Lexed
pub mod Trees
pub mod Grammar
pub mod Statements
pub mod TreeViews
pub mod Parse
pub mod ParseStatements
pub mod Faults
pub mod Target
pub mod Weights
