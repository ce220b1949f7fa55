-- Room: Lemmas on operations and on the meaning.
pub mod Names
pub mod Integers
pub mod OperationsPrint
pub mod OperationsAfter
pub mod MeaningPrints
pub mod MeaningGrows
pub mod EndingsStay
pub mod CountsStay
