pub mod Cuts
pub mod Distinct
pub mod Functions
pub mod Bounds
pub mod TypeParts
