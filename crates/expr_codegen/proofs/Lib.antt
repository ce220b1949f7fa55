pub mod TextPlaces
pub mod Joins
pub mod Constructs
pub mod Arguments
pub mod Extensions
pub mod CopiedParts
