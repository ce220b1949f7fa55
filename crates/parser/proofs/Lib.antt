pub mod Arguments
pub mod LabelSets
pub mod Naming
pub mod Noting
pub mod ReadTexts
