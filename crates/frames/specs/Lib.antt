pub mod Stacked
pub mod View
pub mod Kinds
pub mod Failing
pub mod Matches
pub mod Frames
