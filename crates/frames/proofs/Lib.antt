pub mod Matches
pub mod Stacks
pub mod Reaching
pub mod Counts
