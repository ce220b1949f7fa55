pub mod ManyStarts
pub mod PlainBytes
pub mod Needles
pub mod Misses
pub mod ManyRounds
pub mod Going
pub mod Looks
pub mod Filters
