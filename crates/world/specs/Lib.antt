pub mod Objects
pub mod Marking
pub mod Held
pub mod Counts
pub mod Calling
pub mod Slots
pub mod Lending
