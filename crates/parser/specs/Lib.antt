pub mod Heads
pub mod Labels
pub mod Reads
pub mod Refusals
pub mod Rules
