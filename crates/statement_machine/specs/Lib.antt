pub mod Asking
pub mod Runs
pub mod Collecting
pub mod Stopped
pub use Rattle.values.specs.Answers
pub mod Views
