pub mod Standing
pub mod Logs
