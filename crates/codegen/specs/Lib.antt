pub mod Layout
pub mod Labels
pub mod Countable
pub mod Laying
pub mod Building
