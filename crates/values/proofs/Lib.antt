pub mod Integers
pub mod Powers
pub mod Passing
pub mod Filling
pub mod Living
pub mod Tables
pub mod Appended
