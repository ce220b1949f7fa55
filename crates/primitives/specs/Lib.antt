pub mod Answers
pub mod Parts
pub mod Calling
pub mod Units
pub mod Pure
