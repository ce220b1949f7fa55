pub mod Objects
pub mod Made
pub mod Marked
pub mod Paged
pub mod Parts
