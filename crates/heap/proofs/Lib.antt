pub mod Paging
pub mod Objects
pub mod Clearing
pub mod Marking
