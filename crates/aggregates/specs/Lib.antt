pub mod Bounds
pub mod Elements
pub mod Keys
pub mod Objects
pub mod Made
pub mod Wanted
