pub mod Lists
pub mod Counts
pub mod Entries
pub mod Indexes
pub mod Subscripts
pub mod Fields
