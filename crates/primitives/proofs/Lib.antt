pub mod KindParts
pub mod Order
pub mod Arguments
pub mod Called
pub mod Associations
pub mod Defined
pub mod Tests
pub mod Unchanging
