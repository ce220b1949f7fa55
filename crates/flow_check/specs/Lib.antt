pub mod Numbers
pub mod Rules
pub mod Shapes
pub mod Marks
pub mod Slots
