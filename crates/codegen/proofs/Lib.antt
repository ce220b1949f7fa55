pub mod ImageRows
pub mod LabelTables
pub mod Laying
pub mod Unevaluated
pub mod Queue
pub mod Images
pub mod BuiltImages
