pub mod Behind
pub mod View
pub mod Forms
