pub mod Fit
pub mod CodegenLaws
