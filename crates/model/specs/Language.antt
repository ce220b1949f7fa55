-- Room: What a program does: values, operations, functions, units, and the meaning.
pub mod Values
pub mod Conversions
pub mod Strings
pub mod Keywords
pub mod Names
pub mod Operators
pub mod Aggregates
pub mod Prototypes
pub mod Calls
pub mod Primitives
pub mod Io
pub mod Units
pub mod Told
pub mod Programs
pub mod Meaning
pub mod RulesUsed
