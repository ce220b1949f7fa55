pub mod View
pub mod Moved
pub mod Turns
pub mod Held
pub mod Again
pub mod OnePass
