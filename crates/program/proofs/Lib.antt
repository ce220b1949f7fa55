mod Answered
mod Failures
mod FreshUnits
