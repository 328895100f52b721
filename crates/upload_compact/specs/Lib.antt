pub mod Copies
pub mod Guards
pub mod Leaving
pub mod Numbers
pub mod Same
pub mod Surveys
