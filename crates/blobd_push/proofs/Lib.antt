pub mod Answered
pub mod Dialing
pub mod PrintedTexts
pub mod PushedLines
pub mod Sighting
