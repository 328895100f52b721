pub mod Doors
pub mod Limits
pub mod LogLine
pub mod Pace
pub mod Serving
pub mod Shown
pub mod Steps
