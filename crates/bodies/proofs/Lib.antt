pub mod Listing
mod Shelves
mod Staying
mod Cuts
