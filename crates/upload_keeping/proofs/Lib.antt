mod Entries
mod Holding
mod Crashes
mod Going
mod Replays
mod Recovery
mod Without
mod Known
