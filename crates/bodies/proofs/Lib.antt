pub mod Judging
pub mod Labels
pub mod Shown
pub mod Accepted
pub mod Paths
pub mod Writing
pub mod Trips
