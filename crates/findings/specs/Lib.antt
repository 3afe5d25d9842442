pub mod Frames
pub mod Truths
pub mod Faults
pub mod Writes
pub mod Judges
pub mod Stands
