pub mod FixedLists
pub mod Programs
pub mod Faults
pub mod Words
pub mod Names
pub mod Reads
pub mod Rendered
pub mod Examples
