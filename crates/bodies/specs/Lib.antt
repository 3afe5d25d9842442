pub mod Faults
pub mod Kinds
pub mod Judge
pub mod Acceptance
pub mod Bodies
pub mod Trips
