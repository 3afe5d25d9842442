pub mod Settled
pub mod Trees
