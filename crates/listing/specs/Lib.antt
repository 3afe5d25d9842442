pub mod Lines
pub mod FaultLines
