mod Findings
pub mod Shown
