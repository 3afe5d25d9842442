pub mod Handled
pub mod Judged
