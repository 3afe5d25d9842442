pub mod Framed
pub mod Judged
pub mod Written
pub mod Trailed
pub mod Standing
