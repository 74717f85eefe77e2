pub mod Reading
pub mod Crossing
pub mod Writing
