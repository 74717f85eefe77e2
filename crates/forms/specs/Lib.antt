pub mod Layout
pub mod Segments
pub mod Sound
pub mod Meaning
pub mod Demand3
pub mod Numbers
