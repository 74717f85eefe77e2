pub mod Lengths
pub mod Reading
pub mod Immediates
pub mod Accepts
pub mod Numbers
